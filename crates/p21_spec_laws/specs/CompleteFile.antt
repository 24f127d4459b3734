-- What a session has at the end of a file: the header, the instances with what was found of each, and their lines.
use Rattle.std.specs.Prelude.{◌≤◌, ℕ, List, [], ◌∷◌, ◌++◌, map, length, nat_eq}
use Rattle.std.specs.List.{IsDistinct, flat_map, AllByRecursion as Each}
use Rattle.std.specs.List.Sorted.{IsStrictlySortedBy}
use Rattle.std.specs.Ordering.{nat_cmp}
use Rattle.std.specs.Str.{bytes_eq}
use Rattle.p21_spec_file.specs.Accepted.{IsLineWithin}
use Rattle.p21_spec_file.specs.Canonical.{AreSectionsRising}
use Rattle.p21_spec_exchange.specs.CanonicalText.{line}
use Rattle.p21_spec_exchange.specs.DataSection.{Heading, DataSection, AreHeadings, headings, instances_in, section_names}
use Rattle.p21_spec_file.specs.File.{HeadingNamesSchema, entity_sets_of}
use Rattle.p21_spec_exchange.specs.Grammar.{InGrammar}
use Rattle.p21_spec_file.specs.CanonicalTexts.{IsInstanceText}
use Rattle.p21_spec_exchange.specs.Laying.{AreStatementsWithin}
use Rattle.p21_spec_basics.specs.Limits.{Limits}
use Rattle.p21_spec_file.specs.Meaning.{Typed}
use Rattle.p21_spec_exchange.specs.Record.{Part, Record}
use Rattle.p21_spec_file.specs.Reference.{EntitySets, Need, IsServed}
use Rattle.p21_spec_file.specs.SameFile.{HaveSameMembers}
use Rattle.p21_spec_schema.specs.Schema.{Schema}
use Rattle.p21_spec_schema.specs.SchemaName.{NamesSchema}
use Rattle.p21_spec_exchange.specs.Statement.{Statement, section, header, begin, header_start, section_end, data_start, finish}
use Rattle.p21_spec_exchange.specs.Structure.{Structure}
use Rattle.p21_spec_laws.specs.Needs.{MeansWithNeeds}

-- what was found of an instance: its name and record, what that means and needs, and its canonical text
pub record Entry : Type 0 where
  pub name : ℕ
  pub record_ : Record
  pub meaning : Typed
  pub needs : List Need
  pub text : List ℕ

-- the record means this, with these needs
abbrev pub IsMeant : Schema → Entry → Type 0
IsMeant s entry = MeansWithNeeds s entry.record_ entry.meaning entry.needs

-- and has this canonical text
abbrev pub IsPrinted : Schema → Entry → Type 0
IsPrinted s entry = IsInstanceText s entry.name entry.record_ entry.text

-- the instances, their meanings, and the set of entities of each
abbrev pub written_in : List Entry → List (ℕ × Record)
written_in entries = map (λ entry. (entry.name, entry.record_)) entries

abbrev pub meant_in : List Entry → List (ℕ × Typed)
meant_in entries = map (λ entry. (entry.name, entry.meaning)) entries

abbrev pub entity_sets_in : List Entry → EntitySets
entity_sets_in entries = entity_sets_of (meant_in entries)

-- a data section: how it begins, and its instances
pub record SectionEntries : Type 0 where
  pub heading : Heading
  pub entries : List Entry

-- the instances of all sections
abbrev pub entries_in : List SectionEntries → List Entry
entries_in groups = flat_map (λ (g : SectionEntries). g.entries) groups

abbrev pub section_of : SectionEntries → DataSection
section_of g = record { heading = g.heading; instances = written_in g.entries }

-- the tree of a header and of these sections
abbrev pub structure_of : List Part → List SectionEntries → Structure
structure_of parts groups = record { header = parts; sections = map section_of groups }

-- each need of it is served among these instances
abbrev pub AreNeedsServed : Schema → EntitySets → Entry → Type 0
AreNeedsServed s kinds entry = Each (IsServed s kinds) entry.needs

-- a name and a text
abbrev pub Line : Type 0
Line = ℕ × List ℕ

abbrev pub lines_in : List Entry → List Line
lines_in entries = map (λ entry. (entry.name, entry.text)) entries

-- how a section begins, and lines of it
pub record Block : Type 0 where
  pub heading : Heading
  pub lines : List Line

abbrev pub block_headings : List Block → List Heading
block_headings blocks = map (λ (b : Block). b.heading) blocks

-- each line with the heading of its section
abbrev pub lines_with_heading : Block → List (Heading × Line)
lines_with_heading b = map (λ l. (b.heading, l)) b.lines

abbrev pub block_of_section : SectionEntries → Block
block_of_section g = record { heading = g.heading; lines = lines_in g.entries }

abbrev pub AreLinesRising : Block → Type 0
AreLinesRising b = IsStrictlySortedBy nat_cmp (map (λ l. l.0) b.lines)

-- the sections by rising names, each with the lines of its instances by rising names
pub record AreRisingBlocks (groups : List SectionEntries) (blocks : List Block) : Type 0 where
  pub are_headings : AreHeadings (block_headings blocks)
  pub sections_rise : AreSectionsRising (block_headings blocks)
  pub names_rise : Each AreLinesRising blocks
  pub headings_are : HaveSameMembers (block_headings blocks) (map (λ (g : SectionEntries). g.heading) groups)
  pub lines_are : HaveSameMembers (flat_map lines_with_heading blocks) (flat_map lines_with_heading (map block_of_section groups))

-- a text and an LF
abbrev pub line_bytes : Line → List ℕ
line_bytes l = l.1 ++ (10 ∷ [])

-- a section from its DATA to its ENDSEC
abbrev pub block_bytes : Block → List ℕ
block_bytes b = line (section (data_start b.heading)) ++ (flat_map line_bytes b.lines ++ line (section section_end))

-- what stands before the sections
abbrev pub head_statements : List Part → List Statement
head_statements parts = section begin ∷ section header_start ∷ (map header parts ++ (section section_end ∷ []))

-- the lines of the header section, of the data sections, and of the end
abbrev pub file_text : List Part → List Block → List ℕ
file_text parts blocks = flat_map line (head_statements parts) ++ (flat_map block_bytes blocks ++ line (section finish))

-- all that acceptance asks for, of the bytes, the sections and their lines
pub record IsCompleteFile (s : Schema) (limits : Limits) (bytes : List ℕ) (parts : List Part) (groups : List SectionEntries) (blocks : List Block) : Type 0 where
  pub schema_text : List ℕ
  pub in_grammar : InGrammar bytes (structure_of parts groups) schema_text
  pub names_schema : NamesSchema schema_text s.name
  pub sections_name_schema : Each (HeadingNamesSchema s.name) (headings (map section_of groups))
  pub section_names_differ : IsDistinct bytes_eq (section_names (headings (map section_of groups)))
  pub names_differ : IsDistinct nat_eq (map (λ i. i.0) (instances_in (map section_of groups)))
  pub meant : Each (IsMeant s) (entries_in groups)
  pub printed : Each (IsPrinted s) (entries_in groups)
  pub served : Each (AreNeedsServed s (entity_sets_in (entries_in groups))) (entries_in groups)
  pub blocks_rise : AreRisingBlocks groups blocks
  pub source_within : length bytes ≤ limits.file_source
  pub statements_within : AreStatementsWithin limits.record_source 0 in_grammar.laid.lexemes
  pub file_within : length (file_text parts blocks) ≤ limits.file_canonical
  -- the longest section line without a name has so many bytes
  pub sections_within : 17 ≤ limits.record_canonical
  pub headings_within : Each (λ (b : Block). IsLineWithin limits (section (data_start b.heading))) blocks
  pub headers_within : Each (λ part. IsLineWithin limits (header part)) parts
  pub instances_within : Each (λ (b : Block). Each (λ (l : Line). length l.1 ≤ limits.record_canonical) b.lines) blocks
