-- What a session keeps of the statements that it has taken, apart from how it is laid out in memory.
use Rattle.std.specs.Prelude.{◌≡◌, ◌+◌, ◌⊎◌, ◌↔◌, ℕ, Bool, true, IsTrue, List, [], ◌∷◌, ◌++◌, map, length, slice_get, Some, Contains}
use Rattle.std.specs.List.{flat_map, AllByRecursion as Each}
use Rattle.p21_spec_basics.specs.Limits.{Limits}
use Rattle.p21_spec_laws.specs.CompleteFile.{AreLinesRising, Block, Entry, SectionEntries, block_bytes, block_headings, entries_in}
use Rattle.p21_spec_laws.specs.SizeLaws.{framing}
use Rattle.p21_spec_laws.specs.Among.{parts_among}
use Rattle.p21_spec_laws.specs.UnrefusedStatements.{AreUnrefused, canonical_size}
use Rattle.p21_spec_laws.specs.Stored.{AreLinesOf, IsAmongEarlier, IsStore, KeptLines, StoredEntry, with_lines, without_lines}
use Rattle.p21_spec_laws.specs.Waiting.{IsWaiting, Reference, references_in}
use Rattle.p21_spec_exchange.specs.CanonicalText.{line, statement_text}
use Rattle.p21_spec_exchange.specs.DataSection.{Heading}
use Rattle.p21_spec_exchange.specs.Record.{Part}
use Rattle.p21_spec_exchange.specs.Statement.{SectionLine, Statement, begin, data_start, finish, header, header_start, section, section_end}
use Rattle.p21_spec_file.specs.Canonical.{AreSectionsRising}
use Rattle.p21_spec_file.specs.Reference.{Need, Serves}
use Rattle.p21_spec_schema.specs.Schema.{Schema}

-- What is kept of the lines of instances, and whether each is one of the earlier file, if there is one; the bytes of the canonical lines of the header records, each with its LF; the headings
-- of the data sections; the instances, in whatever order; the references that wait, and how many there are at all; the bytes of
-- canonical header records and instances; and those of section lines, with an LF for each other line
pub record Kept : Type 0 where
  pub lines : KeptLines
  pub equal : Bool
  pub header : List ℕ
  pub headings : List Heading
  pub stored : List StoredEntry
  pub waiting : List Reference
  pub references : ℕ
  pub bytes : ℕ
  pub framing : ℕ

-- nothing taken, where this will be kept of lines
abbrev pub nothing_with : KeptLines → Kept
nothing_with lines = record { lines = lines; equal = true; header = []; headings = []; stored = []; waiting = []; references = 0; bytes = 0; framing = 0 }

abbrev pub nothing_kept : Kept
nothing_kept = nothing_with with_lines

abbrev pub nothing_counted : Kept
nothing_counted = nothing_with without_lines

-- ---- what each statement adds

abbrev pub headings_behind : List Heading → SectionLine → List Heading
headings_behind headings (data_start heading) = headings ++ (heading ∷ [])
headings_behind headings other = headings

abbrev pub keep_section_line : Kept → SectionLine → Kept
keep_section_line kept line_ = record kept { headings = headings_behind kept.headings line_; framing = kept.framing + (length (statement_text (section line_)) + 1) }

abbrev pub keep_header : Kept → Part → Kept
keep_header kept part = record kept { header = kept.header ++ line (header part); bytes = kept.bytes + length (statement_text (header part)); framing = kept.framing + 1 }

-- an instance, with its needs that wait, and whether its line and those before it are lines of the earlier file
abbrev pub keep_instance : Kept → Entry → List Need → List StoredEntry → Bool → Kept
keep_instance kept entry added stored equal =
    record kept { equal = equal; stored = stored; waiting = kept.waiting ++ map (λ (need : Need). (entry.name, need)) added; references = kept.references + length entry.needs; bytes = kept.bytes + length entry.text; framing = kept.framing + 1 }

-- ---- the relation

-- this is kept of the statements given, none of which was refused
pub record Keeps (s : Schema) (limits : Limits) (given : List Statement) (kept : Kept) : Type 0 where
  pub groups : List SectionEntries
  pub unrefused : AreUnrefused s limits given groups
  pub header_is : kept.header ≡ flat_map line (map header (parts_among given))
  pub headings_are : kept.headings ≡ map (λ (g : SectionEntries). g.heading) groups
  pub store : IsStore kept.lines groups kept.stored
  pub waits : IsWaiting s (entries_in groups) kept.waiting
  pub references_are : kept.references ≡ length (references_in (entries_in groups))
  pub bytes_are : kept.bytes ≡ canonical_size given groups
  pub framing_is : kept.framing ≡ framing given
  pub equal_is : IsTrue kept.equal ↔ Each (λ (e : Entry). IsAmongEarlier kept.lines (e.name, e.text)) (entries_in groups)

-- the need is served by what is stored
abbrev pub IsServedBy : Schema → List StoredEntry → Need → Type 0
IsServedBy s stored need = (x : StoredEntry) × Contains stored x × (x.name ≡ need.target) × Serves s need.wanted x.entities

-- it is served by none: no instance of the name is stored, or one that doesn't serve
abbrev pub IsServedByNone : Schema → List StoredEntry → Need → Type 0
IsServedByNone s stored need = (¬ Contains (map (λ (x : StoredEntry). x.name) stored) need.target) ⊎ ((x : StoredEntry) × Contains stored x × (x.name ≡ need.target) × ¬ Serves s need.wanted x.entities)

-- ---- what is written of it

-- the block of the data section of this number
abbrev pub IsBlockAt : Kept → ℕ → Block → Type 0
IsBlockAt kept number b = (slice_get kept.headings number ≡ Some b.heading) × AreLinesOf kept.stored number b.lines

-- one block for each data section, by rising names, each with its lines by rising names
pub record AreBlocksOf (kept : Kept) (blocks : List Block) : Type 0 where
  pub as_many : length blocks ≡ length kept.headings
  pub each_block : Each (λ (b : Block). (number : ℕ) × IsBlockAt kept number b) blocks
  pub each_section : (number : ℕ) (heading : Heading) → slice_get kept.headings number ≡ Some heading → (b : Block) × Contains blocks b × IsBlockAt kept number b
  pub sections_rise : AreSectionsRising (block_headings blocks)
  pub lines_rise : Each AreLinesRising blocks

-- the lines of a file with these header lines
abbrev pub text_with_header : List ℕ → List Block → List ℕ
text_with_header header_lines blocks = line (section begin) ++ (line (section header_start) ++ (header_lines ++ (line (section section_end) ++ (flat_map block_bytes blocks ++ line (section finish)))))
