-- The laws of what a session knows of the statements that it has taken, when one comes.
use Rattle.std.specs.Prelude.{◌≡◌, ◌≤◌, ◌<◌, ◌+◌, ℕ, suc, List, [], ◌∷◌, ◌++◌, map, length, Contains}
use Rattle.p21_spec_basics.specs.Limits.{Limits}
use Rattle.p21_spec_laws.specs.CompleteFile.{Entry, SectionEntries, entries_in, section_of, structure_of}
use Rattle.p21_spec_laws.specs.SizeLaws.{framing}
use Rattle.p21_spec_laws.specs.Taken.{instances_among, names_among, section_names_among}
use Rattle.p21_spec_laws.specs.Among.{instances_before, parts_among, sections_among}
use Rattle.p21_spec_laws.specs.UnrefusedStatements.{AreUnrefused, IsFitting, IsFound, section_entries_behind, canonical_size, numbered_entries_in, sections_behind, with_entry, with_instance}
use Rattle.p21_spec_exchange.specs.CanonicalText.{statement_text}
use Rattle.p21_spec_exchange.specs.DataSection.{instances_in}
use Rattle.p21_spec_exchange.specs.Record.{Part, Record}
use Rattle.p21_spec_exchange.specs.Statement.{SectionLine, Statement, header, instance, section}
use Rattle.p21_spec_exchange.specs.Structure.{AreFirstStatements, Structure, statements}
use Rattle.p21_spec_file.specs.CanonicalTexts.{HaveCanonicalSize}
use Rattle.p21_spec_schema.specs.Schema.{Schema}

-- ---- the parts of a tree

-- the header records and the data sections among the statements of a tree are those of the tree
abbrev pub PartsOfTree : Type 0
PartsOfTree = (t : Structure) → parts_among (statements t) ≡ t.header

abbrev pub SectionsOfTree : Type 0
SectionsOfTree = (t : Structure) → sections_among (statements t) ≡ t.sections

-- statements that are all those of a tree determine it
abbrev pub StatementsTellTree : Type 0
StatementsTellTree = (t : Structure) (given : List Statement) (groups : List SectionEntries) → statements t ≡ given → sections_among given ≡ map section_of groups → t ≡ structure_of (parts_among given) groups

-- the instances among statements are those in front of the first section, and those of the sections
abbrev pub InstancesBeforeAndInSections : Type 0
InstancesBeforeAndInSections = (given : List Statement) → instances_among given ≡ instances_before given ++ instances_in (sections_among given)

-- an instance of a tree stands behind the beginning of a data section
abbrev pub InstanceInSection : Type 0
InstanceInSection = (given : List Statement) (n : ℕ) (record_ : Record) (t : Structure) → AreFirstStatements (given ++ (instance n record_ ∷ [])) t → 0 < length (sections_among given)

-- ---- one statement more

abbrev pub SectionsBySectionLine : Type 0
SectionsBySectionLine = (given : List Statement) (line_ : SectionLine) → sections_among (given ++ (section line_ ∷ [])) ≡ sections_behind (sections_among given) line_

abbrev pub SectionsByHeader : Type 0
SectionsByHeader = (given : List Statement) (part : Part) → sections_among (given ++ (header part ∷ [])) ≡ sections_among given

abbrev pub SectionsByInstance : Type 0
SectionsByInstance = (given : List Statement) (n : ℕ) (record_ : Record) → sections_among (given ++ (instance n record_ ∷ [])) ≡ with_instance (sections_among given) (n, record_)

-- canonical bytes of statements one behind the other
abbrev pub CanonicalSizeAdds : Type 0
CanonicalSizeAdds = (s : Schema) (first later : List Statement) (a b : ℕ) → HaveCanonicalSize s first a → HaveCanonicalSize s later b → HaveCanonicalSize s (first ++ later) (a + b)

abbrev pub FramingAdds : Type 0
FramingAdds = (first later : List Statement) → framing (first ++ later) ≡ framing first + framing later

-- an instance has the number of the last section
abbrev pub NumberedByEntry : Type 0
NumberedByEntry = (number : ℕ) (groups : List SectionEntries) (entry : Entry) → suc number ≡ length groups → numbered_entries_in (with_entry groups entry) ≡ numbered_entries_in groups ++ ((number, entry) ∷ [])

abbrev pub NumberedBySectionLine : Type 0
NumberedBySectionLine = (groups : List SectionEntries) (line_ : SectionLine) → numbered_entries_in (section_entries_behind groups line_) ≡ numbered_entries_in groups

-- ---- what is known, with one statement more

abbrev pub UnrefusedAtStart : Type 0
UnrefusedAtStart = (s : Schema) (limits : Limits) → AreUnrefused s limits [] []

-- a section line that fits, under no name that stands before it
abbrev pub UnrefusedBySectionLine : Type 0
UnrefusedBySectionLine = (s : Schema) (limits : Limits) (given : List Statement) (groups : List SectionEntries) → AreUnrefused s limits given groups → (line_ : SectionLine) → IsFitting s limits (section line_)
    → ((name : List ℕ) → Contains (section_names_among (section line_ ∷ [])) name → ¬ Contains (section_names_among given) name)
    → canonical_size given groups + framing given + (length (statement_text (section line_)) + 1) ≤ limits.file_canonical
    → AreUnrefused s limits (given ++ (section line_ ∷ [])) (section_entries_behind groups line_)

-- a header record that fits
abbrev pub UnrefusedByHeader : Type 0
UnrefusedByHeader = (s : Schema) (limits : Limits) (given : List Statement) (groups : List SectionEntries) → AreUnrefused s limits given groups → (part : Part) → IsFitting s limits (header part)
    → canonical_size given groups + framing given + (length (statement_text (header part)) + 1) ≤ limits.file_canonical
    → AreUnrefused s limits (given ++ (header part ∷ [])) groups

-- an instance in a section, of which all was found, under a name that none has before it
abbrev pub UnrefusedByInstance : Type 0
UnrefusedByInstance = (s : Schema) (limits : Limits) (given : List Statement) (groups : List SectionEntries) → AreUnrefused s limits given groups → (entry : Entry) → IsFound s limits entry
    → 0 < length groups → ¬ Contains (map (λ (e : Entry). e.name) (entries_in groups)) entry.name
    → canonical_size given groups + framing given + (length entry.text + 1) ≤ limits.file_canonical
    → AreUnrefused s limits (given ++ (instance entry.name entry.record_ ∷ [])) (with_entry groups entry)

-- ---- what follows

-- the names of the instances given are those of the entries
abbrev pub NamesOfUnrefused : Type 0
NamesOfUnrefused = (s : Schema) (limits : Limits) (given : List Statement) (groups : List SectionEntries) → AreUnrefused s limits given groups → names_among given ≡ map (λ (e : Entry). e.name) (entries_in groups)

-- there are as many groups as data sections
abbrev pub SectionCountOfUnrefused : Type 0
SectionCountOfUnrefused = (s : Schema) (limits : Limits) (given : List Statement) (groups : List SectionEntries) → AreUnrefused s limits given groups → length groups ≡ length (sections_among given)

-- the canonical bytes are those of header records and instances
abbrev pub CanonicalSizeOfUnrefused : Type 0
CanonicalSizeOfUnrefused = (s : Schema) (limits : Limits) (given : List Statement) (groups : List SectionEntries) → AreUnrefused s limits given groups → HaveCanonicalSize s given (canonical_size given groups)

-- the bytes that a statement adds
abbrev pub SizeBySectionLine : Type 0
SizeBySectionLine = (given : List Statement) (groups : List SectionEntries) (line_ : SectionLine) → (canonical_size (given ++ (section line_ ∷ [])) (section_entries_behind groups line_) ≡ canonical_size given groups) × (framing (given ++ (section line_ ∷ [])) ≡ framing given + (length (statement_text (section line_)) + 1))

abbrev pub SizeByHeader : Type 0
SizeByHeader = (given : List Statement) (groups : List SectionEntries) (part : Part) → (canonical_size (given ++ (header part ∷ [])) groups ≡ canonical_size given groups + length (statement_text (header part))) × (framing (given ++ (header part ∷ [])) ≡ framing given + 1)

abbrev pub SizeByInstance : Type 0
SizeByInstance = (given : List Statement) (groups : List SectionEntries) (entry : Entry) → 0 < length groups → (canonical_size (given ++ (instance entry.name entry.record_ ∷ [])) (with_entry groups entry) ≡ canonical_size given groups + length entry.text) × (framing (given ++ (instance entry.name entry.record_ ∷ [])) ≡ framing given + 1)
