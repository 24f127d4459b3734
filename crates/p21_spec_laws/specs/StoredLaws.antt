-- The laws of instances that are kept in a store.
use Rattle.std.specs.Prelude.{◌≡◌, ℕ, suc, List, [], ◌∷◌, map, length, Contains, sum_by, slice_get, Some}
use Rattle.std.specs.List.{AllByRecursion as Each}
use Rattle.std.specs.List.Sorted.{IsPermutation}
use Rattle.p21_spec_laws.specs.CompleteFile.{AreLinesRising, AreRisingBlocks, Block, Entry, SectionEntries, Line, block_headings, entries_in, entity_sets_in, lines_in}
use Rattle.p21_spec_laws.specs.UnrefusedStatements.{section_entries_behind, with_entry}
use Rattle.p21_spec_laws.specs.Offending.{IsUnserved}
use Rattle.p21_spec_laws.specs.Stored.{AreLinesOf, IsBlockOf, IsStore, KeptLines, StoredEntry, kept_text, stored_of, with_lines}
use Rattle.p21_spec_laws.specs.Waiting.{Reference}
use Rattle.p21_spec_exchange.specs.DataSection.{AreHeadings}
use Rattle.p21_spec_exchange.specs.Statement.{SectionLine}
use Rattle.p21_spec_file.specs.Canonical.{AreSectionsRising}
use Rattle.p21_spec_file.specs.Reference.{IsServed, Need, Serves}
use Rattle.p21_spec_file.specs.SameFile.{HaveSameMembers}
use Rattle.p21_spec_schema.specs.Schema.{Schema}

-- ---- the store grows

abbrev pub StoreAtStart : Type 0
StoreAtStart = (lines : KeptLines) → IsStore lines [] []

abbrev pub StoreBySectionLine : Type 0
StoreBySectionLine = (lines : KeptLines) (groups : List SectionEntries) (kept : List StoredEntry) → IsStore lines groups kept → (line_ : SectionLine) → IsStore lines (section_entries_behind groups line_) kept

-- an instance of the last section
abbrev pub StoreByEntry : Type 0
StoreByEntry = (lines : KeptLines) (groups : List SectionEntries) (old new : List StoredEntry) → IsStore lines groups old → (number : ℕ) (entry : Entry) → suc number ≡ length groups → IsPermutation (stored_of lines (number, entry) ∷ old) new → IsStore lines (with_entry groups entry) new

-- ---- what is found in it

-- what is kept is of an instance
abbrev pub StoredIsEntry : Type 0
StoredIsEntry = (lines : KeptLines) (groups : List SectionEntries) (kept : List StoredEntry) → IsStore lines groups kept → (x : StoredEntry) → Contains kept x → (entry : Entry) × Contains (entries_in groups) entry × (entry.name ≡ x.name) × (entry.meaning.entities ≡ x.entities) × (kept_text lines entry.text ≡ x.text)

-- a name that none has there is of no instance
abbrev pub UnstoredNameIsOfNoInstance : Type 0
UnstoredNameIsOfNoInstance = (lines : KeptLines) (groups : List SectionEntries) (kept : List StoredEntry) → IsStore lines groups kept → (name : ℕ) → ¬ Contains (map (λ (x : StoredEntry). x.name) kept) name → ¬ Contains (map (λ (e : Entry). e.name) (entries_in groups)) name

-- the texts have so many bytes, where lines are kept
abbrev pub StoredSize : Type 0
StoredSize = (groups : List SectionEntries) (kept : List StoredEntry) → IsStore with_lines groups kept → sum_by (λ (x : StoredEntry). length x.text) kept ≡ sum_by (λ (e : Entry). length e.text) (entries_in groups)

-- a reference to what is kept is served, or is refused at the end; one to a name that none has is
abbrev pub StoredTargetServes : Type 0
StoredTargetServes = (s : Schema) (lines : KeptLines) (groups : List SectionEntries) (kept : List StoredEntry) → IsStore lines groups kept → (need : Need) (x : StoredEntry) → Contains kept x → x.name ≡ need.target → Serves s need.wanted x.entities → IsServed s (entity_sets_in (entries_in groups)) need

abbrev pub StoredTargetIsUnfit : Type 0
StoredTargetIsUnfit = (s : Schema) (lines : KeptLines) (groups : List SectionEntries) (kept : List StoredEntry) → IsStore lines groups kept → (reference : Reference) (x : StoredEntry) → Contains kept x → x.name ≡ reference.1.target → ¬ Serves s reference.1.wanted x.entities → IsUnserved s (entries_in groups) reference 57

abbrev pub UnstoredTargetIsUnknown : Type 0
UnstoredTargetIsUnknown = (s : Schema) (lines : KeptLines) (groups : List SectionEntries) (kept : List StoredEntry) → IsStore lines groups kept → (reference : Reference) → ¬ Contains (map (λ (x : StoredEntry). x.name) kept) reference.1.target → IsUnserved s (entries_in groups) reference 56

-- ---- what is written of it

-- the lines of a number are those of the section of the number, where lines are kept
abbrev pub StoredLines : Type 0
StoredLines = (groups : List SectionEntries) (kept : List StoredEntry) → IsStore with_lines groups kept → (number : ℕ) (g : SectionEntries) → slice_get groups number ≡ Some g → (lines : List Line) → AreLinesOf kept number lines → HaveSameMembers lines (lines_in g.entries)

-- blocks of the sections, one for each, that rise, are the canonical order
abbrev pub BlocksOfSections : Type 0
BlocksOfSections = (groups : List SectionEntries) (blocks : List Block) → AreHeadings (map (λ (g : SectionEntries). g.heading) groups) → length blocks ≡ length groups → Each (λ (b : Block). (g : SectionEntries) × Contains groups g × IsBlockOf g b) blocks → Each (λ (g : SectionEntries). (b : Block) × Contains blocks b × IsBlockOf g b) groups
    → AreSectionsRising (block_headings blocks) → Each AreLinesRising blocks → AreRisingBlocks groups blocks
