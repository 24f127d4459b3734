-- The laws of the lines of a section by rising names, and of blocks of them.
use Rattle.std.specs.Prelude.{ℕ, List, map, length, filter, nat_eq}
use Rattle.std.specs.List.{AllZip, IsDistinct, range_with_len, AllByRecursion as Each}
use Rattle.std.specs.List.Sorted.{IsNonDecreasingBy, IsPermutation, IsStrictlySortedBy}
use Rattle.std.specs.Ordering.{nat_cmp}
use Rattle.p21_spec_basics.specs.Limits.{Limits}
use Rattle.p21_spec_laws.specs.CompleteFile.{AreLinesRising, Block, Line, block_headings}
use Rattle.p21_spec_laws.specs.Keeping.{AreBlocksOf, IsBlockAt, Keeps, Kept}
use Rattle.p21_spec_laws.specs.Stored.{AreLinesOf, StoredEntry}
pub use Rattle.p21_spec_laws.specs.Stored.{lines_of}
use Rattle.p21_spec_exchange.specs.Statement.{Statement}
use Rattle.p21_spec_file.specs.Canonical.{AreSectionsRising}
use Rattle.p21_spec_schema.specs.Schema.{Schema}

-- the names of what is stored differ
abbrev pub StoredNamesDiffer : Type 0
StoredNamesDiffer = (s : Schema) (limits : Limits) (given : List Statement) (kept : Kept) → Keeps s limits given kept → IsDistinct nat_eq (map (λ (x : StoredEntry). x.name) kept.stored)

-- what is stored of one section
abbrev pub stored_at : ℕ → List StoredEntry → List StoredEntry
stored_at number stored = filter (λ (x : StoredEntry). nat_eq x.section number) stored

-- its lines by rising names
abbrev pub LinesBySection : Type 0
LinesBySection = (stored : List StoredEntry) → IsDistinct nat_eq (map (λ (x : StoredEntry). x.name) stored) → (number : ℕ) (own : List StoredEntry) → IsPermutation (stored_at number stored) own → IsNonDecreasingBy (λ (x : StoredEntry). x.name) own
    → AreLinesOf stored number (lines_of own) × IsStrictlySortedBy nat_cmp (map (λ (l : Line). l.0) (lines_of own))

-- a block for each section, in whatever order that rises
abbrev pub BlocksBySections : Type 0
BlocksBySections = (kept : Kept) (numbers : List ℕ) (blocks : List Block) → IsPermutation (range_with_len 0 (length kept.headings)) numbers → AllZip (IsBlockAt kept) numbers blocks → AreSectionsRising (block_headings blocks) → Each AreLinesRising blocks → AreBlocksOf kept blocks
