-- The laws of the numbered file, and of a file with other names.
use Rattle.std.specs.Prelude.{◌≡◌, ◌≤◌, ◌<◌, ◌^◌, ℕ, List, length, Contains}
use Rattle.std.specs.List.{AllByRecursion as Each}
use Rattle.p21_spec_basics.specs.Limits.{Limits}
use Rattle.p21_spec_file.specs.Accepted.{IsCanonicalOf, Means}
use Rattle.p21_spec_file.specs.File.{FileMeaning}
use Rattle.p21_spec_laws.specs.CompleteFile.{Block}
use Rattle.p21_spec_laws.specs.Keeping.{AreBlocksOf, Kept, text_with_header}
use Rattle.p21_spec_laws.specs.Stored.{StoredEntry}
use Rattle.p21_spec_numbering.specs.Claim.{IsNumberedFile}
use Rattle.p21_spec_numbering.specs.Copies.{IsAligned, IsDecided}
use Rattle.p21_spec_numbering.specs.Ordered.{Ranking, number_in}
use Rattle.p21_spec_numbering.specs.Renamed.{IsInjectiveOn, names, renamed}
use Rattle.p21_spec_schema.specs.Schema.{Schema}
use Rattle.p21_spec_schema.specs.WellFormed.{IsWellFormed}
use Rattle.p21_numbered.specs.Kept.{IsKeptUnder}

-- each new name can be written
abbrev pub AreWritten : FileMeaning → (ℕ → ℕ) → Type 0
AreWritten m f = (n : ℕ) → Contains (names m) n → f n < 2 ^ 64

-- what is kept of an accepted file with other names, no two of which are one, is, put together, the canonical file of its meaning with
-- these names, if the text and its lines are within the limits
abbrev pub KeptIsRenamed : Type 0
KeptIsRenamed =
    (s : Schema) → IsWellFormed s → (limits : Limits) (bytes : List ℕ) (m : FileMeaning) → Means s limits bytes m
    → (f : ℕ → ℕ) → IsInjectiveOn (names m) f → AreWritten m f
    → (kept : Kept) → IsKeptUnder s m f kept → (blocks : List Block) → AreBlocksOf kept blocks
    → length (text_with_header kept.header blocks) ≤ limits.file_canonical
    → Each (λ (x : StoredEntry). length x.text ≤ limits.record_canonical) kept.stored
    → IsCanonicalOf s limits (renamed f m) (text_with_header kept.header blocks)

-- and no other text is: so where it isn't within the limits, there is none within them
abbrev pub KeptIsOnlyRenamed : Type 0
KeptIsOnlyRenamed =
    (s : Schema) → IsWellFormed s → (limits : Limits) (bytes : List ℕ) (m : FileMeaning) → Means s limits bytes m
    → (f : ℕ → ℕ) → IsInjectiveOn (names m) f → AreWritten m f
    → (kept : Kept) → IsKeptUnder s m f kept → (blocks : List Block) → AreBlocksOf kept blocks
    → (found : List ℕ) → IsCanonicalOf s limits (renamed f m) found
    → (found ≡ text_with_header kept.header blocks) × Each (λ (x : StoredEntry). length x.text ≤ limits.record_canonical) kept.stored

-- what is kept of an accepted file with the numbers of an order for names is, put together, its numbered file, if the file is
-- decided, the order counts copies in one sequence, and the text and its lines are within the limits
abbrev pub KeptIsNumbered : Type 0
KeptIsNumbered =
    (s : Schema) → IsWellFormed s → (limits : Limits) (bytes : List ℕ) (m : FileMeaning) → Means s limits bytes m
    → length m.instances < 2 ^ 64
    → (ranking : Ranking) → IsDecided ranking m → (order : List ℕ) → IsAligned ranking m order
    → (kept : Kept) → IsKeptUnder s m (number_in order) kept → (blocks : List Block) → AreBlocksOf kept blocks
    → length (text_with_header kept.header blocks) ≤ limits.file_canonical
    → Each (λ (x : StoredEntry). length x.text ≤ limits.record_canonical) kept.stored
    → IsNumberedFile s limits ranking bytes (text_with_header kept.header blocks)

-- and no other text is: so where it isn't within the limits, the file has no numbered file within them
abbrev pub KeptIsOnlyNumbered : Type 0
KeptIsOnlyNumbered =
    (s : Schema) → IsWellFormed s → (limits : Limits) (bytes : List ℕ) (m : FileMeaning) → Means s limits bytes m
    → length m.instances < 2 ^ 64
    → (ranking : Ranking) → IsDecided ranking m → (order : List ℕ) → IsAligned ranking m order
    → (kept : Kept) → IsKeptUnder s m (number_in order) kept → (blocks : List Block) → AreBlocksOf kept blocks
    → (numbered : List ℕ) → IsNumberedFile s limits ranking bytes numbered
    → (numbered ≡ text_with_header kept.header blocks) × Each (λ (x : StoredEntry). length x.text ≤ limits.record_canonical) kept.stored
