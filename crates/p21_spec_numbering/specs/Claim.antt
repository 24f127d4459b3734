-- What is claimed of numbered files: files whose instances have for names the numbers that the model itself gives them.
use Rattle.std.specs.Prelude.{◌≡◌, ◌↔◌, ◌≤◌, ◌<◌, ◌+◌, ◌^◌, ℕ, List, length, Contains}
use Rattle.p21_spec_basics.specs.Limits.{AreLimits, Limits}
use Rattle.p21_spec_file.specs.Accepted.{IsAccepted, IsCanonicalOf, Means}
use Rattle.p21_spec_file.specs.Canonical.{Canonical}
use Rattle.p21_spec_file.specs.File.{FileMeaning}
use Rattle.p21_spec_file.specs.SameFile.{SameFileMeaning}
use Rattle.p21_spec_schema.specs.Declared.{Declares}
use Rattle.p21_spec_schema.specs.Schema.{Schema}
use Rattle.p21_spec_numbering.specs.Copies.{IsAligned, IsDecided}
use Rattle.p21_spec_numbering.specs.Laws.{IsInvariant, ranking_of}
use Rattle.p21_spec_numbering.specs.Ordered.{Ranking, IsOrder, ordered}
use Rattle.p21_spec_numbering.specs.Renamed.{names, SameButForNames}

-- the bytes are accepted, their instances are told apart but for copies, and this is the canonical file of their meaning with
-- positions for names, in an order that counts the copies of whatever hangs together in one sequence
pub record IsNumberedFile (s : Schema) (limits : Limits) (ranking : Ranking) (bytes numbered : List ℕ) : Type 0 where
  pub meaning : FileMeaning
  pub means : Means s limits bytes meaning
  pub decided : IsDecided ranking meaning
  pub order : List ℕ
  pub aligned : IsAligned ranking meaning order
  pub canonical : IsCanonicalOf s limits (ordered order meaning) numbered

-- of one schema, within one choice of limits, and for one ranking
pub record NumberingClaim (s : Schema) (limits : Limits) (ranking : Ranking) : Type 0 where
  -- accepted bytes have, for each order by rank, canonical bytes with the positions for names, within the limits or not
  pub has_numbered_bytes : (bytes : List ℕ) (m : FileMeaning) → Means s limits bytes m → length m.instances + 1 < 2 ^ 64
      → (order : List ℕ) → IsOrder ranking m order → (a : List ℕ) × (c : Canonical s a) × SameFileMeaning c.meaning (ordered order m)
  -- bytes have one numbered file at most
  pub one_numbered_file : (bytes a b : List ℕ) → IsNumberedFile s limits ranking bytes a → IsNumberedFile s limits ranking bytes b → a ≡ b
  -- two files mean the same but for the names of their instances exactly if their numbered files are equal byte for byte
  pub same_exactly_if_equal : (bytes others : List ℕ) (m n : FileMeaning) (a b : List ℕ) → Means s limits bytes m
      → Means s limits others n → IsNumberedFile s limits ranking bytes a → IsNumberedFile s limits ranking others b
      → SameButForNames m n ↔ (a ≡ b)
  -- a file that is the same but for names as one that is decided is decided
  pub decided_alike : (bytes others : List ℕ) (m n : FileMeaning) → Means s limits bytes m → Means s limits others n
      → SameButForNames m n → IsDecided ranking m → IsDecided ranking n
  -- a numbered file is itself accepted
  pub is_accepted : (bytes a : List ℕ) → IsNumberedFile s limits ranking bytes a → IsAccepted s limits a
  -- it means what its source meant, but for names
  pub means_the_same : (bytes a : List ℕ) (m n : FileMeaning) → IsNumberedFile s limits ranking bytes a → Means s limits bytes m
      → Means s limits a n → SameButForNames m n
  -- its names are the numbers from 1 to how many instances there are
  pub names_are_numbers : (bytes a : List ℕ) (m n : FileMeaning) → IsNumberedFile s limits ranking bytes a → Means s limits bytes m
      → Means s limits a n → (k : ℕ) → Contains (names n) k ↔ ((1 ≤ k) × (k ≤ length m.instances))
  -- and it is its own numbered file
  pub is_its_own : (bytes a : List ℕ) → IsNumberedFile s limits ranking bytes a → IsNumberedFile s limits ranking a a

-- for each schema that a text declares, all limits, and each ranking for which names and orders don't count
abbrev pub RankingHeadline : Type 0
RankingHeadline =
    (text : List ℕ) (s : Schema) → Declares text s → (limits : Limits) → AreLimits limits → (ranking : Ranking) → IsInvariant ranking
    → NumberingClaim s limits ranking

-- and so for rounds over fresh instances
abbrev pub NumberingHeadline : Type 0
NumberingHeadline =
    (text : List ℕ) (s : Schema) → Declares text s → (limits : Limits) → AreLimits limits → NumberingClaim s limits (ranking_of s)
