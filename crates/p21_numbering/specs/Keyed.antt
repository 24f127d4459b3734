-- The keys of those nodes that a round may tell from others of their rank, and the ranks behind the round by these keys alone.
use Rattle.std.specs.Prelude.{◌≡◌, ◌⊎◌, ◌<◌, ◌≤◌, ◌+◌, ◌-◌, ℕ, Bool, true, false, List, [], ◌∷◌, length, slice_index_or}
use Rattle.p21_spec_file.specs.CanonicalRecord.{AreTextsRising}
use Rattle.p21_spec_numbering.specs.Fresh.{Ranks}
use Rattle.p21_numbering.specs.Arrays.{Use, IsKey, rank_at}
use Rattle.p21_numbering.specs.Rows.{rank_among}

-- Of a node whose rank so many have: its key, if it has an entry; or none, where no other node has that rank, or there is no entry
abbrev pub IsKeyed : ℕ → ℕ → Ranks → List Use → List Use → List ℕ → Type 0
IsKeyed rank many c uses users [] = (many < 2) ⊎ IsKey rank c uses users (rank ∷ [])
IsKeyed rank many c uses users (k ∷ ks) = IsKey rank c uses users (k ∷ ks) × (0 < length ks)

-- there is a key
abbrev pub is_keyed : List ℕ → Bool
is_keyed [] = false
is_keyed (k ∷ ks) = true

-- The rank behind a round of a node of this rank, which so many have, by all the keys: without a key it stays, and what has a key
-- stands behind those of its rank that have none
abbrev pub told_rank : List (List ℕ) → ℕ → ℕ → List ℕ → ℕ
told_rank keys rank many [] = rank
told_rank keys rank many (k ∷ ks) = rank + many - rank_among keys ((rank + 1) ∷ []) + rank_among keys (k ∷ ks)

-- what makes a rank behind a round one that can be reckoned
pub record IsTellable (count rank many : ℕ) (key : List ℕ) (keys : List (List ℕ)) : Type 0 where
  pub next : rank_among keys ((rank + 1) ∷ []) ≤ rank + many
  pub few : rank + many ≤ count
  pub some : 0 < many
  pub told : told_rank keys rank many key ≤ count

-- the same of all nodes, of which these are the ranks, how many have each rank, and the keys; with the keys in order
pub record AreTellable (rank sizes : List ℕ) (keys sorted : List (List ℕ)) : Type 0 where
  pub sizes_are : length sizes ≡ length rank
  pub keys_are : length keys ≡ length rank
  pub within : (n : ℕ) → n < length rank → rank_at rank n < length rank
  pub rise : AreTextsRising sorted
  pub each : (n : ℕ) → n < length rank → IsTellable (length rank) (rank_at rank n) (rank_at sizes (rank_at rank n))
      (slice_index_or keys n []) sorted
