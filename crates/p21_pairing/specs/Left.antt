-- What is left without a partner.
use Rattle.std.specs.Prelude.{◌≡◌, ◌≤◌, ◌<◌, ◌+◌, ℕ, List, Option, Some, length, Contains}
use Rattle.p21_numbering.specs.Arrays.{rank_at}
use Rattle.p21_numbering.specs.Joining.{row_at}
use Rattle.p21_pairing.specs.Pairs.{ArePairs, HasOwnRank, IsFree, partner_at}

-- instances of one key are of one kind
abbrev pub SayKinds : List ℕ → List ℕ → Type 0
SayKinds keys kinds =
    (i k : ℕ) → i < length keys → k < length keys → rank_at keys i ≡ rank_at keys k → rank_at kinds i ≡ rank_at kinds k

-- no two of one key are free, one in each file; the keys of the second file begin at a position
abbrev pub NoneLeft : List ℕ → ℕ → List (Option ℕ) → List (Option ℕ) → Type 0
NoneLeft keys start partners owners =
    (i j : ℕ) → IsFree partners i → IsFree owners j → rank_at keys i ≡ rank_at keys (start + j) → ⊥

-- the rows list instances of the second file by their keys, and from this one on all that are free
pub record AreListed (keys : List ℕ) (start : ℕ) (owners : List (Option ℕ)) (beginning : ℕ) (rows : List (List ℕ)) : Type 0 where
  pub long : length rows ≡ length keys
  pub within : (key j : ℕ) → Contains (row_at rows key) j → j < length owners
  pub all : (j : ℕ) → beginning ≤ j → IsFree owners j → Contains (row_at rows (rank_at keys (start + j))) j

-- partners of so many instances in each file: what is alone in its rank in both is paired, if the two are of one kind; and of no kind
-- one is left in each
pub record AreMatched (ranks kinds : List ℕ) (first second : ℕ) (partners owners : List (Option ℕ)) : Type 0 where
  pub as_many : length partners ≡ first
  pub as_many_owners : length owners ≡ second
  pub pairs : ArePairs kinds partners owners
  pub alone : (i j : ℕ) → i < first → j < second → HasOwnRank ranks 0 first i → HasOwnRank ranks first second j
      → rank_at ranks i ≡ rank_at ranks (first + j)
      → rank_at kinds i ≡ rank_at kinds (first + j) → partner_at partners i ≡ Some j
  pub none_left : NoneLeft kinds first partners owners
