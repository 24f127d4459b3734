-- Pairs as arrays: the partner of each instance of the first file, and that of each one of the second.
use Rattle.std.specs.Prelude.{◌≡◌, ◌⊎◌, ◌<◌, ◌+◌, ℕ, List, Option, Some, None, length, slice_index_or}
use Rattle.p21_numbering.specs.Arrays.{rank_at}

-- the partner of the instance at a position, if it has one
abbrev pub partner_at : List (Option ℕ) → ℕ → Option ℕ
partner_at partners k = slice_index_or partners k None

-- partners have one another, and one kind
pub record ArePairs (kinds : List ℕ) (partners owners : List (Option ℕ)) : Type 0 where
  pub there : (i j : ℕ) → partner_at partners i ≡ Some j → partner_at owners j ≡ Some i
  pub back : (j i : ℕ) → partner_at owners j ≡ Some i → partner_at partners i ≡ Some j
  pub one_kind : (i j : ℕ) → partner_at partners i ≡ Some j → rank_at kinds i ≡ rank_at kinds (length partners + j)

-- there are as many instances, and each pair is kept
pub record AreMore (kinds : List ℕ) (partners owners more_partners more_owners : List (Option ℕ)) : Type 0 where
  pub as_many : length more_partners ≡ length partners
  pub as_many_owners : length more_owners ≡ length owners
  pub pairs : ArePairs kinds more_partners more_owners
  pub kept : (i j : ℕ) → partner_at partners i ≡ Some j → partner_at more_partners i ≡ Some j

-- the two are partners now, if neither had one and they are of one kind; and no others have become partners
pub record AreJoined (kinds : List ℕ) (one other : ℕ) (partners owners more_partners more_owners : List (Option ℕ)) : Type 0 where
  pub more : AreMore kinds partners owners more_partners more_owners
  pub joined : partner_at partners one ≡ None → partner_at owners other ≡ None
      → rank_at kinds one ≡ rank_at kinds (length partners + other) → partner_at more_partners one ≡ Some other
  pub only : (i j : ℕ) → partner_at more_partners i ≡ Some j → (partner_at partners i ≡ Some j) ⊎ ((i ≡ one) × (j ≡ other))

-- the instance at a position has no partner
abbrev pub IsFree : List (Option ℕ) → ℕ → Type 0
IsFree partners k = (k < length partners) × (partner_at partners k ≡ None)

-- the instance is the only free one of its file that has its key; the keys of the file begin at this position
pub record IsAloneIn (keys : List ℕ) (start : ℕ) (partners : List (Option ℕ)) (n : ℕ) : Type 0 where
  pub free : IsFree partners n
  pub alone : (k : ℕ) → IsFree partners k → rank_at keys (start + k) ≡ rank_at keys (start + n) → k ≡ n

-- no instance of another position of its file has its rank; the ranks of the file begin at a position
abbrev pub HasOwnRank : List ℕ → ℕ → ℕ → ℕ → Type 0
HasOwnRank ranks start count n = (k : ℕ) → k < count → rank_at ranks (start + k) ≡ rank_at ranks (start + n) → k ≡ n
