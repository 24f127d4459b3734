-- Parts of what pairs join.
use Rattle.std.specs.Prelude.{◌≡◌, ◌⊎◌, ◌<◌, ℕ, List, [], length, nat_eq, slice_index_or, if◌then◌else◌, Contains}

-- the number at a position
abbrev pub number_at : List ℕ → ℕ → ℕ
number_at numbers k = slice_index_or numbers k 0

-- the row at a position
abbrev pub row_at : List (List ℕ) → ℕ → List ℕ
row_at rows k = slice_index_or rows k []

-- pairs lead from one to the other, in either direction
pub data Connected (pairs : List (ℕ × ℕ)) : ℕ → ℕ → Type 0 where
  itself : (n : ℕ) → Connected pairs n n
  by_pair : (n t k : ℕ) → Contains pairs (n, t) → Connected pairs t k → Connected pairs n k
  by_other : (n t k : ℕ) → Contains pairs (n, t) → Connected pairs n k → Connected pairs t k

-- each position is among the members of the part of its number, and of no other
pub record ArePartition (count : ℕ) (of : List ℕ) (members : List (List ℕ)) : Type 0 where
  pub long : length of ≡ count
  pub rows : length members ≡ count
  pub within : (k : ℕ) → k < count → number_at of k < count
  pub listed : (k : ℕ) → k < count → Contains (row_at members (number_at of k)) k
  pub only : (p k : ℕ) → p < count → Contains (row_at members p) k → (k < count) × (number_at of k ≡ p)

-- one part has gone into another
pub record AreAbsorbed (small large : ℕ) (of more_of : List ℕ) (more_members : List (List ℕ)) : Type 0 where
  pub partition : ArePartition (length of) more_of more_members
  pub each : (k : ℕ) → k < length of → number_at more_of k ≡ (if nat_eq (number_at of k) small then large else number_at of k)

-- the parts of two positions have become one, and nothing else has
pub record AreJoined (one other : ℕ) (of more_of : List ℕ) (more_members : List (List ℕ)) : Type 0 where
  pub partition : ArePartition (length of) more_of more_members
  pub together : number_at more_of one ≡ number_at more_of other
  pub kept : (j k : ℕ) → j < length of → k < length of → number_at of j ≡ number_at of k → number_at more_of j ≡ number_at more_of k
  pub nothing_else : (j k : ℕ) → j < length of → k < length of → number_at more_of j ≡ number_at more_of k
      → (number_at of j ≡ number_at of k) ⊎ (((number_at of j ≡ number_at of one) × (number_at of k ≡ number_at of other))
      ⊎ ((number_at of j ≡ number_at of other) × (number_at of k ≡ number_at of one)))
