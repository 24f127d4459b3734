-- The largest part of a cell.
use Rattle.std.specs.Prelude.{◌≡◌, ◌<◌, ◌&&◌, ◌||◌, ltb, nat_eq, ℕ, Bool, false, List, length}
use Rattle.std.specs.List.{range_with_len}
use Rattle.p21_spec_numbering.specs.Graph.{how_many}
use Rattle.p21_numbering.specs.Arrays.{rank_at}

-- how many of the first nodes are in each cell
pub record AreSizes (count nodes : ℕ) (cell sizes : List ℕ) : Type 0 where
  pub long : length sizes ≡ count
  pub each : (c : ℕ) → c < count → rank_at sizes c ≡ how_many (λ m. nat_eq (rank_at cell m) c) (range_with_len 0 nodes)

-- the part is larger than the other, or as large and before it
abbrev pub beats : List ℕ → ℕ → ℕ → Bool
beats sizes part best = ltb (rank_at sizes best) (rank_at sizes part) || (nat_eq (rank_at sizes part) (rank_at sizes best) && ltb part best)

-- among the first nodes, those of one old cell have no part that beats this one, which is one of theirs if it is one
pub record IsLargestAmong (count nodes : ℕ) (old new sizes : List ℕ) (o best : ℕ) : Type 0 where
  pub found : (m : ℕ) → m < nodes → rank_at old m ≡ o → best < count
  pub unbeaten : (m : ℕ) → m < nodes → rank_at old m ≡ o → beats sizes (rank_at new m) best ≡ false
  pub attained : best < count → (m : ℕ) × (m < nodes) × (rank_at old m ≡ o) × (rank_at new m ≡ best)
