-- Instances put in the order of their ranks, and the file with their positions as names.
use Rattle.std.specs.Prelude.{◌≤◌, ℕ, suc, List, [], ◌∷◌, nat_eq, if◌then◌else◌}
use Rattle.std.specs.List.{IsDistinct, AllByRecursion as Each}
use Rattle.p21_spec_file.specs.File.{FileMeaning}
use Rattle.p21_spec_file.specs.SameFile.{HaveSameMembers}
use Rattle.p21_spec_numbering.specs.Renamed.{renamed, names}

-- no rank falls
abbrev pub Ascends : (ℕ → ℕ) → List ℕ → Type 0
Ascends rank_of [] = Unit {0}
Ascends rank_of (n ∷ ns) = Each (λ m. rank_of n ≤ rank_of m) ns × Ascends rank_of ns

-- a rank for each instance of each file
abbrev pub Ranking : Type 0
Ranking = FileMeaning → ℕ → ℕ

-- the names of the instances, each once, by their ranks
pub record IsOrder (ranking : Ranking) (m : FileMeaning) (order : List ℕ) : Type 0 where
  pub once : IsDistinct nat_eq order
  pub all : HaveSameMembers (names m) order
  pub ascends : Ascends (ranking m) order

-- how many stand before it
abbrev pub position : List ℕ → ℕ → ℕ
position [] n = 0
position (m ∷ ns) n = if nat_eq m n then 0 else suc (position ns n)

-- numbers from 1 on
abbrev pub number_in : List ℕ → ℕ → ℕ
number_in order n = suc (position order n)

-- the meaning whose instances have their positions for names
abbrev pub ordered : List ℕ → FileMeaning → FileMeaning
ordered order m = renamed (number_in order) m
