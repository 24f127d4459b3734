-- A walk along numbers that lead to numbers: which are done, in which order, and the way to the one that is looked at.
use Rattle.std.specs.Prelude.{◌≡◌, ℕ, suc, ◌+◌, ◌-◌, ◌*◌, ◌<◌, ◌≤◌, Bool, true, false, List, [], ◌∷◌, Some, length, slice_get, take, Contains, slice_index_or}
use Rattle.p21_express_graph.specs.SettledOrder.{IsNext}

abbrev pub IsDone : List Bool → ℕ → Type 0
IsDone done x = slice_index_or done x false ≡ true

abbrev pub IsOpen : List Bool → ℕ → Type 0
IsOpen done x = slice_index_or done x true ≡ false

-- the last number of a way leads to this one
abbrev pub LeadsTo : List (List ℕ) → List ℕ → ℕ → Type 0
LeadsTo lists [] y = Unit {0}
LeadsTo lists (x ∷ way) y = IsNext lists x y

-- a way, last number first, on which each number is open and leads to the next
abbrev pub IsWay : List (List ℕ) → List Bool → List ℕ → Type 0
IsWay lists done [] = Unit {0}
IsWay lists done (x ∷ way) = (x < length lists) × IsOpen done x × LeadsTo lists way x × IsWay lists done way

pub record Walks (lists : List (List ℕ)) (done : List Bool) (listed way : List ℕ) (passed : ℕ) : Type 0 where
  pub size : length done ≡ length lists
  pub passed_done : (x : ℕ) → x < passed → IsDone done x
  pub passed_within : passed ≤ length lists
  pub done_listed : (x : ℕ) → IsDone done x → Contains listed x
  pub listed_within : (x : ℕ) → Contains listed x → x < length lists
  pub behind : (k x y : ℕ) → slice_get listed k ≡ Some x → IsNext lists x y → Contains (take k listed) y
  pub is_way : IsWay lists done way
  pub short : length way ≤ length lists

-- how many are open
abbrev pub open_count : List Bool → ℕ
open_count [] = 0
open_count (true ∷ done) = open_count done
open_count (false ∷ done) = suc (open_count done)

-- how much is left to do
abbrev pub work : ℕ → List Bool → List ℕ → ℕ → ℕ
work n done way passed = open_count done * (n + 2) + (n - length way) + (n - passed)
