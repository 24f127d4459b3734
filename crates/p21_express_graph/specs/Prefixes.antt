-- Lists that are the fronts of runs, so that several of them share one run.
use Rattle.std.specs.Prelude.{◌≡◌, ℕ, ◌<◌, ◌≤◌, ◌++◌, List, Some, length, map, take, slice_get, Contains}
use Rattle.p21_express_graph.specs.Orders.{number_lists}
use Rattle.p21_express_graph.specs.SettledOrder.{nexts_of}
use Rattle.p21_express_graph.specs.declared.prefixes.RunPrefix.{RunPrefix}
use Rattle.p21_express_graph.specs.declared.prefixes.PrefixLists.{PrefixLists}

-- the front has no entity
abbrev pub IsEmptyPrefix : RunPrefix → Type 0
IsEmptyPrefix front = (front.run ≡ 0) × (front.size ≡ 0)

-- the front lies in one of the runs
abbrev pub IsRunPrefix : List (List ℕ) → RunPrefix → Type 0
IsRunPrefix runs front = (front.run < length runs) × (front.size ≤ length (nexts_of runs front.run))

-- the list of a front
abbrev pub list_of : List (List ℕ) → RunPrefix → List ℕ
list_of runs front = take front.size (nexts_of runs front.run)

-- the list is the run and what is left
abbrev pub BeginsWith : List ℕ → List ℕ → Type 0
BeginsWith list run = (left : List ℕ) × (list ≡ run ++ left)

-- each front lies in one of the runs
abbrev pub AreRunPrefixes : PrefixLists → Type 0
AreRunPrefixes all = (k : ℕ) (front : RunPrefix) → slice_get all.prefixes.items k ≡ Some front → IsRunPrefix (number_lists all.runs.items) front

-- all numbers in the runs are below a count
abbrev pub AreBelow : ℕ → List (List ℕ) → Type 0
AreBelow count runs = (r e : ℕ) → Contains (nexts_of runs r) e → e < count

-- the runs stay below a count where the numbers of a list are
abbrev pub StayBelow : List ℕ → PrefixLists → PrefixLists → Type 0
StayBelow list before after = (count : ℕ) → AreBelow count (number_lists before.runs.items) → ((e : ℕ) → Contains list e → e < count) → AreBelow count (number_lists after.runs.items)

-- the lists of all fronts
abbrev pub lists_in : PrefixLists → List (List ℕ)
lists_in all = map (list_of (number_lists all.runs.items)) all.prefixes.items
