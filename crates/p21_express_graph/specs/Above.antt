-- What has the proper supertypes of entities: fronts of runs, and others.
use Rattle.std.specs.Prelude.{◌≡◌, ◌↔◌, ◌⊎◌, ℕ, ◌+◌, ◌<◌, ◌≤◌, ◌++◌, ◌∷◌, [], List, Some, length, take, slice_get, Contains}
use Rattle.std.specs.List.Sorted.{IsStrictlyIncreasing}
use Rattle.p21_express_graph.specs.Orders.{number_lists}
use Rattle.p21_express_graph.specs.Prefixes.{IsRunPrefix, list_of, lists_in}
use Rattle.p21_express_graph.specs.SettledOrder.{nexts_of}
use Rattle.p21_express_graph.specs.declared.above.Above.{Above}
use Rattle.p21_express_graph.specs.declared.prefixes.RunPrefix.{RunPrefix}
use Rattle.p21_express_graph.specs.declared.prefixes.PrefixLists.{PrefixLists}

-- the list is a front of the run, and the number behind it
abbrev pub EndsFront : List ℕ → List ℕ → ℕ → Type 0
EndsFront list run last = (size : ℕ) × (length list ≡ size + 1) × (list ≡ take size run ++ last ∷ [])

-- the list of the number has just what the front has, the others, which rise, and the number
pub record HasAbove (all : PrefixLists) (e : ℕ) (front : RunPrefix) (others : List ℕ) : Type 0 where
  pub within : IsRunPrefix (number_lists all.runs.items) front
  pub rising : IsStrictlyIncreasing others
  pub same : (f : ℕ) → Contains (nexts_of (lists_in all) e) f ↔ (Contains (list_of (number_lists all.runs.items) front) f ⊎ (Contains others f ⊎ (f ≡ e)))

-- each number has such a front and such others
pub record AreAbove (all : PrefixLists) (listed : List Above) : Type 0 where
  pub size : length all.prefixes.items ≤ length listed
  pub each : (e : ℕ) (above : Above) → slice_get listed e ≡ Some above → HasAbove all e above.front above.others.items
