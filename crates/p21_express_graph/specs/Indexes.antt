-- The places of numbers in the runs that have them.
use Rattle.std.specs.Prelude.{◌≡◌, ℕ, ◌<◌, ◌≤◌, Bool, true, false, List, Some, length, slice_get, slice_index_or}
use Rattle.p21_express_graph.specs.CollectedLists.{IsRisingOf}
use Rattle.p21_express_graph.specs.SettledOrder.{nexts_of}
use Rattle.p21_express_graph.specs.declared.above.Above.{Above}
use Rattle.p21_express_graph.specs.declared.indexes.Index.{Index}

-- the number stands at the place, and at none before it
abbrev pub IsFirstAt : List ℕ → ℕ → ℕ → Type 0
IsFirstAt run e place = (slice_get run place ≡ Some e) × ((k : ℕ) → slice_get run k ≡ Some e → place ≤ k)

-- of what stands from a place on, the first place there is noted
abbrev pub HaveFirstPositions : List ℕ → List ℕ → ℕ → Type 0
HaveFirstPositions run places from = (k e : ℕ) → slice_get run k ≡ Some e → from ≤ k → (slice_get run (slice_index_or places e 0) ≡ Some e) × (slice_index_or places e 0 ≤ k)

-- the numbers of the run, rising, and the first place of each
pub record IsIndex (run numbers places : List ℕ) : Type 0 where
  pub rising : IsRisingOf run numbers
  pub size : length places ≡ length numbers
  pub first : (k : ℕ) → k < length numbers → IsFirstAt run (slice_index_or numbers k 0) (slice_index_or places k 0)

-- the runs of which fronts are taken are marked
abbrev pub AreUsed : List Above → List Bool → Type 0
AreUsed all used = (k : ℕ) (above : Above) → slice_get all k ≡ Some above → slice_index_or used above.front.run false ≡ true

-- each run of which a front is taken has its index
pub record AreIndexes (runs : List (List ℕ)) (all : List Above) (indexes : List Index) : Type 0 where
  pub size : length runs ≤ length indexes
  pub each : (k : ℕ) (above : Above) (index : Index) → slice_get all k ≡ Some above → slice_get indexes above.front.run ≡ Some index → IsIndex (nexts_of runs above.front.run) index.numbers.items index.places.items
