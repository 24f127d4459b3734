-- Where a walk of the program stands, and what a step of it comes to.
use Rattle.std.specs.Prelude.{ℕ, ◌<◌, List, length, reverse}
use Rattle.p21_spec_schema.specs.Declared.{HasNoCircle}
use Rattle.p21_express_graph.specs.SettledOrder.{IsNext, IsSettledOrder}
use Rattle.p21_express_graph.specs.Walk.{Walks, work}
use Rattle.p21_express_graph.specs.declared.settle.Walk.{Walk}
use Rattle.p21_express_graph.specs.declared.settle.Progress.{Progress}
use Rattle.p21_express_graph.specs.declared.settle.Progress.TheVariants.{Going, Circle, Finished}

-- the walk with this way, last number first
abbrev pub WalksAlong : List (List ℕ) → Walk → List ℕ → Type 0
WalksAlong lists walk way = Walks lists walk.done.items walk.listed.items way walk.passed

-- how much is left to do with this way
abbrev pub left : List (List ℕ) → Walk → List ℕ → ℕ
left lists walk way = work (length lists) walk.done.items way walk.passed

-- the walk goes on with less to do, or a chain comes back, or all is listed
abbrev pub StepsTo : List (List ℕ) → ℕ → Progress → Walk → Type 0
StepsTo lists before Going walk = WalksAlong lists walk (reverse walk.way.items) × (left lists walk (reverse walk.way.items) < before)
StepsTo lists before Circle walk = HasNoCircle (IsNext lists) → ⊥
StepsTo lists before Finished walk = IsSettledOrder lists walk.listed.items
