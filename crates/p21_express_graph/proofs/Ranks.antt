-- A way along which ranks fall is no longer than there are numbers.
use Rattle.std.specs.Prelude.{ℕ, suc, ◌+◌, ◌<◌, ◌≤◌, Bool, List, [], ◌∷◌, length}
use Rattle.std.proofs.Common.{arith}
use Rattle.p21_spec_schema.specs.Declared.{HasNoCircle}
use Rattle.p21_express_graph.specs.SettledOrder.{IsNext}
use Rattle.p21_express_graph.specs.Walk.{IsWay}
use Rattle.p21_spec_schema.proofs.Orders.{count_below, count_below-le, count_below-rises_past}

pub lower-less : (rank : ℕ → ℕ) (f n : ℕ) → f < n → count_below rank (rank f) n < n
lower-less rank f n below = omega (arith, count_below-rises_past rank f (suc (rank f)) n below (omega arith), count_below-le rank (suc (rank f)) n)

way_low : (lists : List (List ℕ)) (done : List Bool) (ends : HasNoCircle (IsNext lists)) (x : ℕ) (way : List ℕ) → IsWay lists done (x ∷ way) → count_below ends.0 (ends.0 x) (length lists) + length way < length lists
way_low lists done ends x [] is = omega (arith, lower-less ends.0 x (length lists) is.0)
way_low lists done ends x (y ∷ way) is = omega (arith, count_below-rises_past ends.0 x (ends.0 y) (length lists) is.0 (ends.1 y x is.2), way_low lists done ends y way is.3)

-- where no chain comes back, a way is no longer than there are lists
pub way_short : (lists : List (List ℕ)) (done : List Bool) (way : List ℕ) → HasNoCircle (IsNext lists) → IsWay lists done way → length way ≤ length lists
way_short lists done [] ends is = omega arith
way_short lists done (x ∷ way) ends is = omega (arith, way_low lists done ends x way is)
