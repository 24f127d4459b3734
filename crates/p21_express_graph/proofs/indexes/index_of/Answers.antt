use Rattle.std.specs.Prelude.{ℕ, List, Contains, length}
use Rattle.std.proofs.Common.{arith, ap, subst}
use Rattle.p21_express_graph.specs.Orders.{numbers}
use Rattle.p21_express_graph.proofs.indexes.index_of.Goals as goal
use Rattle.p21_express_graph.proofs.ByRank.{looked-up}
use Rattle.p21_express_graph.proofs.FirstPositions.{index-is}

pub positions_at-requires : goal.positions_at-requires
positions_at-requires c e among =
    let P : List ℕ → Type 0 = λ es. Contains es e in
    let below = c.requires e (subst P c.in_ok-numbers_of.ensures ((c.rising_numbers-rising.ensures.same e).0 (subst P c.deref-2.ensures.value among))) in
    omega (arith, below, c.note_positions.ensures.size, ap length c.deref.ensures.value)

pub returns-clause-index : goal.returns-clause-index
returns-clause-index c = index-is (numbers c.args.run.now) _ c.rising_numbers-rising.result.items c.note_positions.new.places.items c.in_ok-found.found.items c.in_ok-numbers_of.ensures c.rising_numbers-rising.ensures c.note_positions.ensures.first (looked-up _ _ _ _ _ c.deref.ensures.value c.deref-2.ensures.value c.in_ok-found.ensures)
