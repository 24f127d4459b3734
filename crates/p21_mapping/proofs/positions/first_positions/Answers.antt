use Rattle.std.specs.Prelude.{◌≡◌, ◌-◌, ℕ, suc, length}
use Rattle.std.specs.BTreeMap.{get, is_at}
use Rattle.std.specs.Map.{lookup}
use Rattle.std.specs.Ordering.{nat_cmp}
use Rattle.std.proofs.Common.{arith, ap, subst, get_or}
use Rattle.p21_express_graph.specs.Orders.{numbers}
use Rattle.p21_mapping.proofs.Placing.{ArePlacedFrom, placed-all, placed-next, placed-none}
use Rattle.p21_mapping.proofs.GrownLists.{mapped-at}
use Rattle.p21_mapping.proofs.Shapes.{numbers-length}
use Rattle.p21_mapping.proofs.positions.first_positions.Goals as goal

pub loop-at-init : goal.loop-at-init
loop-at-init c = placed-none (numbers c.args.entities.now) (length c.args.entities.now) (get nat_cmp c.new-places.result)
    (omega (arith, numbers-length c.args.entities.now)) (λ k. ap (lookup (is_at (nat_cmp k))) c.new-places.ensures.empty)

pub loop-at-preserved : goal.loop-at-preserved
loop-at-preserved c =
    let at : ℕ = c.loop-at.at - 1 in
    let next : c.loop-at.at ≡ suc at = omega (arith, c.loop-at-test.true) in
    let P : ℕ → Type 0 = λ n. ArePlacedFrom (numbers c.args.entities.now) n (get nat_cmp c.loop-at.places) in
    placed-next (numbers c.args.entities.now) at (get_or c.args.entities.now at record { 0 = 0 }).0 c.loop-at.places c.insert.new.self
    (subst P next c.loop-at.invariant) (mapped-at (λ e. e.0) c.args.entities.now at record { 0 = 0 }
    (omega (arith, next, c.loop-at.auto.at))) c.in-Ok.ensures.updates

pub returns : goal.returns
returns c =
    let none : c.loop-at.at ≡ 0 = omega (arith, c.loop-at-test.false) in
    let P : ℕ → Type 0 = λ n. ArePlacedFrom (numbers c.args.entities.now) n (get nat_cmp c.loop-at.places) in
    placed-all (numbers c.args.entities.now) (get nat_cmp c.loop-at.places) (subst P none c.loop-at.invariant)
