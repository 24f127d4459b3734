use Rattle.std.specs.Prelude.{◌≡◌, Some, slice_get}
use Rattle.std.proofs.Common.{arith, ap, sym, ◌∙◌, get_or}
use Rattle.std.proofs.lemmas.Option.{slice_get_within}
use Rattle.p21_spec_basics.proofs.Members.{Contains-at}
use Rattle.p21_express_graph.specs.Orders.{numbers}
use Rattle.p21_express_graph.proofs.Lookups.{up-to}
use Rattle.p21_mapping.proofs.GrownLists.{mapped-at}
use Rattle.p21_mapping.proofs.Shapes.{numbers-length}
use Rattle.p21_mapping.proofs.positions.first_position.Goals as goal

pub returns-then-entities-at : goal.returns-then-entities-at
returns-then-entities-at c = (
  mapped-at (λ e. e.0) c.args.entities.now c.loop-at.at record { 0 = 0 } c.loop-at-test.true
      ∙ ap Some c.if-entities-at.true,
  c.loop-at.invariant,
)

pub loop-at-preserved : goal.loop-at-preserved
loop-at-preserved c = up-to (λ k. slice_get (numbers c.args.entities.now) k ≡ Some c.args.entity.0 → ⊥) c.loop-at.at c.loop-at.invariant
    (λ is.
    let both : Some (get_or c.args.entities.now c.loop-at.at record { 0 = 0 }).0 ≡ Some c.args.entity.0 =
    sym (mapped-at (λ e. e.0) c.args.entities.now c.loop-at.at record { 0 = 0 } c.loop-at-test.true) ∙ is in
    c.if-entities-at.false cc)

pub returns : goal.returns
returns c among =
    let (k, at) = Contains-at (numbers c.args.entities.now) c.args.entity.0 among in
    c.loop-at.invariant k (omega (
      arith,
      slice_get_within (numbers c.args.entities.now) k c.args.entity.0 at,
      numbers-length
          c.args.entities.now,
      c.loop-at-test.false,
    )) at
