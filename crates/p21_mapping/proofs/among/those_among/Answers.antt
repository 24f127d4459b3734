use Rattle.std.specs.Prelude.{◌≡◌, List, true, false}
use Rattle.std.proofs.Common.{ap, arith, sym, ◌∙◌, subst}
use Rattle.std.proofs.lemmas.List.{take_all}
use Rattle.p21_express_graph.specs.Orders.{numbers}
use Rattle.p21_express_graph.specs.declared.number.EntityId.{EntityId}
use Rattle.p21_mapping.proofs.Redeclaring.{none-among, one-among, one-apart}
use Rattle.p21_mapping.proofs.among.those_among.Goals as goal
use Rattle.p21_mapping.proofs.among.those_among.Goals.{then-has+in_ok-push, else-has}
use Rattle.p21_mapping.specs.Redeclaring.{AreThoseAmong}

pub loop-entity-init : goal.loop-entity-init
loop-entity-init c = none-among c.args.entities.now (numbers c.new-members.result.items) (ap numbers c.new-members.ensures.items)

pub loop-entity-preserved : goal.loop-entity-preserved
loop-entity-preserved c =
    let entities = c.args.entities.now in
    let some = c.args.some.now in
    let k = c.loop-entity.entity-index in
    let members = c.loop-entity.members.items in
    elim c.if-has.branch [
      | then-has+in_ok-push w ↦ one-among entities some k record { 0 = 0 } members c.if-has.members.items c.loop-entity-test.true
          c.loop-entity.invariant (c.has.ensures.0 w.if-has.true) (ap (λ v. v.items) w.members-is ∙ w.in_ok-push.ensures.items)
      | else-has w ↦ one-apart entities some k record { 0 = 0 } members c.if-has.members.items c.loop-entity-test.true
          c.loop-entity.invariant (λ among. let t : true ≡ false = sym (c.has.ensures.1 among) ∙ w.if-has.false in cc)
          (ap (λ v. v.items) w.members-is)
    ]

pub returns : goal.returns
returns c =
    subst (λ (es : List EntityId). AreThoseAmong c.args.entities.now (numbers es) (numbers c.loop-entity.members.items))
    (take_all c.loop-entity.entity-index c.args.some.now (omega (arith, c.loop-entity-test.false))) c.loop-entity.invariant
