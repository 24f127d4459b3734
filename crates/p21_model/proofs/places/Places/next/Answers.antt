use Rattle.std.proofs.Common.{ap, arith, ◌∙◌, ◌≤◌, length}
use Rattle.p21_express_graph.specs.Orders.{numbers}
use Rattle.p21_spec_schema.specs.Schema.{attributes_of}
use Rattle.p21_model.proofs.PlacesLeft.{place-given, skipped}
use Rattle.p21_model.proofs.places.Places.next.Goals as goal

pub returns-then-self-own_count-clause-place : goal.returns-then-self-own_count-clause-place
returns-then-self-own_count-clause-place c place more left =
    place-given c.loop-owner.self.schema.now (numbers c.loop-owner.self.owners.now) c.in-Some.owner.now.0 (numbers c.in-Some.behind.now)
    c.loop-owner.self.index c.own_count.result place more (ap numbers c.in-Some.ensures.cases.0) c.own_count.ensures
    c.if-self-own_count.true (c.loop-owner.invariant.1 ∙ left)

pub loop-owner-preserved : goal.loop-owner-preserved
loop-owner-preserved c =
    let many : length (attributes_of c.loop-owner.self.schema.now c.in-Some.owner.now.0) ≤ c.loop-owner.self.index =
    omega (arith, c.own_count.ensures, c.if-self-own_count.false) in (
      c.loop-owner.invariant.0,
      skipped c.loop-owner.self.schema.now (numbers c.loop-owner.self.owners.now) c.in-Some.owner.now.0
          (numbers c.in-Some.behind.now) c.loop-owner.self.index (ap numbers c.in-Some.ensures.cases.0) many ∙ c.loop-owner.invariant.1,
    )
