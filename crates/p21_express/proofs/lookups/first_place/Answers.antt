use Rattle.std.proofs.Common.{arith, get_or}
use Rattle.p21_spec_schema.specs.Schema.{Place}
use Rattle.p21_express_graph.specs.Meaning.{place}
use Rattle.p21_express_graph.proofs.Lookups.{up-to}
use Rattle.p21_express.specs.Candidates.{IsPlaceAbove}
use Rattle.p21_express.proofs.PlaceLemmas.{above-has, candidate-within, no-candidate}
use Rattle.p21_express.proofs.lookups.first_place.Goals as goal

pub place_above-requires-clause-owner : goal.place_above-requires-clause-owner
place_above-requires-clause-owner c = candidate-within c.args.hierarchy.now c.args.entity.0 c.args.name.now
    c.candidates-owner-items.result.now c.candidates-owner-items.ensures c.loop-owner.owner-index c.loop-owner-test.true

pub returns-in-Some : goal.returns-in-Some
returns-in-Some c = above-has c.args.hierarchy.now c.holds_together.ensures c.args.entity.0
    (get_or c.candidates-owner-items.result.now c.loop-owner.owner-index record { 0 = 0 }).0 c.args.name.now (place c.in-Some.place)
    c.in-Some.ensures

pub loop-owner-preserved : goal.loop-owner-preserved
loop-owner-preserved c = up-to (λ k. (p : Place) → IsPlaceAbove c.args.hierarchy.now c.args.entity.0
    (get_or c.candidates-owner-items.result.now k record { 0 = 0 }).0 c.args.name.now p → ⊥) c.loop-owner.owner-index c.loop-owner.invariant
    c.in-None.ensures

pub returns : goal.returns
returns c = λ p of. no-candidate c.args.hierarchy.now c.args.entity.0 c.args.name.now (λ q. Unit {0}) c.candidates-owner-items.result.now
    c.candidates-owner-items.ensures c.loop-owner.owner-index (omega (arith, c.loop-owner-test.false))
    (λ k below q above u. c.loop-owner.invariant k below q above) p of tt
