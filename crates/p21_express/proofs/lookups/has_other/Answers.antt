use Rattle.std.specs.Prelude.{◌≡◌, ◌≢◌, true, false, refl}
use Rattle.std.proofs.Common.{arith, sym, ◌∙◌, get_or}
use Rattle.p21_spec_schema.specs.Schema.{Place}
use Rattle.p21_express_graph.specs.Meaning.{place}
use Rattle.p21_express_graph.proofs.Lookups.{up-to}
use Rattle.p21_express.specs.Candidates.{IsPlaceAbove}
use Rattle.p21_express.proofs.PlaceLemmas.{above-has, candidate-within, no-candidate}
use Rattle.p21_express.proofs.lookups.has_other.Goals as goal

pub has_other_above-requires-clause-owner : goal.has_other_above-requires-clause-owner
has_other_above-requires-clause-owner c = candidate-within c.args.hierarchy.now c.args.entity.0 c.args.name.now
    c.candidates-owner-items.result.now c.candidates-owner-items.ensures c.loop-owner.owner-index c.loop-owner-test.true

pub returns-then-has_other_above : goal.returns-then-has_other_above
returns-then-has_other_above c = (
  λ yes. (let (p, above, differ) = c.has_other_above.ensures.0 c.if-has_other_above.true in (
    p,
    above-has c.args.hierarchy.now c.holds_together.ensures c.args.entity.0
        (get_or c.candidates-owner-items.result.now c.loop-owner.owner-index record { 0 = 0 }).0 c.args.name.now p above,
    differ,
  )),
  λ other. refl,
)

pub loop-owner-preserved : goal.loop-owner-preserved
loop-owner-preserved c = up-to (λ k. (p : Place) → IsPlaceAbove c.args.hierarchy.now c.args.entity.0
    (get_or c.candidates-owner-items.result.now k record { 0 = 0 }).0 c.args.name.now p → p ≢ place c.args.first → ⊥)
    c.loop-owner.owner-index c.loop-owner.invariant
    (λ p above differ. let t : true ≡ false = sym (c.has_other_above.ensures.1 (p, above, differ)) ∙ c.if-has_other_above.false in cc)

pub returns : goal.returns
returns c = (
  λ no. (let t : false ≡ true = no in cc),
  λ (p, of, differ). absurd (no-candidate c.args.hierarchy.now c.args.entity.0 c.args.name.now (λ q. q ≢ place c.args.first)
      c.candidates-owner-items.result.now c.candidates-owner-items.ensures c.loop-owner.owner-index (omega (arith, c.loop-owner-test.false))
      c.loop-owner.invariant p of differ),
)
