use Rattle.std.specs.Prelude.{◌≡◌, ℕ, true, false, refl}
use Rattle.std.proofs.Common.{arith, sym, ◌∙◌, get_or}
use Rattle.p21_express_graph.proofs.Gatherings.{numbered-at}
use Rattle.p21_express_graph.proofs.Lookups.{each-number, up-to}
use Rattle.p21_spec_schema.specs.Schema.{entity_member}
use Rattle.p21_spec_schema.specs.Select.{Offers}
use Rattle.p21_mapping.proofs.Shapes.{offers-within}
use Rattle.p21_mapping.proofs.needed.has_offered.Goals as goal

pub returns-then-select-types : goal.returns-then-select-types
returns-then-select-types c = (
  λ no. let t : false ≡ true = no in
      cc,
  λ (e, offers, among). absurd (omega (
    arith,
    offers-within c.args.schema.now c.args.select.0 (entity_member e) offers,
    c.types.ensures,
    c.if-select-types.true,
  )),
)

pub returns-then-offers : goal.returns-then-offers
returns-then-offers c =
    let e : ℕ = (get_or c.args.parts.now c.loop-part.part-index record { 0 = 0 }).0 in (
      λ yes. (
        e,
        c.offers.ensures.0 c.if-offers.true,
        numbered-at (λ x. x.0) c.args.parts.now c.loop-part.part-index record { 0 = 0 }
            c.loop-part-test.true,
      ),
      λ is. refl,
    )

pub loop-part-preserved : goal.loop-part-preserved
loop-part-preserved c = up-to (λ k. Offers c.args.schema.now c.args.select.0 (entity_member (get_or c.args.parts.now k record { 0 = 0 }).0)
    → ⊥) c.loop-part.part-index c.loop-part.invariant (λ is. let t : true ≡ false = sym (c.offers.ensures.1 is) ∙ c.if-offers.false in cc)

pub returns : goal.returns
returns c = (
  λ no. let t : false ≡ true = no in cc,
  λ (e, offers, among). absurd (each-number (λ x. x.0) record { 0 = 0 }
      (λ x. Offers c.args.schema.now c.args.select.0 (entity_member x) → ⊥) c.args.parts.now e
      (λ k below. c.loop-part.invariant k (omega (arith, below, c.loop-part-test.false))) among offers),
)
