use Rattle.std.specs.Prelude.{◌≡◌, true, false}
use Rattle.std.proofs.Common.{arith, get_or, sym, ◌∙◌}
use Rattle.p21_express_graph.proofs.Gatherings.{numbered-at}
use Rattle.p21_express_graph.proofs.Lookups.{each-number, up-to}
use Rattle.p21_spec_schema.specs.Schema.{IsAbstract}
use Rattle.p21_mapping.proofs.shape.has_abstract.Goals as goal

pub is_abstract-requires : goal.is_abstract-requires
is_abstract-requires c = c.requires _ (numbered-at (λ e. e.0) c.args.entities.now c.loop-entity.entity-index record { 0 = 0 }
    c.loop-entity-test.true)

pub returns-then-is_abstract : goal.returns-then-is_abstract
returns-then-is_abstract c = (
  (get_or c.args.entities.now c.loop-entity.entity-index record { 0 = 0 }).0,
  numbered-at (λ e. e.0)
      c.args.entities.now c.loop-entity.entity-index record { 0 = 0 } c.loop-entity-test.true,
  c.is_abstract.ensures.0 c.if-is_abstract.true,
)

pub returns : goal.returns
returns c = λ e among. each-number (λ x. x.0) record { 0 = 0 } (λ x. IsAbstract c.args.schema.now x → ⊥) c.args.entities.now e
    (λ k below. c.loop-entity.invariant k (omega (arith, below, c.loop-entity-test.false))) among

pub loop-entity-preserved : goal.loop-entity-preserved
loop-entity-preserved c = up-to (λ k. IsAbstract c.args.schema.now (get_or c.args.entities.now k record { 0 = 0 }).0 → ⊥)
    c.loop-entity.entity-index c.loop-entity.invariant
    (λ is. let t : true ≡ false = sym (c.is_abstract.ensures.1 is) ∙ c.if-is_abstract.false in cc)
