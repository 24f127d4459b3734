use Rattle.std.specs.Prelude.{◌≡◌, ℕ, true, false, slice_index_or, Contains}
use Rattle.std.proofs.Common.{arith, sym, ◌∙◌}
use Rattle.p21_spec_schema.specs.Select.{IsSelect}
use Rattle.p21_express_graph.specs.SchemaContents.{schema_of}
use Rattle.p21_express_graph.proofs.Lookups.{up-to}
use Rattle.p21_express_outline.proofs.Selecting.{none-of, said-none}
use Rattle.p21_express_outline.proofs.selects.has_select.Goals as goal

pub loop-number-preserved : goal.loop-number-preserved
loop-number-preserved c = up-to (λ k. IsSelect (schema_of c.args.parts.now) (slice_index_or c.args.numbers.now k 0) → ⊥)
    c.loop-number.number-index c.loop-number.invariant
    (λ is. let t : true ≡ false = sym (c.is_select.ensures.1 is) ∙ c.if-is_select.false in cc)

pub returns : goal.returns
returns c =
    let P : ℕ → Type 0 = IsSelect (schema_of c.args.parts.now) in
    said-none ((u : ℕ) × Contains c.args.numbers.now u × P u)
    (none-of P c.args.numbers.now c.loop-number.number-index (omega (arith, c.loop-number-test.false)) c.loop-number.invariant)
