use Rattle.std.specs.Prelude.{ℕ, List, [], Option, Some, None}
use Rattle.std.proofs.Common.{ap, sym, ◌∙◌}
use Rattle.p21_spec_schema.specs.Schema.{Entity}
use Rattle.p21_express_graph.specs.Orders.{numbers}
use Rattle.p21_schema.proofs.schema.Schema.supertypes.Goals as goal

pub returns : goal.returns
returns c =
    let f : Option Entity → List ℕ = λ o. elim o [ Some x ↦ x.supertypes | None ↦ [] ] in
    ap numbers c.deref.ensures.value ∙ sym (ap f c.entity_at.ensures)
