use Rattle.std.proofs.Common.{ℕ, ◌<◌}
use Rattle.p21_spec_schema.specs.Order.{order}
use Rattle.p21_spec_schema.specs.PlaceType.{TypeAt, two_redeclarations}
use Rattle.p21_schema.proofs.schema.Schema.leaves_open_of.Given as goal

abbrev pub invariant-loop-index : goal.invariant-loop-index
invariant-loop-index l = (k : ℕ) → k < l.index → TypeAt l.self (order l.self l.entity.0) (record { entity = l.owner.0; index = k })
    two_redeclarations → ⊥
