use Rattle.std.proofs.Common.{ℕ, ◌<◌}
use Rattle.p21_spec_schema.specs.Declared.{Renames}
use Rattle.p21_spec_schema.specs.Select.{IsSelect}
use Rattle.p21_express_graph.specs.SchemaContents.{schema_of}
use Rattle.p21_express_outline.proofs.selects.check_no_select.Given as goal

-- none of those so far renames a select
abbrev pub invariant-loop-defined : goal.invariant-loop-defined
invariant-loop-defined l = (t : ℕ) → t < l.defined-index → (u : ℕ) → Renames (schema_of l.parts) t u → IsSelect (schema_of l.parts) u → ⊥
