-- The value at a place, among parameters.
use Rattle.std.specs.Prelude.{List, Option, Some, None, Contains}
use Rattle.p21_model.specs.Rows.{Row}
use Rattle.p21_model_values.specs.declared.value.Value.{Value}
use Rattle.p21_model_values.specs.Written.{IsTextOf}
use Rattle.p21_spec_exchange.specs.Parameter.{Param}
use Rattle.p21_spec_schema.specs.Schema.{Place}

-- the value at a place, or none, where no parameter stands there
abbrev pub HasAt : List Row → Place → Option Value → Type 0
HasAt rows place None = (p : Param) → Contains rows (place, p) → ⊥
HasAt rows place (Some value) = (p : Param) × Contains rows (place, p) × IsTextOf value.text.now p
