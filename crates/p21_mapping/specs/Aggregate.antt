-- The value of an aggregate of a type.
use Rattle.p21_spec_schema.specs.Schema as schema
use Rattle.p21_spec_schema.specs.Schema.{TypeUse}
use Rattle.p21_spec_file.specs.Value.{Value, Values, list, array, set, bag}

-- these elements as a value of the type
abbrev pub aggregate_value : TypeUse → Values → Value
aggregate_value (schema.array low high optional unique type) vs = array vs
aggregate_value (schema.set low high type) vs = set vs
aggregate_value (schema.bag low high type) vs = bag vs
aggregate_value other vs = list vs
