-- Values whose keywords name types of a schema.
use Rattle.p21_spec_schema.specs.Schema.{Schema}
use Rattle.p21_express_graph.specs.Resolved.{IsType}
use Rattle.p21_spec_file.specs.Value.{Value, list, array, set, bag, typed, Values, no_values, value}

-- each type in the value is one of the schema
abbrev mutual
  pub HasKnownTypes : Schema → Value → Type 0
  HasKnownTypes s (list vs) = HaveKnownTypes s vs
  HasKnownTypes s (array vs) = HaveKnownTypes s vs
  HasKnownTypes s (set vs) = HaveKnownTypes s vs
  HasKnownTypes s (bag vs) = HaveKnownTypes s vs
  HasKnownTypes s (typed t v) = IsType s t × HasKnownTypes s v
  HasKnownTypes s other = Unit {0}

  pub HaveKnownTypes : Schema → Values → Type 0
  HaveKnownTypes s no_values = Unit {0}
  HaveKnownTypes s (value v vs) = HasKnownTypes s v × HaveKnownTypes s vs
