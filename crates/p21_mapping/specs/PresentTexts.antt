-- The texts of the values in a row, those that are missing apart.
use Rattle.std.specs.Prelude.{ℕ, List, [], ◌∷◌}
use Rattle.p21_spec_schema.specs.Schema.{Schema}
use Rattle.p21_spec_file.specs.Value.{Value, Values, missing, no_values, value}
use Rattle.p21_spec_file.specs.ValueText.{value_text}

-- one value in a row
abbrev pub one : Value → Values
one v = value v no_values

abbrev pub present_texts : Schema → Values → List (List ℕ)
present_texts s no_values = []
present_texts s (value missing vs) = present_texts s vs
present_texts s (value v vs) = value_text s v ∷ present_texts s vs
