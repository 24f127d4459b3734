-- The value that is meant, without addresses.
use Rattle.std.specs.Prelude.{List, [], ◌∷◌, map}
use Rattle.p21_mapping_values.specs.declared.value.Values.{Values, Values-F}
use Rattle.p21_mapping_values.specs.declared.value.Value.{Value, fold-Value}
use Rattle.p21_mapping_values.specs.declared.value.Value.TheOpen.{Value-F}
use Rattle.p21_spec_file.specs.Value as meant

-- the values, as a list
abbrev pub list_of : Values → List Value
list_of vs = vs.all.items

abbrev pub row_of_values : List meant.Value → meant.Values
row_of_values [] = meant.no_values
row_of_values (v ∷ vs) = meant.value v (row_of_values vs)

-- one level, with each value inside already seen as what it means
abbrev pub view_step : Value-F meant.Value meant.Values → meant.Value
view_step (Value-F.Whole z) = meant.whole z
view_step (Value-F.Real d) = meant.real d
view_step (Value-F.Number d) = meant.number d
view_step (Value-F.Text characters) = meant.text characters
view_step (Value-F.Bits bits) = meant.bits bits
view_step (Value-F.Item word) = meant.item word
view_step (Value-F.Reference n) = meant.reference n
view_step Value-F.Derived = meant.derived
view_step Value-F.Missing = meant.missing
view_step (Value-F.List vs) = meant.list vs
view_step (Value-F.Array vs) = meant.array vs
view_step (Value-F.Set vs) = meant.set vs
view_step (Value-F.Bag vs) = meant.bag vs
view_step (Value-F.Tagged t v) = meant.typed t.0 v.value

abbrev pub view_row_step : Values-F meant.Value meant.Values → meant.Values
view_row_step vs = row_of_values vs.all.items

-- what the value means
abbrev pub view : Value → meant.Value
view = fold-Value meant.Value meant.Values view_step view_row_step

-- what the values mean
abbrev pub views : List Value → meant.Values
views vs = row_of_values (map view vs)
