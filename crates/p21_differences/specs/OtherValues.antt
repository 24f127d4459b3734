-- Two instances of one set of entities, attribute by attribute.
use Rattle.std.specs.Prelude.{◌≡◌, ◌≢◌, ◌↔◌, ◌⊎◌, ℕ, List, [], ◌∷◌, Option, None, Some, Contains, map}
use Rattle.std.specs.List.{zip}
use Rattle.p21_differences.specs.declared.values.OtherValue.{OtherValue}
use Rattle.p21_differences.specs.declared.values.OtherValues.{OtherValues}
use Rattle.p21_express_graph.specs.Meaning.{place as place_of}
use Rattle.p21_model.specs.Left.{TellsRows, left_size, schema_of}
use Rattle.p21_model.specs.Rows.{Row}
use Rattle.p21_model_values.specs.Written.{IsTextOf}
use Rattle.p21_spec_differences.specs.Difference.{HasOtherValue}
use Rattle.p21_spec_differences.specs.Near.{IsOneParamAt}
use Rattle.p21_spec_exchange.specs.CanonicalText.{param_text}
use Rattle.p21_spec_exchange.specs.Parameter.{Param}
use Rattle.p21_spec_exchange.specs.Record.{Record}
use Rattle.p21_spec_file.specs.CanonicalTexts.{IsInstanceText}
use Rattle.p21_spec_file.specs.Meaning.{Typed}
use Rattle.p21_spec_schema.specs.Schema.{Place, Schema}

-- parameters side by side, of which the second ones have another text
abbrev pub HaveOtherAt : List Row → List Row → Place → Type 0
HaveOtherAt rows others place = (p q : Param) × Contains (zip rows others) ((place, p), (place, q)) × (param_text p ≢ param_text q)

-- these are left of both
abbrev pub TellsBoth : OtherValues → List Row → List Row → Type 0
TellsBoth o rows others = TellsRows o.first rows × TellsRows o.second others

-- the bytes that are left of the first
abbrev pub values_size : OtherValues → ℕ
values_size o = left_size o.first

-- this place is handed out, with the values of both
abbrev pub IsOther : Option OtherValue → Row → Row → Type 0
IsOther None row other = ⊥
IsOther (Some found) row other = (place_of found.place ≡ row.0) × IsTextOf found.before.text.now row.1
    × IsTextOf found.after.text.now other.1

-- the next parameters of other texts are handed out, and those behind them are left
abbrev pub HandsOutOther : List Row → List Row → Option OtherValue → OtherValues → Type 0
HandsOutOther [] others None new = Unit {0}
HandsOutOther [] others (Some found) new = ⊥
HandsOutOther (row ∷ rows) [] None new = Unit {0}
HandsOutOther (row ∷ rows) [] (Some found) new = ⊥
HandsOutOther (row ∷ rows) (other ∷ others) result new =
    ((param_text row.1 ≡ param_text other.1) × HandsOutOther rows others result new) ⊎
    ((param_text row.1 ≢ param_text other.1) × IsOther result row other × TellsBoth new rows others)

-- the schema whose entities declare them
abbrev pub values_schema : OtherValues → Schema
values_schema o = schema_of o.first

-- the rows of a number stand at one place
abbrev pub HaveOnePlaces : List Row → List Row → Type 0
HaveOnePlaces rows others = map (λ (row : Row). row.0) rows ≡ map (λ (row : Row). row.0) others

-- parameters that stand beside each other are the canonical ones of the values at their place
abbrev pub AreParamsAt : Schema → Typed → Typed → List Row → List Row → Type 0
AreParamsAt s x y rows others = (place : Place) (p q : Param) → Contains (zip rows others) ((place, p), (place, q))
    → IsOneParamAt s x place p × IsOneParamAt s y place q

-- the attributes of both instances are left, beside each other at one place, and texts differ at a place exactly where the instances have
-- different values there
pub record TellsDifferences {s : Schema} {n m : ℕ} {record_ other : Record} {line text : List ℕ} (first : IsInstanceText s n record_ line)
    (second : IsInstanceText s m other text) (values : OtherValues) : Type 0 where
  pub rows : List Row
  pub others : List Row
  pub tells : TellsBoth values rows others
  pub beside : HaveOnePlaces rows others
  pub differ : (place : Place) → HaveOtherAt rows others place ↔ HasOtherValue first.canonical_meaning second.canonical_meaning place
  pub params : AreParamsAt s first.canonical_meaning second.canonical_meaning rows others
