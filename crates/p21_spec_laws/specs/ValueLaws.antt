-- The laws of values and of their canonical texts.
use Rattle.std.specs.Prelude.{◌≡◌, ◌↔◌}
use Rattle.p21_spec_schema.specs.WellFormed.{IsWellFormed}
use Rattle.p21_spec_laws.specs.Written.{IsWritten}
use Rattle.p21_spec_exchange.specs.CanonicalText.{param_text}
use Rattle.p21_spec_exchange.specs.Parameter.{Param}
use Rattle.p21_spec_file.specs.CanonicalRecord.{IsCanonicalParam}
use Rattle.p21_spec_file.specs.Fits.{Fits, FitsAt}
use Rattle.p21_spec_file.specs.Reference.{EntitySets}
use Rattle.p21_spec_file.specs.SameValue.{Same}
use Rattle.p21_spec_file.specs.Value.{Value}
use Rattle.p21_spec_file.specs.ValueText.{value_text}
use Rattle.p21_spec_schema.specs.PlaceType.{PlaceType}
use Rattle.p21_spec_schema.specs.Schema.{Schema, TypeUse}

-- a parameter stands for one value at a type, whatever the other instances are
abbrev pub OneValue : Type 0
OneValue = (s : Schema) → IsWellFormed s → (kinds others : EntitySets) (type : TypeUse) (p : Param) (v w : Value) → Fits s kinds type p v → Fits s others type p w → v ≡ w

-- and at a place
abbrev pub OneValueAtPlace : Type 0
OneValueAtPlace = (s : Schema) → IsWellFormed s → (kinds others : EntitySets) (at : PlaceType) (p : Param) (v w : Value) → FitsAt s kinds at p v → FitsAt s others at p w → v ≡ w

-- the value stands at the place in some file
abbrev pub IsPossibleAt : Schema → EntitySets → PlaceType → Value → Type 0
IsPossibleAt s kinds at v = (p : Param) × FitsAt s kinds at p v × IsWritten p

-- two values at one place are the same exactly if their texts are equal, whatever the files that they stand in
abbrev pub TextsTellValues : Type 0
TextsTellValues = (s : Schema) → IsWellFormed s → (kinds others : EntitySets) (at : PlaceType) (v w : Value) → IsPossibleAt s kinds at v → IsPossibleAt s others at w → Same v w ↔ (value_text s v ≡ value_text s w)

-- a canonical parameter has the text of its value
abbrev pub CanonicalHasValueText : Type 0
CanonicalHasValueText = (s : Schema) (kinds : EntitySets) (at : PlaceType) (p : Param) (v : Value) → FitsAt s kinds at p v → IsCanonicalParam p v → param_text p ≡ value_text s v

-- the parameter is canonical, and stands there for a value that is the same
pub record IsCanonicalFor (s : Schema) (kinds : EntitySets) (at : PlaceType) (v : Value) (p : Param) : Type 0 where
  pub value : Value
  pub fit : FitsAt s kinds at p value
  pub written : IsWritten p
  pub canonical : IsCanonicalParam p value
  pub same : Same v value

-- each value has one canonical parameter, and one only
abbrev pub OneCanonicalParameter : Type 0
OneCanonicalParameter = (s : Schema) → IsWellFormed s → (kinds : EntitySets) (at : PlaceType) (v : Value) → IsPossibleAt s kinds at v
    → (p : Param) × IsCanonicalFor s kinds at v p × ((q : Param) → IsCanonicalFor s kinds at v q → q ≡ p)
