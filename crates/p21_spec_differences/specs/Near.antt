-- When the values of two instances at a place are within a tolerance: by the canonical parameters that stand for them.
use Rattle.std.specs.Prelude.{◌≡◌, Option, None, Some}
use Rattle.p21_spec_exchange.specs.Number.{Ratio}
use Rattle.p21_spec_exchange.specs.Parameter.{Param}
use Rattle.p21_spec_file.specs.Meaning.{HasValueAt, Typed}
use Rattle.p21_spec_file.specs.Reference.{EntitySets}
use Rattle.p21_spec_file.specs.Value.{Value}
use Rattle.p21_spec_laws.specs.ValueLaws.{IsCanonicalFor}
use Rattle.p21_spec_schema.specs.PlaceType.{PlaceType, TypeAt}
use Rattle.p21_spec_schema.specs.Schema.{Place, Schema}
use Rattle.p21_tolerance.specs.NearValues.{AreNearValues}

-- the canonical parameter of the value at the place, whatever the instances of the file
pub record IsParamAt (s : Schema) (x : Typed) (place : Place) (p : Param) : Type 0 where
  pub kinds : EntitySets
  pub at : PlaceType
  pub v : Value
  pub type_at : TypeAt s x.entities place at
  pub has : HasValueAt x place v
  pub canonical : IsCanonicalFor s kinds at v p

-- and no other is
pub record IsOneParamAt (s : Schema) (x : Typed) (place : Place) (p : Param) : Type 0 where
  pub is : IsParamAt s x place p
  pub one : (q : Param) → IsParamAt s x place q → q ≡ p

-- they are the same but for reals within the tolerance, if there is one
abbrev pub AreNearBy : Option Ratio → Param → Param → Type 0
AreNearBy None p q = ⊥
AreNearBy (Some tolerance) p q = AreNearValues tolerance p q

-- the canonical parameters of the values at the place are
abbrev pub IsNearAt : Schema → Option Ratio → Typed → Typed → Place → Type 0
IsNearAt s tolerance x y place = (p q : Param) × IsParamAt s x place p × IsParamAt s y place q × AreNearBy tolerance p q
