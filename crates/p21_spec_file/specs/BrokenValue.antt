-- The rules that a parameter may break where it stands, each by the number with which a record is refused that breaks it
-- (this project's own numbers; the rules are those of ISO 10303-21, Mapping of EXPRESS data types, and of ISO 10303-11,
-- Data types).
use Rattle.std.specs.Prelude.{◌≡◌, ◌≢◌, ℕ, ℤ, Bool, true, List, length, Some, Contains}
use Rattle.p21_spec_exchange.specs.Number.{IsInRange, whole_ratio}
use Rattle.p21_spec_exchange.specs.Parameter as parameter
use Rattle.p21_spec_exchange.specs.Parameter.{Param, Params, key_of, listed}
use Rattle.p21_spec_file.specs.Fits.{FitEach}
use Rattle.p21_spec_file.specs.ParameterKind.{TakesKind, HasItems, HasWidth, AllowsCount, element_type, IsUnique}
use Rattle.p21_spec_file.specs.Reference.{EntitySets}
use Rattle.p21_spec_file.specs.SameValue.{AreDistinct}
use Rattle.p21_spec_file.specs.Value.{Values}
use Rattle.p21_spec_schema.specs.PlaceType.{PlaceType, derived_place, stored_place}
use Rattle.p21_spec_schema.specs.Schema as schema
use Rattle.p21_spec_schema.specs.Schema.{Schema, TypeUse, type_member, alias, TypeNamed, kind_of}
use Rattle.p21_spec_schema.specs.Select.{IsSelect, Offers}

-- the type is a select
abbrev pub UsesSelect : Schema → TypeUse → Type 0
UsesSelect s (schema.defined t) = IsSelect s t
UsesSelect s other = ⊥

-- the parameter is neither `$` nor `*`, and the type takes none of its kind
abbrev pub IsOfWrongKind : Schema → TypeUse → Param → Type 0
IsOfWrongKind s type p = (p ≢ parameter.dollar) × (p ≢ parameter.star) × ¬ TakesKind s type p

-- the elements of a list at an aggregate in which no two may be the same stand for values, among some instances, two of
-- which are the same
abbrev pub HasSameElements : Schema → TypeUse → Params → Type 0
HasSameElements s type ps =
    IsUnique type × ((optional : Bool) × (element : TypeUse) × (element_type type ≡ Some (optional, element)) × ((kinds : EntitySets) × (vs : Values) × FitEach s kinds optional element ps vs × ¬ AreDistinct vs))

-- where a value of the type is wanted, the parameter itself breaks the rule of this number
pub data BreaksAt (s : Schema) : TypeUse → Param → ℕ → Type 0 where
  -- an INTEGER token at a NUMBER, whose normalised exponent is out of range
  number_range : (z : ℤ) → ¬ IsInRange (whole_ratio z) → BreaksAt s schema.number (parameter.whole z) 8
  missing : (type : TypeUse) → BreaksAt s type parameter.dollar 46
  star_not_derived : (type : TypeUse) → BreaksAt s type parameter.star 47
  -- of a kind that the type does not take; a select also asks for the keyword of one of its types
  wrong_kind : (type : TypeUse) (p : Param) → IsOfWrongKind s type p → ¬ UsesSelect s type → BreaksAt s type p 49
  select_type : (type : TypeUse) (p : Param) → IsOfWrongKind s type p → UsesSelect s type → BreaksAt s type p 54
  -- more characters or bits than the width of the type, or where it is FIXED another number of them
  wrong_width : (type : TypeUse) (p : Param) → ¬ HasWidth type p → BreaksAt s type p 50
  -- another number of elements than the bounds of the aggregate allow
  out_of_bounds : (type : TypeUse) (ps : Params) → ¬ AllowsCount type (length (listed ps)) → BreaksAt s type (parameter.list ps) 51
  not_distinct : (type : TypeUse) (ps : Params) → HasSameElements s type ps → BreaksAt s type (parameter.list ps) 52
  -- none of the items of a BOOLEAN, a LOGICAL or an enumeration
  unknown_item : (type : TypeUse) (words : List (List ℕ)) (word : List ℕ) → HasItems s type words → ¬ Contains words word → BreaksAt s type (parameter.item word) 53

-- `$` where there may be no value
abbrev pub IsLeftOut : Bool → Param → Type 0
IsLeftOut optional p = (optional ≡ true) × (p ≡ parameter.dollar)

-- The parameter breaks the rule, or something inside it does: it at the underlying type, the value of a typed parameter at
-- the type that its keyword names, or an element at the type of elements, empty places apart
pub data BreaksWithin (s : Schema) (number : ℕ) : TypeUse → Param → Type 0 where
  itself : (type : TypeUse) (p : Param) → BreaksAt s type p number → BreaksWithin s number type p
  in_underlying : (t : ℕ) (type : TypeUse) (p : Param) → kind_of s t ≡ Some (alias type) → BreaksWithin s number type p → BreaksWithin s number (schema.defined t) p
  in_chosen : (t u : ℕ) (name : List ℕ) (p : Param) → Offers s t (type_member u) → TypeNamed s u name → BreaksWithin s number (schema.defined u) p → BreaksWithin s number (schema.defined t) (parameter.typed (key_of name) p)
  in_element : (aggregate : TypeUse) (optional : Bool) (type : TypeUse) (ps : Params) (p : Param) → element_type aggregate ≡ Some (optional, type) → Contains (listed ps) p → ¬ IsLeftOut optional p → BreaksWithin s number type p
      → BreaksWithin s number aggregate (parameter.list ps)

-- at a place: a derived one takes `*` alone; at any other a value of its type is wanted, where it is not left out
pub data BreaksAtPlace (s : Schema) : PlaceType → Param → ℕ → Type 0 where
  derived_not_star : (p : Param) → p ≢ parameter.star → BreaksAtPlace s derived_place p 48
  stored : (optional : Bool) (type : TypeUse) (p : Param) (number : ℕ) → ¬ IsLeftOut optional p → BreaksWithin s number type p → BreaksAtPlace s (stored_place optional type) p number
