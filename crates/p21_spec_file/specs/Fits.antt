-- The value that a parameter stands for at a type (ISO 10303-21, Mapping of EXPRESS data types; ISO 10303-11, Data
-- types: widths, bounds and UNIQUE).
use Rattle.std.specs.Prelude.{◌≡◌, ℕ, ◌+◌, ◌≤◌, ℤ, Bool, true, false, List, [], ◌∷◌, length, codes, Option, Some, None, Contains, IfSome}
use Rattle.p21_spec_exchange.specs.Number.{Decimal, ratio_of, SameRatio, IsReduced, IsInRange, whole_ratio}
use Rattle.p21_spec_schema.specs.Schema as schema
use Rattle.p21_spec_schema.specs.Schema.{Schema, TypeUse, entity_member, type_member, alias, items, Width, TypeNamed, kind_of}
use Rattle.p21_spec_schema.specs.Select.{Offers}
use Rattle.p21_spec_schema.specs.PlaceType.{PlaceType, derived_place, stored_place}
use Rattle.p21_spec_exchange.specs.Parameter as parameter
use Rattle.p21_spec_exchange.specs.Parameter.{Param, Params, no_params, param, key_of}
use Rattle.p21_spec_file.specs.Value.{Value, whole, real, number, text, bits, item, reference, derived, missing, list, array, set, bag, typed, Values, no_values, value, count}
use Rattle.p21_spec_file.specs.SameValue.{AreDistinct}
use Rattle.p21_spec_file.specs.Reference.{EntitySets, IsServed}

-- at most as many as the width says, and exactly as many where it is FIXED
abbrev pub IsWithinWidth : Option Width → ℕ → Type 0
IsWithinWidth None n = Unit {0}
IsWithinWidth (Some width) n = (n ≤ width.most) × (width.fixed ≡ true → n ≡ width.most)

-- a number of elements within bounds
abbrev pub IsWithinBounds : ℕ → Option ℕ → ℕ → Type 0
IsWithinBounds low high n = (low ≤ n) × IfSome high (λ most. n ≤ most)

-- a condition that UNIQUE makes
abbrev pub IfUnique : Bool → Type 0 → Type 0
IfUnique wanted fact = wanted ≡ true → fact

-- `.T.` and `.F.`
abbrev pub boolean_items : List (List ℕ)
boolean_items = codes "T" ∷ codes "F" ∷ []

-- `.T.`, `.F.` and `.U.`
abbrev pub logical_items : List (List ℕ)
logical_items = codes "T" ∷ codes "F" ∷ codes "U" ∷ []

-- A parameter at a type, and the value that it stands for there. No type takes `$` or `*`
mutual
  pub data Fits (s : Schema) (kinds : EntitySets) : TypeUse → Param → Value → Type 0 where
    a_whole : (z : ℤ) → Fits s kinds schema.whole (parameter.whole z) (whole z)
    a_real : (d : Decimal) → Fits s kinds schema.real (parameter.real d) (real d)
    -- at a NUMBER an INTEGER or REAL token stands for its ratio; that of a REAL token is in range by its spelling
    a_number : (d : Decimal) → Fits s kinds schema.number (parameter.real d) (number d)
    a_whole_number : (z : ℤ) (d : Decimal) → IsReduced d → IsInRange (ratio_of d) → SameRatio (ratio_of d) (whole_ratio z) → Fits s kinds schema.number (parameter.whole z) (number d)
    a_boolean : (word : List ℕ) → Contains boolean_items word → Fits s kinds schema.boolean (parameter.item word) (item word)
    a_logical : (word : List ℕ) → Contains logical_items word → Fits s kinds schema.logical (parameter.item word) (item word)
    a_text : (width : Option Width) (chars : List ℕ) → IsWithinWidth width (length chars) → Fits s kinds (schema.text width) (parameter.text chars) (text chars)
    a_binary : (width : Option Width) (bs : List Bool) → IsWithinWidth width (length bs) → Fits s kinds (schema.bits width) (parameter.bits bs) (bits bs)
    an_instance : (e n : ℕ) → IsServed s kinds (record { target = n; wanted = entity_member e }) → Fits s kinds (schema.entity e) (parameter.name n) (reference n)
    -- a defined type: as its underlying type
    as_underlying : (t : ℕ) (type : TypeUse) (p : Param) (v : Value) → kind_of s t ≡ Some (alias type) → Fits s kinds type p v → Fits s kinds (schema.defined t) p v
    an_item : (t : ℕ) (words : List (List ℕ)) (word : List ℕ) → kind_of s t ≡ Some (items words) → Contains words word → Fits s kinds (schema.defined t) (parameter.item word) (item word)
    -- a select: an instance, or a value with the keyword of its type
    a_chosen_instance : (t n : ℕ) → IsServed s kinds (record { target = n; wanted = type_member t }) → Fits s kinds (schema.defined t) (parameter.name n) (reference n)
    a_chosen_type : (t u : ℕ) (name : List ℕ) (p : Param) (v : Value) → Offers s t (type_member u) → TypeNamed s u name → Fits s kinds (schema.defined u) p v → Fits s kinds (schema.defined t) (parameter.typed (key_of name) p) (typed u v)
    -- an array has an element or an empty place for each index from its lower to its upper bound
    an_array : (low high : ℕ) (optional unique : Bool) (type : TypeUse) (ps : Params) (vs : Values) → FitEach s kinds optional type ps vs → count vs + low ≡ high + 1 → IfUnique unique (AreDistinct vs)
        → Fits s kinds (schema.array low high optional unique type) (parameter.list ps) (array vs)
    a_list : (low : ℕ) (high : Option ℕ) (unique : Bool) (type : TypeUse) (ps : Params) (vs : Values) → FitEach s kinds false type ps vs → IsWithinBounds low high (count vs) → IfUnique unique (AreDistinct vs)
        → Fits s kinds (schema.list low high unique type) (parameter.list ps) (list vs)
    a_set : (low : ℕ) (high : Option ℕ) (type : TypeUse) (ps : Params) (vs : Values) → FitEach s kinds false type ps vs → IsWithinBounds low high (count vs) → AreDistinct vs
        → Fits s kinds (schema.set low high type) (parameter.list ps) (set vs)
    a_bag : (low : ℕ) (high : Option ℕ) (type : TypeUse) (ps : Params) (vs : Values) → FitEach s kinds false type ps vs → IsWithinBounds low high (count vs)
        → Fits s kinds (schema.bag low high type) (parameter.list ps) (bag vs)

  -- each element fits, or is `$` in an ARRAY OF OPTIONAL
  pub data FitEach (s : Schema) (kinds : EntitySets) : Bool → TypeUse → Params → Values → Type 0 where
    none_left : (optional : Bool) (type : TypeUse) → FitEach s kinds optional type no_params no_values
    fits_next : (optional : Bool) (type : TypeUse) (p : Param) (v : Value) (ps : Params) (vs : Values) → Fits s kinds type p v → FitEach s kinds optional type ps vs → FitEach s kinds optional type (param p ps) (value v vs)
    empty_next : (type : TypeUse) (ps : Params) (vs : Values) → FitEach s kinds true type ps vs → FitEach s kinds true type (param parameter.dollar ps) (value missing vs)

-- A parameter at a place: `*` at a derived one, `$` at an OPTIONAL one, else one that fits its type. None fits where no redeclaration decides
pub data FitsAt (s : Schema) (kinds : EntitySets) : PlaceType → Param → Value → Type 0 where
  star : FitsAt s kinds derived_place parameter.star derived
  dollar : (type : TypeUse) → FitsAt s kinds (stored_place true type) parameter.dollar missing
  fits : (optional : Bool) (type : TypeUse) (p : Param) (v : Value) → Fits s kinds type p v → FitsAt s kinds (stored_place optional type) p v
