-- Values of a type, as parameters stand for them whose tokens have spellings; what of a type counts for texts.
use Rattle.std.specs.Prelude.{◌≡◌, ℕ, ℤ, Bool, true, false, List, [], ◌∷◌, ◌++◌, Option, Some}
use Rattle.std.specs.List.{AllByRecursion as Each}
use Rattle.p21_spec_file.specs.Fits.{Fits, a_whole, a_real, a_number, a_whole_number, a_boolean, a_logical, a_text, a_binary, an_instance, as_underlying, an_item, a_chosen_instance, a_chosen_type, an_array, a_list, a_set, a_bag, FitEach, none_left, fits_next, empty_next}
use Rattle.p21_spec_exchange.specs.Number.{Decimal}
use Rattle.p21_spec_exchange.specs.Parameter.{Param, Params, no_params, param, param_tokens, params_tokens, more_tokens}
use Rattle.p21_spec_file.specs.Reference.{EntitySets}
use Rattle.p21_spec_file.specs.SameValue.{AreDistinct}
use Rattle.p21_spec_schema.specs.Schema as schema
use Rattle.p21_spec_schema.specs.Schema.{Schema, TypeUse, Member, Width, alias, items, kind_of, TypeNamed}
use Rattle.p21_spec_schema.specs.Select.{Offers, offered, offered_within, IsSelect}
use Rattle.p21_spec_exchange.specs.Spelling.{spelling}
use Rattle.p21_spec_exchange.specs.Token as token
use Rattle.p21_spec_exchange.specs.Token.{IsSpelled}
use Rattle.p21_spec_file.specs.Value.{Value, whole, real, number, text, bits, item, reference, missing, list, array, set, bag, typed, Values, no_values, value}
use Rattle.p21_spec_exchange.proofs.RealSpellings.{real_spells}
use Rattle.p21_spec_basics.proofs.Members.{Each-front, Each-back}
use Rattle.p21_spec_laws.specs.Written.{IsWritten}

mutual
  pub data OfType (s : Schema) : TypeUse → Value → Type 0 where
    of_whole : (z : ℤ) → OfType s schema.whole (whole z)
    of_real : (d : Decimal) → IsSpelled (token.real d) → OfType s schema.real (real d)
    of_number : (d : Decimal) → IsSpelled (token.real d) → OfType s schema.number (number d)
    of_boolean : (word : List ℕ) → IsSpelled (token.item word) → OfType s schema.boolean (item word)
    of_logical : (word : List ℕ) → IsSpelled (token.item word) → OfType s schema.logical (item word)
    of_text : (width : Option Width) (chars : List ℕ) → IsSpelled (token.text chars) → OfType s (schema.text width) (text chars)
    of_binary : (width : Option Width) (bs : List Bool) → OfType s (schema.bits width) (bits bs)
    of_entity : (e n : ℕ) → IsSpelled (token.name n) → OfType s (schema.entity e) (reference n)
    of_alias : (t : ℕ) (type : TypeUse) (v : Value) → kind_of s t ≡ Some (alias type) → OfType s type v → OfType s (schema.defined t) v
    of_items : (t : ℕ) (words : List (List ℕ)) (word : List ℕ) → kind_of s t ≡ Some (items words) → IsSpelled (token.item word) → OfType s (schema.defined t) (item word)
    of_chosen_instance : (t n : ℕ) → IsSelect s t → IsSpelled (token.name n) → OfType s (schema.defined t) (reference n)
    of_chosen_type : (t u : ℕ) (name : List ℕ) (v : Value) → IsSelect s t → TypeNamed s u name → IsSpelled (token.keyword name) → OfType s (schema.defined u) v → OfType s (schema.defined t) (typed u v)
    of_array : (low high : ℕ) (optional unique : Bool) (type : TypeUse) (vs : Values) → EachOf s optional type vs → OfType s (schema.array low high optional unique type) (array vs)
    of_list : (low : ℕ) (high : Option ℕ) (unique : Bool) (type : TypeUse) (vs : Values) → EachOf s false type vs → OfType s (schema.list low high unique type) (list vs)
    of_set : (low : ℕ) (high : Option ℕ) (type : TypeUse) (vs : Values) → EachOf s false type vs → AreDistinct vs → OfType s (schema.set low high type) (set vs)
    of_bag : (low : ℕ) (high : Option ℕ) (type : TypeUse) (vs : Values) → EachOf s false type vs → OfType s (schema.bag low high type) (bag vs)

  -- each element is, or a place is empty where that is allowed
  pub data EachOf (s : Schema) : Bool → TypeUse → Values → Type 0 where
    of_none : (optional : Bool) (type : TypeUse) → EachOf s optional type no_values
    of_next : (optional : Bool) (type : TypeUse) (v : Value) (vs : Values) → OfType s type v → EachOf s optional type vs → EachOf s optional type (value v vs)
    of_empty : (type : TypeUse) (vs : Values) → EachOf s true type vs → EachOf s true type (value missing vs)

-- each of the parameters is written
abbrev pub AreWritten : Params → Type 0
AreWritten no_params = Unit {0}
AreWritten (param p ps) = IsWritten p × AreWritten ps

more-written : (ps : Params) → Each IsSpelled (more_tokens ps) → AreWritten ps
more-written no_params each = tt
more-written (param p ps) each = (Each-front IsSpelled (param_tokens p) (more_tokens ps) each.1, more-written ps (Each-back IsSpelled (param_tokens p) (more_tokens ps) each.1))

pub params-written : (ps : Params) → Each IsSpelled (params_tokens ps) → AreWritten ps
params-written no_params each = tt
params-written (param p ps) each = (Each-front IsSpelled (param_tokens p) (more_tokens ps) each, more-written ps (Each-back IsSpelled (param_tokens p) (more_tokens ps) each))

list-written : (ps : Params) → Each IsSpelled (params_tokens ps ++ (token.right ∷ [])) → AreWritten ps
list-written ps each = params-written ps (Each-front IsSpelled (params_tokens ps) (token.right ∷ []) each)

-- what offers something is a select
pub offers-select : (s : Schema) (t : ℕ) (m : Member) → Offers s t m → IsSelect s t
offers-select s t m (offered _ members _ is _ _) = (members, is)
offers-select s t m (offered_within _ _ members _ is _ _) = (members, is)

mutual
  pub fits-of : (s : Schema) (kinds : EntitySets) (type : TypeUse) (p : Param) (v : Value) → Fits s kinds type p v → IsWritten p → OfType s type v
  fits-of s kinds type p v (a_whole z) written = of_whole z
  fits-of s kinds type p v (a_real d) written = of_real d written.0
  fits-of s kinds type p v (a_number d) written = of_number d written.0
  fits-of s kinds type p v (a_whole_number z d reduced range same) written = of_number d (spelling (token.real d), real_spells d reduced range)
  fits-of s kinds type p v (a_boolean word _) written = of_boolean word written.0
  fits-of s kinds type p v (a_logical word _) written = of_logical word written.0
  fits-of s kinds type p v (a_text width chars _) written = of_text width chars written.0
  fits-of s kinds type p v (a_binary width bs _) written = of_binary width bs
  fits-of s kinds type p v (an_instance e n _) written = of_entity e n written.0
  fits-of s kinds type p v (as_underlying t under _ _ is fit) written = of_alias t under v is (fits-of s kinds under p v fit written)
  fits-of s kinds type p v (an_item t words word is _) written = of_items t words word is written.0
  fits-of s kinds type p v (a_chosen_instance t n served) written = of_chosen_instance t n (offers-select s t (schema.entity_member served.2.0) served.2.1) written.0
  fits-of s kinds type p v (a_chosen_type t u name q x offers named fit) written =
      of_chosen_type t u name x (offers-select s t (schema.type_member u) offers) named written.0 (fits-of s kinds (schema.defined u) q x fit (Each-front IsSpelled (param_tokens q) (token.right ∷ []) written.1.1))
  fits-of s kinds type p v (an_array low high optional unique element ps vs each _ _) written = of_array low high optional unique element vs (fit_each-of s kinds optional element ps vs each (list-written ps written.1))
  fits-of s kinds type p v (a_list low high unique element ps vs each _ _) written = of_list low high unique element vs (fit_each-of s kinds false element ps vs each (list-written ps written.1))
  fits-of s kinds type p v (a_set low high element ps vs each _ distinct) written = of_set low high element vs (fit_each-of s kinds false element ps vs each (list-written ps written.1)) distinct
  fits-of s kinds type p v (a_bag low high element ps vs each _) written = of_bag low high element vs (fit_each-of s kinds false element ps vs each (list-written ps written.1))

  pub fit_each-of : (s : Schema) (kinds : EntitySets) (optional : Bool) (type : TypeUse) (ps : Params) (vs : Values) → FitEach s kinds optional type ps vs → AreWritten ps → EachOf s optional type vs
  fit_each-of s kinds optional type ps vs (none_left _ _) written = of_none optional type
  fit_each-of s kinds optional type ps vs (fits_next _ _ p v ps_ vs_ fit each) written = of_next optional type v vs_ (fits-of s kinds type p v fit written.0) (fit_each-of s kinds optional type ps_ vs_ each written.1)
  fit_each-of s kinds optional type ps vs (empty_next _ ps_ vs_ each) written = of_empty type vs_ (fit_each-of s kinds true type ps_ vs_ each written.1)

-- no value of a type is missing
pub missing-of_none : (s : Schema) (type : TypeUse) (v : Value) → OfType s type v → v ≡ missing → ⊥
missing-of_none s type v (of_whole z) is = cc
missing-of_none s type v (of_real d _) is = cc
missing-of_none s type v (of_number d _) is = cc
missing-of_none s type v (of_boolean word _) is = cc
missing-of_none s type v (of_logical word _) is = cc
missing-of_none s type v (of_text _ chars _) is = cc
missing-of_none s type v (of_binary _ bs) is = cc
missing-of_none s type v (of_entity _ n _) is = cc
missing-of_none s type v (of_alias _ under _ _ of) is = missing-of_none s under v of is
missing-of_none s type v (of_items _ _ word _ _) is = cc
missing-of_none s type v (of_chosen_instance _ n _ _) is = cc
missing-of_none s type v (of_chosen_type _ u name x _ _ _ _) is = cc
missing-of_none s type v (of_array _ _ _ _ _ vs _) is = cc
missing-of_none s type v (of_list _ _ _ _ vs _) is = cc
missing-of_none s type v (of_set _ _ _ vs _ _) is = cc
missing-of_none s type v (of_bag _ _ _ vs _) is = cc
