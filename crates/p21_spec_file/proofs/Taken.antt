-- A parameter that fits a type is of a kind that the type takes, and what stands inside it fits the type that it stands at.
use Rattle.std.specs.Prelude.{◌≡◌, ℕ, suc, ◌+◌, Bool, true, List, length, Option, Some, Contains, refl}
use Rattle.std.proofs.Common.{inl, inr, ap, sym, subst, ◌∙◌}
use Rattle.p21_spec_file.specs.Fits.{Fits, IsWithinBounds, a_whole, a_real, a_number, a_whole_number, a_boolean, a_logical, a_text, a_binary, an_instance, as_underlying, an_item, a_chosen_instance, a_chosen_type, an_array, a_list, a_set, a_bag, FitEach, none_left, fits_next, empty_next}
use Rattle.p21_spec_file.specs.BrokenValue.{IsLeftOut}
use Rattle.p21_spec_exchange.specs.Parameter as parameter
use Rattle.p21_spec_exchange.specs.Parameter.{Param, Params, key_of, listed}
use Rattle.p21_spec_file.specs.ParameterKind.{TakesKind, takes_whole, takes_real, takes_number, takes_whole_number, takes_boolean, takes_logical, takes_text, takes_binary, takes_instance, takes_underlying, takes_item, takes_chosen_instance, takes_chosen_type, takes_array, takes_list, takes_set, takes_bag, AllowsCount, element_type, IsUnique}
use Rattle.p21_spec_file.specs.Reference.{EntitySets}
use Rattle.p21_spec_file.specs.SameValue.{AreDistinct}
use Rattle.p21_spec_schema.specs.Schema as schema
use Rattle.p21_spec_schema.specs.Schema.{Schema, TypeUse, type_member, alias, items, kind_of, TypeNamed}
use Rattle.p21_spec_schema.specs.Select.{Offers}
use Rattle.p21_spec_file.specs.Value.{Value, Values, count}
use Rattle.p21_spec_schema.specs.WellFormed.{HasDistinctTypes}
use Rattle.p21_spec_basics.proofs.Members.{Contains-none, Contains-cases}
use Rattle.p21_spec_file.proofs.OneValue.{alias_offers_nothing}

-- a parameter that fits a type is of a kind that it takes
pub Fits-takes : (s : Schema) (kinds : EntitySets) (type : TypeUse) (p : Param) (v : Value) → Fits s kinds type p v → TakesKind s type p
Fits-takes s kinds type p v (a_whole z) = takes_whole z
Fits-takes s kinds type p v (a_real d) = takes_real d
Fits-takes s kinds type p v (a_number d) = takes_number d
Fits-takes s kinds type p v (a_whole_number z d reduced range same) = takes_whole_number z
Fits-takes s kinds type p v (a_boolean word among) = takes_boolean word
Fits-takes s kinds type p v (a_logical word among) = takes_logical word
Fits-takes s kinds type p v (a_text width chars within) = takes_text width chars
Fits-takes s kinds type p v (a_binary width bs within) = takes_binary width bs
Fits-takes s kinds type p v (an_instance e n served) = takes_instance e n
Fits-takes s kinds type p v (as_underlying t under _ _ is fit) = takes_underlying t under p is (Fits-takes s kinds under p v fit)
Fits-takes s kinds type p v (an_item t words word is among) = takes_item t words word is
Fits-takes s kinds type p v (a_chosen_instance t n served) = takes_chosen_instance t served.2.0 n served.2.1
Fits-takes s kinds type p v (a_chosen_type t u name q x offers named fit) = takes_chosen_type t u name q offers named
Fits-takes s kinds type p v (an_array low high optional unique element ps vs each counted distinct) = takes_array low high optional unique element ps
Fits-takes s kinds type p v (a_list low high unique element ps vs each bounded distinct) = takes_list low high unique element ps
Fits-takes s kinds type p v (a_set low high element ps vs each bounded distinct) = takes_set low high element ps
Fits-takes s kinds type p v (a_bag low high element ps vs each bounded) = takes_bag low high element ps

-- each element fits, empty places apart
pub each-fits : (s : Schema) (kinds : EntitySets) (optional : Bool) (type : TypeUse) (ps : Params) (vs : Values) (p : Param) → FitEach s kinds optional type ps vs → Contains (listed ps) p → ¬ IsLeftOut optional p → (v : Value) × Fits s kinds type p v
each-fits s kinds optional type ps vs p (none_left _ _) among wanted = absurd (Contains-none p among)
each-fits s kinds optional type ps vs p (fits_next _ _ q v qs vs_ fit each) among wanted = elim (Contains-cases q (listed qs) p among) [
  | inl h ↦ let P : Param → Type 0 = λ x. Fits s kinds type x v in (v, subst P h fit)
  | inr h ↦ each-fits s kinds optional type qs vs_ p each h wanted
]
each-fits s kinds optional type ps vs p (empty_next _ qs vs_ each) among wanted = elim (Contains-cases parameter.dollar (listed qs) p among) [
  | inl h ↦ absurd (wanted (refl, sym h))
  | inr h ↦ each-fits s kinds true type qs vs_ p each h wanted
]

-- there are as many values as elements
each-count : (s : Schema) (kinds : EntitySets) (optional : Bool) (type : TypeUse) (ps : Params) (vs : Values) → FitEach s kinds optional type ps vs → count vs ≡ length (listed ps)
each-count s kinds optional type ps vs (none_left _ _) = refl
each-count s kinds optional type ps vs (fits_next _ _ q v qs vs_ fit each) = ap suc (each-count s kinds optional type qs vs_ each)
each-count s kinds optional type ps vs (empty_next _ qs vs_ each) = ap suc (each-count s kinds true type qs vs_ each)

-- what a list is that fits an aggregate
pub record ElementsFit (s : Schema) (kinds : EntitySets) (aggregate : TypeUse) (optional : Bool) (type : TypeUse) (ps : Params) : Type 0 where
  pub values : Values
  pub each : FitEach s kinds optional type ps values
  pub allowed : AllowsCount aggregate (length (listed ps))
  pub distinct : IsUnique aggregate → AreDistinct values

each-same : (s : Schema) (kinds : EntitySets) (o optional : Bool) (t type : TypeUse) (ps : Params) (vs : Values) → ◌≡◌ {A = Option (Bool × TypeUse)} (Some (o, t)) (Some (optional, type)) → FitEach s kinds o t ps vs → FitEach s kinds optional type ps vs
each-same s kinds o optional t type ps vs same each =
    let pair : ◌≡◌ {A = Bool × TypeUse} (o, t) (optional, type) = cc in
    let same_optional : o ≡ optional = ap (λ (x : Bool × TypeUse). x.0) pair in
    let same_type : t ≡ type = ap (λ (x : Bool × TypeUse). x.1) pair in
    let P : Bool → Type 0 = λ b. FitEach s kinds b t ps vs in
    let Q : TypeUse → Type 0 = λ u. FitEach s kinds optional u ps vs in
    subst Q same_type (subst P same_optional each)

pub elements-fit : (s : Schema) (kinds : EntitySets) (aggregate : TypeUse) (optional : Bool) (type : TypeUse) (ps : Params) (v : Value) → element_type aggregate ≡ Some (optional, type) → Fits s kinds aggregate (parameter.list ps) v → ElementsFit s kinds aggregate optional type ps
elements-fit s kinds aggregate optional type ps v is (as_underlying t under _ _ kind fit) = cc
elements-fit s kinds aggregate optional type ps v is (an_array low high o unique t _ vs each counted distinct) = record {
  values = vs;
  each = each-same s kinds o optional t type ps vs is each;
  allowed = ap (λ n. n + low) (sym (each-count s kinds o t ps vs each)) ∙ counted;
  distinct = distinct;
}
elements-fit s kinds aggregate optional type ps v is (a_list low high unique t _ vs each bounded distinct) = record {
  values = vs;
  each = each-same s kinds _ optional t type ps vs is each;
  allowed = subst (IsWithinBounds low high) (each-count s kinds _ t ps vs each) bounded;
  distinct = distinct;
}
elements-fit s kinds aggregate optional type ps v is (a_set low high t _ vs each bounded distinct) = record {
  values = vs;
  each = each-same s kinds _ optional t type ps vs is each;
  allowed = subst (IsWithinBounds low high) (each-count s kinds _ t ps vs each) bounded;
  distinct = λ unique. distinct;
}
elements-fit s kinds aggregate optional type ps v is (a_bag low high t _ vs each bounded) = record {
  values = vs;
  each = each-same s kinds _ optional t type ps vs is each;
  allowed = subst (IsWithinBounds low high) (each-count s kinds _ t ps vs each) bounded;
  distinct = λ unique. absurd unique;
}

-- so it fits the underlying type
pub underlying-fits : (s : Schema) (kinds : EntitySets) (t : ℕ) (type : TypeUse) (p : Param) (v : Value) → kind_of s t ≡ Some (alias type) → Fits s kinds (schema.defined t) p v → Fits s kinds type p v
underlying-fits s kinds t type p v is (as_underlying _ under _ _ is_ fit) =
    let same : under ≡ type = (let h : Some (alias under) ≡ Some (alias type) = sym is_ ∙ is in cc) in
    let P : TypeUse → Type 0 = λ u. Fits s kinds u p v in subst P same fit
underlying-fits s kinds t type p v is (an_item _ words word is_ among) = let h : Some (alias type) ≡ Some (items words) = sym is ∙ is_ in cc
underlying-fits s kinds t type p v is (a_chosen_instance _ n served) = absurd (alias_offers_nothing s t type (schema.entity_member served.2.0) is served.2.1)
underlying-fits s kinds t type p v is (a_chosen_type _ u name q w offers named fit) = absurd (alias_offers_nothing s t type (type_member u) is offers)

-- and the value of a typed parameter the type that its keyword names
pub chosen-fits : (s : Schema) (kinds : EntitySets) → HasDistinctTypes s → (t u : ℕ) (name : List ℕ) (p : Param) (v : Value) → Offers s t (type_member u) → TypeNamed s u name → Fits s kinds (schema.defined t) (parameter.typed (key_of name) p) v → (w : Value) × Fits s kinds (schema.defined u) p w
chosen-fits s kinds distinct t u name p v offers named (as_underlying _ under _ _ is fit) = absurd (alias_offers_nothing s t under (type_member u) is offers)
chosen-fits s kinds distinct t u name p v offers named (a_chosen_type _ other _ _ w offers_ named_ fit) =
    let same : other ≡ u = distinct other u name named_ named in
    let P : ℕ → Type 0 = λ x. Fits s kinds (schema.defined x) p w in (w, subst P same fit)
