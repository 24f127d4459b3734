-- Each value of a type has a canonical parameter: one that fits, for a value that is the same.
use Rattle.std.specs.Prelude.{◌≡◌, ℕ, suc, ◌+◌, Bool, true, false, List, [], ◌∷◌, map, if◌then◌else◌, refl}
use Rattle.std.specs.List.{AllByRecursion as Each}
use Rattle.std.proofs.Common.{ap, sym, subst, ◌∙◌}
use Rattle.p21_spec_file.proofs.Sameness.{SamePaired-symmetric, Same-reflexive}
use Rattle.p21_spec_file.specs.CanonicalRecord.{IsCanonicalParam, AreCanonicalParams, AreTextsRising}
use Rattle.p21_spec_exchange.specs.CanonicalText.{param_text, param_texts}
use Rattle.p21_spec_file.specs.Fits.{Fits, a_whole, a_real, a_number, a_whole_number, a_boolean, a_logical, a_text, a_binary, an_instance, as_underlying, an_item, a_chosen_instance, a_chosen_type, an_array, a_list, a_set, a_bag, FitEach, none_left, fits_next, empty_next, IsWithinBounds}
use Rattle.p21_spec_exchange.specs.Parameter as parameter
use Rattle.p21_spec_exchange.specs.Parameter.{Param, Params, key_of, params_of}
use Rattle.p21_spec_file.specs.Reference.{EntitySets}
use Rattle.p21_spec_file.specs.SameValue.{Same, same_lists, same_arrays, same_sets, same_bags, same_typed, SameInOrder, both_end, both_next, SamePaired, both_empty, paired, Without, without_first, without_later}
use Rattle.p21_spec_schema.specs.Schema as schema
use Rattle.p21_spec_schema.specs.Schema.{Schema, TypeUse}
use Rattle.p21_spec_file.specs.Value.{Value, whole, real, number, text, bits, item, reference, derived, missing, list, array, set, bag, typed, Values, no_values, value, count}
use Rattle.p21_spec_laws.proofs.CanonicalParam.{canonical_param, canonical_params, sort_params, insert_param, sort-params_texts, value_text-is, canonical-written, texts-of}
use Rattle.p21_spec_laws.proofs.CanonicalValue.{named-is}
use Rattle.p21_spec_laws.proofs.Distinct.{paired-each, distinct-paired, in_order-paired}
use Rattle.p21_spec_laws.proofs.OfType.{fits-of}
use Rattle.p21_spec_laws.proofs.RisingTexts.{sort-rises}
use Rattle.p21_spec_file.specs.Sorting.{is_below, sort_texts}
use Rattle.p21_spec_file.specs.ValueText.{value_text}
use Rattle.p21_spec_laws.specs.Written.{IsWritten}

-- a parameter with a value
abbrev pub Pair : Type 0
Pair = Param × Value

abbrev insert_pair : Pair → List Pair → List Pair
insert_pair x [] = x ∷ []
insert_pair x (y ∷ ys) = if is_below (param_text y.0) (param_text x.0) then y ∷ insert_pair x ys else x ∷ y ∷ ys

abbrev sort_pairs : List Pair → List Pair
sort_pairs [] = []
sort_pairs (x ∷ xs) = insert_pair x (sort_pairs xs)

abbrev params_in : List Pair → List Param
params_in xs = map (λ (x : Pair). x.0) xs

abbrev pub values_in : List Pair → Values
values_in [] = no_values
values_in (x ∷ xs) = value x.1 (values_in xs)

-- the elements of sets and bags in the order of their texts
abbrev mutual
  pub canonical_value : Schema → Value → Value
  canonical_value s (list vs) = list (values_in (canonical_pairs s vs))
  canonical_value s (array vs) = array (values_in (canonical_pairs s vs))
  canonical_value s (set vs) = set (values_in (sort_pairs (canonical_pairs s vs)))
  canonical_value s (bag vs) = bag (values_in (sort_pairs (canonical_pairs s vs)))
  canonical_value s (typed t v) = typed t (canonical_value s v)
  canonical_value s (whole z) = whole z
  canonical_value s (real d) = real d
  canonical_value s (number d) = number d
  canonical_value s (text chars) = text chars
  canonical_value s (bits bs) = bits bs
  canonical_value s (item word) = item word
  canonical_value s (reference n) = reference n
  canonical_value s derived = derived
  canonical_value s missing = missing

  pub canonical_pairs : Schema → Values → List Pair
  canonical_pairs s no_values = []
  canonical_pairs s (value v vs) = (canonical_param s v, canonical_value s v) ∷ canonical_pairs s vs

-- ---- the parameters of the pairs

pairs-params : (s : Schema) (vs : Values) → params_in (canonical_pairs s vs) ≡ canonical_params s vs
pairs-params s no_values = refl
pairs-params s (value v vs) = ap (λ (ps : List Param). canonical_param s v ∷ ps) (pairs-params s vs)

insert-pairs : (x : Pair) (xs : List Pair) → params_in (insert_pair x xs) ≡ insert_param x.0 (params_in xs)
insert-pairs x [] = refl
insert-pairs x (y ∷ ys) = by_test (is_below (param_text y.0) (param_text x.0)) (insert-pairs x ys)
  where
    by_test : (b : Bool) → params_in (insert_pair x ys) ≡ insert_param x.0 (params_in ys)
        → params_in (if b then y ∷ insert_pair x ys else x ∷ y ∷ ys) ≡ (if b then y.0 ∷ insert_param x.0 (params_in ys) else x.0 ∷ y.0 ∷ params_in ys)
    by_test true more = ap (λ (ps : List Param). y.0 ∷ ps) more
    by_test false more = refl

sort-pairs : (xs : List Pair) → params_in (sort_pairs xs) ≡ sort_params (params_in xs)
sort-pairs [] = refl
sort-pairs (x ∷ xs) = insert-pairs x (sort_pairs xs) ∙ ap (insert_param x.0) (sort-pairs xs)

sorted-params : (s : Schema) (vs : Values) → params_in (sort_pairs (canonical_pairs s vs)) ≡ sort_params (canonical_params s vs)
sorted-params s vs = sort-pairs (canonical_pairs s vs) ∙ ap sort_params (pairs-params s vs)

-- what holds of each pair holds of each sorted pair
insert-each : (P : Pair → Type 0) (x : Pair) (xs : List Pair) → P x → Each P xs → Each P (insert_pair x xs)
insert-each P x [] first each = (first, tt)
insert-each P x (y ∷ ys) first each = by_test (is_below (param_text y.0) (param_text x.0)) (insert-each P x ys first each.1)
  where
    by_test : (b : Bool) → Each P (insert_pair x ys) → Each P (if b then y ∷ insert_pair x ys else x ∷ y ∷ ys)
    by_test true more = (each.0, more)
    by_test false more = (first, each)

sort-each : (P : Pair → Type 0) (xs : List Pair) → Each P xs → Each P (sort_pairs xs)
sort-each P [] each = tt
sort-each P (x ∷ xs) each = insert-each P x (sort_pairs xs) each.0 (sort-each P xs each.1)

insert-count : (x : Pair) (xs : List Pair) → count (values_in (insert_pair x xs)) ≡ suc (count (values_in xs))
insert-count x [] = refl
insert-count x (y ∷ ys) = by_test (is_below (param_text y.0) (param_text x.0)) (insert-count x ys)
  where
    by_test : (b : Bool) → count (values_in (insert_pair x ys)) ≡ suc (count (values_in ys)) → count (values_in (if b then y ∷ insert_pair x ys else x ∷ y ∷ ys)) ≡ suc (suc (count (values_in ys)))
    by_test true more = ap suc more
    by_test false more = refl

sort-count : (xs : List Pair) → count (values_in (sort_pairs xs)) ≡ count (values_in xs)
sort-count [] = refl
sort-count (x ∷ xs) = insert-count x (sort_pairs xs) ∙ ap suc (sort-count xs)

pub pairs-count : (s : Schema) (vs : Values) → count (values_in (canonical_pairs s vs)) ≡ count vs
pairs-count s no_values = refl
pairs-count s (value v vs) = ap suc (pairs-count s vs)

sorted-count : (s : Schema) (vs : Values) → count (values_in (sort_pairs (canonical_pairs s vs))) ≡ count vs
sorted-count s vs = sort-count (canonical_pairs s vs) ∙ pairs-count s vs

-- ---- the same value

insert-without : (v : Value) (x : Pair) (xs : List Pair) → Same v x.1 → Without v (values_in (insert_pair x xs)) (values_in xs)
insert-without v x [] same = without_first v x.1 no_values same
insert-without v x (y ∷ ys) same = by_test (is_below (param_text y.0) (param_text x.0)) (insert-without v x ys same)
  where
    by_test : (b : Bool) → Without v (values_in (insert_pair x ys)) (values_in ys) → Without v (values_in (if b then y ∷ insert_pair x ys else x ∷ y ∷ ys)) (value y.1 (values_in ys))
    by_test true more = without_later v y.1 (values_in (insert_pair x ys)) (values_in ys) more
    by_test false more = without_first v x.1 (value y.1 (values_in ys)) same

mutual
  pub canonical-same : (s : Schema) (v : Value) → Same v (canonical_value s v)
  canonical-same s (list vs) = same_lists vs (values_in (canonical_pairs s vs)) (canonical-in_order s vs)
  canonical-same s (array vs) = same_arrays vs (values_in (canonical_pairs s vs)) (canonical-in_order s vs)
  canonical-same s (set vs) =
      let ws : Values = values_in (sort_pairs (canonical_pairs s vs)) in
      let pairs : SamePaired vs ws = canonical-paired s vs in
      same_sets vs ws (paired-each vs ws pairs) (paired-each ws vs (SamePaired-symmetric vs ws pairs))
  canonical-same s (bag vs) = same_bags vs (values_in (sort_pairs (canonical_pairs s vs))) (canonical-paired s vs)
  canonical-same s (typed t v) = same_typed t v (canonical_value s v) (canonical-same s v)
  canonical-same s (whole z) = Same-reflexive (whole z)
  canonical-same s (real d) = Same-reflexive (real d)
  canonical-same s (number d) = Same-reflexive (number d)
  canonical-same s (text chars) = Same-reflexive (text chars)
  canonical-same s (bits bs) = Same-reflexive (bits bs)
  canonical-same s (item word) = Same-reflexive (item word)
  canonical-same s (reference n) = Same-reflexive (reference n)
  canonical-same s derived = Same-reflexive derived
  canonical-same s missing = Same-reflexive missing

  pub canonical-in_order : (s : Schema) (vs : Values) → SameInOrder vs (values_in (canonical_pairs s vs))
  canonical-in_order s no_values = both_end
  canonical-in_order s (value v vs) = both_next v (canonical_value s v) vs (values_in (canonical_pairs s vs)) (canonical-same s v) (canonical-in_order s vs)

  canonical-paired : (s : Schema) (vs : Values) → SamePaired vs (values_in (sort_pairs (canonical_pairs s vs)))
  canonical-paired s no_values = both_empty
  canonical-paired s (value v vs) =
      let rest : List Pair = sort_pairs (canonical_pairs s vs) in
      let first : Pair = (canonical_param s v, canonical_value s v) in
      paired v vs (values_in (insert_pair first rest)) (values_in rest) (insert-without v first rest (canonical-same s v)) (canonical-paired s vs)

-- ---- the canonical parameter is canonical

pairs-canonical : (xs : List Pair) → Each (λ (x : Pair). IsCanonicalParam x.0 x.1) xs → AreCanonicalParams (params_of (params_in xs)) (values_in xs)
pairs-canonical [] each = tt
pairs-canonical (x ∷ xs) each = (each.0, pairs-canonical xs each.1)

sorted-rises : (s : Schema) (vs : Values) → AreTextsRising (param_texts (params_of (sort_params (canonical_params s vs))))
sorted-rises s vs =
    let is : param_texts (params_of (sort_params (canonical_params s vs))) ≡ sort_texts (map param_text (canonical_params s vs)) = texts-of (sort_params (canonical_params s vs)) ∙ sort-params_texts (canonical_params s vs) in
    subst AreTextsRising (sym is) (sort-rises (map param_text (canonical_params s vs)))

in_place : (s : Schema) (vs : Values) → AreCanonicalParams (params_of (params_in (canonical_pairs s vs))) (values_in (canonical_pairs s vs)) → AreCanonicalParams (params_of (canonical_params s vs)) (values_in (canonical_pairs s vs))
in_place s vs are = let P : List Param → Type 0 = λ ps. AreCanonicalParams (params_of ps) (values_in (canonical_pairs s vs)) in subst P (pairs-params s vs) are

in_sorted_place : (s : Schema) (vs : Values) → AreCanonicalParams (params_of (params_in (sort_pairs (canonical_pairs s vs)))) (values_in (sort_pairs (canonical_pairs s vs)))
    → AreCanonicalParams (params_of (sort_params (canonical_params s vs))) (values_in (sort_pairs (canonical_pairs s vs)))
in_sorted_place s vs are = let P : List Param → Type 0 = λ ps. AreCanonicalParams (params_of ps) (values_in (sort_pairs (canonical_pairs s vs))) in subst P (sorted-params s vs) are

mutual
  pub canonical-is : (s : Schema) (v : Value) → IsCanonicalParam (canonical_param s v) (canonical_value s v)
  canonical-is s (list vs) = (in_place s vs (pairs-canonical (canonical_pairs s vs) (canonical-each s vs)), λ none. absurd none)
  canonical-is s (array vs) = (in_place s vs (pairs-canonical (canonical_pairs s vs) (canonical-each s vs)), λ none. absurd none)
  canonical-is s (set vs) = (in_sorted_place s vs (pairs-canonical (sort_pairs (canonical_pairs s vs)) (sort-each (λ (x : Pair). IsCanonicalParam x.0 x.1) (canonical_pairs s vs) (canonical-each s vs))), λ _. sorted-rises s vs)
  canonical-is s (bag vs) = (in_sorted_place s vs (pairs-canonical (sort_pairs (canonical_pairs s vs)) (sort-each (λ (x : Pair). IsCanonicalParam x.0 x.1) (canonical_pairs s vs) (canonical-each s vs))), λ _. sorted-rises s vs)
  canonical-is s (typed t v) = canonical-is s v
  canonical-is s (whole z) = λ h. h
  canonical-is s (real d) = tt
  canonical-is s (number d) = tt
  canonical-is s (text chars) = tt
  canonical-is s (bits bs) = tt
  canonical-is s (item word) = tt
  canonical-is s (reference n) = tt
  canonical-is s derived = tt
  canonical-is s missing = tt

  canonical-each : (s : Schema) (vs : Values) → Each (λ (x : Pair). IsCanonicalParam x.0 x.1) (canonical_pairs s vs)
  canonical-each s no_values = tt
  canonical-each s (value v vs) = (canonical-is s v, canonical-each s vs)

-- ---- the canonical parameter fits

pairs-fit : (s : Schema) (kinds : EntitySets) (type : TypeUse) (xs : List Pair) → Each (λ (x : Pair). Fits s kinds type x.0 x.1) xs → FitEach s kinds false type (params_of (params_in xs)) (values_in xs)
pairs-fit s kinds type [] each = none_left false type
pairs-fit s kinds type (x ∷ xs) each = fits_next false type x.0 x.1 (params_of (params_in xs)) (values_in xs) each.0 (pairs-fit s kinds type xs each.1)

sorted-fit : (s : Schema) (kinds : EntitySets) (type : TypeUse) (vs : Values) → Each (λ (x : Pair). Fits s kinds type x.0 x.1) (canonical_pairs s vs)
    → FitEach s kinds false type (params_of (sort_params (canonical_params s vs))) (values_in (sort_pairs (canonical_pairs s vs)))
sorted-fit s kinds type vs each =
    let P : List Param → Type 0 = λ qs. FitEach s kinds false type (params_of qs) (values_in (sort_pairs (canonical_pairs s vs))) in
    subst P (sorted-params s vs) (pairs-fit s kinds type (sort_pairs (canonical_pairs s vs)) (sort-each (λ (x : Pair). Fits s kinds type x.0 x.1) (canonical_pairs s vs) each))

mutual
  pub canonical-fits : (s : Schema) (kinds : EntitySets) (type : TypeUse) (p : Param) (v : Value) → Fits s kinds type p v → Fits s kinds type (canonical_param s v) (canonical_value s v)
  canonical-fits s kinds type p v (a_whole z) = a_whole z
  canonical-fits s kinds type p v (a_real d) = a_real d
  canonical-fits s kinds type p v (a_number d) = a_number d
  canonical-fits s kinds type p v (a_whole_number z d _ _ _) = a_number d
  canonical-fits s kinds type p v (a_boolean word among) = a_boolean word among
  canonical-fits s kinds type p v (a_logical word among) = a_logical word among
  canonical-fits s kinds type p v (a_text width chars within) = a_text width chars within
  canonical-fits s kinds type p v (a_binary width bs within) = a_binary width bs within
  canonical-fits s kinds type p v (an_instance e n served) = an_instance e n served
  canonical-fits s kinds type p v (as_underlying t under q x is fit) = as_underlying t under (canonical_param s v) (canonical_value s v) is (canonical-fits s kinds under p v fit)
  canonical-fits s kinds type p v (an_item t words word is among) = an_item t words word is among
  canonical-fits s kinds type p v (a_chosen_instance t n served) = a_chosen_instance t n served
  canonical-fits s kinds type p v (a_chosen_type t u name q x offers named fit) =
      let P : List ℕ → Type 0 = λ word. Fits s kinds (schema.defined t) (parameter.typed (key_of word) (canonical_param s x)) (typed u (canonical_value s x)) in
      subst P (sym (named-is s u name named)) (a_chosen_type t u name (canonical_param s x) (canonical_value s x) offers named (canonical-fits s kinds (schema.defined u) q x fit))
  canonical-fits s kinds type p v (an_array low high optional unique element ps vs each counted distinct) =
      an_array low high optional unique element (params_of (canonical_params s vs)) (values_in (canonical_pairs s vs)) (canonical-fit_each s kinds optional element ps vs each) (ap (λ (n : ℕ). n + low) (pairs-count s vs) ∙ counted)
      (λ is. distinct-paired vs (values_in (canonical_pairs s vs)) (in_order-paired vs (values_in (canonical_pairs s vs)) (canonical-in_order s vs)) (distinct is))
  canonical-fits s kinds type p v (a_list low high unique element ps vs each bounded distinct) =
      a_list low high unique element (params_of (canonical_params s vs)) (values_in (canonical_pairs s vs)) (canonical-fit_each s kinds false element ps vs each) (subst (IsWithinBounds low high) (sym (pairs-count s vs)) bounded)
      (λ is. distinct-paired vs (values_in (canonical_pairs s vs)) (in_order-paired vs (values_in (canonical_pairs s vs)) (canonical-in_order s vs)) (distinct is))
  canonical-fits s kinds type p v (a_set low high element ps vs each bounded distinct) =
      a_set low high element (params_of (sort_params (canonical_params s vs))) (values_in (sort_pairs (canonical_pairs s vs))) (sorted-fit s kinds element vs (canonical-fit_pairs s kinds element ps vs each)) (subst (IsWithinBounds low high) (sym (sorted-count s vs)) bounded)
      (distinct-paired vs (values_in (sort_pairs (canonical_pairs s vs))) (canonical-paired s vs) distinct)
  canonical-fits s kinds type p v (a_bag low high element ps vs each bounded) =
      a_bag low high element (params_of (sort_params (canonical_params s vs))) (values_in (sort_pairs (canonical_pairs s vs))) (sorted-fit s kinds element vs (canonical-fit_pairs s kinds element ps vs each)) (subst (IsWithinBounds low high) (sym (sorted-count s vs)) bounded)

  canonical-fit_each : (s : Schema) (kinds : EntitySets) (optional : Bool) (type : TypeUse) (ps : Params) (vs : Values) → FitEach s kinds optional type ps vs → FitEach s kinds optional type (params_of (canonical_params s vs)) (values_in (canonical_pairs s vs))
  canonical-fit_each s kinds optional type ps vs (none_left _ _) = none_left optional type
  canonical-fit_each s kinds optional type ps vs (fits_next _ _ p v ps_ vs_ fit each) =
      fits_next optional type (canonical_param s v) (canonical_value s v) (params_of (canonical_params s vs_)) (values_in (canonical_pairs s vs_)) (canonical-fits s kinds type p v fit) (canonical-fit_each s kinds optional type ps_ vs_ each)
  canonical-fit_each s kinds optional type ps vs (empty_next _ ps_ vs_ each) = empty_next type (params_of (canonical_params s vs_)) (values_in (canonical_pairs s vs_)) (canonical-fit_each s kinds true type ps_ vs_ each)

  canonical-fit_pairs : (s : Schema) (kinds : EntitySets) (type : TypeUse) (ps : Params) (vs : Values) → FitEach s kinds false type ps vs → Each (λ (x : Pair). Fits s kinds type x.0 x.1) (canonical_pairs s vs)
  canonical-fit_pairs s kinds type ps vs (none_left _ _) = tt
  canonical-fit_pairs s kinds type ps vs (fits_next _ _ p v ps_ vs_ fit each) = (canonical-fits s kinds type p v fit, canonical-fit_pairs s kinds type ps_ vs_ each)

-- each value that a parameter stands for has a canonical parameter, with the value's text, that stands for a value that is the same
pub record HasCanonical (s : Schema) (kinds : EntitySets) (type : TypeUse) (p : Param) (v : Value) : Type 0 where
  pub param : Param
  pub value : Value
  pub fit : Fits s kinds type param value
  pub canonical : IsCanonicalParam param value
  pub same : Same v value
  pub text : param_text param ≡ value_text s v
  pub written : IsWritten p → IsWritten param

pub has-canonical : (s : Schema) (kinds : EntitySets) (type : TypeUse) (p : Param) (v : Value) → Fits s kinds type p v → HasCanonical s kinds type p v
has-canonical s kinds type p v fit = record {
  param = canonical_param s v;
  value = canonical_value s v;
  fit = canonical-fits s kinds type p v fit;
  canonical = canonical-is s v;
  same = canonical-same s v;
  text = sym (value_text-is s v);
  written = λ h. canonical-written s type v (fits-of s kinds type p v fit h);
}
