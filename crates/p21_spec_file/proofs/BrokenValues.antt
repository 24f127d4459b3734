-- A parameter that breaks a rule where it stands, or holds one that does, fits no type there, whatever the sets of the instances.
use Rattle.std.specs.Prelude.{◌≡◌, ℕ, List, length, Some, Contains, refl}
use Rattle.std.proofs.Common.{arith, sym, subst, ◌∙◌}
use Rattle.p21_spec_exchange.specs.Number.{ratio_of, whole_ratio}
use Rattle.p21_spec_exchange.specs.Parameter as parameter
use Rattle.p21_spec_exchange.specs.Parameter.{Param, Params, listed}
use Rattle.p21_spec_file.specs.BrokenValue.{BreaksAt, number_range, missing, star_not_derived, wrong_kind, select_type, wrong_width, out_of_bounds, not_distinct, unknown_item, BreaksWithin, itself, in_underlying, in_chosen, in_element, BreaksAtPlace, derived_not_star, stored}
use Rattle.p21_spec_file.specs.Fits.{Fits, FitsAt, dollar, fits, a_whole_number, a_boolean, a_logical, a_text, a_binary, an_item, as_underlying, an_array, a_list, a_set, a_bag}
use Rattle.p21_spec_file.specs.ParameterKind.{HasItems, of_boolean, of_logical, of_enumeration, HasWidth, AllowsCount}
use Rattle.p21_spec_file.specs.Reference.{EntitySets}
use Rattle.p21_spec_file.specs.SameValue.{AreDistinct}
use Rattle.p21_spec_file.specs.Value.{Value}
use Rattle.p21_spec_schema.specs.PlaceType.{PlaceType}
use Rattle.p21_spec_schema.specs.Schema as schema
use Rattle.p21_spec_schema.specs.Schema.{Schema, TypeUse, alias, items}
use Rattle.p21_spec_schema.specs.WellFormed.{HasDistinctTypes}
use Rattle.p21_spec_exchange.proofs.Exponents.{in_range_of_same}
use Rattle.p21_spec_exchange.proofs.Ratios.{ratio-positive}
use Rattle.p21_spec_file.proofs.OneValue.{FitEach-one_value, dollar-fits_nothing}
use Rattle.p21_spec_file.proofs.Taken.{Fits-takes, each-fits, elements-fit, underlying-fits, chosen-fits}

star-fits_nothing : (s : Schema) (kinds : EntitySets) (type : TypeUse) (v : Value) → Fits s kinds type parameter.star v → ⊥
star-fits_nothing s kinds type v (as_underlying t under _ _ is fit) = star-fits_nothing s kinds under v fit

width-fits : (s : Schema) (kinds : EntitySets) (type : TypeUse) (p : Param) (v : Value) → Fits s kinds type p v → HasWidth type p
width-fits s kinds type p v (a_text width chars is) = is
width-fits s kinds type p v (a_binary width bs is) = is
width-fits s kinds type p v other = tt

count-fits : (s : Schema) (kinds : EntitySets) (type : TypeUse) (ps : Params) (v : Value) → Fits s kinds type (parameter.list ps) v → AllowsCount type (length (listed ps))
count-fits s kinds type ps v (as_underlying t under _ _ is fit) = tt
count-fits s kinds type ps v (an_array low high optional unique element _ vs each counted distinct) = (elements-fit s kinds type optional element ps v refl (an_array low high optional unique element ps vs each counted distinct)).allowed
count-fits s kinds type ps v (a_list low high unique element _ vs each bounded distinct) = (elements-fit s kinds type _ element ps v refl (a_list low high unique element ps vs each bounded distinct)).allowed
count-fits s kinds type ps v (a_set low high element _ vs each bounded distinct) = (elements-fit s kinds type _ element ps v refl (a_set low high element ps vs each bounded distinct)).allowed
count-fits s kinds type ps v (a_bag low high element _ vs each bounded) = (elements-fit s kinds type _ element ps v refl (a_bag low high element ps vs each bounded)).allowed

item-fits : (s : Schema) (kinds : EntitySets) (type : TypeUse) (words : List (List ℕ)) (word : List ℕ) (v : Value) → HasItems s type words → Fits s kinds type (parameter.item word) v → Contains words word
item-fits s kinds type words word v of_boolean (a_boolean _ among) = among
item-fits s kinds type words word v of_logical (a_logical _ among) = among
item-fits s kinds type words word v (of_enumeration t _ is) (as_underlying _ under _ _ is_ fit) = let h : Some (alias under) ≡ Some (items words) = sym is_ ∙ is in cc
item-fits s kinds type words word v (of_enumeration t _ is) (an_item _ words_ _ is_ among) =
    let same : words_ ≡ words = (let h : Some (items words_) ≡ Some (items words) = sym is_ ∙ is in cc) in
    let P : List (List ℕ) → Type 0 = λ ws. Contains ws word in subst P same among

-- a parameter that breaks a rule at a type does not fit it
pub broken-fits_nothing : (s : Schema) → HasDistinctTypes s → (kinds : EntitySets) (number : ℕ) (type : TypeUse) (p : Param) (v : Value) → BreaksAt s type p number → Fits s kinds type p v → ⊥
broken-fits_nothing s distinct kinds number type p v (number_range z out_of_range) (a_whole_number _ d reduced range same) = out_of_range (in_range_of_same (ratio_of d) (whole_ratio z) (ratio-positive d) (omega arith) same range)
broken-fits_nothing s distinct kinds number type p v (missing _) fit = dollar-fits_nothing s kinds type v fit
broken-fits_nothing s distinct kinds number type p v (star_not_derived _) fit = star-fits_nothing s kinds type v fit
broken-fits_nothing s distinct kinds number type p v (wrong_kind _ _ not_taken no_choice) fit = not_taken.2 (Fits-takes s kinds type p v fit)
broken-fits_nothing s distinct kinds number type p v (select_type _ _ not_taken choice) fit = not_taken.2 (Fits-takes s kinds type p v fit)
broken-fits_nothing s distinct kinds number type p v (wrong_width _ _ other) fit = other (width-fits s kinds type p v fit)
broken-fits_nothing s distinct kinds number type p v (out_of_bounds _ ps other) fit = other (count-fits s kinds type ps v fit)
broken-fits_nothing s distinct kinds number type p v (not_distinct _ ps (unique, (optional, element, element_is, (others, vs, each, same)))) fit =
    let elements = elements-fit s kinds type optional element ps v element_is fit in
    let one : elements.values ≡ vs = FitEach-one_value s kinds others distinct optional element ps elements.values vs elements.each each in
    same (subst AreDistinct one (elements.distinct unique))
broken-fits_nothing s distinct kinds number type p v (unknown_item _ words word has other) fit = other (item-fits s kinds type words word v has fit)

-- nor does one that holds such a parameter
pub within-fits_nothing : (s : Schema) → HasDistinctTypes s → (kinds : EntitySets) (number : ℕ) (type : TypeUse) (p : Param) (v : Value) → BreaksWithin s number type p → Fits s kinds type p v → ⊥
within-fits_nothing s distinct kinds number type p v (itself _ _ broken) fit = broken-fits_nothing s distinct kinds number type p v broken fit
within-fits_nothing s distinct kinds number type p v (in_underlying t under _ is broken) fit = within-fits_nothing s distinct kinds number under p v broken (underlying-fits s kinds t under p v is fit)
within-fits_nothing s distinct kinds number type p v (in_chosen t u name x offers named broken) fit =
    let (w, fit_) = chosen-fits s kinds distinct t u name x v offers named fit in within-fits_nothing s distinct kinds number _ x w broken fit_
within-fits_nothing s distinct kinds number type p v (in_element aggregate optional element ps x is among wanted broken) fit =
    let elements = elements-fit s kinds aggregate optional element ps v is fit in
    let (w, fit_) = each-fits s kinds optional element ps elements.values x elements.each among wanted in
    within-fits_nothing s distinct kinds number element x w broken fit_

-- nor fits one a place at which it breaks a rule
pub place-fits_nothing : (s : Schema) → HasDistinctTypes s → (kinds : EntitySets) (number : ℕ) (at : PlaceType) (p : Param) (v : Value) → BreaksAtPlace s at p number → FitsAt s kinds at p v → ⊥
place-fits_nothing s distinct kinds number at p v (derived_not_star _ other) FitsAt.star = other refl
place-fits_nothing s distinct kinds number at p v (stored optional type _ _ wanted broken) (dollar _) = wanted (refl, refl)
place-fits_nothing s distinct kinds number at p v (stored optional type _ _ wanted broken) (fits _ _ _ _ fit) = within-fits_nothing s distinct kinds number type p v broken fit

-- `$` breaks one rule at each type, and `*` another
dollar-width : (type : TypeUse) → HasWidth type parameter.dollar
dollar-width (schema.text width) = tt
dollar-width (schema.bits width) = tt
dollar-width other = tt

star-width : (type : TypeUse) → HasWidth type parameter.star
star-width (schema.text width) = tt
star-width (schema.bits width) = tt
star-width other = tt

pub dollar-breaks_only : (s : Schema) (number : ℕ) (type : TypeUse) → BreaksWithin s number type parameter.dollar → number ≡ 46
dollar-breaks_only s number type (itself _ _ broken) = at number type broken
  where
    at : (number : ℕ) (type : TypeUse) → BreaksAt s type parameter.dollar number → number ≡ 46
    at number type (missing _) = refl
    at number type (wrong_kind _ _ not_taken no_choice) = absurd (not_taken.0 refl)
    at number type (select_type _ _ not_taken choice) = absurd (not_taken.0 refl)
    at number type (wrong_width _ _ within) = absurd (within (dollar-width type))
dollar-breaks_only s number type (in_underlying t under _ is broken) = dollar-breaks_only s number under broken

pub star-breaks_only : (s : Schema) (number : ℕ) (type : TypeUse) → BreaksWithin s number type parameter.star → number ≡ 47
star-breaks_only s number type (itself _ _ broken) = at number type broken
  where
    at : (number : ℕ) (type : TypeUse) → BreaksAt s type parameter.star number → number ≡ 47
    at number type (star_not_derived _) = refl
    at number type (wrong_kind _ _ not_taken no_choice) = absurd (not_taken.1 refl)
    at number type (select_type _ _ not_taken choice) = absurd (not_taken.1 refl)
    at number type (wrong_width _ _ within) = absurd (within (star-width type))
star-breaks_only s number type (in_underlying t under _ is broken) = star-breaks_only s number under broken
