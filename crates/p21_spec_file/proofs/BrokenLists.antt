-- Lists that break rules at an aggregate, themselves or by their elements, and neighbours that break none.
use Rattle.std.specs.Prelude.{◌≡◌, pos, Bool, true, false, [], Some, None, refl}
use Rattle.std.proofs.Common.{arith}
use Rattle.p21_spec_exchange.specs.Parameter as parameter
use Rattle.p21_spec_exchange.specs.Parameter.{Param, Params, no_params, param}
use Rattle.p21_spec_file.specs.BrokenValue.{missing, star_not_derived, out_of_bounds, not_distinct, itself, in_element}
use Rattle.p21_spec_file.specs.Fits.{a_whole, an_array, a_list, none_left, fits_next, empty_next}
use Rattle.p21_spec_file.specs.SameValue.{Among, here, there, same_wholes}
use Rattle.p21_spec_file.specs.Value as value
use Rattle.p21_spec_schema.specs.Schema as schema
use Rattle.p21_spec_schema.specs.Schema.{TypeUse}
use Rattle.p21_spec_file.proofs.BrokenExamples.{BreaksWith, BreaksNone, none_at}
use Rattle.p21_spec_file.proofs.BrokenPlaces.{type-breaks}

abbrev one : Param
one = parameter.whole (pos 1)

abbrev one_value : value.Value
one_value = value.whole (pos 1)

-- `(1,1)`, and what it stands for
abbrev ones : Params
ones = param one (param one no_params)

abbrev one_values : value.Values
one_values = value.value one_value (value.value one_value value.no_values)

-- at LIST [1:3]: `()` and four elements
abbrev few : TypeUse
few = schema.list 1 (Some 3) false schema.whole

pub no_element : BreaksWith few (parameter.list no_params) 51
no_element = type-breaks few _ 51 (itself _ _ (out_of_bounds _ _ (λ bounded. omega (arith, bounded.0))))

pub four_elements : BreaksWith few (parameter.list (param one (param one ones))) 51
four_elements = type-breaks few _ 51 (itself _ _ (out_of_bounds _ _ (λ bounded. omega (arith, bounded.1))))

pub two_elements : BreaksNone false few (parameter.list ones)
two_elements = none_at few (parameter.list ones) (value.list one_values) (a_list 1 (Some 3) false schema.whole ones one_values (fits_next _ _ _ _ _ _ (a_whole (pos 1)) (fits_next _ _ _ _ _ _ (a_whole (pos 1)) (none_left _ _))) (omega arith, omega arith) (λ h. (let n : false ≡ true = h in cc)))

-- an array has an element for each index: `(1,1)` at ARRAY [1:3] of OPTIONAL INTEGER, where `(1,1,$)` fits
abbrev three_places : Bool → TypeUse
three_places unique = schema.array 1 3 true unique schema.whole

pub short_array : BreaksWith (three_places false) (parameter.list ones) 51
short_array = type-breaks (three_places false) _ 51 (itself _ _ (out_of_bounds _ _ (λ counted. omega (arith, counted))))

pub empty_place : BreaksNone false (three_places false) (parameter.list (param one (param one (param parameter.dollar no_params))))
empty_place = none_at (three_places false) _ (value.array (value.value one_value (value.value one_value (value.value value.missing value.no_values))))
    (an_array 1 3 true false schema.whole _ _ (fits_next _ _ _ _ _ _ (a_whole (pos 1)) (fits_next _ _ _ _ _ _ (a_whole (pos 1)) (empty_next _ _ _ (none_left _ _)))) (omega arith) (λ h. (let n : false ≡ true = h in cc)))

-- two empty places are not compared: `(1,$,$)` with UNIQUE
pub empty_places : BreaksNone false (three_places true) (parameter.list (param one (param parameter.dollar (param parameter.dollar no_params))))
empty_places = none_at (three_places true) _ (value.array (value.value one_value (value.value value.missing (value.value value.missing value.no_values))))
    (an_array 1 3 true true schema.whole _ _ (fits_next _ _ _ _ _ _ (a_whole (pos 1)) (empty_next _ _ _ (empty_next _ _ _ (none_left _ _)))) (omega arith) (λ h. (not_among, ((λ k. absurd (k refl)), ((λ k. absurd (k refl)), tt)))))
  where
    not_among : (one_value ≡ value.missing → ⊥) → ¬ Among one_value (value.value value.missing (value.value value.missing value.no_values))
    not_among some (here _ _ _ same) = elim same [ ]
    not_among some (there _ _ _ (here _ _ _ same)) = elim same [ ]
    not_among some (there _ _ _ (there _ _ _ among)) = elim among [ ]

-- but `(1,1,$)` has the same element twice
pub same_in_array : BreaksWith (three_places true) (parameter.list (param one (param one (param parameter.dollar no_params)))) 52
same_in_array = type-breaks (three_places true) _ 52 (itself _ _ (not_distinct _ _ (refl, (true, schema.whole, refl, ([], _, fits_next _ _ _ _ _ _ (a_whole (pos 1)) (fits_next _ _ _ _ _ _ (a_whole (pos 1)) (empty_next _ _ _ (none_left _ _))), λ distinct. distinct.0 (λ h. cc) (here _ _ _ (same_wholes (pos 1))))))))

-- so has `(1,1)` at a SET; at a LIST it fits
pub same_in_set : BreaksWith (schema.set 0 None schema.whole) (parameter.list ones) 52
same_in_set = type-breaks (schema.set 0 None schema.whole) _ 52 (itself _ _ (not_distinct _ _ (tt, (false, schema.whole, refl, ([], one_values, fits_next _ _ _ _ _ _ (a_whole (pos 1)) (fits_next _ _ _ _ _ _ (a_whole (pos 1)) (none_left _ _)), λ distinct. distinct.0 (λ h. cc) (here _ _ _ (same_wholes (pos 1))))))))

-- an element: `(1,$)` at a LIST, `(1,1,*)` at an ARRAY of OPTIONAL
pub dollar_in_list : BreaksWith few (parameter.list (param one (param parameter.dollar no_params))) 46
dollar_in_list = type-breaks few _ 46 (in_element few false schema.whole _ parameter.dollar refl (1, omega arith, refl) (λ h. (let n : false ≡ true = h.0 in cc)) (itself _ _ (missing _)))

pub star_in_array : BreaksWith (three_places false) (parameter.list (param one (param one (param parameter.star no_params)))) 47
star_in_array = type-breaks (three_places false) _ 47 (in_element (three_places false) true schema.whole _ parameter.star refl (2, omega arith, refl) (λ h. (let n : parameter.star ≡ parameter.dollar = h.1 in cc)) (itself _ _ (star_not_derived _)))
