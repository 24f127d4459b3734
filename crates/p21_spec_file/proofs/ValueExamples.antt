-- Parameters at types, the values that they stand for, and when values are the same.
use Rattle.std.specs.Prelude.{◌≡◌, ℕ, pos, true, false, [], ◌∷◌, codes, Some, None, Contains, refl}
use Rattle.std.proofs.Common.{arith, sym, subst}
use Rattle.p21_spec_exchange.specs.Number.{Decimal, IsReduced, IsInRange, ratio_of}
use Rattle.p21_spec_exchange.specs.Parameter as parameter
use Rattle.p21_spec_exchange.specs.Parameter.{Param, no_params, param, key_of}
use Rattle.p21_spec_schema.specs.Schema as schema
use Rattle.p21_spec_schema.specs.Schema.{Schema, Member, entity_member, type_member, alias, choice}
use Rattle.p21_spec_schema.specs.Select.{IsNoSelect, Offers, offered, offered_within}
use Rattle.p21_spec_file.specs.Value.{Value, whole, number, item, reference, missing, array, bag, typed, no_values, value}
use Rattle.p21_spec_file.specs.SameValue.{Same, same_references, same_bags, here, paired, both_empty, without_first, without_later}
use Rattle.p21_spec_file.specs.Reference.{EntitySets}
use Rattle.p21_spec_file.specs.Fits.{Fits, boolean_items, a_whole, a_whole_number, a_boolean, a_logical, a_text, an_instance, as_underlying, a_chosen_type, an_array, a_set, none_left, fits_next, empty_next}
use Rattle.p21_spec_schema.proofs.DeclaredSchemas.{distinct_names-types}
use Rattle.p21_spec_basics.proofs.Members.{Each-member, Contains-no_word}
use Rattle.p21_spec_file.proofs.MeaningExamples.{demo-distinct}
use Rattle.p21_spec_file.proofs.Sameness.{Same-reflexive}
use Rattle.p21_spec_schema.proofs.TestSchemas.{demo}

-- `1` is no REAL
pub whole-fits_no_real : (s : Schema) (kinds : EntitySets) (v : Value) → Fits s kinds schema.real (parameter.whole (pos 1)) v → ⊥
whole-fits_no_real s kinds v fit = elim fit [ ]

-- at a NUMBER `2` stands for the value of `2.`
abbrev two : Decimal
two = record { significand = pos 2; exponent = pos 0 }

pub two-fits_number : (s : Schema) (kinds : EntitySets) → IsReduced two → IsInRange (ratio_of two) → Fits s kinds schema.number (parameter.whole (pos 2)) (number two)
two-fits_number s kinds reduced range = a_whole_number (pos 2) two reduced range refl

-- `'abcd'` is no STRING(3)
pub long-fits_no_width : (s : Schema) (kinds : EntitySets) (v : Value) → Fits s kinds (schema.text (Some (record { most = 3; fixed = false }))) (parameter.text (codes "abcd")) v → ⊥
long-fits_no_width s kinds v (a_text _ _ within) = omega (arith, within.0)

-- `'x'` is no STRING(2) FIXED
pub short-fits_no_fixed : (s : Schema) (kinds : EntitySets) (v : Value) → Fits s kinds (schema.text (Some (record { most = 2; fixed = true }))) (parameter.text (codes "x")) v → ⊥
short-fits_no_fixed s kinds v (a_text _ _ within) = omega (arith, within.1 refl)

-- `.U.` is a LOGICAL and no BOOLEAN
pub unknown-fits_logical : (s : Schema) (kinds : EntitySets) → Fits s kinds schema.logical (parameter.item (codes "U")) (item (codes "U"))
unknown-fits_logical s kinds = a_logical (codes "U") (2, omega arith, refl)

pub unknown-fits_no_boolean : (s : Schema) (kinds : EntitySets) (v : Value) → Fits s kinds schema.boolean (parameter.item (codes "U")) v → ⊥
unknown-fits_no_boolean s kinds v (a_boolean _ among) = Contains-no_word (codes "U") boolean_items refl refl among

-- where `#2` is a POINT it may stand for a POINT, and where it is a CLOUD it may not
pub point-fits_point : Fits demo ((2, 1 ∷ 0 ∷ []) ∷ []) (schema.entity 1) (parameter.name 2) (reference 2)
point-fits_point = an_instance 1 2 (1 ∷ 0 ∷ [], (0, omega arith, refl), (0, omega arith, refl))

pub cloud-fits_no_point : (v : Value) → Fits demo ((2, 4 ∷ []) ∷ []) (schema.entity 1) (parameter.name 2) v → ⊥
cloud-fits_no_point v (an_instance _ _ (entities, among, serves)) =
    let is : 4 ∷ [] ≡ entities = Each-member (λ i. i.1 ≡ entities → 4 ∷ [] ≡ entities) ((2, 4 ∷ []) ∷ []) (2, entities) (λ h. h, tt) among refl in
    let h : 4 ≡ 1 = Each-member (λ e. 4 ≡ e) (4 ∷ []) 1 (refl, tt) (subst (λ es. Contains es 1) (sym is) serves) in
    omega (arith, h)

-- `(#2,#02)` is no SET: both are the same instance
pub twice-fits_no_set : (s : Schema) (kinds : EntitySets) (e n : ℕ) (v : Value) → Fits s kinds (schema.set 0 None (schema.entity e)) (parameter.list (param (parameter.name n) (param (parameter.name n) no_params))) v → ⊥
twice-fits_no_set s kinds e n v (a_set _ _ _ _ _ (fits_next _ _ _ _ _ _ (an_instance _ _ _) (fits_next _ _ _ _ _ _ (an_instance _ _ _) more)) bounded distinct) =
    distinct.0 (λ h. cc) (here (reference n) (reference n) _ (same_references n))

-- `($,1)` is an ARRAY [1:2] OF OPTIONAL INTEGER
pub empty_place-fits : (s : Schema) (kinds : EntitySets) → Fits s kinds (schema.array 1 2 true false schema.whole) (parameter.list (param parameter.dollar (param (parameter.whole (pos 1)) no_params))) (array (value missing (value (whole (pos 1)) no_values)))
empty_place-fits s kinds = an_array 1 2 true false schema.whole _ _ (empty_next schema.whole _ _ (fits_next true schema.whole _ _ _ _ (a_whole (pos 1)) (none_left true schema.whole))) refl (λ h. cc)

-- and no ARRAY [1:2] OF INTEGER
pub empty_place-needs_optional : (s : Schema) (kinds : EntitySets) (v : Value) → Fits s kinds (schema.array 1 2 false false schema.whole) (parameter.list (param parameter.dollar (param (parameter.whole (pos 1)) no_params))) v → ⊥
empty_place-needs_optional s kinds v (an_array _ _ _ _ _ _ _ (fits_next _ _ _ _ _ _ fit more) counted distinct) = elim fit [ ]

-- `(1)` is no ARRAY [1:2]: it has too few elements
pub short-fits_no_array : (s : Schema) (kinds : EntitySets) (v : Value) → Fits s kinds (schema.array 1 2 true false schema.whole) (parameter.list (param (parameter.whole (pos 1)) no_params)) v → ⊥
short-fits_no_array s kinds v (an_array _ _ _ _ _ _ _ (fits_next _ _ _ _ _ _ fit (none_left _ _)) counted distinct) = omega (arith, counted)

-- `TALLY(1)` is an ITEM by the select in it, and keeps its type
pub tally-fits_item : (kinds : EntitySets) → Fits demo kinds (schema.defined 4) (parameter.typed (key_of (codes "TALLY")) (parameter.whole (pos 1))) (typed 1 (whole (pos 1)))
tally-fits_item kinds = a_chosen_type 4 1 (codes "TALLY") (parameter.whole (pos 1)) (whole (pos 1))
    (offered_within 4 3 (type_member 3 ∷ entity_member 1 ∷ []) (type_member 1) refl (0, omega arith, refl) (offered 3 (type_member 0 ∷ type_member 1 ∷ []) (type_member 1) refl (1, omega arith, refl) (λ (members, is). cc)))
    (record { name = codes "TALLY"; kind = alias schema.whole }, refl, refl) (as_underlying 1 schema.whole (parameter.whole (pos 1)) (whole (pos 1)) refl (a_whole (pos 1)))

-- `1.` with no keyword fits no select of types
pub untyped-fits_no_measure : (kinds : EntitySets) (d : Decimal) (v : Value) → Fits demo kinds (schema.defined 3) (parameter.real d) v → ⊥
untyped-fits_no_measure kinds d v (as_underlying _ type _ _ kind fit) = cc

-- what a select offers is no select
offers-no_select : (s : Schema) (t : ℕ) (m : Member) → Offers s t m → IsNoSelect s m
offers-no_select s t m (offered _ members _ is among no_select) = no_select
offers-no_select s t m (offered_within _ u members _ is among more) = offers-no_select s u m more

-- `MEASURE(TALLY(1))` fits no ITEM: a select in a select has no keyword of its own
pub measure-fits_no_item : (kinds : EntitySets) (p : Param) (v : Value) → Fits demo kinds (schema.defined 4) (parameter.typed (key_of (codes "MEASURE")) p) v → ⊥
measure-fits_no_item kinds p v (as_underlying _ type _ _ kind fit) = cc
measure-fits_no_item kinds p v (a_chosen_type _ u name _ _ offers named fit) =
    let P : ℕ → Type 0 = λ k. IsNoSelect demo (type_member k) in
    let is : u ≡ 3 = distinct_names-types demo demo-distinct u 3 (codes "MEASURE") named (record { name = codes "MEASURE"; kind = choice (type_member 0 ∷ type_member 1 ∷ []) }, refl, refl) in
    subst P is (offers-no_select demo 4 (type_member u) offers) (type_member 0 ∷ type_member 1 ∷ [], refl)

-- `(1.,2.)` and `(2.,1.)` are the same BAG
pub bags-in_any_order : (a b : Value) → Same (bag (value a (value b no_values))) (bag (value b (value a no_values)))
bags-in_any_order a b = same_bags _ _ (paired a (value b no_values) (value b (value a no_values)) (value b no_values) (without_later a b (value a no_values) no_values (without_first a a no_values (Same-reflexive a)))
    (paired b no_values (value b no_values) no_values (without_first b b no_values (Same-reflexive b)) both_empty))

-- `(1.,1.,2.)` and `(1.,2.,2.)` are not
pub bags-count_repeats : (a b : Value) → (Same a b → ⊥) → Same (bag (value a (value a (value b no_values)))) (bag (value a (value b (value b no_values)))) → ⊥
bags-count_repeats a b differ (same_bags _ _ (paired _ _ _ _ (without_first _ _ _ same) (paired _ _ _ _ (without_first _ _ _ same_) more))) = differ same_
bags-count_repeats a b differ (same_bags _ _ (paired _ _ _ _ (without_first _ _ _ same) (paired _ _ _ _ (without_later _ _ _ _ (without_first _ _ _ same_)) more))) = differ same_
bags-count_repeats a b differ (same_bags _ _ (paired _ _ _ _ (without_first _ _ _ same) (paired _ _ _ _ (without_later _ _ _ _ (without_later _ _ _ rest none)) more))) = elim none [ ]
bags-count_repeats a b differ (same_bags _ _ (paired _ _ _ _ (without_later _ _ _ _ (without_first _ _ _ same)) more)) = differ same
bags-count_repeats a b differ (same_bags _ _ (paired _ _ _ _ (without_later _ _ _ _ (without_later _ _ _ _ (without_first _ _ _ same))) more)) = differ same
bags-count_repeats a b differ (same_bags _ _ (paired _ _ _ _ (without_later _ _ _ _ (without_later _ _ _ _ (without_later _ _ _ rest none))) more)) = elim none [ ]
