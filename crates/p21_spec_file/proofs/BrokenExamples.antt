-- For each number parameters that break its rule at their place, and neighbours that break none or the rule of another
-- number alone. The parameter is the P of E, in `E(p)`.
use Rattle.std.specs.Prelude.{◌≡◌, ℕ, ℤ, pos, Bool, true, false, List, [], ◌∷◌, ◌^◌, codes, Some, Contains, refl}
use Rattle.std.proofs.Common.{arith, lit<, lit≤, sym, subst}
use lib.Signed.{le_z_yes}
use Rattle.p21_spec_exchange.specs.Number.{Decimal, ratio_of, whole_ratio, IsInRange, HasNormalisedExponent}
use Rattle.p21_spec_exchange.proofs.Exponents.{in_range_by}
use Rattle.p21_spec_exchange.specs.Parameter as parameter
use Rattle.p21_spec_exchange.specs.Parameter.{Param, key_of}
use Rattle.p21_spec_file.specs.BrokenRule.{Breaks}
use Rattle.p21_spec_file.specs.BrokenValue.{BreaksAt, number_range, missing, star_not_derived, wrong_kind, select_type, wrong_width, unknown_item, BreaksWithin, itself, in_underlying, in_chosen, BreaksAtPlace, stored, UsesSelect}
use Rattle.p21_spec_file.specs.Fits.{boolean_items, a_whole_number, Fits, dollar, fits, a_whole, a_real, a_text, a_logical, an_item, as_underlying, a_chosen_type}
use Rattle.p21_spec_file.specs.ParameterKind.{TakesKind, takes_underlying, takes_chosen_instance, takes_chosen_type, of_boolean, of_enumeration}
use Rattle.p21_spec_file.specs.Value as value
use Rattle.p21_spec_schema.specs.PlaceType.{stored_place}
use Rattle.p21_spec_schema.specs.Schema as schema
use Rattle.p21_spec_schema.specs.Schema.{TypeUse, Member, alias, choice, type_member, entity_member}
use Rattle.p21_spec_schema.specs.Select.{IsSelect, Offers, offered, offered_within}
use Rattle.p21_spec_basics.proofs.Members.{Contains-no_word, Each-member}
use Rattle.p21_spec_file.proofs.BrokenPlaces.{with_place, e_of, e-breaks, type-breaks, e-breaks_only, types-distinct, e-breaks_none}
use Rattle.p21_spec_file.proofs.BrokenValues.{dollar-breaks_only, star-breaks_only}

-- `E(p)` breaks the rule of this number, where P is of the type; and that of no other
abbrev pub BreaksWith : TypeUse → Param → ℕ → Type 0
BreaksWith type p number = Breaks (with_place false type) (e_of p) number

abbrev pub BreaksOnly : TypeUse → Param → ℕ → Type 0
BreaksOnly type p number = (other : ℕ) → Breaks (with_place false type) (e_of p) other → other ≡ number

-- it breaks none, where P is OPTIONAL or not
abbrev pub BreaksNone : Bool → TypeUse → Param → Type 0
BreaksNone optional type p = (number : ℕ) → Breaks (with_place optional type) (e_of p) number → ⊥

within : (type : TypeUse) (p : Param) (number : ℕ) → Breaks (with_place false type) (e_of p) number → BreaksWithin (with_place false type) number type p
within type p number breaks = by (e-breaks_only false type p number breaks)
  where
    by : BreaksAtPlace (with_place false type) (stored_place false type) p number → BreaksWithin (with_place false type) number type p
    by (stored _ _ _ _ wanted broken) = broken

-- so where its parameter fits
pub none_at : (type : TypeUse) (p : Param) (v : value.Value) → Fits (with_place false type) [] type p v → BreaksNone false type p
none_at type p v fit = e-breaks_none false type [] p v (fits false type p v fit)

abbrev real_one : Decimal
real_one = record { significand = pos 1; exponent = pos 0 }

abbrev distance : TypeUse
distance = schema.defined 0

abbrev colour : TypeUse
colour = schema.defined 1

abbrev measure : TypeUse
measure = schema.defined 2

abbrev length_type : TypeUse
length_type = schema.defined 3

abbrev item_type : TypeUse
item_type = schema.defined 4

-- MEASURE offers DISTANCE, and ITEM through it
measure-offers : (optional : Bool) (type : TypeUse) → Offers (with_place optional type) 2 (type_member 0)
measure-offers optional type = offered 2 (type_member 0 ∷ []) (type_member 0) refl (0, omega arith, refl) (λ (members, is). cc)

-- `$` at REAL and at MEASURE breaks one rule, at an OPTIONAL place none
pub dollar_at_real : BreaksWith schema.real parameter.dollar 46
dollar_at_real = type-breaks schema.real parameter.dollar 46 (itself _ _ (missing _))

pub dollar_at_select : BreaksWith measure parameter.dollar 46
dollar_at_select = type-breaks measure parameter.dollar 46 (itself _ _ (missing _))

pub dollar_at_select-only : BreaksOnly measure parameter.dollar 46
dollar_at_select-only other breaks = dollar-breaks_only (with_place false measure) other measure (within measure parameter.dollar other breaks)

pub dollar_at_optional : BreaksNone true schema.real parameter.dollar
dollar_at_optional = e-breaks_none true schema.real [] parameter.dollar value.missing (dollar schema.real)

-- `*` too, at an OPTIONAL place as well
pub star_at_select : BreaksWith measure parameter.star 47
star_at_select = type-breaks measure parameter.star 47 (itself _ _ (star_not_derived _))

pub star_at_select-only : BreaksOnly measure parameter.star 47
star_at_select-only other breaks = star-breaks_only (with_place false measure) other measure (within measure parameter.star other breaks)

pub star_at_optional : Breaks (with_place true schema.real) (e_of parameter.star) 47
star_at_optional = e-breaks true schema.real parameter.star 47 (stored true schema.real parameter.star 47 (λ h. (let n : parameter.star ≡ parameter.dollar = h.1 in cc)) (itself _ _ (star_not_derived _)))

-- `1` at REAL, where `1.` fits; and at LENGTH, which is a DISTANCE
abbrev one : Param
one = parameter.whole (pos 1)

whole-not_taken : (type : TypeUse) → ¬ TakesKind (with_place false type) schema.real one
whole-not_taken type takes = elim takes [ ]

pub whole_at_real : BreaksWith schema.real one 49
whole_at_real = type-breaks schema.real one 49 (itself _ _ (wrong_kind _ _ (λ h. cc, λ h. cc, whole-not_taken schema.real) (λ h. h)))

pub whole_at_real-only : BreaksOnly schema.real one 49
whole_at_real-only other breaks = by (within schema.real one other breaks)
  where
    at : (number : ℕ) → BreaksAt (with_place false schema.real) schema.real one number → number ≡ 49
    at number (wrong_kind _ _ not_taken no_choice) = refl
    at number (select_type _ _ not_taken choice_) = absurd choice_
    at number (wrong_width _ _ other) = absurd (other tt)

    by : BreaksWithin (with_place false schema.real) other schema.real one → other ≡ 49
    by (itself _ _ broken) = at other broken

pub real_at_real : BreaksNone false schema.real (parameter.real real_one)
real_at_real = none_at schema.real (parameter.real real_one) (value.real real_one) (a_real real_one)

pub whole_at_length : BreaksWith length_type one 49
whole_at_length = type-breaks length_type one 49 (in_underlying 3 distance one refl (in_underlying 0 schema.real one refl (itself _ _ (wrong_kind _ _ (λ h. cc, λ h. cc, whole-not_taken length_type) (λ h. h)))))

-- within a typed parameter a value breaks what it breaks at its type: `DISTANCE($)`, at an OPTIONAL place too, and `DISTANCE(1)`
abbrev in_distance : Param → Param
in_distance p = parameter.typed (key_of (codes "DISTANCE")) p

distance-breaks : (optional : Bool) (p : Param) (number : ℕ) → BreaksWithin (with_place optional measure) number schema.real p → BreaksWithin (with_place optional measure) number measure (in_distance p)
distance-breaks optional p number broken = in_chosen 2 0 (codes "DISTANCE") p (measure-offers optional measure) (_, refl, refl) (in_underlying 0 schema.real p refl broken)

pub dollar_in_distance : Breaks (with_place true measure) (e_of (in_distance parameter.dollar)) 46
dollar_in_distance = e-breaks true measure (in_distance parameter.dollar) 46 (stored true measure (in_distance parameter.dollar) 46 (λ h. (let n : in_distance parameter.dollar ≡ parameter.dollar = h.1 in cc)) (distance-breaks true parameter.dollar 46 (itself _ _ (missing _))))

pub whole_in_distance : BreaksWith measure (in_distance one) 49
whole_in_distance = type-breaks measure (in_distance one) 49 (distance-breaks false one 49 (itself _ _ (wrong_kind _ _ (λ h. cc, λ h. cc, whole-not_taken measure) (λ h. h))))

-- and not 54, since the select has the keyword
pub whole_in_distance-not_select : BreaksWith measure (in_distance one) 54 → ⊥
whole_in_distance-not_select breaks = by (within measure (in_distance one) 54 breaks)
  where
    taken : TakesKind (with_place false measure) measure (in_distance one)
    taken = takes_chosen_type 2 0 (codes "DISTANCE") one (measure-offers false measure) (_, refl, refl)

    at : BreaksAt (with_place false measure) measure (in_distance one) 54 → ⊥
    at (select_type _ _ not_taken choice_) = not_taken.2 taken

    at_real : BreaksWithin (with_place false measure) 54 schema.real one → ⊥
    at_real (itself _ _ (select_type _ _ not_taken choice_)) = choice_

    at_distance : BreaksWithin (with_place false measure) 54 distance one → ⊥
    at_distance (itself _ _ (select_type _ _ not_taken (members, is))) = cc
    at_distance (in_underlying _ type _ is broken) =
        let same : schema.real ≡ type = (let h : Some (alias schema.real) ≡ Some (alias type) = is in cc) in
        let P : TypeUse → Type 0 = λ x. BreaksWithin (with_place false measure) 54 x one in
        at_real (subst P (sym same) broken)

    by : BreaksWithin (with_place false measure) 54 measure (in_distance one) → ⊥
    by (itself _ _ broken) = at broken
    by (in_underlying _ type _ is broken) = cc
    by (in_chosen _ u name _ offers named broken) =
        let P : ℕ → Type 0 = λ x. BreaksWithin (with_place false measure) 54 (schema.defined x) one in
        at_distance (subst P (types-distinct false measure u 0 (codes "DISTANCE") named (_, refl, refl)) broken)

pub real_in_distance : BreaksNone false measure (in_distance (parameter.real real_one))
real_in_distance = none_at measure (in_distance (parameter.real real_one)) (value.typed 0 (value.real real_one)) (a_chosen_type 2 0 (codes "DISTANCE") _ _ (measure-offers false measure) (_, refl, refl) (as_underlying 0 schema.real _ _ refl (a_real real_one)))

-- a select takes no untyped value, no name where it has no entity, and no keyword of another type or of a select in it:
-- `1.` and `#1` at MEASURE, `LENGTH(1.)` at MEASURE, `MEASURE(1.)` at ITEM
select-breaks : (type : TypeUse) (p : Param) → (p ≡ parameter.dollar → ⊥) → (p ≡ parameter.star → ⊥) → UsesSelect (with_place false type) type → ¬ TakesKind (with_place false type) type p → BreaksWith type p 54
select-breaks type p no_dollar no_star choice_ not_taken = type-breaks type p 54 (itself _ _ (select_type _ _ (no_dollar, no_star, not_taken) choice_))

-- MEASURE offers DISTANCE alone
measure-only : (type : TypeUse) (m : Member) → Offers (with_place false type) 2 m → m ≡ type_member 0
measure-only type m (offered _ members _ is among no_select) =
    let same : type_member 0 ∷ [] ≡ members = (let h : Some (choice (type_member 0 ∷ [])) ≡ Some (choice members) = is in cc) in
    let P : List Member → Type 0 = λ ms. Contains ms m in
    Each-member (λ x. x ≡ type_member 0) (type_member 0 ∷ []) m (refl, tt) (subst P (sym same) among)
measure-only type m (offered_within _ u members _ is among offers) =
    let same : type_member 0 ∷ [] ≡ members = (let h : Some (choice (type_member 0 ∷ [])) ≡ Some (choice members) = is in cc) in
    let P : List Member → Type 0 = λ ms. Contains ms (type_member u) in
    let first : type_member u ≡ type_member 0 = Each-member (λ x. x ≡ type_member 0) (type_member 0 ∷ []) (type_member u) (refl, tt) (subst P (sym same) among) in
    let distance_is : u ≡ 0 = cc in
    absurd (no_select u distance_is offers)
  where
    no_select : (u : ℕ) → u ≡ 0 → Offers (with_place false type) u m → ⊥
    no_select u is (offered _ members_ _ kind_is among_ single) = cc
    no_select u is (offered_within _ w members_ _ kind_is among_ offers_) = cc

pub real_at_select : BreaksWith measure (parameter.real real_one) 54
real_at_select = select-breaks measure (parameter.real real_one) (λ h. cc) (λ h. cc) (type_member 0 ∷ [], refl) not_taken
  where
    not_taken : TakesKind (with_place false measure) measure (parameter.real real_one) → ⊥
    not_taken (takes_underlying _ type _ is takes) = cc

pub name_at_select : BreaksWith measure (parameter.name 1) 54
name_at_select = select-breaks measure (parameter.name 1) (λ h. cc) (λ h. cc) (type_member 0 ∷ [], refl) not_taken
  where
    not_taken : TakesKind (with_place false measure) measure (parameter.name 1) → ⊥
    not_taken (takes_underlying _ type _ is takes) = cc
    not_taken (takes_chosen_instance _ e _ offers) = let h : entity_member e ≡ type_member 0 = measure-only measure (entity_member e) offers in cc

pub length_at_select : BreaksWith measure (parameter.typed (key_of (codes "LENGTH")) (parameter.real real_one)) 54
length_at_select = select-breaks measure _ (λ h. cc) (λ h. cc) (type_member 0 ∷ [], refl) not_taken
  where
    not_taken : TakesKind (with_place false measure) measure (parameter.typed (key_of (codes "LENGTH")) (parameter.real real_one)) → ⊥
    not_taken (takes_underlying _ type _ is takes) = cc
    not_taken (takes_chosen_type _ u name _ offers named) =
        let h : type_member u ≡ type_member 0 = measure-only measure (type_member u) offers in
        let distance_is : u ≡ 0 = cc in
        let length_is : u ≡ 3 = types-distinct false measure u 3 (codes "LENGTH") named (_, refl, refl) in omega (arith, distance_is, length_is)

no_select-offered : (type : TypeUse) (t u : ℕ) → Offers (with_place false type) t (type_member u) → IsSelect (with_place false type) u → ⊥
no_select-offered type t u (offered _ members _ is among no_select) select = no_select select
no_select-offered type t u (offered_within _ w members _ is among offers) select = no_select-offered type w u offers select

pub measure_at_item : BreaksWith item_type (parameter.typed (key_of (codes "MEASURE")) (in_distance (parameter.real real_one))) 54
measure_at_item = select-breaks item_type _ (λ h. cc) (λ h. cc) (_, refl) not_taken
  where
    not_taken : TakesKind (with_place false item_type) item_type (parameter.typed (key_of (codes "MEASURE")) (in_distance (parameter.real real_one))) → ⊥
    not_taken (takes_underlying _ type _ is takes) = cc
    not_taken (takes_chosen_type _ u name _ offers named) =
        let measure_is : u ≡ 2 = types-distinct false item_type u 2 (codes "MEASURE") named (_, refl, refl) in
        let P : ℕ → Type 0 = λ x. IsSelect (with_place false item_type) x in
        no_select-offered item_type 4 u offers (subst P (sym measure_is) (type_member 0 ∷ [], refl))

pub distance_at_item : BreaksNone false item_type (in_distance (parameter.real real_one))
distance_at_item = none_at item_type (in_distance (parameter.real real_one)) (value.typed 0 (value.real real_one))
    (a_chosen_type 4 0 (codes "DISTANCE") _ _ (offered_within 4 2 (type_member 2 ∷ entity_member 0 ∷ []) (type_member 0) refl (0, omega arith, refl) (measure-offers false item_type)) (_, refl, refl) (as_underlying 0 schema.real _ _ refl (a_real real_one)))

-- `'abcd'` at STRING(3), where `'abc'` fits; `'a'` at STRING(2) FIXED
abbrev three : TypeUse
three = schema.text (Some (record { most = 3; fixed = false }))

abbrev two_fixed : TypeUse
two_fixed = schema.text (Some (record { most = 2; fixed = true }))

pub long_text : BreaksWith three (parameter.text (codes "abcd")) 50
long_text = type-breaks three _ 50 (itself _ _ (wrong_width _ _ (λ is. omega (arith, is.0))))

pub fitting_text : BreaksNone false three (parameter.text (codes "abc"))
fitting_text = none_at three (parameter.text (codes "abc")) (value.text (codes "abc")) (a_text _ (codes "abc") (omega arith, λ h. cc))

pub short_text : BreaksWith two_fixed (parameter.text (codes "a")) 50
short_text = type-breaks two_fixed _ 50 (itself _ _ (wrong_width _ _ (λ is. let h = is.1 refl in omega (arith, h))))

-- `.BLUE.` at COLOUR, where `.RED.` fits and `'RED'` is of another kind; `.U.` at BOOLEAN, where LOGICAL takes it
pub blue : BreaksWith colour (parameter.item (codes "BLUE")) 53
blue = type-breaks colour _ 53 (itself _ _ (unknown_item _ (codes "RED" ∷ codes "GREEN" ∷ []) _ (of_enumeration 1 _ refl) (Contains-no_word (codes "BLUE") (codes "RED" ∷ codes "GREEN" ∷ []) refl refl)))

pub red : BreaksNone false colour (parameter.item (codes "RED"))
red = none_at colour (parameter.item (codes "RED")) (value.item (codes "RED")) (an_item 1 (codes "RED" ∷ codes "GREEN" ∷ []) (codes "RED") refl (0, omega arith, refl))

pub text_at_colour : BreaksWith colour (parameter.text (codes "RED")) 49
text_at_colour = type-breaks colour _ 49 (itself _ _ (wrong_kind _ _ (λ h. cc, λ h. cc, not_taken) (λ (members, is). cc)))
  where
    not_taken : TakesKind (with_place false colour) colour (parameter.text (codes "RED")) → ⊥
    not_taken (takes_underlying _ type _ is takes) = cc

pub unknown_boolean : BreaksWith schema.boolean (parameter.item (codes "U")) 53
unknown_boolean = type-breaks schema.boolean _ 53 (itself _ _ (unknown_item _ _ _ of_boolean (Contains-no_word (codes "U") boolean_items refl refl)))

pub unknown_logical : BreaksNone false schema.logical (parameter.item (codes "U"))
unknown_logical = none_at schema.logical (parameter.item (codes "U")) (value.item (codes "U")) (a_logical (codes "U") (2, omega arith, refl))

-- a whole number of 10001 digits at NUMBER: its normalised exponent is 10000
abbrev too_great : ℤ
too_great = pos (10 ^ 10000)

pub too_great_number : BreaksWith schema.number (parameter.whole too_great) 8
too_great_number = type-breaks schema.number _ 8 (itself _ _ (number_range too_great out_of_range))
  where
    out_of_range : IsInRange (whole_ratio too_great) → ⊥
    out_of_range in_range = let own : HasNormalisedExponent (whole_ratio too_great) (pos 10000) = record { low = lit≤ tt; high = lit< tt } in (in_range (pos 10000) own).1.le

-- one of 10000 digits fits
abbrev greatest : ℤ
greatest = pos (10 ^ 9999)

pub greatest_number : BreaksNone false schema.number (parameter.whole greatest)
greatest_number = none_at schema.number (parameter.whole greatest) (value.number (record { significand = pos 1; exponent = pos 9999 }))
    (a_whole_number greatest (record { significand = pos 1; exponent = pos 9999 }) (λ h. cc) (in_range_by (ratio_of (record { significand = pos 1; exponent = pos 9999 })) (pos 9999) (lit< tt) (record { low = lit≤ tt; high = lit< tt }) (le_z_yes tt, le_z_yes tt)) refl)

-- an integer of any size at INTEGER
pub whole_at_integer : BreaksNone false schema.whole (parameter.whole too_great)
whole_at_integer = none_at schema.whole (parameter.whole too_great) (value.whole too_great) (a_whole too_great)
