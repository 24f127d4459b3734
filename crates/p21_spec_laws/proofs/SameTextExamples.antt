-- Texts of values, and what the law would lose without its premises.
use Rattle.std.specs.Prelude.{◌≡◌, ◌≢◌, ℕ, ℤ, zero, suc, pos, false, [], ◌∷◌, codes, None, refl}
use Rattle.std.proofs.Common.{arith, zero-le}
use Rattle.p21_spec_schema.specs.WellFormed.{HasDistinctTypes}
use Rattle.p21_spec_exchange.proofs.WholeSpellings.{whole_spells}
use Rattle.p21_spec_exchange.specs.Spelling.{spelling}
use Rattle.p21_spec_exchange.specs.Token as token
use Rattle.p21_spec_exchange.specs.Parameter.{Params, no_params, param}
use Rattle.p21_spec_laws.proofs.SameTexts.{same-exactly_texts}
use Rattle.p21_spec_file.specs.Fits.{Fits, a_real, a_whole, a_set, none_left, fits_next}
use Rattle.p21_spec_exchange.specs.Number.{Decimal}
use Rattle.p21_spec_exchange.specs.Parameter as parameter
use Rattle.p21_spec_file.specs.Reference.{EntitySets}
use Rattle.p21_spec_file.specs.SameValue.{Same, same_reals, same_wholes, Among, here, there}
use Rattle.p21_spec_schema.specs.Schema as schema
use Rattle.p21_spec_schema.specs.Schema.{Schema}
use Rattle.p21_spec_file.specs.Value.{Value, whole, real, number, missing, list, array, set, bag, typed, Values, no_values, value}
use Rattle.p21_spec_file.specs.ValueText.{value_text}
use Rattle.p21_spec_laws.specs.Written.{IsWritten}

abbrev s : Schema
s = record { name = []; entities = []; types = record { name = codes "LENGTH"; kind = schema.alias schema.real } ∷ []; one_of_lists = [] }

abbrev two : Value → Value → Values
two v w = value v (value w no_values)

abbrev wholes : ℕ → ℕ → Values
wholes a b = two (whole (pos a)) (whole (pos b))

-- a set of bags, in two orders
of_bags : value_text s (set (two (bag (wholes 2 1)) (bag (wholes 10 2)))) ≡ codes "((1,2),(10,2))"
of_bags = refl

of_bags_back : value_text s (set (two (bag (wholes 2 10)) (bag (wholes 1 2)))) ≡ codes "((1,2),(10,2))"
of_bags_back = refl

-- an array with an empty place, and a typed value
with_place : value_text s (array (two missing (typed 0 (real (record { significand = pos 15; exponent = pos 0 }))))) ≡ codes "($,LENGTH(1.5E1))"
with_place = refl

-- reals that are not reduced: the same, and of two texts
abbrev ten : Decimal
ten = record { significand = pos 10; exponent = pos 0 }

abbrev ten_reduced : Decimal
ten_reduced = record { significand = pos 1; exponent = pos 1 }

unreduced_same : Same (real ten) (real ten_reduced)
unreduced_same = same_reals ten ten_reduced refl

unreduced_fits : (kinds : EntitySets) → Fits s kinds schema.real (parameter.real ten) (real ten)
unreduced_fits kinds = a_real ten

unreduced_text : value_text s (real ten) ≡ codes "1.0E1"
unreduced_text = refl

reduced_text : value_text s (real ten_reduced) ≡ codes "1.E1"
reduced_text = refl

-- values of two types of one text
two_types : value_text s (real ten_reduced) ≡ value_text s (number ten_reduced)
two_types = refl

two_aggregates : value_text s (list (wholes 1 2)) ≡ value_text s (set (wholes 2 1))
two_aggregates = refl

-- the law at work: sets in two orders, which fit and are told the same by their texts
abbrev wholes_of : ℕ → ℕ → Params
wholes_of a b = param (parameter.whole (pos a)) (param (parameter.whole (pos b)) no_params)

abbrev wholes_set : schema.TypeUse
wholes_set = schema.set 0 None schema.whole

wholes_equal : (x y : ℤ) → Same (whole x) (whole y) → x ≡ y
wholes_equal x y (same_wholes _) = refl

differ : (a b : ℕ) → a ≢ b → Among (whole (pos a)) (value (whole (pos b)) no_values) → ⊥
differ a b other (here _ _ _ same) = other (let h : pos a ≡ pos b = wholes_equal (pos a) (pos b) same in cc)
differ a b other (there _ _ _ among) = elim among [ ]

set_fits : (a b : ℕ) → a ≢ b → Fits s [] wholes_set (parameter.list (wholes_of a b)) (set (wholes a b))
set_fits a b other =
    a_set 0 None schema.whole (wholes_of a b) (wholes a b)
    (fits_next false schema.whole (parameter.whole (pos a)) (whole (pos a)) (param (parameter.whole (pos b)) no_params) (value (whole (pos b)) no_values) (a_whole (pos a))
    (fits_next false schema.whole (parameter.whole (pos b)) (whole (pos b)) no_params no_values (a_whole (pos b)) (none_left false schema.whole)))
    (zero-le, tt)
    (λ some among. differ a b other among, (λ some among. elim among [ ], tt))

set_written : (a b : ℕ) → IsWritten (parameter.list (wholes_of a b))
set_written a b = ((codes "(", refl), ((spelling (token.whole (pos a)), whole_spells (pos a)), ((codes ",", refl), ((spelling (token.whole (pos b)), whole_spells (pos b)), ((codes ")", refl), tt)))))

one_name : HasDistinctTypes s
one_name zero zero name (x, at, named) (y, at_, named_) = refl
one_name zero (suc u) name (x, at, named) (y, at_, named_) = cc
one_name (suc t) u name (x, at, named) (y, at_, named_) = cc

two_is_not_one : ◌≢◌ {A = ℕ} 2 1
two_is_not_one e = omega (arith, e)

one_is_not_two : ◌≢◌ {A = ℕ} 1 2
one_is_not_two e = omega (arith, e)

sets_same : Same (set (wholes 2 1)) (set (wholes 1 2))
sets_same =
    (same-exactly_texts s one_name [] [] wholes_set (parameter.list (wholes_of 2 1)) (parameter.list (wholes_of 1 2)) (set (wholes 2 1)) (set (wholes 1 2))
    (set_fits 2 1 two_is_not_one) (set_fits 1 2 one_is_not_two) (set_written 2 1) (set_written 1 2)).1 refl
