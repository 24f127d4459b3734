-- The order of elements and of keywords in canonical records; limits; sameness in the header.
use Rattle.std.proofs.Common.{◌≡◌, ℕ, zero, suc, pos, false, List, [], ◌∷◌, get_or, refl, ap, sym, ◌∙◌, arith, lit<, lit≤}
use Rattle.std.specs.Prelude.{codes}
use Rattle.std.specs.Cmp.Lexicographic.{slice_cmp}
use Rattle.std.specs.List.Sorted.{IsStrictlySortedBy}
use Rattle.std.specs.Ordering.{nat_cmp, is_lt}
use Rattle.p21_spec_file.specs.CanonicalRecord.{AreTextsRising, HasOneLeaf, IsCanonicalForm, IsCanonicalParam}
use Rattle.p21_spec_exchange.specs.CanonicalText.{param_text}
use Rattle.p21_spec_basics.specs.Limits.{AreLimits, usual, text_limit}
use Rattle.p21_spec_exchange.specs.Number.{Decimal}
use Rattle.p21_spec_file.specs.Meaning.{Typed}
use Rattle.p21_spec_exchange.specs.Parameter.{Key, Param, Params, no_params, param, real, whole, text, name, list, typed}
use Rattle.p21_spec_exchange.specs.Record.{Part, complex}
use Rattle.p21_spec_file.specs.SameFile.{SameParam, same_texts}
use Rattle.p21_spec_schema.specs.Schema.{Schema}
use Rattle.p21_spec_file.specs.Value as value

-- two texts that rise, by a test
rising_by : (a b : List ℕ) → is_lt (slice_cmp nat_cmp b a) ≡ false → AreTextsRising (a ∷ b ∷ [])
rising_by a b test zero d low high = test
rising_by a b test (suc k) d low high = absurd (omega (arith, high))

-- `#10` stands before `#2`, a text before what it begins, and MARKED before POINT
name_texts : AreTextsRising (param_text (name 10) ∷ param_text (name 2) ∷ [])
name_texts = rising_by (codes "#10") (codes "#2") refl

beginning_first : AreTextsRising (codes "#1" ∷ codes "#10" ∷ [])
beginning_first = rising_by (codes "#1") (codes "#10") refl

keywords : AreTextsRising (codes "MARKED" ∷ codes "POINT" ∷ [])
keywords = rising_by (codes "MARKED") (codes "POINT") refl

beginning_last : AreTextsRising (codes "#10" ∷ codes "#1" ∷ []) → ⊥
beginning_last rising = let test = rising 0 [] (lit≤ tt) (lit< tt) in (cc)

abbrev one : Decimal
one = record { significand = pos 1; exponent = pos 0 }

abbrev two : Decimal
two = record { significand = pos 2; exponent = pos 0 }

abbrev reals : Decimal → Decimal → Params
reals a b = param (real a) (param (real b) no_params)

abbrev real_values : Decimal → Decimal → value.Values
real_values a b = value.value (value.real a) (value.value (value.real b) value.no_values)

pair_text : param_text (list (reals one two)) ≡ codes "(1.,2.)"
pair_text = refl

-- the bag `(1.,2.)` is canonical, and so is the list `(2.,1.)`, but the bag `(2.,1.)` is not, nor the set
rising_bag : IsCanonicalParam (list (reals one two)) (value.bag (real_values one two))
rising_bag = ((tt, (tt, tt)), λ u. rising_by (codes "1.") (codes "2.") refl)

falling_list : IsCanonicalParam (list (reals two one)) (value.list (real_values two one))
falling_list = ((tt, (tt, tt)), λ u. absurd u)

falling_bag : IsCanonicalParam (list (reals two one)) (value.bag (real_values two one)) → ⊥
falling_bag h = let test = h.1 tt 0 [] (lit≤ tt) (lit< tt) in (cc)

falling_set : IsCanonicalParam (list (reals two one)) (value.set (real_values two one)) → ⊥
falling_set h = let test = h.1 tt 0 [] (lit≤ tt) (lit< tt) in (cc)

-- a bag within a list is in order too
within_list : IsCanonicalParam (list (param (list (reals two one)) no_params)) (value.list (value.value (value.bag (real_values two one)) value.no_values)) → ⊥
within_list h = falling_bag h.0.0

-- and so is one with a type's keyword
within_typed : (key : Key) (t : ℕ) → IsCanonicalParam (typed key (list (reals two one))) (value.typed t (value.bag (real_values two one))) → ⊥
within_typed key t h = falling_bag h

-- a whole number is not the canonical spelling of a NUMBER, but of an INTEGER
whole_number : IsCanonicalParam (whole (pos 1)) (value.number one) → ⊥
whole_number h = h tt

whole_integer : IsCanonicalParam (whole (pos 1)) (value.whole (pos 1))
whole_integer h = h

-- a record whose set has one leaf is not canonical in external mapping
external_with_one_leaf : (s : Schema) (parts : List Part) (meaning : Typed) → HasOneLeaf s meaning.entities → IsCanonicalForm s (complex parts) meaning → ⊥
external_with_one_leaf s parts meaning one_leaf form = form.0 one_leaf

-- instance names rise: 2 and 10, but not 10 and 2, nor 2 and 2
two_and_ten : IsStrictlySortedBy nat_cmp (2 ∷ 10 ∷ [])
unfolding IsStrictlySortedBy
two_and_ten = ((refl, tt), (tt, tt))

ten_and_two : IsStrictlySortedBy nat_cmp (10 ∷ 2 ∷ []) → ⊥
unfolding IsStrictlySortedBy
ten_and_two rising = let less = rising.0.0 in cc

two_twice : IsStrictlySortedBy nat_cmp (2 ∷ 2 ∷ []) → ⊥
unfolding IsStrictlySortedBy
two_twice rising = let less = rising.0.0 in cc

-- in the header `1` and `1.` differ, and so do the texts DEMO and demo
whole_and_real : SameParam (whole (pos 1)) (real one) → ⊥
whole_and_real same = elim same [ ]

capitals : SameParam (text (codes "DEMO")) (text (codes "demo")) → ⊥
capitals same = by (text (codes "DEMO")) (text (codes "demo")) same refl refl
  where
    by : (p q : Param) → SameParam p q → p ≡ text (codes "DEMO") → q ≡ text (codes "demo") → ⊥
    by p q (same_texts chars) first second =
        let first_is : chars ≡ codes "DEMO" = cc in
        let second_is : chars ≡ codes "demo" = cc in
        let heads : 68 ≡ 100 = ap (λ cs. get_or cs 0 0) (sym first_is ∙ second_is) in
        omega (arith, heads)
    by p q other first second = cc

-- the usual limits are limits; those on a canonical file are no wider than those on a source
usual_are : AreLimits usual
usual_are = (lit≤ tt, lit≤ tt)

not_limits : AreLimits (record { record_source = 10; record_canonical = 11; file_source = 10; file_canonical = 10 }) → ⊥
not_limits h = omega (arith, h)

-- the text of a schema or of one parameter
longest_text : text_limit ≡ 16777216
longest_text = refl
