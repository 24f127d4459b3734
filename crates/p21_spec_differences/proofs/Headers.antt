-- Header records are the same exactly if none came, none went, and none has another keyword, count or parameter.
use Rattle.std.specs.Prelude.{◌≡◌, ℕ, zero, suc, List, [], ◌∷◌, length, slice_get, Some, refl}
use Rattle.std.specs.List.{AllZip, AllByRecursion as Each}
use Rattle.std.proofs.Common.{subst, arith}
use Rattle.p21_spec_basics.proofs.Members.{some_is}
use Rattle.p21_spec_exchange.specs.CanonicalText.{param_text}
use Rattle.p21_spec_exchange.specs.Parameter.{Param, Params, no_params, param, listed}
use Rattle.p21_spec_exchange.specs.Record.{Part}
use Rattle.p21_spec_file.specs.SameFile.{SameParam, SameParams, both_end, both_next, SamePart}
use Rattle.p21_spec_laws.proofs.HeaderOnce.{params-tell}
use Rattle.p21_spec_laws.proofs.OfType.{AreWritten}
use Rattle.p21_spec_laws.specs.Written.{IsWritten}
use Rattle.p21_spec_differences.proofs.Decided.{IsDecided, decided-as, key-decided, number-decided, both-decided, settled, text-decided}
use Rattle.p21_spec_differences.specs.Difference.{AreAlike, AreBeside, HasOtherParameter, IsLonger}

-- ---- parameters

param-decided : (p q : Param) → IsWritten p → IsWritten q → IsDecided (SameParam p q)
param-decided p q written written_ =
    let tell = params-tell p q written written_ in
    decided-as (SameParam p q) (param_text p ≡ param_text q) tell.0 tell.1 (text-decided (param_text p) (param_text q))

params-many : (ps qs : Params) → SameParams ps qs → length (listed ps) ≡ length (listed qs)
params-many ps qs both_end = refl
params-many ps qs (both_next p q ps_ qs_ same more) = let later = params-many ps_ qs_ more in omega (arith, later)

params-beside : (ps qs : Params) → SameParams ps qs → (number : ℕ) (p q : Param) → slice_get (listed ps) number ≡ Some p → slice_get (listed qs) number ≡ Some q → SameParam p q
params-beside ps qs both_end number p q at at_ = cc
params-beside ps qs (both_next x y ps_ qs_ same more) zero p q at at_ =
    let P : Param → Type 0 = λ z. SameParam z q in
    let Q : Param → Type 0 = SameParam x in
    subst P (some_is x p at) (subst Q (some_is y q at_) same)
params-beside ps qs (both_next x y ps_ qs_ same more) (suc number) p q at at_ = params-beside ps_ qs_ more number p q at at_

abbrev NoneOther : Params → Params → Type 0
NoneOther ps qs = (number : ℕ) (p q : Param) → slice_get (listed ps) number ≡ Some p → slice_get (listed qs) number ≡ Some q → ¬ ¬ SameParam p q

params-told : (ps qs : Params) → AreWritten ps → AreWritten qs → length (listed ps) ≡ length (listed qs) → NoneOther ps qs → SameParams ps qs
params-told no_params no_params written written_ many none = both_end
params-told no_params (param q qs) written written_ many none = absurd (omega (arith, many))
params-told (param p ps) no_params written written_ many none = absurd (omega (arith, many))
params-told (param p ps) (param q qs) written written_ many none =
    both_next p q ps qs (settled (SameParam p q) (param-decided p q written.0 written_.0) (none 0 p q refl refl))
    (params-told ps qs written.1 written_.1 (omega (arith, many)) (λ number x y at at_. none (suc number) x y at at_))

-- ---- records

alike-decided : (x y : Part) → IsDecided (AreAlike x y)
alike-decided x y =
    both-decided (x.key ≡ y.key) (length (listed x.params) ≡ length (listed y.params)) (key-decided x.key y.key)
    (number-decided (length (listed x.params)) (length (listed y.params)))

-- what differs in header records
pub record NoneDiffers (xs ys : List Part) : Type 0 where
  pub came : (number : ℕ) → ¬ IsLonger ys xs number
  pub went : (number : ℕ) → ¬ IsLonger xs ys number
  pub changed : (number : ℕ) (x y : Part) → AreBeside xs ys number x y → ¬ ¬ AreAlike x y
  pub other : (number place : ℕ) (x y : Part) → AreBeside xs ys number x y → AreAlike x y → ¬ HasOtherParameter x y place

abbrev pub HaveWrittenParams : List Part → Type 0
HaveWrittenParams xs = Each (λ (part : Part). AreWritten part.params) xs

pub headers-told : (xs ys : List Part) → HaveWrittenParams xs → HaveWrittenParams ys → NoneDiffers xs ys → AllZip SamePart xs ys
headers-told [] [] written written_ none = tt
headers-told [] (y ∷ ys) written written_ none = absurd (none.came 0 (y, refl, refl))
headers-told (x ∷ xs) [] written written_ none = absurd (none.went 0 (x, refl, refl))
headers-told (x ∷ xs) (y ∷ ys) written written_ none =
    let alike = settled (AreAlike x y) (alike-decided x y) (none.changed 0 x y (refl, refl)) in (
      (
        alike.0,
        params-told x.params y.params written.0 written_.0 alike.1
            (λ place p q at at_ differ. none.other 0 place x y (refl, refl) alike (p, q, at, at_, differ)),
      ),
      headers-told xs ys written.1 written_.1
          (record {
            came = λ number. none.came (suc number);
            went = λ number. none.went (suc number);
            changed = λ number. none.changed (suc number);
            other = λ number. none.other (suc number);
          }),
    )

-- ---- conversely

same-beside : (xs ys : List Part) → AllZip SamePart xs ys → (number : ℕ) (x y : Part) → AreBeside xs ys number x y → SamePart x y
same-beside [] ys same number x y beside = let none = beside.0 in cc
same-beside (u ∷ us) [] same number x y beside = absurd same
same-beside (u ∷ us) (v ∷ vs) same zero x y beside =
    let P : Part → Type 0 = λ z. SamePart z y in
    let Q : Part → Type 0 = SamePart u in
    subst P (some_is u x beside.0) (subst Q (some_is v y beside.1) same.0)
same-beside (u ∷ us) (v ∷ vs) same (suc number) x y beside = same-beside us vs same.1 number x y beside

none-longer : (xs ys : List Part) → AllZip SamePart xs ys → (number : ℕ) → ¬ IsLonger xs ys number
none-longer [] ys same number (part, at, none) = cc
none-longer (x ∷ xs) [] same number (part, at, none) = absurd same
none-longer (x ∷ xs) (y ∷ ys) same zero (part, at, none) = cc
none-longer (x ∷ xs) (y ∷ ys) same (suc number) (part, at, none) = none-longer xs ys same.1 number (part, at, none)

turned-longer : (xs ys : List Part) → AllZip SamePart xs ys → (number : ℕ) → ¬ IsLonger ys xs number
turned-longer xs [] same number (part, at, none) = cc
turned-longer [] (y ∷ ys) same number (part, at, none) = absurd same
turned-longer (x ∷ xs) (y ∷ ys) same zero (part, at, none) = cc
turned-longer (x ∷ xs) (y ∷ ys) same (suc number) (part, at, none) = turned-longer xs ys same.1 number (part, at, none)

pub headers-same : (xs ys : List Part) → AllZip SamePart xs ys → NoneDiffers xs ys
headers-same xs ys same = record {
  came = turned-longer xs ys same;
  went = none-longer xs ys same;
  changed = λ number x y beside not_alike. let one = same-beside xs ys same number x y beside in not_alike (one.0, params-many x.params y.params one.1);
  other = λ number place x y beside alike (p, q, at, at_, differ). differ (params-beside x.params y.params (same-beside xs ys same number x y beside).1 place p q at at_);
}
