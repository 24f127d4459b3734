-- What the class of a byte says of it.
use Rattle.std.proofs.Common.{◌≡◌, ℕ, ◌⊎◌, inl, inr, eqb, arith, refl}
use Rattle.std.proofs.lemmas.Bool.{cond_both, eqb-true, eqb-false}
use Rattle.std.proofs.lemmas.Bool.Decides.{not_from_Decides}
use Rattle.p21_scan.proofs.Classes.{blank-decides, digit-decides}
use Rattle.p21_scan.specs.Bytes.{is_blank}
use Rattle.p21_spec_basics.specs.Digits.{IsDigit, is_digit}
use Rattle.p21_spec_survey.specs.Landmark.{IsBlank, IsOpener}
use Rattle.p21_stream_resume.specs.Step.{class_of}
use Rattle.p21_stream_resume.specs.declared.class.Class.{Class}
use Rattle.p21_stream_resume.specs.declared.class.Class.TheVariants as class

abbrev pub IsOfClass : Class → ℕ → Type 0
IsOfClass class.Digit b = IsDigit b
IsOfClass class.Hash b = b ≡ 35
IsOfClass class.Equals b = b ≡ 61
IsOfClass class.Semicolon b = b ≡ 59
IsOfClass class.Parenthesis b = b ≡ 41
IsOfClass class.LineEnd b = (b ≡ 10) ⊎ (b ≡ 13)
IsOfClass class.Blank b = IsBlank b × (IsOpener b → ⊥)
IsOfClass class.Other b = (IsBlank b → ⊥) × (IsOpener b → ⊥) × (IsDigit b → ⊥)

no-opener : (b : ℕ) → (b ≡ 59 → ⊥) → (b ≡ 41 → ⊥) → (b ≡ 10 → ⊥) → (b ≡ 13 → ⊥) → IsOpener b → ⊥
no-opener b p q r s (inl e) = p e
no-opener b p q r s (inr (inl e)) = q e
no-opener b p q r s (inr (inr (inl e))) = r e
no-opener b p q r s (inr (inr (inr e))) = s e

pub class-is : (b : ℕ) → IsOfClass (class_of b) b
class-is b =
    let P : Class → Type 0 = λ k. IsOfClass k b in
    cond_both (eqb b 35) class.Hash _ P (λ e. eqb-true b 35 e) (λ n35.
    cond_both (eqb b 61) class.Equals _ P (λ e. eqb-true b 61 e) (λ n61.
    cond_both (eqb b 59) class.Semicolon _ P (λ e. eqb-true b 59 e) (λ n59.
    cond_both (eqb b 41) class.Parenthesis _ P (λ e. eqb-true b 41 e) (λ n41.
    cond_both (eqb b 10) class.LineEnd _ P (λ e. inl (eqb-true b 10 e)) (λ n10.
    cond_both (eqb b 13) class.LineEnd _ P (λ e. inr (eqb-true b 13 e)) (λ n13.
    cond_both (is_digit b) class.Digit _ P (λ e. (digit-decides b).0 e) (λ no_digit.
    let none : IsOpener b → ⊥ = no-opener b (eqb-false b 59 n59) (eqb-false b 41 n41) (eqb-false b 10 n10) (eqb-false b 13 n13) in
    cond_both (is_blank b) class.Blank class.Other P (λ e. ((blank-decides b).0 e, none)) (λ no_blank.
    (not_from_Decides _ (blank-decides b) no_blank, none, not_from_Decides _ (digit-decides b) no_digit)))))))))

-- a digit is of the class of digits
pub digit-class : (b : ℕ) → IsDigit b → class_of b ≡ class.Digit
digit-class b is = by-class (class_of b) (class-is b)
  where
    by-class : (k : Class) → IsOfClass k b → k ≡ class.Digit
    by-class class.Digit of = refl
    by-class class.Hash of = absurd (omega (arith, of, is))
    by-class class.Equals of = absurd (omega (arith, of, is))
    by-class class.Semicolon of = absurd (omega (arith, of, is))
    by-class class.Parenthesis of = absurd (omega (arith, of, is))
    by-class class.LineEnd (inl e) = absurd (omega (arith, e, is))
    by-class class.LineEnd (inr e) = absurd (omega (arith, e, is))
    by-class class.Blank (inl low, none) = absurd (omega (arith, low, is))
    by-class class.Blank (inr delete, none) = absurd (omega (arith, delete, is))
    by-class class.Other of = absurd (of.2 is)

-- a blank is of one of two classes
pub blank-class : (b : ℕ) → IsBlank b → (class_of b ≡ class.Blank) ⊎ (class_of b ≡ class.LineEnd)
blank-class b is = by-class (class_of b) (class-is b) is
  where
    by-class : (k : Class) → IsOfClass k b → IsBlank b → (k ≡ class.Blank) ⊎ (k ≡ class.LineEnd)
    by-class class.Blank of bl = inl refl
    by-class class.LineEnd of bl = inr refl
    by-class class.Digit of (inl low) = absurd (omega (arith, low, of))
    by-class class.Digit of (inr delete) = absurd (omega (arith, delete, of))
    by-class class.Hash of (inl low) = absurd (omega (arith, low, of))
    by-class class.Hash of (inr delete) = absurd (omega (arith, delete, of))
    by-class class.Equals of (inl low) = absurd (omega (arith, low, of))
    by-class class.Equals of (inr delete) = absurd (omega (arith, delete, of))
    by-class class.Semicolon of (inl low) = absurd (omega (arith, low, of))
    by-class class.Semicolon of (inr delete) = absurd (omega (arith, delete, of))
    by-class class.Parenthesis of (inl low) = absurd (omega (arith, low, of))
    by-class class.Parenthesis of (inr delete) = absurd (omega (arith, delete, of))
    by-class class.Other of bl = absurd (of.0 bl)
