-- Whole numbers as they are stored: known by their value, and near to its spelling.
use Rattle.std.proofs.Common.{◌≡◌, ℕ, zero, suc, ◌<◌, Bool, true, false, cond, List, ◌∷◌, length, ℤ, pos, neg_ℤ, nat_eq, refl, ap, sym, ◌∙◌, arith}
use Rattle.std.proofs.lemmas.Bool.Decides.{Decides-eqb}
use Rattle.std.proofs.lemmas.Slice.Eq.{slice_eq-Decides}
use Rattle.std.specs.Bool.{Decides}
use Rattle.std.specs.Cmp.Lexicographic.{pointwise}
use mathlib.Core.Bool.{beq}
use Rattle.p21_spec_basics.specs.Digits.{number, plain_digits}
use Rattle.p21_spec_exchange.specs.Number.{signed}
use Rattle.p21_spec_exchange.specs.Spelling.{whole_spelling}
use Rattle.p21_spec_exchange.proofs.SignedNumbers.{signed_once}
use Rattle.p21_values.specs.Stored.{IsStoredWhole}
use Rattle.p21_values.proofs.SignificantDigits.{significant_once, significant_positive, significant_spelling}

minus_positive : (negative : Bool) (ds : List ℕ) → IsStoredWhole negative ds → negative ≡ true → 0 < number ds
minus_positive negative ds s e = significant_positive ds s.are_digits s.first (s.minus e)

pub stored_spelling : (negative : Bool) (ds : List ℕ) → IsStoredWhole negative ds → 0 < length ds → whole_spelling (signed negative (number ds)) ≡ cond negative (45 ∷ ds) ds
stored_spelling false ds s some = significant_spelling ds s.are_digits s.first some
stored_spelling true ds s some = below (number ds) refl (significant_positive ds s.are_digits s.first some)
  where
    below : (n : ℕ) → number ds ≡ n → 0 < n → whole_spelling (neg_ℤ (pos n)) ≡ 45 ∷ ds
    below zero e k = absurd (omega arith)
    below (suc n) e k = ap (λ cs. 45 ∷ cs) (ap plain_digits (sym e) ∙ significant_spelling ds s.are_digits s.first some)

pub stored_once : (m n : Bool) (a b : List ℕ) → IsStoredWhole m a → IsStoredWhole n b → signed m (number a) ≡ signed n (number b) → (m ≡ n) × (a ≡ b)
stored_once m n a b s t e =
    let parts = signed_once m n (number a) (number b) (minus_positive m a s) (minus_positive n b t) e in
    (parts.0, significant_once a b s.are_digits s.first t.are_digits t.first parts.1)

-- what decides the sameness of the parts decides that of the values
pub whole_decides : (m n : Bool) (a b : List ℕ) → IsStoredWhole m a → IsStoredWhole n b → (x y : ℤ) → signed m (number a) ≡ x → signed n (number b) ≡ y → (r : Bool) → Decides r ((m ≡ n) × (a ≡ b)) → Decides r (x ≡ y)
whole_decides m n a b s t x y e f r h = (
  λ yes. let p = h.0 yes in sym e ∙ rw (p.0, p.1) f,
  λ same. h.1 (stored_once m n a b s t (e ∙ same ∙ sym f)),
)

alike : (m n : Bool) → beq m n ≡ true → m ≡ n
alike false false e = refl
alike false true e = cc
alike true false e = cc
alike true true e = refl

unlike : (m n : Bool) → beq m n ≡ false → m ≡ n → ⊥
unlike false false e same = cc
unlike false true e same = cc
unlike true false e same = cc
unlike true true e same = cc

pub other_sign : (m n : Bool) (P : Type 0) → beq m n ≡ false → Decides (beq m n) ((m ≡ n) × P)
other_sign m n P e = (λ yes. cc, λ same. absurd (unlike m n e same.0))

pub same_sign : (m n : Bool) (a b : List ℕ) → beq m n ≡ true → (r : Bool) → r ≡ pointwise nat_eq a b → Decides r ((m ≡ n) × (a ≡ b))
same_sign m n a b e r h =
    let lists = slice_eq-Decides Decides-eqb a b r h in (λ yes. (alike m n e, lists.0 yes), λ same. lists.1 same.1)
