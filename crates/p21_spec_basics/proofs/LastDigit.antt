-- The plain digits of a number are those of its tenth and the last one.
use Rattle.std.proofs.Common.{◌≡◌, ℕ, zero, suc, ◌+◌, ◌/◌, ◌%◌, ◌<◌, List, [], ◌∷◌, ◌++◌, refl, ◌∙◌, arith}
use Rattle.p21_spec_basics.specs.Digits.{IsDigit, number, plain_digits}
use Rattle.p21_spec_basics.proofs.PlainDigits.{ArePlain, digits_append, number_append, plain_digits_are, plain_digits-number}

-- the digits in front of the last one: those of the tenth, and none where that is 0
abbrev pub leading : ℕ → List ℕ
leading zero = []
leading (suc n) = plain_digits (suc n)

pub leading-positive : (n : ℕ) → 0 < n → leading n ≡ plain_digits n
leading-positive zero h = absurd (omega arith)
leading-positive (suc n) h = refl

plain_behind : (ds : List ℕ) (c : ℕ) → ArePlain ds → 0 < number ds → IsDigit c → ArePlain (ds ++ (c ∷ []))
plain_behind [] c p n d = absurd p
plain_behind (x ∷ []) c p n d = (omega (arith, n, p), (p, (d, tt)))
plain_behind (x ∷ y ∷ ds) c p n d = (p.0, (p.1.0, digits_append (y ∷ ds) (c ∷ []) p.1.1 (d, tt)))

known : (n : ℕ) (ds : List ℕ) → ArePlain ds → number ds ≡ n → plain_digits n ≡ ds
known n ds p e = rw (← e) (plain_digits-number ds p)

pub plain_digits-last : (n : ℕ) → plain_digits n ≡ leading (n / 10) ++ ((48 + n % 10) ∷ [])
plain_digits-last n = by (n / 10) refl
  where
    by : (q : ℕ) → n / 10 ≡ q → plain_digits n ≡ leading q ++ ((48 + n % 10) ∷ [])
    by zero e = known n ((48 + n % 10) ∷ []) (omega arith, omega arith) (omega arith)
    by (suc q) e =
        let own = plain_digits_are (suc q) in
        known n (plain_digits (suc q) ++ ((48 + n % 10) ∷ [])) (plain_behind (plain_digits (suc q)) (48 + n % 10) own.0 (omega (arith, own.1)) (omega arith, omega arith)) (number_append (plain_digits (suc q)) ((48 + n % 10) ∷ []) ∙ (omega (arith, own.1)))
