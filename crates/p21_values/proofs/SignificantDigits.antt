-- Digits of which the first is no zero: none of them for the number zero.
use Rattle.std.proofs.Common.{◌≡◌, ℕ, ◌<◌, List, [], ◌∷◌, length, refl, arith}
use Rattle.std.proofs.Math.Nat.{one-le-pow}
use Rattle.p21_spec_basics.specs.Digits.{AllDigits, number, plain_digits}
use Rattle.p21_spec_basics.proofs.PlainDigits.{ArePlain, number_first, plain_digits-number, plain_once}
use Rattle.p21_scan.specs.Digits.{HasNoLeadingZero}

pub significant_plain : (ds : List ℕ) → AllDigits ds → HasNoLeadingZero ds → 0 < length ds → ArePlain ds
significant_plain [] p n some = absurd (omega arith)
significant_plain (c ∷ []) p n some = p.0
significant_plain (c ∷ d ∷ ds) p n some = (omega (arith, p.0, n), p)

pub significant_positive : (ds : List ℕ) → AllDigits ds → HasNoLeadingZero ds → 0 < length ds → 0 < number ds
significant_positive [] p n some = absurd (omega arith)
significant_positive (c ∷ ds) p n some = omega (arith, number_first c ds (omega (arith, p.0, n)), one-le-pow (length ds) 10 (omega arith))

pub significant_spelling : (ds : List ℕ) → AllDigits ds → HasNoLeadingZero ds → 0 < length ds → plain_digits (number ds) ≡ ds
significant_spelling ds p n some = plain_digits-number ds (significant_plain ds p n some)

pub significant_once : (a b : List ℕ) → AllDigits a → HasNoLeadingZero a → AllDigits b → HasNoLeadingZero b → number a ≡ number b → a ≡ b
significant_once [] [] p m q n e = refl
significant_once [] (d ∷ b) p m q n e = absurd (omega (arith, significant_positive (d ∷ b) q n (omega arith)))
significant_once (c ∷ a) [] p m q n e = absurd (omega (arith, significant_positive (c ∷ a) p m (omega arith)))
significant_once (c ∷ a) (d ∷ b) p m q n e = plain_once (c ∷ a) (d ∷ b) (significant_plain (c ∷ a) p m (omega arith)) (significant_plain (d ∷ b) q n (omega arith)) e
