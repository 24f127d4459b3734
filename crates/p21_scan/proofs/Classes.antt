-- The tests on bytes tell what the definitions of the classes say.
use Rattle.std.proofs.Common.{◌≡◌, ℕ, ◌≤◌, Bool, false, leb, arith}
use Rattle.std.proofs.lemmas.Bool.{false_from_ne_true}
use Rattle.std.proofs.lemmas.Bool.Decides.{nat_tests, Decides-and, Decides-or, Decides-eqb}
use Rattle.std.specs.Bool.{Decides}
use Rattle.p21_spec_basics.specs.Digits.{IsDigit, is_digit}
use Rattle.p21_spec_exchange.specs.Keyword.{IsUpper, IsKeywordByte}
use Rattle.p21_spec_exchange.specs.Separator.{IsSeparator, blank}
use Rattle.p21_scan.specs.Bytes.{is_upper, is_keyword_byte, is_blank}

Decides-leb : (a b : ℕ) → Decides (leb a b) (a ≤ b)
Decides-leb a b = (λ e. grind (arith, nat_tests), λ h. grind (arith, nat_tests))

pub digit-decides : (b : ℕ) → Decides (is_digit b) (IsDigit b)
digit-decides b = Decides-and _ _ (Decides-leb 48 b) (Decides-leb b 57)

pub upper-decides : (b : ℕ) → Decides (is_upper b) (IsUpper b)
upper-decides b = Decides-or _ _ (Decides-and _ _ (Decides-leb 65 b) (Decides-leb b 90)) (Decides-eqb b 95)

pub keyword_byte-decides : (b : ℕ) → Decides (is_keyword_byte b) (IsKeywordByte b)
keyword_byte-decides b = Decides-or _ _ (upper-decides b) (digit-decides b)

pub blank-decides : (b : ℕ) → Decides (is_blank b) (IsSeparator (blank b))
blank-decides b = Decides-or _ _ (Decides-leb b 32) (Decides-eqb b 127)

-- a test that decides is false where its fact fails
pub false_from_not : {P : Type 0} → (r : Bool) → Decides r P → (P → ⊥) → r ≡ false
false_from_not r d n = false_from_ne_true r (λ e. n (d.0 e))
