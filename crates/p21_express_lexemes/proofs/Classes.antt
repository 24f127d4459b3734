-- The classes of bytes, as the definitions say them.
use Rattle.std.proofs.Common.{◌≡◌, ◌≢◌, ℕ, ◌≤◌, true, false, inl, inr, arith}
use Rattle.std.proofs.lemmas.Bool.{false_from_ne_true}
use Rattle.std.proofs.lemmas.Bool.Decides.{nat_tests}
use Rattle.p21_spec_basics.specs.Digits.{IsDigit}
use Rattle.p21_spec_schema.specs.Express.{IsLetter, IsIdentifierByte}
use Rattle.p21_spec_schema.specs.Remark.{blank, IsSeparator}
use Rattle.p21_express_lexemes.specs.Bytes.{is_of}
use Rattle.p21_express_lexemes.specs.declared.bytes.Class.TheVariants.{Blank, Letter, Digit, IdentifierByte, Encoded, SymbolByte}

pub blank_is : (b : ℕ) → IsSeparator (blank b) → is_of Blank b ≡ true
unfolding is_of
blank_is b (inl h) = grind (arith, nat_tests)
blank_is b (inr h) = grind (arith, nat_tests)

pub blank_only : (b : ℕ) → is_of Blank b ≡ true → IsSeparator (blank b)
unfolding is_of
blank_only b h = grind (arith, nat_tests)

pub letter_is : (b : ℕ) → IsLetter b → is_of Letter b ≡ true
unfolding is_of
letter_is b (inl h) = grind (arith, nat_tests)
letter_is b (inr h) = grind (arith, nat_tests)

pub letter_only : (b : ℕ) → is_of Letter b ≡ true → IsLetter b
unfolding is_of
letter_only b h = grind (arith, nat_tests)

pub digit_is : (b : ℕ) → IsDigit b → is_of Digit b ≡ true
unfolding is_of
digit_is b h = grind (arith, nat_tests)

pub digit_only : (b : ℕ) → is_of Digit b ≡ true → IsDigit b
unfolding is_of
digit_only b h = (grind (arith, nat_tests), grind (arith, nat_tests))

pub identifier_is : (b : ℕ) → IsIdentifierByte b → is_of IdentifierByte b ≡ true
unfolding is_of
identifier_is b (inl (inl h)) = grind (arith, nat_tests)
identifier_is b (inl (inr h)) = grind (arith, nat_tests)
identifier_is b (inr (inl h)) = grind (arith, nat_tests)
identifier_is b (inr (inr h)) = grind (arith, nat_tests)

pub identifier_only : (b : ℕ) → is_of IdentifierByte b ≡ true → IsIdentifierByte b
unfolding is_of
identifier_only b h = grind (arith, nat_tests)

pub encoded_is : (b : ℕ) → b ≢ 34 → is_of Encoded b ≡ true
unfolding is_of
encoded_is b h = grind (arith, nat_tests)

pub encoded_only : (b : ℕ) → is_of Encoded b ≡ true → b ≢ 34
unfolding is_of
encoded_only b h = λ e. grind (arith, nat_tests)

pub no_letter : (b : ℕ) → (IsLetter b → ⊥) → is_of Letter b ≡ false
no_letter b n = false_from_ne_true (is_of Letter b) (λ h. n (letter_only b h))

pub no_digit : (b : ℕ) → (IsDigit b → ⊥) → is_of Digit b ≡ false
no_digit b n = false_from_ne_true (is_of Digit b) (λ h. n (digit_only b h))

pub no_identifier : (b : ℕ) → (IsIdentifierByte b → ⊥) → is_of IdentifierByte b ≡ false
no_identifier b n = false_from_ne_true (is_of IdentifierByte b) (λ h. n (identifier_only b h))

-- no letter, digit, apostrophe or quotation mark is a symbol, and no printing byte a blank
pub symbol_is : (b : ℕ) → (33 ≤ b) → (b ≤ 126) → is_of Letter b ≡ false → is_of Digit b ≡ false → b ≢ 39 → b ≢ 34 → is_of SymbolByte b ≡ true
unfolding is_of
symbol_is b low high n m k l = grind (arith, nat_tests)

pub printing_no_blank : (b : ℕ) → (33 ≤ b) → (b ≤ 126) → is_of Blank b ≡ false
unfolding is_of
printing_no_blank b low high = grind (arith, nat_tests)

pub letter_prints : (b : ℕ) → IsLetter b → (33 ≤ b) × (b ≤ 126) × (b ≢ 40) × (b ≢ 45)
letter_prints b (inl h) = (omega arith, omega arith, λ e. omega arith, λ e. omega arith)
letter_prints b (inr h) = (omega arith, omega arith, λ e. omega arith, λ e. omega arith)

pub digit_no_letter : (b : ℕ) → IsDigit b → IsLetter b → ⊥
digit_no_letter b d (inl h) = omega arith
digit_no_letter b d (inr h) = omega arith

pub symbol_only : (b : ℕ) → is_of SymbolByte b ≡ true → (33 ≤ b) × (b ≤ 126)
unfolding is_of
symbol_only b h = (grind (arith, nat_tests), grind (arith, nat_tests))
