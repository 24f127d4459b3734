-- Whole numbers and their spellings: one value for each spelling, and one canonical spelling for each value.
use Rattle.std.proofs.Common.{◌≡◌, ◌↔◌, ℕ, suc, ◌<◌, ℤ, pos, negsuc, neg_ℤ, List, [], length, refl, ap, sym, ◌∙◌}
use Rattle.std.proofs.lemmas.List.{append-nil}
use Rattle.p21_spec_basics.specs.Digits.{AllDigits, plain_digits}
use Rattle.p21_spec_exchange.specs.Number.{SpellsWhole, minus, none}
use Rattle.p21_spec_exchange.specs.Spelling.{whole_spelling}
use Rattle.p21_spec_exchange.proofs.Forms.{NoSignFirst, no_sign_first, sign_once}
use Rattle.p21_spec_basics.proofs.PlainDigits.{plain_are_digits, plain_digits_are, plain_some}

-- one spelling has one value
pub whole_once : (bytes : List ℕ) (a b : ℤ) → SpellsWhole bytes a → SpellsWhole bytes b → a ≡ b
whole_once bytes a b s t =
    let no_sign : (ds : List ℕ) → 0 < length ds → AllDigits ds → NoSignFirst ds = λ ds some digits. rw append-nil at (no_sign_first ds [] some digits) in
    let parts = sign_once s.sign t.sign s.digits t.digits (no_sign s.digits s.some_digits s.are_digits) (no_sign t.digits t.some_digits t.are_digits) (sym s.bytes_are ∙ t.bytes_are) in
    s.value_is ∙ rw (parts.0, parts.1) (sym t.value_is)

-- the canonical spelling spells the value
pub whole_spells : (z : ℤ) → SpellsWhole (whole_spelling z) z
whole_spells (pos n) =
    let own = plain_digits_are n in
    record { sign = none; digits = plain_digits n; bytes_are = refl; some_digits = plain_some _ own.0; are_digits = plain_are_digits _ own.0; value_is = ap pos (sym own.1) }
whole_spells (negsuc n) =
    let own = plain_digits_are (suc n) in
    record { sign = minus; digits = plain_digits (suc n); bytes_are = refl; some_digits = plain_some _ own.0; are_digits = plain_are_digits _ own.0; value_is = ap (λ (m : ℕ). neg_ℤ (pos m)) (sym own.1) }

-- two values are the same exactly if their canonical spellings are equal
pub whole_spelling_same : (a b : ℤ) → (a ≡ b) ↔ (whole_spelling a ≡ whole_spelling b)
whole_spelling_same a b = (λ same. ap whole_spelling same, λ same. whole_once (whole_spelling a) a b (whole_spells a) (rw same (whole_spells b)))
