-- The digits of an instance name are known from the bytes.
use Rattle.std.proofs.Common.{◌≡◌, ℕ, ◌^◌, ◌<◌, List, [], ◌∷◌, ◌++◌, length, refl, ap, sym, ◌∙◌, arith, append-nil}
use Rattle.p21_spec_basics.proofs.Members.{tail_is}
use Rattle.p21_spec_basics.specs.Digits.{AllDigits, number}
use Rattle.p21_spec_exchange.proofs.Forms.{NoDigitFirst, split_once}
use Rattle.p21_spec_exchange.specs.Name.{NameForm, SpellsName}
use Rattle.p21_scan.specs.Name.{IsNameAt, NoNameAt}

pub no_digits-behind : (bytes marked digits rest : List ℕ) → bytes ≡ 35 ∷ marked → marked ≡ digits ++ rest → AllDigits digits → NoDigitFirst rest → length digits ≡ 0 → NoNameAt bytes
no_digits-behind bytes marked digits rest e f are ends empty ds tail x =
    let same = split_once ds digits tail rest x.are_digits are x.ends ends (sym (tail_is 35 35 marked (ds ++ tail) (sym e ∙ x.bytes_are)) ∙ f) in
    omega (arith, ap length same.0, x.some_digits, empty)

pub name-once : (bytes a b r s : List ℕ) → IsNameAt bytes a r → IsNameAt bytes b s → (a ≡ b) × (r ≡ s)
name-once bytes a b r s x y = split_once a b r s x.are_digits y.are_digits x.ends y.ends (tail_is 35 35 (a ++ r) (b ++ s) (sym x.bytes_are ∙ y.bytes_are))

-- bytes that are a name and nothing else
pub name-whole : (bytes : List ℕ) (form : NameForm bytes) → IsNameAt bytes form.digits []
name-whole bytes form = record { bytes_are = form.bytes_are ∙ ap (λ (ds : List ℕ). 35 ∷ ds) (sym (append-nil form.digits)); some_digits = form.some_digits; are_digits = form.are_digits; ends = tt }

-- a name that is all of the bytes
pub name-all : (bytes digits rest : List ℕ) → IsNameAt bytes digits rest → length rest ≡ 0 → bytes ≡ 35 ∷ digits
name-all bytes digits [] x none = x.bytes_are ∙ ap (λ (ds : List ℕ). 35 ∷ ds) (append-nil digits)
name-all bytes digits (byte ∷ rest) x none = absurd (omega arith)

-- the mark and the digits spell the number
pub name-spells : (bytes digits rest : List ℕ) → IsNameAt bytes digits rest → number digits < 2 ^ 64 → SpellsName (35 ∷ digits) (number digits)
name-spells bytes digits rest x small = record { form = record { digits = digits; bytes_are = refl; some_digits = x.some_digits; are_digits = x.are_digits }; value_is = refl; in_range = small }
