-- Directives of a string by their bytes.
use Rattle.std.proofs.Common.{◌≡◌, ℕ, ◌+◌, List, ◌∷◌, refl, ap}
use Rattle.p21_spec_exchange.specs.Text.{IsGraphic}
use Rattle.p21_scan.specs.Hex.{IsGroupAt}
use Rattle.p21_scan.specs.Text.{IsLatinAt, by_digits, by_page}

pub arbitrary_at : (digits : List ℕ) (code : ℕ) (rest : List ℕ) → IsGroupAt 2 digits code rest → IsLatinAt (92 ∷ 88 ∷ 92 ∷ digits) code rest
arbitrary_at digits code rest x = by_digits (record { is_unit = x.small; bytes_are = ap (λ (bytes : List ℕ). 92 ∷ 88 ∷ 92 ∷ bytes) x.bytes_are })

pub page_at : (bytes : List ℕ) (byte : ℕ) (rest : List ℕ) → IsGraphic byte → bytes ≡ byte ∷ rest → IsLatinAt (92 ∷ 83 ∷ 92 ∷ bytes) (byte + 128) rest
page_at bytes byte rest graphic e = by_page byte refl (record { is_unit = graphic; bytes_are = ap (λ (behind : List ℕ). 92 ∷ 83 ∷ 92 ∷ behind) e })
