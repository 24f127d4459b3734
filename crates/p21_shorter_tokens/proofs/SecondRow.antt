-- A second row that is written over the first, from the place of the point on.
use Rattle.std.proofs.Common.{◌≡◌, ℕ, ◌+◌, ◌-◌, ◌<◌, ◌≤◌, ltb, Bool, true, false, ◌&&◌, inl, inr, List, [], ◌∷◌, ◌++◌, take, drop, if◌then◌else◌, ap, ap₂, sym, ◌∙◌, arith, append_assoc, append-nil}
use Rattle.std.specs.Int.{from_bool}
use Rattle.std.proofs.lemmas.Bool.{cases_lt, lt-ltb, le-ltb}
use Rattle.std.proofs.lemmas.List.{take-take}
use Rattle.p21_shorter_tokens.specs.Significands.{further_digits}

module _ (wide : ℕ) (bytes : List ℕ) (at point first behind : ℕ) (low : first < point) (some : first < behind) (near : behind ≤ wide) (out : ℕ) (text one two : List ℕ)
    (first-row : (count : ℕ) → count ≤ wide → take (out + count) one ≡ text ++ take count (drop (at + first + 1) bytes))
    (second-row : (count : ℕ) → count ≤ wide → take (out + (point - first - 1) + count) two ≡ take (out + (point - first - 1)) one ++ take count (drop (at + point + 1) bytes))
    (within : point < wide) where
  pub rows : take (out + (behind - first - 1 - from_bool (ltb point behind))) two ≡ text ++ further_digits bytes at point first behind
  rows = elim (cases_lt point behind) [
    | inl over ↦
        let test : ltb point behind ≡ true = lt-ltb point behind over in
        let is : further_digits bytes at point first behind ≡ take (point - first - 1) (drop (at + first + 1) bytes) ++ take (behind - point - 1) (drop (at + point + 1) bytes) =
        ap₂ (λ (s t : Bool). if s && t then take (point - first - 1) (drop (at + first + 1) bytes) ++ take (behind - point - 1) (drop (at + point + 1) bytes) else take (behind - first - 1) (drop (at + first + 1) bytes)) (lt-ltb first point low) test in
        let place : out + (behind - first - 1 - from_bool (ltb point behind)) ≡ out + (point - first - 1) + (behind - point - 1) = ap (λ (t : Bool). out + (behind - first - 1 - from_bool t)) test ∙ omega arith in
        ap (λ (n : ℕ). take n two) place ∙ second-row (behind - point - 1) (omega arith)
        ∙ ap (λ (l : List ℕ). l ++ take (behind - point - 1) (drop (at + point + 1) bytes)) (first-row (point - first - 1) (omega arith))
        ∙ append_assoc text _ _ ∙ ap (λ (l : List ℕ). text ++ l) (sym is)
    | inr up_to ↦
        let test : ltb point behind ≡ false = le-ltb point behind up_to in
        let is : further_digits bytes at point first behind ≡ take (behind - first - 1) (drop (at + first + 1) bytes) =
        ap₂ (λ (s t : Bool). if s && t then take (point - first - 1) (drop (at + first + 1) bytes) ++ take (behind - point - 1) (drop (at + point + 1) bytes) else take (behind - first - 1) (drop (at + first + 1) bytes)) (lt-ltb first point low) test in
        let n = out + (behind - first - 1) in
        let m = out + (point - first - 1) in
        let place : out + (behind - first - 1 - from_bool (ltb point behind)) ≡ n = ap (λ (t : Bool). out + (behind - first - 1 - from_bool t)) test ∙ omega arith in
        let whole : m + 0 ≡ m = omega arith in
        let same : take m two ≡ take m one = ap (λ (k : ℕ). take k two) (sym whole) ∙ second-row 0 (omega arith) ∙ append-nil (take m one) in
        ap (λ (k : ℕ). take k two) place ∙ sym (take-take n m two (omega arith)) ∙ ap (take n) same ∙ take-take n m one (omega arith)
        ∙ first-row (behind - first - 1) (omega arith) ∙ ap (λ (l : List ℕ). text ++ l) (sym is)
  ]

pub joined : (old mark further : List ℕ) (digit : ℕ) → (old ++ (mark ++ digit ∷ 46 ∷ [])) ++ further ≡ old ++ (mark ++ digit ∷ 46 ∷ further)
joined old mark further digit = append_assoc old (mark ++ digit ∷ 46 ∷ []) further ∙ ap (λ (l : List ℕ). old ++ l) (append_assoc mark (digit ∷ 46 ∷ []) further)
