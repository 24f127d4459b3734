-- Lemmas on digits that are written from the last one on.
use Rattle.std.proofs.Common.{◌≡◌, ℕ, zero, suc, ◌+◌, ◌-◌, ◌/◌, ◌%◌, ◌^◌, ◌<◌, ◌≤◌, List, [], ◌∷◌, ◌++◌, length, drop, set, ap, sym, ◌∙◌, arith, append_assoc}
use Rattle.std.proofs.lemmas.List.{drop-set, drop_all}
use Rattle.std.proofs.Math.Nat.{pow-succ'}
use Rattle.p21_spec_basics.proofs.LastDigit.{leading, leading-positive, plain_digits-last}
use Rattle.p21_spec_basics.specs.Digits.{plain_digits}

pub last_digit_written : (n at : ℕ) (text : List ℕ) → length text ≡ at + 1 → plain_digits n ≡ leading (n / 10) ++ drop at (set text at (48 + n % 10))
last_digit_written n at text h =
    let written : drop at (set text at (48 + n % 10)) ≡ (48 + n % 10) ∷ [] =
    drop-set text at (48 + n % 10) (omega arith) ∙ ap (λ (ds : List ℕ). (48 + n % 10) ∷ ds) (drop_all (at + 1) text (omega arith)) in
    rw written (plain_digits-last n)

pub next_digit_written : (n rest start : ℕ) (text : List ℕ) → 0 < rest → 0 < start → start ≤ length text
    → plain_digits n ≡ leading rest ++ drop start text → plain_digits n ≡ leading (rest / 10) ++ drop (start - 1) (set text (start - 1) (48 + rest % 10))
next_digit_written n rest start text h k l e =
    let digit = 48 + rest % 10 in
    let back : start - 1 + 1 ≡ start = omega arith in
    let written : drop (start - 1) (set text (start - 1) digit) ≡ digit ∷ drop start text =
    drop-set text (start - 1) digit (omega arith) ∙ ap (λ (i : ℕ). digit ∷ drop i text) back in
    e ∙ ap (λ (ds : List ℕ). ds ++ drop start text) (leading-positive rest h ∙ plain_digits-last rest) ∙ append_assoc (leading (rest / 10)) (digit ∷ []) (drop start text) ∙ ap (λ (ds : List ℕ). leading (rest / 10) ++ ds) (sym written)

pub tenth-below : (rest room : ℕ) → 0 < rest → rest < 10 ^ room → (0 < room) × (rest / 10 < 10 ^ (room - 1))
tenth-below rest zero h k = absurd (omega arith)
tenth-below rest (suc room) h k =
    let power = pow-succ' 10 room in
    let back : suc room - 1 ≡ room = omega arith in
    (omega arith, rw back (omega arith))
