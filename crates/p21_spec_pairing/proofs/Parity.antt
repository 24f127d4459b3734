-- Functions by cases on even and odd numbers.
use Rattle.std.specs.Prelude.{◌≡◌, ℕ, zero, suc, ◌+◌, refl}
use Rattle.std.proofs.Common.{arith, ap, ◌∙◌}
use Rattle.p21_spec_pairing.specs.Joined.{of_first, of_second}

-- by half of the number, with a function for even and one for odd numbers
abbrev pub by_parity : {X : Type 0} → (ℕ → X) → (ℕ → X) → ℕ → X
by_parity even odd zero = even zero
by_parity even odd (suc n) = by_parity odd (λ k. even (suc k)) n

pub at-even : {X : Type 0} (even odd : ℕ → X) (n : ℕ) → by_parity even odd (of_first n) ≡ even n
at-even even odd zero = refl
at-even even odd (suc n) =
    let two : suc n + suc n ≡ suc (suc (n + n)) = omega arith in
    ap (by_parity even odd) two ∙ at-even (λ k. even (suc k)) (λ k. odd (suc k)) n

pub at-odd : {X : Type 0} (even odd : ℕ → X) (n : ℕ) → by_parity even odd (of_second n) ≡ odd n
at-odd even odd n = at-even odd (λ k. even (suc k)) n
