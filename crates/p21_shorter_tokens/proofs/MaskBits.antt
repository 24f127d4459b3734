-- The lowest set bit of a number, dropped, and its highest.
use Rattle.std.proofs.Common.{◌≡◌, ℕ, zero, suc, ◌-◌, ◌/◌, ◌%◌, ◌^◌, ◌<◌, min, refl, sym, ap, ◌∙◌, arith, pow-suc}
use Rattle.std.specs.Int.{bit_at}
use Rattle.std.specs.Int.Bits.{bit_and}
use Rattle.std.specs.Int.Count.{count_trailing_zeros, under}
use Rattle.std.proofs.lemmas.Nat.{and_shr}
use Rattle.std.proofs.lemmas.Nat.Bits.{bit_at_lowest, bit_at-suc, bit_at_and}

-- `n & (n - 1)`
abbrev pub dropped : ℕ → ℕ
dropped n = bit_and n (n - 1)

abbrev Drops : ℕ → ℕ → ℕ → Type 0
Drops n t i = (i ≡ t → bit_at (dropped n) i ≡ 0) × ((i ≡ t → ⊥) → bit_at (dropped n) i ≡ bit_at n i)

half : (n : ℕ) → dropped n / 2 ≡ bit_and (n / 2) ((n - 1) / 2)
half n = and_shr n (n - 1) 1

low : (n : ℕ) → bit_at (dropped n) 0 ≡ min (n % 2) ((n - 1) % 2)
low n = bit_at_and n (n - 1) 0 ∙ (λ j. min (bit_at_lowest n j) (bit_at_lowest (n - 1) j))

drops-by : (n t d i : ℕ) → 0 < n → n % 2 ≡ d → (0 < n / 2 → (j : ℕ) → Drops (n / 2) t j) → Drops n (under d t) i
drops-by n t (suc d) zero some odd rest = (λ e. omega (arith, low n), λ other. absurd (other refl))
drops-by n t (suc d) (suc i) some odd rest =
    let same : (n - 1) / 2 ≡ n / 2 = omega arith in
    let after : bit_at (n - 1) (suc i) ≡ bit_at n (suc i) = bit_at-suc (n - 1) i ∙ ap (λ x. bit_at x i) same ∙ sym (bit_at-suc n i) in
    (λ e. absurd (omega arith), λ other. omega (arith, bit_at_and n (n - 1) (suc i), after))
drops-by n t zero zero some even rest = (λ e. absurd (omega arith), λ other. omega (arith, low n, bit_at_lowest n))
drops-by n t zero (suc i) some even rest =
    let less : (n - 1) / 2 ≡ n / 2 - 1 = omega arith in
    let at : bit_at (dropped n) (suc i) ≡ bit_at (dropped (n / 2)) i = bit_at-suc (dropped n) i ∙ ap (λ x. bit_at x i) (half n ∙ ap (bit_and (n / 2)) less) in
    let h = rest (omega arith) i in
    (λ e. at ∙ h.0 (omega arith), λ other. at ∙ h.1 (λ e. other (ap suc e)) ∙ sym (bit_at-suc n i))

-- it lacks the lowest set bit, and no other
pub drops : (k n i : ℕ) → 0 < n → n < 2 ^ k → Drops n (count_trailing_zeros k n) i
unfolding count_trailing_zeros
drops zero n i some fits = absurd (omega arith)
drops (suc k) n i some fits = drops-by n (count_trailing_zeros k (n / 2)) (n % 2) i some refl (λ some j. drops k (n / 2) j some (omega (arith, pow-suc 2 k)))
