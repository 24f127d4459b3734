-- Numbers that rise by equal steps.
use Rattle.std.proofs.Common.{◌≡◌, ◌+◌, ◌*◌, ◌/◌, ◌-◌, ◌<◌, ◌≤◌, ℕ, zero, suc, List, [], ◌∷◌, ◌++◌, length, Option, Some, None, inl, inr, refl, ap, ◌∙◌, arith}
use Rattle.std.proofs.lemmas.Bool.Decides.{eqb_tells}
use Rattle.std.proofs.Math.Nat.{mul-div_left, mul-le-mul_right}
use Rattle.std.specs.List.{range_with_len, slice_get}
use Rattle.std.specs.Option.{option_map}
use Rattle.p21_stream_store.specs.Runs.{numbers_by, place_in}

pub length-run : (first step count : ℕ) → length (numbers_by first step count) ≡ count
length-run first step zero = refl
length-run first step (suc count) = ap (λ (n : ℕ). suc n) (length-run (first + step) step count)

pub run_got : (first step count i : ℕ) → i < count → slice_get (numbers_by first step count) i ≡ Some (first + i * step)
run_got first step zero i h = absurd (omega (arith, h))
run_got first step (suc count) zero h = ap (λ (n : ℕ). Some n) (let e : first ≡ first + 0 * step = omega arith in e)
run_got first step (suc count) (suc i) h = run_got (first + step) step count i (omega (arith, h))
    ∙ ap (λ (n : ℕ). Some n) (let e : first + step + i * step ≡ first + suc i * step = omega arith in e)

-- a run by ones is a range
pub run_by_ones : (first count : ℕ) → numbers_by first 1 count ≡ range_with_len first count
run_by_ones first zero = refl
run_by_ones first (suc count) = ap (λ (ns : List ℕ). first ∷ ns) (run_by_ones (first + 1) count)

pub run_more : (first step count : ℕ) → numbers_by first step (count + 1) ≡ numbers_by first step count ++ (first + count * step) ∷ []
run_more first step zero = ap (λ (n : ℕ). n ∷ []) (let e : first ≡ first + 0 * step = omega arith in e)
run_more first step (suc count) =
    let e : first + step + count * step ≡ first + suc count * step = omega arith in
    let f : suc count + 1 ≡ suc (count + 1) = omega arith in
    ap (λ (n : ℕ). numbers_by first step n) f
    ∙ ap (λ (ns : List ℕ). first ∷ ns) (run_more (first + step) step count)
    ∙ ap (λ (n : ℕ). first ∷ (numbers_by (first + step) step count ++ n ∷ [])) e

-- no number of a run is above its last one
pub below_last : (step count i : ℕ) → i < count → i * step ≤ (count - 1) * step
below_last step count i h =
    let less : i ≤ count - 1 = omega (arith, h) in
    mul-le-mul_right step less

-- a number stands in a run where its steps from the first say
pub run_place : (first step count k : ℕ) → 0 < step → k < count → place_in (numbers_by first step count) (first + k * step) ≡ Some k
run_place first step zero k some h = absurd (omega (arith, h))
run_place first step (suc count) zero some h = elim (eqb_tells first (first + 0 * step))
    [ inl same ↦ rw (place_in, same.0) refl | inr other ↦ absurd (other.1 (omega arith)) ]
run_place first step (suc count) (suc k) some h = elim (eqb_tells first (first + suc k * step)) [
  | inl same ↦ absurd (omega (arith, same.1, some))
  | inr other ↦
      let later : place_in (numbers_by (first + step) step count) (first + suc k * step) ≡ Some k =
      ap (λ (n : ℕ). place_in (numbers_by (first + step) step count) n)
      (let e : first + suc k * step ≡ first + step + k * step = omega arith in e)
      ∙ run_place (first + step) step count k some (omega (arith, h)) in
      rw (place_in, other.0) (ap (λ (place : Option ℕ). option_map (λ (n : ℕ). suc n) place) later)
]

-- and no other number stands there
pub not_in_run : (first step count number : ℕ) → ((k : ℕ) → k < count → number ≡ first + k * step → ⊥)
    → place_in (numbers_by first step count) number ≡ None
not_in_run first step zero number apart = refl
not_in_run first step (suc count) number apart = elim (eqb_tells first number) [
  | inl same ↦ absurd (apart 0 (omega arith) (omega (arith, same.1)))
  | inr other ↦ rw (place_in, other.0) (ap (λ (place : Option ℕ). option_map (λ (n : ℕ). suc n) place)
      (not_in_run (first + step) step count number (λ k h e. apart (suc k) (omega (arith, h)) (omega (arith, e)))))
]

-- ---- steps in a distance

pub steps_are : (first step number k : ℕ) → 0 < step → number ≡ first + k * step → (number - first) / step ≡ k
steps_are first step number k some is = ap (λ (n : ℕ). n / step) (let e : number - first ≡ k * step = omega (arith, is) in e)
    ∙ mul-div_left k some

-- the number behind the last one by the step
pub next_is : (first step count number : ℕ) → (count ≡ 0 → ⊥) → first + (count - 1) * step < number
    → number - (first + (count - 1) * step) ≡ step → first + count * step ≡ number
next_is first step zero number some above is = absurd (some refl)
next_is first step (suc count) number some above is =
    let less : (suc count - 1) * step ≡ count * step = ap (λ (n : ℕ). n * step) (let e : suc count - 1 ≡ count = omega arith in e) in
    let more : suc count * step ≡ step + count * step = omega arith in
    omega (arith, above, is, less, more)
