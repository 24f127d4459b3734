-- Digits are known by how many they are and by their number.
use Rattle.std.proofs.Common.{◌≡◌, ℕ, zero, suc, ◌+◌, ◌-◌, ◌*◌, ◌/◌, ◌%◌, ◌^◌, ◌<◌, ◌≤◌, List, [], ◌∷◌, length, take, get_or, refl, sym, ap, ◌∙◌, arith}
use Rattle.std.proofs.Math.Nat.{mul-le-mul_left, one-le-pow}
use Rattle.std.proofs.lemmas.List.{get_or-take, length-take-le}
use Rattle.p21_scan.proofs.DigitRuns.{digit_at, number_more}
use Rattle.p21_spec_basics.specs.Digits.{AllDigits, IsDigit, number}
use Rattle.p21_stream_resume.specs.Shape.{IsDigitOf}

-- the number of all but the last `dropped` digits
abbrev pub IsLeft : ℕ → ℕ → ℕ → ℕ → Type 0
IsLeft count value dropped left = (digits : List ℕ) → AllDigits digits → length digits ≡ count → number digits ≡ value
    → left ≡ number (take (count - dropped) digits)

last-dropped : (n d left next : ℕ) → n ≡ left * 10 + d → d < 10 → next ≡ n / 10 → next ≡ left
last-dropped n d left next is low next_is = omega (arith, is, low, next_is)

pub left-start : (count value : ℕ) → IsLeft count value 0 value
left-start count value digits are size is =
    let none : count ≡ count - 0 = omega arith in
    sym is ∙ (ap number (sym (take-whole digits count size)) ∙ ap (λ (k : ℕ). number (take k digits)) none)
  where
    take-whole : (ds : List ℕ) (k : ℕ) → length ds ≡ k → take k ds ≡ ds
    take-whole [] zero e = refl
    take-whole [] (suc k) e = absurd (omega (arith, e))
    take-whole (d ∷ ds) zero e = absurd (omega (arith, e))
    take-whole (d ∷ ds) (suc k) e = ap (λ (xs : List ℕ). d ∷ xs) (take-whole ds k (omega (arith, e)))

pub left-more : (count value dropped left : ℕ) → dropped < count → IsLeft count value dropped left → IsLeft count value (dropped + 1) (left / 10)
left-more count value dropped left low is digits are size value_is =
    let k : ℕ = count - (dropped + 1) in
    let before : count - dropped ≡ k + 1 = omega (arith, low) in
    let inside : k < length digits = omega (arith, low, size) in
    let digit : IsDigit (get_or digits k 0) = digit_at digits k are inside in
    let split : number (take (k + 1) digits) ≡ number (take k digits) * 10 + (get_or digits k 0 - 48) = number_more digits k inside in
    let whole : left ≡ number (take (k + 1) digits) = is digits are size value_is ∙ ap (λ (i : ℕ). number (take i digits)) before in
    last-dropped left (get_or digits k 0 - 48) (number (take k digits)) (left / 10) (whole ∙ split) (omega (arith, digit)) refl

-- the last of those that are left
pub digit-last : (count value dropped left place : ℕ) → dropped + place + 1 ≡ count → IsLeft count value dropped left → IsDigitOf count value place (48 + left % 10)
digit-last count value dropped left place sum is digits are size value_is =
    let inside : place < length digits = omega (arith, sum, size) in
    let digit : IsDigit (get_or digits place 0) = digit_at digits place are inside in
    let front : count - dropped ≡ place + 1 = omega (arith, sum) in
    let whole : left ≡ number (take (place + 1) digits) = is digits are size value_is ∙ ap (λ (i : ℕ). number (take i digits)) front in
    let split : number (take (place + 1) digits) ≡ number (take place digits) * 10 + (get_or digits place 0 - 48) = number_more digits place inside in
    let last : left ≡ number (take place digits) * 10 + (get_or digits place 0 - 48) = whole ∙ split in
    omega (arith, last, digit)

-- digits of the number zero are zeros
zero-digits : (ds : List ℕ) (i : ℕ) → AllDigits ds → number ds ≡ 0 → i < length ds → get_or ds i 0 ≡ 48
zero-digits [] i are is low = absurd (omega (arith, low))
zero-digits (d ∷ ds) zero are is low =
    let power : 1 ≤ 10 ^ length ds = one-le-pow (length ds) 10 (omega arith) in
    let more : (d - 48) * 1 ≤ (d - 48) * 10 ^ length ds = mul-le-mul_left (d - 48) power in
    let own = are.0 in
    omega (arith, is, more, own)
zero-digits (d ∷ ds) (suc i) are is low = zero-digits ds i are.1 (omega (arith, is)) (omega (arith, low))

take-digits : (k : ℕ) (ds : List ℕ) → AllDigits ds → AllDigits (take k ds)
take-digits zero ds are = tt
take-digits (suc k) [] are = tt
take-digits (suc k) (d ∷ ds) are = (are.0, take-digits k ds are.1)

-- where none is left in front of another digit than zero, it is one
pub digit-zero : (count value dropped left place : ℕ) → dropped + place < count → left ≡ 0 → IsLeft count value dropped left
    → IsDigitOf count value place (48 + left % 10)
digit-zero count value dropped left place low none is digits are size value_is =
    let k : ℕ = count - dropped in
    let within : k ≤ length digits = omega (arith, low, size) in
    let long : length (take k digits) ≡ k = length-take-le k digits within in
    let zeros : number (take k digits) ≡ 0 = sym (is digits are size value_is) ∙ none in
    let own : get_or (take k digits) place 0 ≡ 48 = zero-digits (take k digits) place (take-digits k digits are) zeros (omega (arith, low, long)) in
    let rest : 48 ≡ 48 + left % 10 = ap (λ (x : ℕ). 48 + x % 10) (sym none) in
    sym (get_or-take k digits place 0 (omega (arith, low))) ∙ (own ∙ rest)
