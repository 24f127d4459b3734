-- What the digits that are left of a number stand for, with the first one and without.
use Rattle.std.proofs.Common.{◌≡◌, ℕ, suc, Fits, w8, slice_index_or, ◌+◌, ◌-◌, ◌*◌, ◌^◌, ◌<◌, ◌≤◌, List, [], ◌∷◌, ◌++◌, length, refl}
use Rattle.std.proofs.Common.{ap, sym, ◌∙◌, arith, pow-add}
use Rattle.std.specs.List.{AllByRecursion as Each}
use Rattle.std.proofs.Math.Nat.{add-mul, mul-le-mul_right, mul_assoc, one-le-pow, pow-le-pow_right, pow-succ', zero-mul}
use Rattle.p21_spec_basics.specs.Digits.{IsByte, number}
use Rattle.p21_tolerance.specs.Places.{AreBelow, IsReadable, digits_left, value_of}
use Rattle.p21_tolerance.specs.declared.places.Places.{Places}

-- ---- the first digit

regroup : (d x n z : ℕ) → (d * x + n) * z ≡ d * (x * z) + n * z
regroup d x n z = grind arith

-- the first digit counts the power of ten of its place
first-apart : (digit : ℕ) (digits : List ℕ) (behind place : ℕ) → behind + length (digit ∷ digits) ≡ place + 1
    → number (digit ∷ digits) * 10 ^ behind ≡ (digit - 48) * 10 ^ place + number digits * 10 ^ behind
first-apart digit digits behind place e =
    let at : length digits + behind ≡ place = omega arith in
    let power : 10 ^ length digits * 10 ^ behind ≡ 10 ^ place = sym (pow-add 10 (length digits) behind) ∙ ap (λ (i : ℕ). 10 ^ i) at in
    regroup (digit - 48) (10 ^ length digits) (number digits) (10 ^ behind)
    ∙ ap (λ (p : ℕ). (digit - 48) * p + number digits * 10 ^ behind) power

-- the first of some digits is at this place, where they reach up to the one above it
pub first-taken : (before more : List ℕ) (digit digit_ behind place top : ℕ) → before ≡ digit ∷ more → digit_ ≡ digit - 48 → place < top
    → top ≤ place + 1 → top ≤ behind + length before → (0 < length before → behind + length before ≤ top)
    → number before * 10 ^ behind ≡ digit_ * 10 ^ place + number more * 10 ^ behind
first-taken before more digit digit_ behind place top is counts h k least above =
    let long = ap length is in
    let reach = above (omega (arith, long)) in
    let at : behind + length (digit ∷ more) ≡ place + 1 = omega (arith, long, reach, h, k, least) in
    ap (λ xs. number xs * 10 ^ behind) is ∙ first-apart digit more behind place at
    ∙ ap (λ (d : ℕ). d * 10 ^ place + number more * 10 ^ behind) (sym counts)

pub behind-none : (before behind : List ℕ) → length before ≡ 0 → before ++ behind ≡ behind
behind-none [] behind none = refl
behind-none (x ∷ before) behind none = absurd (omega arith)

-- ---- how much there is below a place

-- bytes make less than 23 of the place above them
bytes-below : (digits : List ℕ) → Each IsByte digits → number digits + 1 ≤ 23 * 10 ^ length digits
bytes-below [] bytes = omega arith
bytes-below (digit ∷ digits) bytes =
    let rest = bytes-below digits bytes.1 in
    let small : digit - 48 ≤ 207 = omega (arith, bytes.0) in
    omega (arith, rest, pow-succ' 10 (length digits), mul-le-mul_right (10 ^ length digits) small)

small-below : (digits : List ℕ) (behind place : ℕ) → Each IsByte digits → (0 < length digits → behind + length digits ≤ place)
    → number digits * 10 ^ behind < 23 * 10 ^ place
small-below [] behind place bytes below = omega (arith, zero-mul (10 ^ behind), one-le-pow place 10 (omega arith))
small-below (digit ∷ digits) behind place bytes below =
    let all = digit ∷ digits in
    let more = mul-le-mul_right (10 ^ behind) (bytes-below all bytes) in
    let one = one-le-pow behind 10 (omega arith) in
    let power : 10 ^ length all * 10 ^ behind ≡ 10 ^ (length all + behind) = sym (pow-add 10 (length all) behind) in
    let short : length all + behind ≤ place = omega (arith, below) in
    let high = pow-le-pow_right {n = 10} (omega arith) {i = length all + behind} {j = place} short in
    omega (arith, more, one, power, high, add-mul (number all) 1 (10 ^ behind), mul_assoc 23 (10 ^ length all) (10 ^ behind))

pub value-below : (p : Places) (place : ℕ) → IsReadable p → AreBelow p place → value_of p < 23 * 10 ^ place
value-below p place readable below = small-below (digits_left p) p.behind place readable.bytes below

-- where no place is left, nothing is
none-below : (digits : List ℕ) (behind : ℕ) → (0 < length digits → behind + length digits ≤ 0) → number digits * 10 ^ behind ≡ 0
none-below [] behind below = zero-mul (10 ^ behind)
none-below (digit ∷ digits) behind below = let none = below (omega arith) in absurd (omega arith)

pub value-none : (p : Places) → AreBelow p 0 → value_of p ≡ 0
value-none p below = none-below (digits_left p) p.behind below

-- ---- bytes

each-byte : (bytes : List ℕ) → ((i : ℕ) → Fits w8 (slice_index_or bytes i 0)) → Each IsByte bytes
each-byte [] fits = tt
each-byte (byte ∷ bytes) fits = (omega (arith, (fits 0).fits), each-byte bytes (λ i. fits (suc i)))

pub both-bytes : (whole fraction : List ℕ) → ((i : ℕ) → Fits w8 (slice_index_or whole i 0)) → ((i : ℕ)
    → Fits w8 (slice_index_or fraction i 0))
    → Each IsByte (whole ++ fraction)
both-bytes [] fraction fits others = each-byte fraction others
both-bytes (byte ∷ whole) fraction fits others =
    (omega (arith, (fits 0).fits), both-bytes whole fraction (λ i. fits (suc i)) others)
