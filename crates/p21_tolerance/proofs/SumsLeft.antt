-- Sums, place by place.
use Rattle.std.proofs.Common.{◌≡◌, ◌↔◌, ℕ, suc, ◌+◌, ◌*◌, ◌^◌, ◌<◌, ◌≤◌, Bool, true, false, refl, IsTrue, nat_le, ap, sym, ◌∙◌, arith}
use Rattle.std.proofs.lemmas.Bool.Decides.{nat_tests}
use Rattle.std.proofs.Math.Nat.{add-mul, mul-le-mul, mul-le-mul_right, mul-zero, pow-succ'}
use Rattle.p21_tolerance.specs.Places.{value_of}
use Rattle.p21_tolerance.specs.Sums.{AreReadable, IsSumBelow, sum_of}
use Rattle.p21_tolerance.specs.declared.sums.Sum.{Sum}
use Rattle.p21_tolerance.proofs.DigitsLeft.{value-below, value-none}

-- ---- how much there is below a place

below : (x y t w : ℕ) → x < 23 * w → y < 23 * w → t < 2 ^ 64 → x + t * y < 2 ^ 70 * w
below x y t w h k few =
    let product = mul-le-mul {n₁ = t} {m₁ = y} {n₂ = 2 ^ 64} {m₂ = 23 * w} (omega arith) (omega arith) in
    omega (arith, product)

pub sum-below : (s : Sum) (place : ℕ) → AreReadable s → IsSumBelow s place → sum_of s < 2 ^ 70 * 10 ^ place
sum-below s place sums stand =
    below (value_of s.first) (value_of s.second) s.times (10 ^ place) (value-below s.first place sums.first stand.0)
    (value-below s.second place sums.second stand.1) sums.few_times

pub sum-none : (s : Sum) → IsSumBelow s 0 → sum_of s ≡ 0
sum-none s stand =
    let first = value-none s.first stand.0 in
    let second = value-none s.second stand.1 in
    omega (arith, first, ap (λ n. s.times * n) second, mul-zero s.times)

-- ---- the digits at a place

apart : (d e t x y w : ℕ) → (d * w + x) + t * (e * w + y) ≡ (d + t * e) * w + (x + t * y)
apart d e t x y w = grind arith

pub sum-apart : (d e t t_ x y more others w : ℕ) → x ≡ d * w + more → y ≡ e * w + others → t_ ≡ t
    → x + t * y ≡ (d + t_ * e) * w + (more + t * others)
sum-apart d e t t_ x y more others w h k same =
    ap (λ n. n + t * y) h ∙ ap (λ n. d * w + more + t * n) k ∙ apart d e t more others w
    ∙ ap (λ n. (d + n * e) * w + (more + t * others)) (sym same)

turned : (l d w more : ℕ) → l * (10 * w) + (d * w + more) ≡ (l * 10 + d) * w + more
turned l d w more = grind arith

carried : (c a w more : ℕ) → (c + a) * w + more ≡ c * w + (a * w + more)
carried c a w more = grind arith

turn : (l d c a w more all : ℕ) → all ≡ d * w + more → l * 10 + d ≡ c + a → l * (10 * w) + all ≡ c * w + (a * w + more)
turn l d c a w more all is e =
    ap (λ n. l * (10 * w) + n) is ∙ turned l d w more ∙ ap (λ n. n * w + more) e ∙ carried c a w more

-- one place further, both sides have the same more or less
pub one-further : (l r dl dr both al ar high place left right left_ right_ : ℕ) → high ≡ suc place → left ≡ dl * 10 ^ place + left_
    → right ≡ dr * 10 ^ place + right_ → l * 10 + dl ≡ both + al → r * 10 + dr ≡ both + ar
    → (l * 10 ^ high + left ≤ r * 10 ^ high + right) ↔ (al * 10 ^ place + left_ ≤ ar * 10 ^ place + right_)
one-further l r dl dr both al ar high place left right left_ right_ at h k e f =
    let tens : 10 ^ high ≡ 10 * 10 ^ place = ap (λ (i : ℕ). 10 ^ i) at ∙ pow-succ' 10 place in
    let first : l * 10 ^ high + left ≡ both * 10 ^ place + (al * 10 ^ place + left_) =
    ap (λ n. l * n + left) tens ∙ turn l dl both al (10 ^ place) left_ left h e in
    let second : r * 10 ^ high + right ≡ both * 10 ^ place + (ar * 10 ^ place + right_) =
    ap (λ n. r * n + right) tens ∙ turn r dr both ar (10 ^ place) right_ right k f in
    (λ less. omega arith, λ less. omega arith)

-- ---- where the answer is known

pub decided : (answer : Bool) (l r w left right : ℕ) → left < 2 ^ 70 * w → right < 2 ^ 70 * w → (answer ≡ true → l + 2 ^ 70 ≤ r)
    → (answer ≡ false → r + 2 ^ 70 ≤ l) → IsTrue answer ↔ (l * w + left ≤ r * w + right)
decided true l r w left right h k less more =
    let much = mul-le-mul_right w (less refl) in
    (λ _. omega (arith, much, add-mul l (2 ^ 70) w), λ _. refl)
decided false l r w left right h k less more =
    let much = mul-le-mul_right w (more refl) in
    (λ no. cc, λ at_most. absurd (omega (arith, much, add-mul r (2 ^ 70) w)))

-- where no digit is left, what is ahead decides
pub at-end : (l r place left right : ℕ) → place ≡ 0 → left ≡ 0 → right ≡ 0
    → IsTrue (nat_le l r) ↔ (l * 10 ^ place + left ≤ r * 10 ^ place + right)
at-end l r place left right last none none_ =
    let one : 10 ^ place ≡ 1 = ap (λ (i : ℕ). 10 ^ i) last in
    rw (one, none, none_) (grind (arith, nat_tests), grind (arith, nat_tests))

pub both-ways : {A B C : Type 0} → A ↔ B → B ↔ C → A ↔ C
both-ways f g = (λ a. g.0 (f.0 a), λ c. f.1 (g.1 c))

pub other-way : {A B : Type 0} → A ↔ B → B ↔ A
other-way f = (f.1, f.0)
