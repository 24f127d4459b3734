-- A ratio is that of one reduced decimal at most.
use Rattle.std.proofs.Common.{◌≡◌, ◌≢◌, ℕ, suc, ◌+◌, ◌-◌, ◌*◌, ◌^◌, ◌%◌, ◌<◌, ℤ, pos, ◌*ℤ◌, nat_abs, ap, sym, ◌∙◌, arith, pow-add, inl, inr}
use Rattle.std.proofs.lemmas.Bool.{cases_eq, cases_order}
use Rattle.std.proofs.Math.Nat.{pow-succ', one-le-pow, mul-lt-mul_of_pos_right, mul-mod_left, zero-mul}
use borrow.Author.Differences.{up, down, same_in}
use Rattle.p21_spec_exchange.specs.Number.{Decimal, IsReduced, SameRatio, is_minus, ratio_of, scaled, signed}
use Rattle.p21_spec_exchange.proofs.Ratios.{cancel, product_of_two}
use Rattle.p21_spec_exchange.proofs.SignedNumbers.{abs_signed, minus_positive, sign_of, signed-times, signed_abs, signed_once}

regroup_ten : (n x y : ℕ) → n * (x * (10 * y)) ≡ n * y * 10 * x
regroup_ten n x y = grind arith

tenfold_less : (m n a b : ℕ) → m % 10 ≢ 0 → a < b → m * 10 ^ a ≡ n * 10 ^ b → ⊥
tenfold_less m n a b other less e =
    let power : 10 ^ b ≡ 10 ^ a * (10 * 10 ^ (b - suc a)) =
    ap (λ (k : ℕ). 10 ^ k) (let k : b ≡ a + suc (b - suc a) = omega arith in k) ∙ pow-add 10 a (suc (b - suc a)) ∙ ap (λ (k : ℕ). 10 ^ a * k) (pow-succ' 10 (b - suc a)) in
    let same : m * 10 ^ a ≡ n * 10 ^ (b - suc a) * 10 * 10 ^ a = e ∙ ap (λ (k : ℕ). n * k) power ∙ regroup_ten n (10 ^ a) (10 ^ (b - suc a)) in
    let whole : m ≡ n * 10 ^ (b - suc a) * 10 = cancel m (n * 10 ^ (b - suc a) * 10) (10 ^ a) (one-le-pow a 10 (omega arith)) same in
    other (ap (λ (k : ℕ). k % 10) whole ∙ mul-mod_left (n * 10 ^ (b - suc a)) 10)

-- a number that is no multiple of ten, and a power of ten, are known by their product
tenfold_once : (m n a b : ℕ) → m % 10 ≢ 0 → n % 10 ≢ 0 → m * 10 ^ a ≡ n * 10 ^ b → (a ≡ b) × (m ≡ n)
tenfold_once m n a b p q e =
    elim (cases_order a b) [
      | inl same ↦ (same, cancel m n (10 ^ b) (one-le-pow b 10 (omega arith)) (rw same at e))
      | inr h ↦ elim h [ inl less ↦ absurd (tenfold_less m n a b p less e) | inr more ↦ absurd (tenfold_less n m b a q more (sym e)) ]
    ]

numerator_is : (a : ℤ) (x y : ℕ) → a *ℤ pos x *ℤ pos y ≡ signed (is_minus (sign_of a)) (nat_abs a * x * y)
numerator_is a x y =
    let b = is_minus (sign_of a) in
    let n = nat_abs a in
    ap (λ (z : ℤ). z *ℤ pos x *ℤ pos y) (sym (signed_abs a)) ∙ ap (λ (z : ℤ). z *ℤ pos y) (signed-times b n x) ∙ signed-times b (n * x) y

cross : (a b : ℤ) (p q r s : ℕ) → SameRatio (scaled a p q) (scaled b r s) → signed (is_minus (sign_of a)) (nat_abs a * 10 ^ p * 10 ^ s) ≡ signed (is_minus (sign_of b)) (nat_abs b * 10 ^ r * 10 ^ q)
cross a b p q r s e = sym (numerator_is a (10 ^ p) (10 ^ s)) ∙ e ∙ numerator_is b (10 ^ r) (10 ^ q)

positive_times : (x k : ℕ) → 0 < x → 0 < x * 10 ^ k
positive_times x k h = let t = mul-lt-mul_of_pos_right h (one-le-pow k 10 (omega arith)) in omega (arith, t, zero-mul (10 ^ k))

zero_from_zero : (x y a b : ℕ) → x ≡ 0 → x * 10 ^ a ≡ y * 10 ^ b → y ≡ 0
zero_from_zero x y a b z e = cancel y 0 (10 ^ b) (one-le-pow b 10 (omega arith)) (sym e ∙ ap (λ (k : ℕ). k * 10 ^ a) z ∙ zero-mul (10 ^ a) ∙ sym (zero-mul (10 ^ b)))

pub same_decimal : (m n e f : ℤ) → m ≡ n → e ≡ f → (let d : Decimal = record { significand = m; exponent = e } in d) ≡ record { significand = n; exponent = f }
same_decimal m n e f p q = rw (p, q)

pub reduced_once : (d e : Decimal) → IsReduced d → IsReduced e → SameRatio (ratio_of d) (ratio_of e) → d ≡ e
reduced_once a b h i e =
    let m = nat_abs a.significand in
    let n = nat_abs b.significand in
    let p = up a.exponent + down b.exponent in
    let q = up b.exponent + down a.exponent in
    let x = cross a.significand b.significand (up a.exponent) (down a.exponent) (up b.exponent) (down b.exponent) e in
    let numbers : m * 10 ^ p ≡ n * 10 ^ q =
    sym (abs_signed _ _ ∙ product_of_two m (up a.exponent) (down b.exponent)) ∙ ap nat_abs x ∙ (abs_signed _ _ ∙ product_of_two n (up b.exponent) (down a.exponent)) in
    elim (cases_eq (m % 10) 0) [
      | inl z ↦
          let az = h z in
          let bz = i (ap (λ (k : ℕ). k % 10) (zero_from_zero m n p q (ap nat_abs az.0) numbers)) in
          same_decimal _ _ _ _ (az.0 ∙ sym bz.0) (az.1 ∙ sym bz.1)
      | inr some ↦ elim (cases_eq (n % 10) 0) [
        | inl z ↦ absurd (some (ap (λ (k : ℕ). k % 10) (zero_from_zero n m q p (ap nat_abs (i z).0) (sym numbers))))
        | inr other ↦
            let once = tenfold_once m n p q some other numbers in
            let signs = signed_once _ _ _ _ (λ t. positive_times _ (down b.exponent) (positive_times m (up a.exponent) (minus_positive a.significand t))) (λ t. positive_times _ (down a.exponent) (positive_times n (up b.exponent) (minus_positive b.significand t))) x in
            same_decimal _ _ _ _ (sym (signed_abs a.significand) ∙ rw (signs.0, once.1) (signed_abs b.significand)) (same_in a.exponent b.exponent (omega (arith, once.0)))
      ]
    ]
