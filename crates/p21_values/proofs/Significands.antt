-- Digits on both sides of a point, without the zeros at one end.
use Rattle.std.proofs.Common.{◌≡◌, ℕ, suc, ◌+◌, ◌-◌, ◌*◌, ◌^◌, ◌<◌, List, [], ◌∷◌, ◌++◌, length, take, drop, zero, ap, sym, subst, ◌∙◌, arith, length-append, pow-add}
use Rattle.std.proofs.lemmas.List.{append-nil, take-append-drop, take-append-le}
use Rattle.std.proofs.Math.Nat.{pow-succ', zero-mul}
use Rattle.std.proofs.Math.Seq.{take-append-add}
use Rattle.p21_spec_basics.specs.Digits.{AllDigits, number}
use Rattle.p21_spec_basics.proofs.PlainDigits.{digits_append, number_append}
use Rattle.p21_scan.specs.Digits.{HasNoLeadingZero, WithoutTrailingZeros, WithoutLeadingZeros}
use Rattle.p21_scan.proofs.DigitRuns.{digits_parts}

-- ---- in front

pub front_empty : (w v f g : List ℕ) → length v ≡ 0 → WithoutLeadingZeros w v → WithoutLeadingZeros f g → WithoutLeadingZeros (w ++ f) (v ++ g)
front_empty w (d ∷ v) f g empty whole fraction = absurd (omega arith)
front_empty w [] f g empty whole fraction =
    let none : number w ≡ 0 = sym whole.same in
    record {
      are_digits = fraction.are_digits;
      first = fraction.first;
      same = fraction.same ∙ sym (number_append w f ∙ (omega (arith, ap (λ (n : ℕ). n * 10 ^ length f) none, zero-mul (10 ^ length f))));
    }

pub first_kept : (v f : List ℕ) → 0 < length v → HasNoLeadingZero v → HasNoLeadingZero (v ++ f)
first_kept [] f some first = absurd (omega arith)
first_kept (d ∷ v) f some first = first

pub front_kept : (w v f : List ℕ) → 0 < length v → AllDigits f → WithoutLeadingZeros w v → WithoutLeadingZeros (w ++ f) (v ++ f)
front_kept w v f some digits whole =
    record {
      are_digits = digits_append v f whole.are_digits digits;
      first = first_kept v f some whole.first;
      same = number_append v f ∙ ap (λ (n : ℕ). n * 10 ^ length f + number f) whole.same ∙ sym (number_append w f);
    }

-- ---- at the end

regroup : (n x y : ℕ) → n * x * y ≡ n * (x * y)
regroup n x y = grind arith

pub end_empty : (w v f g : List ℕ) → length g ≡ 0 → WithoutTrailingZeros f g → WithoutTrailingZeros w v → WithoutTrailingZeros (w ++ f) (v ++ g)
end_empty w v f (d ∷ g) empty fraction whole = absurd (omega arith)
end_empty w v f [] empty fraction whole =
    subst (WithoutTrailingZeros (w ++ f)) (sym (append-nil v)) (
    let none : number f ≡ 0 = fraction.same ∙ zero-mul (10 ^ (length f - 0)) in
    let lengths = length-append w f in
    record {
      front = whole.front ∙ sym (take-append-le (length v) w f whole.shorter);
      shorter = omega (arith, lengths, whole.shorter);
      last = whole.last;
      same =
          let power : 10 ^ (length w - length v) * 10 ^ length f ≡ 10 ^ (length (w ++ f) - length v) = sym (pow-add 10 (length w - length v) (length f)) ∙ ap (λ (i : ℕ). 10 ^ i) (let e : length w - length v + length f ≡ length (w ++ f) - length v = omega (arith, lengths, whole.shorter) in e) in
          number_append w f ∙ (omega (arith, none, ap (λ (n : ℕ). n * 10 ^ length f) whole.same ∙ regroup (number v) (10 ^ (length w - length v)) (10 ^ length f) ∙ ap (λ (n : ℕ). number v * n) power));
    })

regroup_sum : (n x m y : ℕ) → n * (x * y) + m * y ≡ (n * x + m) * y
regroup_sum n x m y = grind arith

pub end_kept : (w f g : List ℕ) → 0 < length g → WithoutTrailingZeros f g → WithoutTrailingZeros (w ++ f) (w ++ g)
end_kept w f g some fraction =
    let short = length-append w g in
    let long = length-append w f in
    let zeros = length f - length g in
    let tens : 10 ^ length g ≡ 10 * 10 ^ (length g - 1) = ap (λ (i : ℕ). 10 ^ i) (let e : length g ≡ suc (length g - 1) = omega arith in e) ∙ pow-succ' 10 (length g - 1) in
    let power : 10 ^ length f ≡ 10 ^ length g * 10 ^ zeros = ap (λ (i : ℕ). 10 ^ i) (let e : length f ≡ length g + zeros = omega (arith, fraction.shorter) in e) ∙ pow-add 10 (length g) zeros in
    record {
      front = ap (λ (xs : List ℕ). w ++ xs) fraction.front ∙ sym (take-append-add w f (length g)) ∙ ap (λ (i : ℕ). take i (w ++ f)) (sym short);
      shorter = omega (arith, short, long, fraction.shorter);
      last = λ multiple.
          let empty = fraction.last (omega (arith, multiple, number_append w g, ap (λ (n : ℕ). number w * n) tens)) in
          absurd (omega (arith, some, ap length empty));
      same =
          number_append w f ∙ ap (λ (n : ℕ). number w * n + number f) power ∙ ap (λ (n : ℕ). number w * (10 ^ length g * 10 ^ zeros) + n) fraction.same
          ∙ regroup_sum (number w) (10 ^ length g) (number g) (10 ^ zeros) ∙ ap (λ (n : ℕ). n * 10 ^ zeros) (sym (number_append w g))
          ∙ ap (λ (i : ℕ). number (w ++ g) * 10 ^ i) (let e : zeros ≡ length (w ++ f) - length (w ++ g) = omega (arith, short, long) in e);
    }

-- ---- both

take_digits : (k : ℕ) (xs : List ℕ) → AllDigits xs → AllDigits (take k xs)
take_digits k xs p = (digits_parts (take k xs) (drop k xs) (subst AllDigits (sym (take-append-drop k xs)) p)).0

take_first : (k : ℕ) (xs : List ℕ) → HasNoLeadingZero xs → HasNoLeadingZero (take k xs)
take_first zero xs p = tt
take_first (suc k) [] p = tt
take_first (suc k) (x ∷ xs) p = p

-- what is left without the zeros at the end are digits, of which the first is no zero
pub kept_digits : (xs ys : List ℕ) → WithoutTrailingZeros xs ys → AllDigits xs → AllDigits ys
kept_digits xs ys h p = rw h.front (take_digits (length ys) xs p)

pub kept_first : (xs ys : List ℕ) → WithoutTrailingZeros xs ys → HasNoLeadingZero xs → HasNoLeadingZero ys
kept_first xs ys h p = rw h.front (take_first (length ys) xs p)
