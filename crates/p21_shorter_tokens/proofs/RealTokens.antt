-- Reals: the digits that are written, and the token that they are of.
use Rattle.std.proofs.Common.{◌≡◌, ◌≢◌, ◌⊎◌, inl, inr, ℕ, zero, suc, ◌+◌, ◌-◌, ◌<◌, ◌≤◌, ℤ, pos, ◌+ℤ◌, ◌-ℤ◌, Bool, true, false, List, [], ◌∷◌, ◌++◌, length, take, drop, get_or, replicate, Ok, Some, if◌then◌else◌, refl, ap, ap₂, sym, subst, ◌∙◌, arith, append_assoc, append-nil, length-append, length-drop, length-take-le}
use Rattle.std.proofs.lemmas.Int.{ints}
use Rattle.std.proofs.lemmas.List.{drop-take, take-append-drop, take_all}
use Rattle.std.proofs.Math.Seq.{drop-append_seam, take-append_seam}
use Rattle.p21_spec_basics.proofs.PlainDigits.{digits_append}
use Rattle.p21_spec_basics.specs.Digits.{AllDigits, IsDigit, number}
use Rattle.p21_spec_basics.proofs.Members.{rest_is}
use Rattle.p21_spec_exchange.proofs.Forms.{NoDigitFirst, behind_sign, first_sign}
use Rattle.p21_spec_exchange.proofs.Exponents.{in_range_of_same}
use Rattle.p21_spec_exchange.proofs.Ratios.{ratio-positive}
use Rattle.p21_spec_exchange.specs.Number.{Decimal, Exponent, IsExponentInRange, IsInRange, IsReduced, SameRatio, is_minus, ratio_of, whole_ratio}
use Rattle.p21_spec_exchange.specs.Spelling.{exponent_spelling}
use Rattle.p21_spec_exchange.specs.Token.{IsFollowed, real}
use Rattle.p21_scan.proofs.DigitRuns.{digits_parts}
use Rattle.p21_scan.proofs.Numbers.{integer_at, real_front}
use Rattle.p21_scan.specs.Number.{IsRealAt, ReadsExponent}
use Rattle.p21_values.proofs.Readings.{reads_front}
use Rattle.p21_values.proofs.Significands.{end_empty, end_kept, first_kept}
use Rattle.p21_values.proofs.StoredDecimals.{reads_digits, reads_zero, stored_of_digits, stored_spelling}
use Rattle.p21_values.specs.Decimal.{ReducesRatio}
use Rattle.p21_scan.specs.Digits.{BeginsWithoutByte, HasNoLeadingZero, WithoutLeadingZeros, WithoutTrailingZeros}
use Rattle.p21_values.specs.RealComponents.{digits_ratio}
use Rattle.p21_values.specs.Stored.{stored_decimal}
use Rattle.p21_shorter_tokens.proofs.Splits.{behind-count}
use Rattle.p21_shorter_tokens.proofs.WholeTokens.{number-zeros}
use Rattle.p21_shorter_tokens.specs.Appending.{AppendsAllOrNone, AppendsAllOrSome}
use Rattle.p21_shorter_tokens.specs.LeadingToken.{IsLeadingToken}
use Rattle.p21_shorter_tokens.specs.Numbers.{AppendsNormalised, AppendsNumber, AppendsWithoutExponent, EndsReal, signed_significand}
use Rattle.p21_shorter_tokens.specs.Runs.{AreDigits, AreLeadingZeros, IsDigitRun}

-- ---- the digits behind the point, without the zeros at their end

one_digit : (d : ℕ) → IsDigit d → d ≢ 48 → WithoutTrailingZeros (d ∷ []) (d ∷ [])
one_digit d digit other = record {
  front = refl;
  shorter = omega arith;
  last = λ multiple. absurd (other (omega (arith, digit, multiple)));
  same = omega arith;
}

pub pointed-kept : (d : ℕ) (others kept : List ℕ) → IsDigit d → d ≢ 48 → WithoutTrailingZeros others kept → WithoutTrailingZeros (d ∷ others) (d ∷ kept)
pointed-kept d others [] digit other h = end_empty (d ∷ []) (d ∷ []) others [] refl h (one_digit d digit other)
pointed-kept d others (k ∷ kept) digit other h = end_kept (d ∷ []) others (k ∷ kept) (omega arith) h

-- the first digit, by itself
pub first-split : (bytes : List ℕ) (count : ℕ) → 0 < count → count ≤ length bytes → take count bytes ≡ get_or bytes 0 0 ∷ take (count - 1) (take (length bytes - 1) (drop 1 bytes))
first-split [] count some within = absurd (omega arith)
first-split (b ∷ bytes) zero some within = absurd (omega arith)
first-split (b ∷ bytes) (suc count) some within =
    let back : suc count - 1 ≡ count = omega arith in
    ap (λ (x : List ℕ). b ∷ x) (ap (λ (n : ℕ). take n bytes) (sym back) ∙ ap (λ (x : List ℕ). take (suc count - 1) x) (sym (rest_is (b ∷ bytes) 1)))

pub first-digit : (bytes : List ℕ) (count : ℕ) → 0 < count → AreDigits bytes count → IsDigit (get_or bytes 0 0)
first-digit [] count some h = absurd (let w = h.within in omega arith)
first-digit (b ∷ bytes) zero some h = absurd (omega arith)
first-digit (b ∷ bytes) (suc count) some h = h.digits.0

pub first-significant : (bytes : List ℕ) (count : ℕ) → 0 < count → AreDigits bytes count → HasNoLeadingZero bytes → get_or bytes 0 0 ≢ 48
first-significant [] count some h first = absurd (let w = h.within in omega arith)
first-significant (b ∷ bytes) count some h first = first

-- those behind the first
pub further-digits : (bytes : List ℕ) (count : ℕ) → 0 < count → AreDigits bytes count → AllDigits (take (count - 1) (take (length bytes - 1) (drop 1 bytes)))
further-digits bytes count some h = (subst AllDigits (first-split bytes count some h.within) h.digits).1

-- what stands behind a text that something was appended to
pub behind-text : (text more whole : List ℕ) → whole ≡ text ++ more → drop (length text) whole ≡ more
behind-text text more whole e = ap (λ (x : List ℕ). drop (length text) x) e ∙ drop-append_seam text more

pub text-within : (text more whole : List ℕ) → whole ≡ text ++ more → length text ≤ length whole
text-within text more whole e = omega (arith, ap (λ (x : List ℕ). length x) e, length-append text more)

module _ (negative : Bool) (d : ℕ) (others old start long short : List ℕ) (digit : IsDigit d) (other : d ≢ 48) (start_is : start ≡ old ++ ((if negative then 45 ∷ [] else []) ++ d ∷ 46 ∷ [])) (long_is : long ≡ start ++ others) (front : take (length start) short ≡ take (length start) long) (zeros : WithoutTrailingZeros (drop (length start) long) (drop (length start) short)) where
  pub pointed-part : AppendsWithoutExponent true negative (d ∷ others) old short
  pointed-part =
      let kept = drop (length start) short in
      let mark : List ℕ = if negative then 45 ∷ [] else [] in (
        d ∷ kept,
        pointed-kept d others kept digit other (subst (λ (x : List ℕ). WithoutTrailingZeros x kept) (behind-text start others long long_is) zeros),
        sym (take-append-drop (length start) short)
            ∙ (ap (λ (x : List ℕ). x ++ kept) (front ∙ (ap (λ (x : List ℕ). take (length start) x) long_is ∙ (take-append_seam start others ∙ start_is)))
            ∙ (append_assoc old (mark ++ d ∷ 46 ∷ []) kept ∙ ap (λ (x : List ℕ). old ++ x) (append_assoc mark (d ∷ 46 ∷ []) kept))),
      )

pub normalised-part : (r negative : Bool) (digits : List ℕ) (k : ℤ) (old middle new : List ℕ) → IsExponentInRange k → AppendsWithoutExponent true negative digits old middle → AppendsAllOrSome r (exponent_spelling k) middle new → AppendsNormalised r negative digits k old new
normalised-part true negative digits k old middle new near (kept, zeros, is) h = (kept, zeros, near, h ∙ (ap (λ (x : List ℕ). x ++ exponent_spelling k) is ∙ append_assoc old (signed_significand negative kept) (exponent_spelling k)))
normalised-part false negative digits k old middle new near (kept, zeros, is) (tail, h) = (signed_significand negative kept ++ tail, h ∙ (ap (λ (x : List ℕ). x ++ tail) is ∙ append_assoc old (signed_significand negative kept) tail))

-- ---- zeros in front

-- digits before and behind the point, of which so many are zeros at the front
module _ (bytes : List ℕ) (count zeros : ℕ) (digits : AreDigits bytes count) (z : AreLeadingZeros (take count bytes) zeros) where
  within : zeros ≤ count
  within = let w = z.within in let l = length-take-le count bytes digits.within in omega arith

  pub kept_is : drop zeros (take count bytes) ≡ take (count - zeros) (drop zeros bytes)
  kept_is = let w = within in let whole : zeros + (count - zeros) ≡ count = omega arith in ap (λ (n : ℕ). drop zeros (take n bytes)) (sym whole) ∙ drop-take zeros (count - zeros) bytes

  pub split_zeros : take count bytes ≡ replicate zeros 48 ++ take (count - zeros) (drop zeros bytes)
  split_zeros = sym (take-append-drop zeros (take count bytes)) ∙ ap₂ (λ (x y : List ℕ). x ++ y) z.zeros kept_is

  pub kept_digits : AllDigits (take (count - zeros) (drop zeros bytes))
  kept_digits = (digits_parts (replicate zeros 48) _ (subst AllDigits split_zeros digits.digits)).1

  pub kept_within : count - zeros ≤ length (drop zeros bytes)
  kept_within = let w = digits.within in omega (arith, length-drop zeros bytes)

-- digits that are all of their bytes
pub are-all : (ds : List ℕ) → AllDigits ds → AreDigits ds (length ds)
are-all ds p = record { within = omega arith; digits = subst AllDigits (sym (take_all (length ds) ds (omega arith))) p }

first_back : (xs : List ℕ) (n : ℕ) → 0 < n → HasNoLeadingZero (take n xs) → HasNoLeadingZero xs
first_back [] n some h = tt
first_back (x ∷ xs) zero some h = absurd (omega arith)
first_back (x ∷ xs) (suc n) some h = h

-- the digits from the first on that is no zero
module _ (bytes tail : List ℕ) (count zeros : ℕ) (digits : AreDigits bytes count) (z : AreLeadingZeros (take count bytes) zeros) (some : zeros < count) (is : tail ≡ take (length bytes - zeros) (drop zeros bytes)) where
  tail_is : tail ≡ drop zeros bytes
  tail_is = is ∙ rest_is bytes zeros

  pub tail_take : take (count - zeros) tail ≡ take (count - zeros) (drop zeros bytes)
  tail_take = ap (λ (x : List ℕ). take (count - zeros) x) tail_is

  pub tail_digits : AreDigits tail (count - zeros)
  tail_digits = subst (λ (x : List ℕ). AreDigits x (count - zeros)) (sym tail_is) (record { within = kept_within bytes count zeros digits z; digits = kept_digits bytes count zeros digits z })

  pub tail_first : HasNoLeadingZero tail
  tail_first = subst HasNoLeadingZero (sym tail_is) (first_back (drop zeros bytes) (count - zeros) (omega arith) (subst HasNoLeadingZero (kept_is bytes count zeros digits z) z.first))

pub front_cut : (zeros : ℕ) (all kept : List ℕ) → all ≡ replicate zeros 48 ++ kept → AllDigits kept → HasNoLeadingZero kept → WithoutLeadingZeros all kept
front_cut zeros all kept e digits first = record { are_digits = digits; first = first; same = sym (ap number e ∙ number-zeros zeros kept) }

-- ---- the number that is written

pub number_of_normalised : (r n : Bool) (whole fraction front : List ℕ) (written k : ℤ) (old new : List ℕ) → WithoutLeadingZeros (whole ++ fraction) front → 0 < length front → k ≡ written +ℤ pos (length front - 1) -ℤ pos (length fraction)
    → AppendsNormalised r n front k old new → AppendsNumber r (digits_ratio n whole fraction written) old new
number_of_normalised false n whole fraction front written k old new f some exponents h = h
number_of_normalised true n whole fraction front written k old new f some exponents (kept, e, near, is) = (
  stored_decimal n kept k,
  reads_digits n whole fraction front kept written k f some e exponents near,
  is ∙ ap (λ (x : List ℕ). old ++ x) (sym (stored_spelling n kept k (stored_of_digits n (whole ++ fraction) front kept k f some e near))),
)

module _ (n : Bool) (w f : List ℕ) (cw cf zw : ℕ) (written k : ℤ) (old new : List ℕ) (r : Bool) (wd : AreDigits w cw) (fd : AreDigits f cf) (z : AreLeadingZeros (take cw w) zw) where
  -- the first digit other than zero stands before the point
  pub with_whole : (tail : List ℕ) → tail ≡ take (length w - zw) (drop zw w) → zw < cw → k ≡ written +ℤ pos (cw - zw - 1) → AppendsNormalised r n (take (cw - zw) tail ++ take cf f) k old new → AppendsNumber r (digits_ratio n (take cw w) (take cf f) written) old new
  with_whole tail is some e h =
      let kept = take (cw - zw) (drop zw w) in
      let size : length kept ≡ cw - zw = length-take-le (cw - zw) (drop zw w) (kept_within w cw zw wd z) in
      let places : length (take cf f) ≡ cf = length-take-le cf f fd.within in
      let both = length-append kept (take cf f) in
      let all : take cw w ++ take cf f ≡ replicate zw 48 ++ (kept ++ take cf f) = ap (λ (x : List ℕ). x ++ take cf f) (split_zeros w cw zw wd z) ∙ append_assoc (replicate zw 48) kept (take cf f) in
      number_of_normalised r n (take cw w) (take cf f) (kept ++ take cf f) written k old new
      (front_cut zw _ _ all (digits_append kept (take cf f) (kept_digits w cw zw wd z) fd.digits) (first_kept kept (take cf f) (omega arith) (subst HasNoLeadingZero (kept_is w cw zw wd z) z.first)))
      (omega arith) (omega (arith, ints, e)) (subst (λ (x : List ℕ). AppendsNormalised r n (x ++ take cf f) k old new) (tail_take w tail cw zw wd z some is) h)

  module _ (zf : ℕ) (none : cw ≤ zw) (y : AreLeadingZeros (take cf f) zf) where
    whole_zeros : take cw w ≡ replicate zw 48
    whole_zeros = split_zeros w cw zw wd z ∙ (ap (λ (m : ℕ). replicate zw 48 ++ take m (drop zw w)) (let m : cw - zw ≡ 0 = omega arith in m) ∙ append-nil (replicate zw 48))

    -- it stands behind the point
    pub with_fraction : (tail : List ℕ) → tail ≡ take (length f - zf) (drop zf f) → zf < cf → k ≡ written -ℤ pos (zf + 1) → AppendsNormalised r n (take (cf - zf) tail ++ []) k old new → AppendsNumber r (digits_ratio n (take cw w) (take cf f) written) old new
    with_fraction tail is some e h =
        let kept = take (cf - zf) (drop zf f) in
        let size : length kept ≡ cf - zf = length-take-le (cf - zf) (drop zf f) (kept_within f cf zf fd y) in
        let places : length (take cf f) ≡ cf = length-take-le cf f fd.within in
        let inner = front_cut zf (take cf f) kept (split_zeros f cf zf fd y) (kept_digits f cf zf fd y) (subst HasNoLeadingZero (kept_is f cf zf fd y) y.first) in
        number_of_normalised r n (take cw w) (take cf f) kept written k old new
        (record {
          are_digits = inner.are_digits;
          first = inner.first;
          same = inner.same ∙ sym (ap (λ (x : List ℕ). number (x ++ take cf f)) whole_zeros ∙ number-zeros zw (take cf f));
        })
        (omega arith) (omega (arith, ints, e)) (subst (λ (x : List ℕ). AppendsNormalised r n x k old new) (ap (λ (x : List ℕ). x ++ []) (tail_take f tail cf zf fd y some is) ∙ append-nil kept) h)

    -- all digits are zeros
    pub with_zeros : (t : Bool) → cf ≤ zf → AppendsAllOrNone t (48 ∷ 46 ∷ []) old new → AppendsNumber t (digits_ratio n (take cw w) (take cf f) written) old new
    with_zeros false all is = ([], is ∙ sym (append-nil old))
    with_zeros true all is =
        let fraction_zeros : take cf f ≡ replicate zf 48 ++ [] = split_zeros f cf zf fd y ∙ ap (λ (m : ℕ). replicate zf 48 ++ take m (drop zf f)) (let m : cf - zf ≡ 0 = omega arith in m) in (
          stored_decimal false [] (pos 0),
          reads_zero n (take cw w) (take cf f) written (ap (λ (x : List ℕ). number (x ++ take cf f)) whole_zeros ∙ (number-zeros zw (take cf f) ∙ (ap number fraction_zeros ∙ number-zeros zf []))),
          is,
        )

-- ---- the token

followed-real : (d : Decimal) (spelling rest : List ℕ) → NoDigitFirst rest → BeginsWithoutByte 69 rest → IsFollowed (real d) spelling rest
followed-real d spelling [] h k = tt
followed-real d spelling (byte ∷ rest) h k = (h, λ _. k)

pub real-token : (bytes whole fraction rest : List ℕ) (negative : Bool) (power : Exponent) (k : ℤ) (d : Decimal) → IsRealAt bytes negative whole fraction power rest → ReadsExponent power (Some k) → BeginsWithoutByte 69 rest → ReducesRatio (digits_ratio negative whole fraction k) (Ok d)
    → IsLeadingToken bytes (length bytes - length rest) (real d)
real-token bytes whole fraction rest negative power k d x value other keeps = record {
  within = omega arith;
  spells = reads_front bytes whole fraction rest negative power x k (Ok d) value keeps;
  followed = subst (IsFollowed (real d) (take (length bytes - length rest) bytes)) (sym (behind-count bytes _ rest (real_front bytes whole fraction rest negative power x))) (followed-real d _ rest x.power_at.ends other);
}

-- a real whose parts stand at known places
module _ (bytes unsigned decimals rest : List ℕ) (count places : ℕ) (negative : Bool) (k : ℤ) (d : Decimal) (minus : negative ≡ is_minus (first_sign bytes)) (is : unsigned ≡ behind_sign bytes) (whole : IsDigitRun unsigned count) (some : 0 < count) (point : drop count unsigned ≡ 46 ∷ decimals) (fraction : IsDigitRun decimals places) (end : EndsReal (drop places decimals) k rest) where
  placed : IsRealAt bytes negative (take count unsigned) (take places decimals) end.power rest
  placed =
      let split = take-append-drop places decimals in
      let all : behind_sign bytes ≡ take count unsigned ++ (46 ∷ (take places decimals ++ drop places decimals)) = sym is ∙ (sym (take-append-drop count unsigned) ∙ ap (λ (x : List ℕ). take count unsigned ++ x) (point ∙ ap (λ (x : List ℕ). 46 ∷ x) (sym split))) in
      record {
        behind = drop places decimals;
        whole_at = integer_at bytes (take count unsigned) _ negative minus all (omega (arith, length-take-le count unsigned whole.within)) whole.digits (λ d. omega (arith, d));
        are_digits = fraction.digits;
        no_digit = fraction.ends;
        power_at = end.power_at;
      }

  pub real-at_front : ReducesRatio (digits_ratio negative (take count unsigned) (take places decimals) k) (Ok d) → IsLeadingToken bytes (length bytes - length rest) (real d)
  real-at_front keeps = real-token bytes (take count unsigned) (take places decimals) rest negative end.power k d placed end.value_is end.no_exponent keeps

  pub real-behind : drop (length bytes - length rest) bytes ≡ rest
  real-behind = behind-count bytes _ rest (real_front bytes (take count unsigned) (take places decimals) rest negative end.power placed)

-- a `,` or a `)` is no exponent
pub mark-first : (mark : ℕ) (rest : List ℕ) → (mark ≡ 44) ⊎ (mark ≡ 41) → BeginsWithoutByte 69 (mark ∷ rest)
mark-first mark rest (inl is) = λ e. omega (arith, is, e)
mark-first mark rest (inr is) = λ e. omega (arith, is, e)

-- a whole number, and the real of the same ratio
pub whole_number : (z : ℤ) (d : Decimal) → ReducesRatio (whole_ratio z) (Ok d) → IsReduced d × IsInRange (ratio_of d) × SameRatio (ratio_of d) (whole_ratio z)
whole_number z d keeps = (keeps.0, in_range_of_same (whole_ratio z) (ratio_of d) (omega arith) (ratio-positive d) keeps.2 keeps.1, sym keeps.2)
