-- Whole numbers, and their digits without the zeros in front.
use Rattle.std.proofs.Common.{◌≡◌, ◌≢◌, ℕ, zero, suc, ◌+◌, ◌-◌, ◌^◌, ◌<◌, ◌≤◌, ℤ, pos, neg_ℤ, Bool, true, false, List, [], ◌∷◌, ◌++◌, length, take, drop, get_or, replicate, refl, ap, sym, subst, ◌∙◌, arith, append_assoc, length-append, length-drop, length-take-le}
use Rattle.std.proofs.lemmas.List.{drop-take, get_or-drop, get_or-take, take-append-drop, take-take}
use Rattle.std.proofs.Math.Nat.{zero-mul, one-le-pow}
use Rattle.std.proofs.Math.Seq.{take-append_seam}
use Rattle.p21_spec_basics.proofs.PlainDigits.{ArePlain, number_first, plain_digits-number}
use Rattle.p21_spec_basics.specs.Digits.{AllDigits, number, plain_digits}
use Rattle.p21_spec_basics.proofs.Members.{rest_is}
use Rattle.p21_spec_exchange.proofs.Forms.{NoDigitFirst}
use Rattle.p21_spec_exchange.specs.Number.{sign_bytes, signed}
use Rattle.p21_spec_exchange.specs.Spelling.{whole_spelling}
use Rattle.p21_spec_exchange.specs.Token.{IsFollowed, whole}
use Rattle.p21_scan.proofs.DigitRuns.{digits_parts}
use Rattle.p21_scan.proofs.Numbers.{spells_integer}
use Rattle.p21_scan.specs.Number.{IsIntegerAt}
use Rattle.p21_scan.specs.Digits.{BeginsWithoutByte, HasNoLeadingZero}
use Rattle.p21_shorter_tokens.proofs.NameTokens.{plain-front}
use Rattle.p21_shorter_tokens.proofs.Splits.{behind-count}
use Rattle.p21_shorter_tokens.specs.LeadingToken.{IsLeadingToken}
use Rattle.p21_shorter_tokens.specs.Runs.{AreLeadingZeros}

-- ---- zeros in front

pub number-zeros : (n : ℕ) (xs : List ℕ) → number (replicate n 48 ++ xs) ≡ number xs
number-zeros zero xs = refl
number-zeros (suc n) xs = omega (arith, number-zeros n xs, zero-mul (10 ^ length (replicate n 48 ++ xs)))

no_zero-first : (xs : List ℕ) → HasNoLeadingZero xs → 0 < length xs → get_or xs 0 0 ≢ 48
no_zero-first [] h some = absurd (omega arith)
no_zero-first (x ∷ xs) h some = h

-- the first so many bytes are digits, of which all but the last were looked at for zeros
module _ (bytes : List ℕ) (count zeros : ℕ) (some : 0 < count) (within : count ≤ length bytes) (digits : AllDigits (take count bytes)) (z : AreLeadingZeros (take (count - 1) bytes) zeros) where
  short : zeros ≤ count - 1
  short = let w = z.within in let l = length-take-le (count - 1) bytes (omega arith) in omega arith

  split : take count bytes ≡ replicate zeros 48 ++ take (count - zeros) (drop zeros bytes)
  split =
      let whole : zeros + (count - zeros) ≡ count = let s = short in omega arith in
      let s = short in
      sym (take-append-drop zeros (take count bytes))
      ∙ (ap (λ (x : List ℕ). x ++ drop zeros (take count bytes)) (take-take zeros count bytes (omega arith) ∙ (sym (take-take zeros (count - 1) bytes short) ∙ z.zeros))
      ∙ ap (λ (x : List ℕ). replicate zeros 48 ++ x) (ap (λ (n : ℕ). drop zeros (take n bytes)) (sym whole) ∙ drop-take zeros (count - zeros) bytes))

  kept-digits : AllDigits (take (count - zeros) (drop zeros bytes))
  kept-digits = (digits_parts (replicate zeros 48) _ (subst AllDigits split digits)).1

  kept-number : number (take count bytes) ≡ number (take (count - zeros) (drop zeros bytes))
  kept-number = ap number split ∙ number-zeros zeros _

  kept-plain : ArePlain (take (count - zeros) (drop zeros bytes))
  kept-plain =
      let s = short in
      let l = length-drop zeros bytes in
      plain-front (drop zeros bytes) (count - zeros) kept-digits (omega arith) (omega arith) (λ more.
      let room : zeros < count - 1 = omega arith in
      let size : length (drop zeros (take (count - 1) bytes)) ≡ count - 1 - zeros = length-drop zeros (take (count - 1) bytes) ∙ ap (λ (n : ℕ). n - zeros) (length-take-le (count - 1) bytes (omega arith)) in
      let same : get_or (drop zeros (take (count - 1) bytes)) 0 0 ≡ get_or (drop zeros bytes) 0 0 = get_or-drop zeros (take (count - 1) bytes) 0 0 ∙ (get_or-take (count - 1) bytes (zeros + 0) 0 (omega arith) ∙ sym (get_or-drop zeros bytes 0 0)) in
      subst (λ (b : ℕ). b ≢ 48) same (no_zero-first (drop zeros (take (count - 1) bytes)) z.first (omega (arith, size))))

-- ---- the canonical spelling

plain-zero : (ds : List ℕ) → ArePlain ds → get_or ds 0 0 ≡ 48 → ds ≡ 48 ∷ []
plain-zero [] p e = absurd p
plain-zero (c ∷ []) p e = ap (λ (x : ℕ). x ∷ []) e
plain-zero (c ∷ d ∷ ds) p e = absurd (let q = p.0 in omega arith)

plain-positive : (ds : List ℕ) → ArePlain ds → get_or ds 0 0 ≢ 48 → 0 < number ds
plain-positive [] p e = absurd p
plain-positive (c ∷ []) p e = let own : 48 < c = omega (arith, p, e) in omega (arith, number_first c [] own)
plain-positive (c ∷ d ∷ ds) p e = omega (arith, number_first c (d ∷ ds) p.0, one-le-pow (length (d ∷ ds)) 10 (omega arith))

unsigned-spelling : (ds : List ℕ) → ArePlain ds → whole_spelling (signed false (number ds)) ≡ ds
unsigned-spelling ds p = plain_digits-number ds p

zero-spelling : (negative : Bool) (ds : List ℕ) → ArePlain ds → get_or ds 0 0 ≡ 48 → whole_spelling (signed negative (number ds)) ≡ ds
zero-spelling negative ds p e = ap (λ (x : List ℕ). whole_spelling (signed negative (number x))) (plain-zero ds p e) ∙ (at negative ∙ sym (plain-zero ds p e))
  where
    at : (n : Bool) → whole_spelling (signed n (number (48 ∷ []))) ≡ 48 ∷ []
    at true = refl
    at false = refl

negative-spelling : (ds : List ℕ) → ArePlain ds → get_or ds 0 0 ≢ 48 → whole_spelling (signed true (number ds)) ≡ 45 ∷ ds
negative-spelling ds p e = below (number ds) refl (plain-positive ds p e)
  where
    below : (n : ℕ) → number ds ≡ n → 0 < n → whole_spelling (neg_ℤ (pos n)) ≡ 45 ∷ ds
    below zero e k = absurd (omega arith)
    below (suc n) e k = ap (λ (x : List ℕ). 45 ∷ x) (ap plain_digits (sym e) ∙ plain_digits-number ds p)

module _ (bytes plain : List ℕ) (count zeros : ℕ) (some : 0 < count) (within : count ≤ length bytes) (digits : AllDigits (take count bytes)) (z : AreLeadingZeros (take (count - 1) bytes) zeros) (is : plain ≡ take (length bytes - zeros) (drop zeros bytes)) where
  abbrev kept : List ℕ
  kept = take (count - zeros) (drop zeros bytes)

  kept_is : take (count - zeros) plain ≡ kept
  kept_is = ap (λ (x : List ℕ). take (count - zeros) x) (is ∙ rest_is bytes zeros)

  first_is : get_or kept 0 0 ≡ get_or plain 0 0
  first_is =
      let s = short bytes count zeros some within digits z in
      get_or-take (count - zeros) (drop zeros bytes) 0 0 (omega arith) ∙ ap (λ (x : List ℕ). get_or x 0 0) (sym (is ∙ rest_is bytes zeros))

  kept_plain : ArePlain kept
  kept_plain = kept-plain bytes count zeros some within digits z

  number_is : number (take count bytes) ≡ number kept
  number_is = kept-number bytes count zeros some within digits z

  pub as_unsigned : whole_spelling (signed false (number (take count bytes))) ≡ take (count - zeros) plain
  as_unsigned = ap (λ (n : ℕ). whole_spelling (signed false n)) number_is ∙ (unsigned-spelling kept kept_plain ∙ sym kept_is)

  pub as_zero : (negative : Bool) → get_or plain 0 0 ≡ 48 → whole_spelling (signed negative (number (take count bytes))) ≡ take (count - zeros) plain
  as_zero negative e = ap (λ (n : ℕ). whole_spelling (signed negative n)) number_is ∙ (zero-spelling negative kept kept_plain (first_is ∙ e) ∙ sym kept_is)

  pub as_negative : get_or plain 0 0 ≢ 48 → whole_spelling (signed true (number (take count bytes))) ≡ 45 ∷ take (count - zeros) plain
  as_negative other = ap (λ (n : ℕ). whole_spelling (signed true n)) number_is ∙ (negative-spelling kept kept_plain (subst (λ (b : ℕ). b ≢ 48) (sym first_is) other) ∙ ap (λ (x : List ℕ). 45 ∷ x) (sym kept_is))

-- ---- the token

followed-whole : (z : ℤ) (spelling rest : List ℕ) → NoDigitFirst rest → BeginsWithoutByte 46 rest → IsFollowed (whole z) spelling rest
followed-whole z spelling [] h k = tt
followed-whole z spelling (byte ∷ rest) h k = (h, k)

pub whole-at_front : (bytes digits rest : List ℕ) (negative : Bool) → IsIntegerAt bytes negative digits rest → BeginsWithoutByte 46 rest → IsLeadingToken bytes (length bytes - length rest) (whole (signed negative (number digits)))
whole-at_front bytes digits rest negative x point =
    let value : ℤ = signed negative (number digits) in
    let back : drop (length bytes - length rest) bytes ≡ rest = behind-count bytes (sign_bytes x.sign ++ digits) rest (x.bytes_are ∙ sym (append_assoc (sign_bytes x.sign) digits rest)) in
    record {
      within = omega arith;
      spells = spells_integer bytes digits rest negative x;
      followed = subst (IsFollowed (whole value) (take (length bytes - length rest) bytes)) (sym back) (followed-whole value (take (length bytes - length rest) bytes) rest x.ends point);
    }

pub parts-within : (bytes digits rest : List ℕ) (negative : Bool) → IsIntegerAt bytes negative digits rest → length digits + length rest ≤ length bytes
parts-within bytes digits rest negative x = omega (arith, ap length x.bytes_are, length-append (sign_bytes x.sign) (digits ++ rest), length-append digits rest)

-- the digits stand behind the sign, and in front of what is left
module _ (bytes digits rest tail : List ℕ) (negative : Bool) (at : ℕ) (x : IsIntegerAt bytes negative digits rest) (at_is : at ≡ length bytes - length rest - length digits) (tail_is : tail ≡ take (length bytes - at) (drop at bytes)) where
  pub digits-first : tail ≡ digits ++ rest
  digits-first =
      let place : at ≡ length bytes - length (digits ++ rest) = at_is ∙ let l = length-append digits rest in omega arith in
      tail_is ∙ (rest_is bytes at ∙ (ap (λ (n : ℕ). drop n bytes) place ∙ behind-count bytes (sign_bytes x.sign) (digits ++ rest) x.bytes_are))

  pub digits-front : take (length digits) tail ≡ digits
  digits-front = ap (λ (l : List ℕ). take (length digits) l) digits-first ∙ take-append_seam digits rest

  pub digits-within : length digits ≤ length tail
  digits-within = omega (arith, ap length digits-first, length-append digits rest)
