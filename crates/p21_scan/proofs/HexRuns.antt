-- Hex digits one by one, and what the library `hex` makes of them.
use Rattle.std.proofs.Common.{◌≡◌, ℕ, zero, suc, ◌+◌, ◌*◌, ◌/◌, ◌%◌, ◌^◌, ◌<◌, List, [], ◌∷◌, ◌++◌, length, get_or, map, take, refl, ap, sym, subst, ◌∙◌, arith, add-one, pow-suc, length-append, IsTrue, Some, Result, Ok, Err}
use Rattle.std.proofs.lemmas.Bool.Decides.{nat_tests}
use Rattle.std.proofs.Math.Nat.{pow-le-pow_right}
use Rattle.std.proofs.lemmas.List.{take_at, take_more}
use Rattle.std.specs.List.{AllByRecursion as Each}
use Rattle.hex.specs.Hex.{decode_sized, decode_pairs, hex_digit_value}
use Rattle.hex.specs.declared.error.FromHexError.{FromHexError}
use Rattle.p21_spec_basics.proofs.HexDigits.{length-hex_digits}
use Rattle.p21_spec_basics.specs.Digits.{hex_digit, hex_digits}
use Rattle.p21_scan.specs.Hex.{AllHexDigits, NoGroupAt, NoHexDigitFirst, hex_value, is_hex_digit}

-- ---- a digit and its number

pub hex_back : (c : ℕ) → IsTrue (is_hex_digit c) → (hex_value c < 16) × (hex_digit (hex_value c) ≡ c)
hex_back c h = (grind (arith, nat_tests), grind (arith, nat_tests))

pub hex_forth : (n : ℕ) → n < 16 → IsTrue (is_hex_digit (hex_digit n)) × (hex_value (hex_digit n) ≡ n)
hex_forth n h = (grind (arith, nat_tests), grind (arith, nat_tests))

-- ---- digits and their numbers

pub hex_values_back : (digits : List ℕ) → AllHexDigits digits → Each (λ n. n < 16) (map hex_value digits) × (map hex_digit (map hex_value digits) ≡ digits)
hex_values_back [] p = (tt, refl)
hex_values_back (c ∷ cs) p =
    let first = hex_back c p.0 in
    let rest = hex_values_back cs p.1 in
    ((first.0, rest.0), (cc))

pub hex_values_forth : (ns : List ℕ) → Each (λ n. n < 16) ns → AllHexDigits (map hex_digit ns) × (map hex_value (map hex_digit ns) ≡ ns)
hex_values_forth [] p = (tt, refl)
hex_values_forth (n ∷ ns) p =
    let first = hex_forth n p.0 in
    let rest = hex_values_forth ns p.1 in
    ((first.0, rest.0), (cc))

digits_append : (xs ys : List ℕ) → AllHexDigits xs → AllHexDigits ys → AllHexDigits (xs ++ ys)
digits_append [] ys p q = q
digits_append (x ∷ xs) ys p q = (p.0, digits_append xs ys p.1 q)

pub hex_more : (xs : List ℕ) (i : ℕ) → i < length xs → AllHexDigits (take i xs) → IsTrue (is_hex_digit (get_or xs i 0)) → AllHexDigits (take (i + 1) xs)
hex_more xs i lt p d = rw (take_more xs i 0 lt) (digits_append (take i xs) (get_or xs i 0 ∷ []) p (d, tt))

-- digits up to the first byte that is none are found in one way
pub hex_split_once : (a b r s : List ℕ) → AllHexDigits a → AllHexDigits b → NoHexDigitFirst r → NoHexDigitFirst s → a ++ r ≡ b ++ s → (a ≡ b) × (r ≡ s)
hex_split_once [] [] r s p q n m e = (refl, e)
hex_split_once [] (y ∷ b) [] s p q n m e = cc
hex_split_once [] (y ∷ b) (z ∷ r) s p q n m e = let same : z ≡ y = cc in absurd (n (rw same q.0))
hex_split_once (x ∷ a) [] r [] p q n m e = cc
hex_split_once (x ∷ a) [] r (z ∷ s) p q n m e = let same : z ≡ x = cc in absurd (m (rw same p.0))
hex_split_once (x ∷ a) (y ∷ b) r s p q n m e =
    let tails : a ++ r ≡ b ++ s = cc in
    let rest = hex_split_once a b r s p.1 q.1 n m tails in
    let first : x ≡ y = cc in
    ((cc), rest.1)

-- ---- one digit behind a zero, as the library reads it

digit-value : (b : ℕ) → IsTrue (is_hex_digit b) → hex_digit_value b ≡ Some (hex_value b)
digit-value b h = grind (arith, nat_tests)

pub digit-decodes : (b : ℕ) → IsTrue (is_hex_digit b) → decode_sized (48 ∷ b ∷ []) 1 ≡ Ok (hex_value b ∷ [])
unfolding decode_pairs
digit-decodes b h = rw (digit-value b h) (ap (λ (x : ℕ). Ok (x ∷ [])) (zero-times (hex_value b)))
  where
    zero-times : (n : ℕ) → 0 * 16 + n ≡ n
    zero-times n = omega arith

pub one-byte : (a : ℕ) (r : Result (List ℕ) FromHexError) (bytes : List ℕ) → r ≡ Ok bytes → r ≡ Ok (a ∷ []) → bytes ≡ a ∷ []
one-byte a r bytes e f = cc

pub not-refused : (a : ℕ) (r : Result (List ℕ) FromHexError) (x : FromHexError) → r ≡ Err x → r ≡ Ok (a ∷ []) → ⊥
not-refused a r x e f = cc

-- ---- groups of digits

pub all_hex : (count n : ℕ) → AllHexDigits (hex_digits count n)
all_hex zero n = tt
all_hex (suc count) n = digits_append (hex_digits count (n / 16)) _ (all_hex count (n / 16)) ((hex_forth (n % 16) (omega arith)).0, tt)

pub digit_at : (xs : List ℕ) (i : ℕ) → AllHexDigits xs → i < length xs → IsTrue (is_hex_digit (get_or xs i 0))
digit_at [] i p h = absurd (omega arith)
digit_at (c ∷ xs) zero p h = p.0
digit_at (c ∷ xs) (suc i) p h = digit_at xs i p.1 (omega arith)

-- one more digit
pub hex_digits-more : (count value digit : ℕ) → digit < 16 → hex_digits count value ++ hex_digit digit ∷ [] ≡ hex_digits (count + 1) (value * 16 + digit)
hex_digits-more count value digit h =
    let all : (value * 16 + digit) / 16 ≡ value = omega arith in
    let last : (value * 16 + digit) % 16 ≡ digit = omega arith in
    rw (add-one, all, last) refl

-- a byte that is a hex digit, behind digits
pub hex_digits-byte : (count value byte : ℕ) → IsTrue (is_hex_digit byte) → hex_digits count value ++ byte ∷ [] ≡ hex_digits (count + 1) (value * 16 + hex_value byte)
hex_digits-byte count value byte h =
    let own = hex_back byte h in
    ap (λ x. hex_digits count value ++ x ∷ []) (sym own.1) ∙ hex_digits-more count value (hex_value byte) own.0

pub group_more : (xs : List ℕ) (i code : ℕ) → i < length xs → take i xs ≡ hex_digits i code → IsTrue (is_hex_digit (get_or xs i 0)) → take (i + 1) xs ≡ hex_digits (i + 1) (code * 16 + hex_value (get_or xs i 0))
group_more xs i code lt so_far digit = take_more xs i 0 lt ∙ (ap (λ (ys : List ℕ). ys ++ (get_or xs i 0 ∷ [])) so_far ∙ hex_digits-byte i code (get_or xs i 0) digit)

pub group_small : (i code value : ℕ) → code < 16 ^ i → value < 16 → code * 16 + value < 16 ^ (i + 1)
group_small i code value small digit = rw (add-one, pow-suc) (omega arith)

pub group_below : (i code : ℕ) → i < 8 → code < 16 ^ i → code < 16 ^ 7
group_below i code short small = omega (arith, pow-le-pow_right {n = 16} (omega arith) {i = i} {j = 7} (omega arith), small)

pub no_group : (count : ℕ) (bytes digits : List ℕ) → digits ≡ take count bytes → ¬ AllHexDigits digits → NoGroupAt count bytes
no_group count bytes digits front other code rest x =
    let same : digits ≡ hex_digits count code = front ∙ ap (take count) x.bytes_are ∙ take_at (hex_digits count code) rest count (length-hex_digits count code) in
    other (subst AllHexDigits (sym same) (all_hex count code))

pub too_short : (count : ℕ) (bytes : List ℕ) → length bytes < count → NoGroupAt count bytes
too_short count bytes short code rest x = omega (arith, ap length x.bytes_are, length-append (hex_digits count code) rest, length-hex_digits count code)
