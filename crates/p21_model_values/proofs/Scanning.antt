-- Where a value ends: the bytes of a parameter leave strings and parentheses as they were, and no comma of it stands outside of them.
use Rattle.std.proofs.Common.{◌≡◌, ◌≢◌, ℤ, pos, negsuc, nat_abs, ℕ, zero, suc, ◌+◌, ◌<◌, ◌≤◌, ◌⊎◌, Bool, true, false, ◌&&◌, ◌||◌, eqb, List, [], ◌∷◌, ◌++◌, length, map, refl, ap, sym, subst, ◌∙◌, arith, lit<, lit≤, append_assoc, length-append, inl, inr}
use Rattle.std.proofs.lemmas.Bool.{ne_eqb}
use Rattle.std.proofs.lemmas.Bool.Decides.{nat_tests}
use Rattle.std.specs.Prelude.{if◌then◌else◌, nat_lt, nat_le}
use Rattle.std.specs.List.{flat_map, AllByRecursion as Each}
use Rattle.p21_spec_basics.proofs.HexDigits.{IsHexDigit, are_hex_digits}
use Rattle.p21_spec_basics.proofs.Members.{Each-append, Each-front, Each-back}
use Rattle.p21_spec_basics.proofs.PlainDigits.{plain_are_digits, plain_digits_are}
use Rattle.p21_spec_basics.specs.Digits.{AllDigits, hex_digit, hex_digits, plain_digits}
use Rattle.p21_spec_exchange.proofs.BitSpellings.{bits_spell}
use Rattle.p21_spec_exchange.specs.CanonicalText.{param_text, tokens_text}
use Rattle.p21_spec_exchange.specs.Keyword.{IsKeyword, IsKeywordByte, IsUpper}
use Rattle.p21_spec_exchange.specs.Number.{Decimal}
use Rattle.p21_spec_exchange.specs.Parameter.{Key, Param, Params, no_params, param, key_token, param_tokens, params_tokens, more_tokens, dollar, star, whole, real, text, name, item, bits, list, typed}
use Rattle.p21_spec_exchange.specs.Spelling.{bits_spelling, character_spelling, digits_with_point, exponent_spelling, minus_bytes, normalised_exponent, spelling, text_spelling, whole_spelling}
use Rattle.p21_spec_exchange.specs.Text.{end_extended}
use Rattle.p21_spec_exchange.specs.Token as token
use Rattle.p21_spec_exchange.specs.Token.{Token, IsSpelled}
use Rattle.p21_spec_laws.proofs.ParamTexts.{one-token, tokens_text-append, typed-is}
use Rattle.p21_spec_laws.specs.Written.{IsWritten}
use Rattle.p21_model_values.specs.Ends.{size_within}
use Rattle.p21_model_values.specs.Written.{EndsValue}

-- ---- bytes that change nothing

-- no apostrophe, `#`, parenthesis or comma
abbrev pub IsInert : ℕ → Type 0
IsInert byte = (byte < 35) ⊎ (44 < byte)

-- outside of strings a text leaves all as it was
abbrev Passes : List ℕ → Type 0
Passes xs = (rest : List ℕ) (depth : ℕ) → size_within (xs ++ rest) false depth ≡ length xs + size_within rest false depth

differs : (byte other : ℕ) → IsInert byte → 39 ≤ other → other ≤ 44 → eqb byte other ≡ false
differs byte other (inl h) low high = ne_eqb byte other (λ e. omega (arith, h, low, e))
differs byte other (inr h) low high = ne_eqb byte other (λ e. omega (arith, h, high, e))

inert-one : (byte : ℕ) → IsInert byte → (bytes : List ℕ) (depth : ℕ)
    → size_within (byte ∷ bytes) false depth ≡ suc (size_within bytes false depth)
inert-one byte inert bytes depth =
    let a : eqb byte 39 ≡ false = differs byte 39 inert (lit≤ tt) (lit≤ tt) in
    let b : eqb byte 40 ≡ false = differs byte 40 inert (lit≤ tt) (lit≤ tt) in
    let c : eqb byte 41 ≡ false = differs byte 41 inert (lit≤ tt) (lit≤ tt) in
    let d : eqb byte 44 ≡ false = differs byte 44 inert (lit≤ tt) (lit≤ tt) in
    rw (a, b, c, d) refl

inert-passes : (xs : List ℕ) → Each IsInert xs → Passes xs
inert-passes [] are rest depth = omega arith
inert-passes (x ∷ xs) are rest depth =
    let one = inert-one x are.0 (xs ++ rest) depth in
    let more = inert-passes xs are.1 rest depth in
    omega (arith, one, more)

append-passes : (xs ys : List ℕ) → Passes xs → Passes ys → Passes (xs ++ ys)
append-passes xs ys p q rest depth =
    let front : size_within ((xs ++ ys) ++ rest) false depth ≡ length xs + size_within (ys ++ rest) false depth =
    rw append_assoc (p (ys ++ rest) depth) in
    let back = q rest depth in
    let all = length-append xs ys in
    omega (arith, front, back, all)

-- ---- scalars

letter : (byte : ℕ) → IsUpper byte → IsInert byte
letter byte (inl h) = inr (omega (arith, h))
letter byte (inr h) = inr (omega (arith, h))

keyword_byte : (byte : ℕ) → IsKeywordByte byte → IsInert byte
keyword_byte byte (inl h) = letter byte h
keyword_byte byte (inr h) = inr (omega (arith, h))

keyword_bytes : (bytes : List ℕ) → Each IsKeywordByte bytes → Each IsInert bytes
keyword_bytes [] are = tt
keyword_bytes (byte ∷ bytes) are = (keyword_byte byte are.0, keyword_bytes bytes are.1)

pub word-inert : (word : List ℕ) → IsKeyword word → Each IsInert word
word-inert [] is = tt
word-inert (byte ∷ bytes) is = (letter byte is.0, keyword_bytes bytes is.1)

digits-inert : (bytes : List ℕ) → AllDigits bytes → Each IsInert bytes
digits-inert [] are = tt
digits-inert (byte ∷ bytes) are = (let h = are.0 in inr (omega (arith, h)), digits-inert bytes are.1)

pub plain-inert : (n : ℕ) → Each IsInert (plain_digits n)
plain-inert n = digits-inert (plain_digits n) (plain_are_digits (plain_digits n) (plain_digits_are n).0)

pub whole-inert : (z : ℤ) → Each IsInert (whole_spelling z)
whole-inert (pos n) = plain-inert n
whole-inert (negsuc n) = (inr (lit< tt), plain-inert (suc n))

pointed-inert : (bytes : List ℕ) → Each IsInert bytes → Each IsInert (digits_with_point bytes)
pointed-inert [] are = (inr (lit< tt), tt)
pointed-inert (digit ∷ bytes) are = (are.0, (inr (lit< tt), are.1))

minus-inert : (z : ℤ) → Each IsInert (minus_bytes z)
minus-inert (pos n) = tt
minus-inert (negsuc n) = (inr (lit< tt), tt)

exponent-inert : (z : ℤ) → Each IsInert (exponent_spelling z)
exponent-inert (pos zero) = tt
exponent-inert (pos (suc n)) = (inr (lit< tt), whole-inert (pos (suc n)))
exponent-inert (negsuc n) = (inr (lit< tt), whole-inert (negsuc n))

pub real-inert : (d : Decimal) → Each IsInert (spelling (token.real d))
real-inert d =
    Each-append IsInert (minus_bytes d.significand) _ (minus-inert d.significand)
    (Each-append IsInert (digits_with_point (plain_digits (nat_abs d.significand))) _
    (pointed-inert (plain_digits (nat_abs d.significand)) (plain-inert (nat_abs d.significand)))
    (exponent-inert (normalised_exponent d)))

hex_digit-inert : (n : ℕ) → n < 16 → IsInert (hex_digit n)
hex_digit-inert n below = by_test (nat_lt n 10)
  where
    by_test : (low : Bool) → IsInert (if low then 48 + n else 55 + n)
    by_test true = inr (omega arith)
    by_test false = inr (omega arith)

hex_values-inert : (values : List ℕ) → Each (λ n. n < 16) values → Each IsInert (map hex_digit values)
hex_values-inert [] are = tt
hex_values-inert (n ∷ values) are = (hex_digit-inert n are.0, hex_values-inert values are.1)

pub bits-inert : (value : List Bool) → Each IsInert (bits_spelling value)
bits-inert value =
    let s = bits_spell value in
    subst (Each IsInert) (sym s.bytes_are) (
      inl (lit< tt),
      (
        inr (omega arith),
        Each-append IsInert (map hex_digit s.hex_values) (34 ∷ [])
            (hex_values-inert s.hex_values s.are_hex_values) (inl (lit< tt), tt),
      ),
    )

-- ---- strings

-- inside a string a text leaves all as it was
record PassesInside (xs : List ℕ) : Type 0 where
  passes : (rest : List ℕ) (depth : ℕ) → size_within (xs ++ rest) true depth ≡ length xs + size_within rest true depth

inside-one : (byte : ℕ) → byte ≢ 39 → (bytes : List ℕ) (depth : ℕ)
    → size_within (byte ∷ bytes) true depth ≡ suc (size_within bytes true depth)
inside-one byte other bytes depth = let a : eqb byte 39 ≡ false = ne_eqb byte 39 other in rw a refl

inside-each : (xs : List ℕ) → Each (λ byte. byte ≢ 39) xs → (rest : List ℕ) (depth : ℕ)
    → size_within (xs ++ rest) true depth ≡ length xs + size_within rest true depth
inside-each [] are rest depth = omega arith
inside-each (x ∷ xs) are rest depth =
    let one = inside-one x are.0 (xs ++ rest) depth in
    let more = inside-each xs are.1 rest depth in
    omega (arith, one, more)

inside-passes : (xs : List ℕ) → Each (λ byte. byte ≢ 39) xs → PassesInside xs
inside-passes xs are = record { passes = inside-each xs are }

hex-unquoted : (digits : List ℕ) → Each IsHexDigit digits → Each (λ byte. byte ≢ 39) digits
hex-unquoted [] are = tt
hex-unquoted (digit ∷ digits) are = (λ e. let h = are.0 in omega (arith, h, e), hex-unquoted digits are.1)

directive-unquoted : (kind : ℕ) (digits : List ℕ) → kind ≢ 39 → Each IsHexDigit digits
    → Each (λ byte. byte ≢ 39) (92 ∷ 88 ∷ kind ∷ 92 ∷ (digits ++ end_extended))
directive-unquoted kind digits other hex =
    let backslash : 92 ≢ 39 = λ e. omega (arith, e) in
    let letter_x : 88 ≢ 39 = λ e. omega (arith, e) in
    let zero_digit : 48 ≢ 39 = λ e. omega (arith, e) in (
      backslash,
      (
        letter_x,
        (
          other,
          (
            backslash,
            Each-append (λ byte. byte ≢ 39) digits end_extended (hex-unquoted digits hex)
                (backslash, (letter_x, (zero_digit, (backslash, tt)))),
          ),
        ),
      ),
    )

twice-each : (c : ℕ) (rest : List ℕ) (depth : ℕ) → size_within (c ∷ c ∷ rest) true depth ≡ 2 + size_within rest true depth
twice-each c rest depth = by_test (eqb c 39) refl
  where
    by_test : (apostrophe : Bool) → eqb c 39 ≡ apostrophe → size_within (c ∷ c ∷ rest) true depth ≡ 2 + size_within rest true depth
    by_test true e = rw e (omega arith)
    by_test false e = rw e (omega arith)

-- a character is spelled twice, or without an apostrophe
pub character-shape : (c : ℕ) → (character_spelling c ≡ c ∷ c ∷ []) ⊎ Each (λ byte. byte ≢ 39) (character_spelling c)
character-shape c = quoted (eqb c 39 || eqb c 92) refl
  where
    Unquoted : List ℕ → Type 0
    Unquoted = Each (λ byte. byte ≢ 39)

    wide : (w : Bool) → nat_lt c 0x1_0000 ≡ w → (eqb c 39 || eqb c 92) ≡ false → (nat_le 32 c && nat_lt c 127) ≡ false
        → Unquoted (character_spelling c)
    wide true e q p =
        let is : character_spelling c ≡ 92 ∷ 88 ∷ 50 ∷ 92 ∷ (hex_digits 4 c ++ end_extended) = rw (q, p, e) refl in
        subst Unquoted (sym is) (directive-unquoted 50 (hex_digits 4 c) (λ h. omega (arith, h)) (are_hex_digits 4 c))
    wide false e q p =
        let is : character_spelling c ≡ 92 ∷ 88 ∷ 52 ∷ 92 ∷ (hex_digits 8 c ++ end_extended) = rw (q, p, e) refl in
        subst Unquoted (sym is) (directive-unquoted 52 (hex_digits 8 c) (λ h. omega (arith, h)) (are_hex_digits 8 c))

    graphic : (g : Bool) → (nat_le 32 c && nat_lt c 127) ≡ g → (eqb c 39 || eqb c 92) ≡ false → Unquoted (character_spelling c)
    graphic true e q =
        let is : character_spelling c ≡ c ∷ [] = rw (q, e) refl in
        let other : c ≢ 39 = λ h. grind (arith, nat_tests) in
        subst Unquoted (sym is) (other, tt)
    graphic false e q = wide (nat_lt c 0x1_0000) refl q e

    quoted : (q : Bool) → (eqb c 39 || eqb c 92) ≡ q → (character_spelling c ≡ c ∷ c ∷ []) ⊎ Unquoted (character_spelling c)
    quoted true e = inl (rw e refl)
    quoted false e = inr (graphic (nat_le 32 c && nat_lt c 127) refl e)

character-passes : (c : ℕ) → PassesInside (character_spelling c)
character-passes c = elim (character-shape c) [
  | inl twice ↦ subst PassesInside (sym twice) (record { passes = twice-each c })
  | inr unquoted ↦ inside-passes (character_spelling c)
      unquoted
]

characters-pass : (cs : List ℕ) (rest : List ℕ) (depth : ℕ)
    → size_within (flat_map character_spelling cs ++ rest) true depth ≡ length (flat_map character_spelling cs) + size_within rest true
    depth
characters-pass [] rest depth = omega arith
characters-pass (c ∷ cs) rest depth =
    joined (character_spelling c) (flat_map character_spelling cs) (character-passes c) (characters-pass cs rest depth)
  where
    joined : (xs ys : List ℕ) → PassesInside xs → size_within (ys ++ rest) true depth ≡ length ys + size_within rest true depth
        → size_within ((xs ++ ys) ++ rest) true depth ≡ length (xs ++ ys) + size_within rest true depth
    joined xs ys p more =
        let all : size_within ((xs ++ ys) ++ rest) true depth ≡ length xs + size_within (ys ++ rest) true depth =
        ap (λ (zs : List ℕ). size_within zs true depth) (append_assoc xs ys rest) ∙ p.passes (ys ++ rest) depth in
        let long = length-append xs ys in
        omega (arith, all, more, long)

text-passes : (cs : List ℕ) → Passes (text_spelling cs)
text-passes cs rest depth = closed (flat_map character_spelling cs) (characters-pass cs (39 ∷ rest) depth)
  where
    closed : (xs : List ℕ) → size_within (xs ++ (39 ∷ rest)) true depth ≡ length xs + size_within (39 ∷ rest) true depth
        → size_within ((39 ∷ (xs ++ (39 ∷ []))) ++ rest) false depth ≡ length (39 ∷ (xs ++ (39 ∷ []))) + size_within rest false depth
    closed xs p =
        let all : size_within ((xs ++ (39 ∷ [])) ++ rest) true depth ≡ length xs + size_within (39 ∷ rest) true depth =
        ap (λ (zs : List ℕ). size_within zs true depth) (append_assoc xs (39 ∷ []) rest) ∙ p in
        let long = length-append xs (39 ∷ []) in
        omega (arith, all, long)

-- ---- parameters

key-passes : (user : Bool) (word : List ℕ) → IsSpelled (key_token (record { user = user; word = word }))
    → Passes (spelling (key_token (record { user = user; word = word })))
key-passes true word spelled = inert-passes (33 ∷ word) (inl (lit< tt), word-inert word spelled.1.1)
key-passes false word spelled = inert-passes word (word-inert word spelled.1.1)

-- what stands in parentheses
closed-passes : (xs : List ℕ) → Passes xs → Passes (40 ∷ (xs ++ (41 ∷ [])))
closed-passes xs p rest depth =
    let all : size_within ((xs ++ (41 ∷ [])) ++ rest) false (suc depth) ≡ length xs + size_within (41 ∷ rest) false (suc depth) =
    rw append_assoc (p (41 ∷ rest) (suc depth)) in
    let long = length-append xs (41 ∷ []) in
    omega (arith, all, long)

-- inside parentheses
abbrev PassesClosed : List ℕ → Type 0
PassesClosed xs = (rest : List ℕ) (depth : ℕ) → size_within (xs ++ rest) false (suc depth) ≡ length xs + size_within rest false (suc depth)

closed-append : (xs ys : List ℕ) → PassesClosed xs → PassesClosed ys → PassesClosed (xs ++ ys)
closed-append xs ys p q rest depth =
    let front : size_within ((xs ++ ys) ++ rest) false (suc depth) ≡ length xs + size_within (ys ++ rest) false (suc depth) =
    rw append_assoc (p (ys ++ rest) depth) in
    let back = q rest depth in
    let all = length-append xs ys in
    omega (arith, front, back, all)

list-passes : (xs : List ℕ) → PassesClosed xs → Passes (40 ∷ (xs ++ (41 ∷ [])))
list-passes xs p rest depth =
    let all : size_within ((xs ++ (41 ∷ [])) ++ rest) false (suc depth) ≡ length xs + size_within (41 ∷ rest) false (suc depth) =
    rw append_assoc (p (41 ∷ rest) depth) in
    let long = length-append xs (41 ∷ []) in
    omega (arith, all, long)

scalar-passes : (t : Token) → Passes (spelling t) → Passes (tokens_text (t ∷ []))
scalar-passes t p = subst Passes (sym (one-token t)) p

list-text : (ps : Params) → param_text (list ps) ≡ 40 ∷ (tokens_text (params_tokens ps) ++ (41 ∷ []))
list-text ps = ap (λ (xs : List ℕ). 40 ∷ xs) (tokens_text-append (params_tokens ps) (token.right ∷ []))

typed-text : (key : Key) (p : Param) → param_text (typed key p) ≡ spelling (key_token key) ++ (40 ∷ (param_text p ++ (41 ∷ [])))
typed-text key p = typed-is key p

mutual
  pub param-passes : (p : Param) → IsWritten p → Passes (param_text p)
  param-passes dollar written = λ rest depth. omega arith
  param-passes star written = λ rest depth. omega arith
  param-passes (whole z) written = scalar-passes (token.whole z) (inert-passes (whole_spelling z) (whole-inert z))
  param-passes (real d) written = scalar-passes (token.real d) (inert-passes (spelling (token.real d)) (real-inert d))
  param-passes (text chars) written = scalar-passes (token.text chars) (text-passes chars)
  param-passes (name n) written = scalar-passes (token.name n)
      (append-passes (35 ∷ []) (plain_digits n) (λ rest depth. omega arith) (inert-passes (plain_digits n) (plain-inert n)))
  param-passes (item word) written = scalar-passes (token.item word)
      (inert-passes (46 ∷ (word ++ (46 ∷ []))) (
        inr (lit< tt),
        Each-append IsInert word (46 ∷ []) (word-inert word written.0.1.1)
            (inr (lit< tt), tt),
      ))
  param-passes (bits value) written = scalar-passes (token.bits value) (inert-passes (bits_spelling value) (bits-inert value))
  param-passes (list ps) written = subst Passes (sym (list-text ps))
      (list-passes (tokens_text (params_tokens ps)) (params-pass ps (Each-front IsSpelled (params_tokens ps) (token.right ∷ []) written.1)))
  param-passes (typed key p) written = subst Passes (sym (typed-text key p))
      (append-passes (spelling (key_token key)) (40 ∷ (param_text p ++ (41 ∷ []))) (key-passes key.user key.word written.0)
      (closed-passes (param_text p) (param-passes p (Each-front IsSpelled (param_tokens p) (token.right ∷ []) written.1.1))))

  params-pass : (ps : Params) → Each IsSpelled (params_tokens ps) → PassesClosed (tokens_text (params_tokens ps))
  params-pass no_params written = λ rest depth. omega arith
  params-pass (param p ps) written =
      subst PassesClosed (sym (tokens_text-append (param_tokens p) (more_tokens ps)))
      (closed-append (param_text p) (tokens_text (more_tokens ps))
      (λ rest depth. param-passes p (Each-front IsSpelled (param_tokens p) (more_tokens ps) written) rest (suc depth))
      (more-pass ps (Each-back IsSpelled (param_tokens p) (more_tokens ps) written)))

  more-pass : (ps : Params) → Each IsSpelled (more_tokens ps) → PassesClosed (tokens_text (more_tokens ps))
  more-pass no_params written rest depth = omega arith
  more-pass (param p ps) written rest depth =
      let all : PassesClosed (tokens_text (param_tokens p ++ more_tokens ps)) =
      subst PassesClosed (sym (tokens_text-append (param_tokens p) (more_tokens ps)))
      (closed-append (param_text p) (tokens_text (more_tokens ps))
      (λ rest depth. param-passes p (Each-front IsSpelled (param_tokens p) (more_tokens ps) written.1) rest (suc depth))
      (more-pass ps (Each-back IsSpelled (param_tokens p) (more_tokens ps) written.1))) in
      let more = all rest depth in
      omega (arith, more)

-- a value ends where its parameter does
pub value_ends : (bytes : List ℕ) (p : Param) (rest : List ℕ) → IsWritten p → EndsValue rest → bytes ≡ param_text p ++ rest
    → size_within bytes false 0 ≡ length (param_text p)
value_ends bytes p rest written ends e = subst (λ (xs : List ℕ). size_within xs false 0 ≡ length (param_text p)) (sym e)
    (at_end rest ends (param-passes p written rest 0))
  where
    at_end : (rest : List ℕ) → EndsValue rest
        → size_within (param_text p ++ rest) false 0 ≡ length (param_text p) + size_within rest false 0
        → size_within (param_text p ++ rest) false 0 ≡ length (param_text p)
    at_end [] ends all = absurd ends
    at_end (byte ∷ rest) (inl comma) all = let none : size_within (byte ∷ rest) false 0 ≡ 0 = rw comma refl in omega (arith, all, none)
    at_end (byte ∷ rest) (inr closing) all = let none : size_within (byte ∷ rest) false 0 ≡ 0 = rw closing refl in omega (arith, all, none)
