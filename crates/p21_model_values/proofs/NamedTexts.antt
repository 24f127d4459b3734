-- The names of instances in the text of a parameter are its references.
use Rattle.std.proofs.Common.{◌≡◌, ◌≢◌, ℕ, ◌<◌, ◌≤◌, ◌^◌, Bool, true, false, eqb, List, [], ◌∷◌, ◌++◌, Some, refl, ap, sym, subst, ◌∙◌, arith, append_assoc, append-nil, inl, inr}
use Rattle.std.proofs.lemmas.Bool.{ne_eqb}
use Rattle.std.proofs.lemmas.Bool.Decides.{nat_tests}
use Rattle.std.specs.List.{flat_map, AllByRecursion as Each}
use Rattle.p21_spec_basics.proofs.Members.{Each-append, Each-front, Each-back}
use Rattle.p21_spec_basics.proofs.PlainDigits.{plain_are_digits, plain_digits_are}
use Rattle.p21_spec_basics.specs.Digits.{AllDigits, is_digit, number, plain_digits}
use Rattle.p21_spec_exchange.proofs.Forms.{NoDigitFirst}
use Rattle.p21_spec_exchange.specs.Keyword.{IsKeyword}
use Rattle.p21_spec_exchange.specs.CanonicalText.{param_text, tokens_text}
use Rattle.p21_spec_exchange.specs.Parameter.{Key, Param, Params, no_params, param, key_token, param_tokens, params_tokens, more_tokens, dollar, star, whole, real, text, name, item, bits, list, typed}
use Rattle.p21_spec_exchange.specs.Spelling.{bits_spelling, character_spelling, spelling, text_spelling, whole_spelling}
use Rattle.p21_spec_exchange.specs.Token as token
use Rattle.p21_spec_exchange.specs.Token.{Token, IsSpelled}
use Rattle.p21_spec_file.specs.Reference.{param_references, references}
use Rattle.p21_spec_laws.proofs.ParamTexts.{one-token, tokens_text-append, typed-is}
use Rattle.p21_spec_laws.specs.Written.{IsWritten}
use Rattle.p21_model_values.proofs.Scanning.{IsInert, bits-inert, character-shape, plain-inert, real-inert, whole-inert, word-inert}
use Rattle.p21_model_values.specs.Named.{HandsOutName, leading_digits, leading_number, names_in}
use Rattle.p21_model_values.specs.Written.{EndsValue, IsTextOf}

-- ---- texts that name nothing

-- outside of strings
abbrev Unnamed : List ℕ → Type 0
Unnamed xs = (rest : List ℕ) → names_in (xs ++ rest) false ≡ names_in rest false

differs : (byte other : ℕ) → IsInert byte → 35 ≤ other → other ≤ 44 → eqb byte other ≡ false
differs byte other (inl h) low high = ne_eqb byte other (λ e. omega (arith, h, low, e))
differs byte other (inr h) low high = ne_eqb byte other (λ e. omega (arith, h, high, e))

pub inert-unnamed : (xs : List ℕ) → Each IsInert xs → (rest : List ℕ) → names_in (xs ++ rest) false ≡ names_in rest false
inert-unnamed [] are rest = refl
inert-unnamed (x ∷ xs) are rest =
    let a : eqb x 39 ≡ false = differs x 39 are.0 (omega arith) (omega arith) in
    let b : eqb x 35 ≡ false = differs x 35 are.0 (omega arith) (omega arith) in
    rw (a, b) (inert-unnamed xs are.1 rest)

unquoted-unnamed : (xs : List ℕ) → Each (λ byte. byte ≢ 39) xs → (rest : List ℕ) → names_in (xs ++ rest) true ≡ names_in rest true
unquoted-unnamed [] are rest = refl
unquoted-unnamed (x ∷ xs) are rest = let a : eqb x 39 ≡ false = ne_eqb x 39 are.0 in rw a (unquoted-unnamed xs are.1 rest)

twice-unnamed : (c : ℕ) (rest : List ℕ) → names_in (c ∷ c ∷ rest) true ≡ names_in rest true
twice-unnamed c rest = by_test (eqb c 39) refl
  where
    by_test : (apostrophe : Bool) → eqb c 39 ≡ apostrophe → names_in (c ∷ c ∷ rest) true ≡ names_in rest true
    by_test true e = rw e refl
    by_test false e = rw e refl

character-unnamed : (c : ℕ) (rest : List ℕ) → names_in (character_spelling c ++ rest) true ≡ names_in rest true
character-unnamed c rest = elim (character-shape c) [
  | inl twice ↦ ap (λ (xs : List ℕ). names_in (xs ++ rest) true) twice ∙ twice-unnamed c rest
  | inr unquoted ↦ unquoted-unnamed (character_spelling c) unquoted rest
]

characters-unnamed : (cs rest : List ℕ) → names_in (flat_map character_spelling cs ++ rest) true ≡ names_in rest true
characters-unnamed [] rest = refl
characters-unnamed (c ∷ cs) rest =
    ap (λ (xs : List ℕ). names_in xs true) (append_assoc (character_spelling c) (flat_map character_spelling cs) rest)
    ∙ character-unnamed c (flat_map character_spelling cs ++ rest)
    ∙ characters-unnamed cs rest

text-unnamed : (cs : List ℕ) → Unnamed (text_spelling cs)
text-unnamed cs rest =
    ap (λ (xs : List ℕ). names_in xs true) (append_assoc (flat_map character_spelling cs) (39 ∷ []) rest)
    ∙ characters-unnamed cs (39 ∷ rest)

-- ---- names

digits-lead : (digits rest : List ℕ) → AllDigits digits → NoDigitFirst rest → leading_digits (digits ++ rest) ≡ digits
digits-lead [] [] are ends = refl
digits-lead [] (byte ∷ rest) are ends = let other : is_digit byte ≡ false = no-digit byte ends in rw other refl
  where
    no-digit : (byte : ℕ) → NoDigitFirst (byte ∷ []) → is_digit byte ≡ false
    no-digit byte ends = by_test (is_digit byte) refl
      where
        by_test : (b : Bool) → is_digit byte ≡ b → b ≡ false
        by_test true e = absurd (ends (grind (arith, nat_tests), grind (arith, nat_tests)))
        by_test false e = refl
digits-lead (digit ∷ digits) rest are ends =
    let one : is_digit digit ≡ true = (let h = are.0 in grind (arith, nat_tests)) in
    rw one (ap (λ (xs : List ℕ). digit ∷ xs) (digits-lead digits rest are.1 ends))

pub name-named : (n : ℕ) (rest : List ℕ) → NoDigitFirst rest → names_in (35 ∷ (plain_digits n ++ rest)) false ≡ n ∷ names_in rest false
name-named n rest ends =
    let digits = plain_digits_are n in
    let led : leading_number (plain_digits n ++ rest) ≡ n =
    ap number (digits-lead (plain_digits n) rest (plain_are_digits (plain_digits n) digits.0) ends) ∙ digits.1 in
    ap (λ m. m ∷ names_in (plain_digits n ++ rest) false) led
    ∙ ap (λ (xs : List ℕ). n ∷ xs) (inert-unnamed (plain_digits n) (plain-inert n) rest)

-- ---- parameters

-- nothing stands behind a value, or what ends it
abbrev pub IsBehindValue : List ℕ → Type 0
IsBehindValue [] = Unit {0}
IsBehindValue (byte ∷ rest) = EndsValue (byte ∷ rest)

behind-undigited : (rest : List ℕ) → IsBehindValue rest → NoDigitFirst rest
behind-undigited [] is = tt
behind-undigited (byte ∷ rest) (inl h) = λ digit. omega (arith, h, digit)
behind-undigited (byte ∷ rest) (inr h) = λ digit. omega (arith, h, digit)

-- a text that names these, whatever stands behind it
abbrev pub Names : List ℕ → List ℕ → Type 0
Names xs names = (rest : List ℕ) → IsBehindValue rest → names_in (xs ++ rest) false ≡ names ++ names_in rest false

one-names : (t : Token) (names : List ℕ) → Names (spelling t) names → Names (tokens_text (t ∷ [])) names
one-names t names p = subst (λ (xs : List ℕ). Names xs names) (sym (one-token t)) p

inert-names : (xs : List ℕ) → Each IsInert xs → Names xs []
inert-names xs are rest ends = inert-unnamed xs are rest

pub key-inert : (user : Bool) (word : List ℕ) → IsSpelled (key_token (record { user = user; word = word }))
    → Each IsInert (spelling (key_token (record { user = user; word = word })))
key-inert true word spelled = (inl (omega arith), word-inert word spelled.1.1)
key-inert false word spelled = word-inert word spelled.1.1

item-unnamed : (word : List ℕ) → IsKeyword word → Unnamed (46 ∷ (word ++ (46 ∷ [])))
item-unnamed word is = inert-unnamed (46 ∷ (word ++ (46 ∷ [])))
    (inr (omega arith), Each-append IsInert word (46 ∷ []) (word-inert word is) (inr (omega arith), tt))

-- what stands in parentheses
pub closed-names : (xs names : List ℕ) → Names xs names → (rest : List ℕ)
    → names_in ((40 ∷ (xs ++ (41 ∷ []))) ++ rest) false ≡ names ++ names_in rest false
closed-names xs names p rest = ap (λ (ys : List ℕ). names_in ys false) (append_assoc xs (41 ∷ []) rest) ∙ p (41 ∷ rest) (inr refl)

list-text : (ps : Params) → param_text (list ps) ≡ 40 ∷ (tokens_text (params_tokens ps) ++ (41 ∷ []))
list-text ps = ap (λ (xs : List ℕ). 40 ∷ xs) (tokens_text-append (params_tokens ps) (token.right ∷ []))

typed-names : (key : Key) (p : Param) (names : List ℕ) → IsSpelled (key_token key) → Names (param_text p) names
    → Names (spelling (key_token key) ++ (40 ∷ (param_text p ++ (41 ∷ [])))) names
typed-names key p names spelled inside rest ends =
    ap (λ (xs : List ℕ). names_in xs false) (append_assoc (spelling (key_token key)) (40 ∷ (param_text p ++ (41 ∷ []))) rest)
    ∙ inert-unnamed (spelling (key_token key)) (key-inert key.user key.word spelled) ((40 ∷ (param_text p ++ (41 ∷ []))) ++ rest)
    ∙ closed-names (param_text p) names inside rest

more-behind : (ps : Params) (rest : List ℕ) → IsBehindValue rest → IsBehindValue (tokens_text (more_tokens ps) ++ rest)
more-behind no_params rest ends = ends
more-behind (param p ps) rest ends = inl refl

joined-names : (p : Param) (ps : Params) (first others : List ℕ) → Names (param_text p) first → Names (tokens_text (more_tokens ps)) others
    → Names (tokens_text (param_tokens p ++ more_tokens ps)) (first ++ others)
joined-names p ps first others one more rest ends =
    ap (λ (xs : List ℕ). names_in (xs ++ rest) false) (tokens_text-append (param_tokens p) (more_tokens ps))
    ∙ ap (λ (xs : List ℕ). names_in xs false) (append_assoc (param_text p) (tokens_text (more_tokens ps)) rest)
    ∙ one (tokens_text (more_tokens ps) ++ rest) (more-behind ps rest ends)
    ∙ ap (λ (xs : List ℕ). first ++ xs) (more rest ends)
    ∙ sym (append_assoc first others (names_in rest false))

mutual
  pub param-names : (p : Param) → IsWritten p → (rest : List ℕ) → IsBehindValue rest
      → names_in (param_text p ++ rest) false ≡ param_references p ++ names_in rest false
  param-names dollar written = λ rest ends. refl
  param-names star written = λ rest ends. refl
  param-names (whole z) written = one-names (token.whole z) [] (inert-names (whole_spelling z) (whole-inert z))
  param-names (real d) written = one-names (token.real d) [] (inert-names (spelling (token.real d)) (real-inert d))
  param-names (text chars) written = one-names (token.text chars) [] (λ rest ends. text-unnamed chars rest)
  param-names (name n) written = one-names (token.name n) (n ∷ []) (λ rest ends. name-named n rest (behind-undigited rest ends))
  param-names (item word) written = one-names (token.item word) [] (λ rest ends. item-unnamed word written.0.1.1 rest)
  param-names (bits value) written = one-names (token.bits value) [] (inert-names (bits_spelling value) (bits-inert value))
  param-names (list ps) written =
      subst (λ (xs : List ℕ). Names xs (references ps)) (sym (list-text ps))
      (λ rest ends. closed-names (tokens_text (params_tokens ps)) (references ps)
      (params-names ps (Each-front IsSpelled (params_tokens ps) (token.right ∷ []) written.1)) rest)
  param-names (typed key p) written =
      subst (λ (xs : List ℕ). Names xs (param_references p)) (sym (typed-is key p))
      (typed-names key p (param_references p) written.0 (param-names p
      (Each-front IsSpelled (param_tokens p) (token.right ∷ []) written.1.1)))

  pub params-names : (ps : Params) → Each IsSpelled (params_tokens ps) → (rest : List ℕ) → IsBehindValue rest
      → names_in (tokens_text (params_tokens ps) ++ rest) false ≡ references ps ++ names_in rest false
  params-names no_params written = λ rest ends. refl
  params-names (param p ps) written =
      joined-names p ps (param_references p) (references ps)
      (param-names p (Each-front IsSpelled (param_tokens p) (more_tokens ps) written))
      (more-names ps (Each-back IsSpelled (param_tokens p) (more_tokens ps) written))

  more-names : (ps : Params) → Each IsSpelled (more_tokens ps) → Names (tokens_text (more_tokens ps)) (references ps)
  more-names no_params written = λ rest ends. refl
  more-names (param p ps) written = λ rest ends.
      joined-names p ps (param_references p) (references ps)
      (param-names p (Each-front IsSpelled (param_tokens p) (more_tokens ps) written.1))
      (more-names ps (Each-back IsSpelled (param_tokens p) (more_tokens ps) written.1)) rest ends

-- the names in the text of a parameter
pub text-names : (bytes : List ℕ) (p : Param) → IsTextOf bytes p → names_in bytes false ≡ param_references p
text-names bytes p t =
    ap (λ (xs : List ℕ). names_in xs false) (t.bytes_are ∙ sym (append-nil (param_text p))) ∙ param-names p t.written [] tt
    ∙ append-nil (param_references p)

-- ---- they are numbers of 64 bits

abbrev IsSmall : ℕ → Type 0
IsSmall n = n < 2 ^ 64

mutual
  pub param-small : (p : Param) → IsWritten p → Each IsSmall (param_references p)
  param-small (name n) written = (written.0.1.in_range, tt)
  param-small (list ps) written = params-small ps (Each-front IsSpelled (params_tokens ps) (token.right ∷ []) written.1)
  param-small (typed key p) written = param-small p (Each-front IsSpelled (param_tokens p) (token.right ∷ []) written.1.1)
  param-small dollar written = tt
  param-small star written = tt
  param-small (whole z) written = tt
  param-small (real d) written = tt
  param-small (text chars) written = tt
  param-small (item word) written = tt
  param-small (bits value) written = tt

  pub params-small : (ps : Params) → Each IsSpelled (params_tokens ps) → Each IsSmall (references ps)
  params-small no_params written = tt
  params-small (param p ps) written =
      Each-append IsSmall (param_references p) (references ps)
      (param-small p (Each-front IsSpelled (param_tokens p) (more_tokens ps) written))
      (more-small ps (Each-back IsSpelled (param_tokens p) (more_tokens ps) written))

  more-small : (ps : Params) → Each IsSpelled (more_tokens ps) → Each IsSmall (references ps)
  more-small no_params written = tt
  more-small (param p ps) written =
      Each-append IsSmall (param_references p) (references ps)
      (param-small p (Each-front IsSpelled (param_tokens p) (more_tokens ps) written.1))
      (more-small ps (Each-back IsSpelled (param_tokens p) (more_tokens ps) written.1))

pub text-small : (bytes : List ℕ) (p : Param) → IsTextOf bytes p → Each (λ n. n < 2 ^ 64) (param_references p)
text-small bytes p t = param-small p t.written

-- ---- names one by one

led-number : (behind digits rest : List ℕ) → behind ≡ digits ++ rest → AllDigits digits → NoDigitFirst rest
    → leading_number behind ≡ number digits
led-number behind digits rest is are ends = ap leading_number is ∙ ap number (digits-lead digits rest are ends)

pub name-handed : (bytes behind digits rest names : List ℕ) (found : ℕ) → names_in bytes false ≡ names
    → names_in bytes false ≡ leading_number behind ∷ names_in behind false → behind ≡ digits ++ rest → AllDigits digits → NoDigitFirst rest
    → found ≡ number digits
    → HandsOutName names (Some found) (names_in behind false)
name-handed bytes behind digits rest names found are led is digits_are ends found_is =
    let all : leading_number behind ∷ names_in behind false ≡ names = sym led ∙ are in
    subst (λ (ns : List ℕ). HandsOutName ns (Some found) (names_in behind false)) all
    (found_is ∙ sym (led-number behind digits rest is digits_are ends), refl)

pub name-fits : (bytes behind digits rest names : List ℕ) → names_in bytes false ≡ names
    → names_in bytes false ≡ leading_number behind ∷ names_in behind false → behind ≡ digits ++ rest → AllDigits digits → NoDigitFirst rest
    → Each IsSmall names → 2 ^ 64 ≤ number digits → ⊥
name-fits bytes behind digits rest names are led is digits_are ends small large =
    let all : names ≡ leading_number behind ∷ names_in behind false = sym are ∙ led in
    let first : leading_number behind < 2 ^ 64 = (subst (Each IsSmall) all small).0 in
    let same = led-number behind digits rest is digits_are ends in
    omega (arith, first, same, large)
