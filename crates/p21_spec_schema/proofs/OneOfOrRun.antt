-- What stands between the parentheses behind SUPERTYPE OF is a list of ONEOF or another run, and which of them is found.
use Rattle.std.specs.Prelude.{◌≡◌, ◌⊎◌, ℕ, Bool, true, false, List, [], ◌∷◌, drop, Contains, refl}
use Rattle.std.specs.List.{AllByRecursion as Each}
use Rattle.std.specs.Str.{bytes_eq}
use Rattle.std.proofs.Common.{arith, inl, inr, ap, sym, subst, ◌∙◌}
use Rattle.std.proofs.lemmas.Bool.{cases_eq}
use Rattle.std.proofs.lemmas.Slice.Eq.{bytes_eq-Decides}
use Rattle.p21_spec_schema.specs.Express.{Lexeme, identifier, digits, simple_string, encoded_string, symbol}
use Rattle.p21_spec_schema.specs.ReservedWord.{reserved_words, IsName, AreNames}
use Rattle.p21_spec_schema.specs.Run.{IsRun, is_symbol}
use Rattle.p21_spec_schema.specs.SupertypeConstraint.{SupertypeExpression, one_of, other_run, one_of_lexemes, expression_lexemes, IsOneOf, IsExpression}
use Rattle.p21_spec_basics.proofs.Members.{Contains-none, Contains-first, Contains-later, Contains-cases}
use Rattle.p21_spec_schema.proofs.OneOfReadings.{identifiers, listed-identifiers}

-- it holds, or it does not
abbrev pub Decided : Type 0 → Type 0
Decided Fact = Fact ⊎ (Fact → ⊥)

decide_bytes : (a b : List ℕ) → Decided (a ≡ b)
decide_bytes a b = by (bytes_eq a b) refl
  where
    by : (answer : Bool) → bytes_eq a b ≡ answer → Decided (a ≡ b)
    by true is = inl ((bytes_eq-Decides a b).0 is)
    by false is = inr (λ same. let h : true ≡ false = sym ((bytes_eq-Decides a b).1 same) ∙ is in cc)

tag : Lexeme → ℕ
tag (identifier name) = 0
tag (digits ds) = 1
tag (simple_string inside) = 2
tag (encoded_string inside) = 3
tag (symbol byte) = 4

content : Lexeme → List ℕ
content (identifier name) = name
content (digits ds) = ds
content (simple_string inside) = inside
content (encoded_string inside) = inside
content (symbol byte) = byte ∷ []

same_lexeme : (a b : Lexeme) → tag a ≡ tag b → content a ≡ content b → a ≡ b
unfolding tag content
same_lexeme (identifier x) (identifier y) tags contents = ap identifier contents
same_lexeme (digits x) (digits y) tags contents = ap digits contents
same_lexeme (simple_string x) (simple_string y) tags contents = ap simple_string contents
same_lexeme (encoded_string x) (encoded_string y) tags contents = ap encoded_string contents
same_lexeme (symbol x) (symbol y) tags contents = let h : x ≡ y = cc in ap symbol h
same_lexeme a b tags contents = absurd (omega (arith, tags))

decide_lexeme : (a b : Lexeme) → Decided (a ≡ b)
decide_lexeme a b = elim (cases_eq (tag a) (tag b)) [
  | inl h ↦ elim (decide_bytes (content a) (content b)) [ inl k ↦ inl (same_lexeme a b h k) | inr k ↦ inr (λ same. k (ap content same)) ]
  | inr h ↦ inr (λ same. h (ap tag same))
]

decide_lexemes : (xs ys : List Lexeme) → Decided (xs ≡ ys)
decide_lexemes [] [] = inl refl
decide_lexemes [] (y ∷ ys) = inr (λ h. cc)
decide_lexemes (x ∷ xs) [] = inr (λ h. cc)
decide_lexemes (x ∷ xs) (y ∷ ys) = elim (decide_lexeme x y) [
  | inl h ↦ elim (decide_lexemes xs ys) [ inl k ↦ inl (ap (λ z. z ∷ xs) h ∙ ap (λ zs. y ∷ zs) k) | inr k ↦ inr (λ same. k (ap (λ zs. drop 1 zs) same)) ]
  | inr h ↦ inr (λ same. h (let first : x ≡ y = cc in first))
]

decide_contains : (words : List (List ℕ)) (word : List ℕ) → Decided (Contains words word)
decide_contains [] word = inr (Contains-none word)
decide_contains (first ∷ words) word = elim (decide_bytes first word) [
  | inl h ↦ let P : List ℕ → Type 0 = λ w. Contains (first ∷ words) w in inl (subst P h (Contains-first first words))
  | inr h ↦ elim (decide_contains words word) [ inl k ↦ inl (Contains-later first words word k) | inr k ↦ inr (λ among. elim (Contains-cases first words word among) [ inl same ↦ h same | inr rest ↦ k rest ]) ]
]

decide_each : (names : List (List ℕ)) → Decided (Each IsName names)
decide_each [] = inl tt
decide_each (name ∷ names) = elim (decide_contains reserved_words name) [
  | inl h ↦ inr (λ each. each.0 h)
  | inr h ↦ elim (decide_each names) [ inl k ↦ inl (h, k) | inr k ↦ inr (λ each. k each.1) ]
]

decide_names : (names : List (List ℕ)) → Decided (AreNames names)
decide_names [] = inr (λ are. omega (arith, are.0))
decide_names (name ∷ names) = elim (decide_each (name ∷ names)) [ inl h ↦ inl (omega arith, h) | inr h ↦ inr (λ are. h are.1) ]

decide_one_of : (run : List Lexeme) → Decided (IsOneOf run)
decide_one_of run = elim (decide_names (drop 1 (identifiers run))) [
  | inl are ↦ elim (decide_lexemes run (one_of_lexemes (drop 1 (identifiers run)))) [
    | inl same ↦ inl (drop 1 (identifiers run), are, same)
    | inr differ ↦ inr (λ (names, are_, is). differ (is ∙ ap one_of_lexemes (names_are names is)))
  ]
  | inr none ↦ inr (λ (names, are_, is). none (subst AreNames (names_are names is) are_))
]
  where
    names_are : (names : List (List ℕ)) → run ≡ one_of_lexemes names → names ≡ drop 1 (identifiers run)
    names_are names is = ap (λ words. drop 1 words) (sym (listed-identifiers names)) ∙ ap (λ xs. drop 1 (identifiers xs)) (sym is)

-- each run is one of the two
pub one_expression : (run : List Lexeme) → IsRun (is_symbol 40) (is_symbol 41) run → (expression : SupertypeExpression) × IsExpression expression × (expression_lexemes expression ≡ run)
one_expression run is = elim (decide_one_of run) [ inl (names, are, same) ↦ (one_of names, are, sym same) | inr no_list ↦ (other_run run, (is, no_list), refl) ]
