-- What the bytes of digits and of names are.
use Rattle.std.proofs.Common.{◌≡◌, ℕ, inl, inr, List, [], ◌∷◌, map, refl, sym, subst, ◌∙◌, arith, Option, Some, None}
use Rattle.std.specs.List.{AllByRecursion as Each}
use Rattle.std.proofs.lemmas.Bool.Decides.{nat_tests}
use Rattle.std.specs.Borrow.{Bor}
use Rattle.p21_spec_basics.specs.Digits.{AllDigits}
use Rattle.p21_spec_exchange.specs.Keyword.{IsUpper, IsKeywordByte, IsKeyword}
use Rattle.p21_spec_schema.specs.Express.{Lexeme, identifier, digits, IsLetter, IsIdentifierByte, IsIdentifier, upper, SpellsLexeme}
use Rattle.p21_express_lexemes.specs.Skipping.{between, skip}
use Rattle.p21_express_lexemes.specs.FirstLexeme.{found, lexeme_of, first_lexeme_within, first_lexeme_of}
use Rattle.p21_express_lexemes.specs.Meaning.{IsFirstLexeme}
use Rattle.p21_express_lexemes.specs.declared.lexeme.Lexeme.{Lexeme as CodeLexeme}
use Rattle.p21_express_lexemes.specs.declared.lexeme.Lexeme.TheVariants.{Identifier, Digits}
use Rattle.p21_express_lexemes.specs.declared.lexeme.FirstLexeme.{FirstLexeme}
use Rattle.p21_express_lexemes.specs.declared.lexeme.FirstLexeme.TheVariants.{Found}
use Rattle.p21_express_lexemes.proofs.Sound.{SkipsTo, skipped, lexeme_begins}

spelled_at : (bytes left : List ℕ) (lexeme : Lexeme) (rest : List ℕ) → SkipsTo bytes left → lexeme_of left ≡ found lexeme rest → (spelling : List ℕ) × SpellsLexeme lexeme spelling
spelled_at bytes [] lexeme rest t e = cc
spelled_at bytes (b ∷ left) lexeme rest t e = let h = lexeme_begins b left lexeme rest t.no_remark t.no_line e in (h.0, h.2)

spelled_within : (bytes : List ℕ) (s : Option (List ℕ)) (lexeme : Lexeme) (rest : List ℕ) → skip between bytes ≡ s → first_lexeme_within s ≡ found lexeme rest → (spelling : List ℕ) × SpellsLexeme lexeme spelling
spelled_within bytes None lexeme rest s e = cc
spelled_within bytes (Some left) lexeme rest s e = spelled_at bytes left lexeme rest (skipped between bytes left s) e

spelled : (bytes : List ℕ) (lexeme : Lexeme) (rest : List ℕ) → first_lexeme_of bytes ≡ found lexeme rest → (spelling : List ℕ) × SpellsLexeme lexeme spelling
spelled bytes lexeme rest e = spelled_within bytes (skip between bytes) lexeme rest refl e

upper_letter : (b : ℕ) → IsLetter b → IsUpper (upper b)
upper_letter b (inl h) = inl (grind (arith, nat_tests))
upper_letter b (inr h) = inl (grind (arith, nat_tests))

upper_byte : (b : ℕ) → IsIdentifierByte b → IsKeywordByte (upper b)
upper_byte b (inl h) = inl (upper_letter b h)
upper_byte b (inr (inl h)) = inr (grind (arith, nat_tests))
upper_byte b (inr (inr h)) = inl (inr (grind (arith, nat_tests)))

upper_bytes : (bytes : List ℕ) → Each IsIdentifierByte bytes → Each IsKeywordByte (map upper bytes)
upper_bytes [] h = tt
upper_bytes (b ∷ bytes) h = (upper_byte b h.0, upper_bytes bytes h.1)

upper_keyword : (bytes : List ℕ) → IsIdentifier bytes → IsKeyword (map upper bytes)
upper_keyword [] h = absurd h
upper_keyword (b ∷ bytes) h = (upper_letter b h.0, upper_bytes bytes h.1)

pub name_keyword : (bytes : List ℕ) (front : FirstLexeme) (lexeme : CodeLexeme) (name rest : Bor (List ℕ)) → IsFirstLexeme (first_lexeme_of bytes) front → front ≡ Found lexeme rest → lexeme ≡ Identifier name → IsKeyword (map upper name.now)
name_keyword bytes front lexeme name rest h e i =
    let k : IsFirstLexeme (first_lexeme_of bytes) (Found (Identifier name) rest) = rw (e, i) at h in
    let s = spelled bytes (identifier (map upper name.now)) rest.now (k.1 ∙ rw k.2 refl) in
    subst IsKeyword (sym s.1.1) (upper_keyword s.0 s.1.0)

pub digits_digits : (bytes : List ℕ) (front : FirstLexeme) (lexeme : CodeLexeme) (ds rest : Bor (List ℕ)) → IsFirstLexeme (first_lexeme_of bytes) front → front ≡ Found lexeme rest → lexeme ≡ Digits ds → AllDigits ds.now
digits_digits bytes front lexeme ds rest h e i =
    let k : IsFirstLexeme (first_lexeme_of bytes) (Found (Digits ds) rest) = rw (e, i) at h in
    (spelled bytes (digits ds.now) rest.now (k.1 ∙ rw k.2 refl)).1.2
