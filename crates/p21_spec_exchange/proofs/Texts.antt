-- The canonical spelling of a text spells it and no other, in bytes 20 to 7E alone.
use Rattle.std.proofs.Common.{◌≡◌, ◌≢◌, ℕ, ◌↔◌, Bool, true, false, ◌&&◌, ◌||◌, eqb, List, [], ◌∷◌, ◌++◌, refl, ap, sym, subst, ◌∙◌, arith, lit<, lit≤, inl, inr}
use Rattle.std.proofs.lemmas.Bool.Decides.{nat_tests}
use Rattle.std.specs.Prelude.{nat_lt, nat_le}
use Rattle.std.specs.Char.{IsScalar}
use Rattle.std.specs.List.{flat_map, AllByRecursion as Each}
use Rattle.p21_spec_basics.specs.Digits.{hex_digits}
use Rattle.p21_spec_exchange.specs.Text.{StringUnit, plain, doubled, extended2, extended4, IsApostropheOrBackslash, IsGraphic, IsStringUnit, unit_bytes, unit_characters, end_extended, SpellsText}
use Rattle.p21_spec_exchange.specs.Spelling.{character_spelling, text_spelling}
use Rattle.p21_spec_basics.proofs.HexDigits.{IsHexDigit, are_hex_digits}
use Rattle.p21_spec_exchange.proofs.StringUnits.{text_once}
use Rattle.p21_spec_exchange.proofs.Scalars.{characters_are_scalars}

pub text_scalars : (bytes characters : List ℕ) → SpellsText bytes characters → Each IsScalar characters
text_scalars bytes characters s = characters_are_scalars s.inside characters s.encodes

-- how a character is spelled: twice, as itself, or in a directive of its own with four or eight digits
data IsSpelledCharacter (c : ℕ) : Type 0 where
  twice : IsApostropheOrBackslash c → character_spelling c ≡ c ∷ c ∷ [] → IsSpelledCharacter c
  as_itself : IsGraphic c → (c ≢ 39) → (c ≢ 92) → character_spelling c ≡ c ∷ [] → IsSpelledCharacter c
  with_four : character_spelling c ≡ unit_bytes (extended2 (c ∷ [])) → character_spelling c ≡ 92 ∷ 88 ∷ 50 ∷ 92 ∷ (hex_digits 4 c ++ end_extended) → IsSpelledCharacter c
  with_eight : character_spelling c ≡ 92 ∷ 88 ∷ 52 ∷ 92 ∷ (hex_digits 8 c ++ end_extended) → IsSpelledCharacter c

quoted_is : (c : ℕ) → (eqb c 39 || eqb c 92) ≡ true → IsApostropheOrBackslash c
quoted_is c e = grind (arith, nat_tests)

unquoted_is : (c : ℕ) → (eqb c 39 || eqb c 92) ≡ false → (c ≢ 39) × (c ≢ 92)
unquoted_is c e = (λ h. grind (arith, nat_tests), λ h. grind (arith, nat_tests))

graphic_is : (c : ℕ) → (nat_le 32 c && nat_lt c 127) ≡ true → IsGraphic c
graphic_is c e = (grind (arith, nat_tests), grind (arith, nat_tests))

spelled : (c : ℕ) → IsSpelledCharacter c
spelled c = quoted (eqb c 39 || eqb c 92) refl
  where
    wide : (w : Bool) → nat_lt c 0x1_0000 ≡ w → (eqb c 39 || eqb c 92) ≡ false → (nat_le 32 c && nat_lt c 127) ≡ false → IsSpelledCharacter c
    wide true e q p = with_four (rw (q, p, e) refl) (rw (q, p, e) refl)
    wide false e q p = with_eight (rw (q, p, e) refl)

    graphic : (g : Bool) → (nat_le 32 c && nat_lt c 127) ≡ g → (eqb c 39 || eqb c 92) ≡ false → IsSpelledCharacter c
    graphic true e q = let differs = unquoted_is c q in as_itself (graphic_is c e) differs.0 differs.1 (rw (q, e) refl)
    graphic false e q = wide (nat_lt c 0x1_0000) refl q e

    quoted : (q : Bool) → (eqb c 39 || eqb c 92) ≡ q → IsSpelledCharacter c
    quoted true e = twice (quoted_is c e) (rw e refl)
    quoted false e = graphic (nat_le 32 c && nat_lt c 127) refl e

-- the unit of a character's canonical spelling
record UnitOf (c : ℕ) : Type 0 where
  unit : StringUnit
  is_unit : IsStringUnit unit
  bytes_are : character_spelling c ≡ unit_bytes unit
  characters_are : c ∷ [] ≡ unit_characters unit

unit_of : (c : ℕ) → IsScalar c → IsSpelledCharacter c → UnitOf c
unit_of c scalar (twice quoted e) = record { unit = doubled c; is_unit = quoted; bytes_are = e; characters_are = refl }
unit_of c scalar (as_itself graphic h k e) = record { unit = plain c; is_unit = (graphic, h, k); bytes_are = e; characters_are = refl }
unit_of c scalar (with_four e _) = record { unit = extended2 (c ∷ []); is_unit = (lit< tt, (scalar, tt)); bytes_are = e; characters_are = refl }
unit_of c scalar (with_eight e) = record { unit = extended4 (c ∷ []); is_unit = (lit< tt, (scalar, tt)); bytes_are = e; characters_are = refl }

-- the units of a text's canonical spelling
record UnitsOf (cs : List ℕ) : Type 0 where
  units : List StringUnit
  are_units : Each IsStringUnit units
  bytes_are : flat_map character_spelling cs ≡ flat_map unit_bytes units
  characters_are : cs ≡ flat_map unit_characters units

units_of : (cs : List ℕ) → Each IsScalar cs → UnitsOf cs
units_of [] p = record { units = []; are_units = tt; bytes_are = refl; characters_are = refl }
units_of (c ∷ cs) p =
    let first = unit_of c p.0 (spelled c) in
    let rest = units_of cs p.1 in
    record {
      units = first.unit ∷ rest.units;
      are_units = (first.is_unit, rest.are_units);
      bytes_are = ap (λ (xs : List ℕ). xs ++ flat_map character_spelling cs) first.bytes_are ∙ ap (λ (xs : List ℕ). unit_bytes first.unit ++ xs) rest.bytes_are;
      characters_are = ap (λ (xs : List ℕ). c ∷ xs) rest.characters_are ∙ ap (λ (xs : List ℕ). xs ++ flat_map unit_characters rest.units) first.characters_are;
    }

pub text_spells : (cs : List ℕ) → Each IsScalar cs → SpellsText (text_spelling cs) cs
text_spells cs p =
    let own = units_of cs p in
    record {
      inside = flat_map character_spelling cs;
      bytes_are = refl;
      encodes = record { units = own.units; are_units = own.are_units; bytes_are = own.bytes_are; characters_are = own.characters_are };
    }

-- two texts have one canonical spelling only where they are the same
pub same_texts : (a b : List ℕ) → Each IsScalar a → Each IsScalar b → (a ≡ b) ↔ (text_spelling a ≡ text_spelling b)
same_texts a b p q = (
  λ e. ap text_spelling e,
  λ e. let Spells : List ℕ → Type 0 = λ bytes. SpellsText bytes a in text_once _ a b (subst Spells e (text_spells a p)) (text_spells b q),
)

both : (xs ys : List ℕ) → Each IsGraphic xs → Each IsGraphic ys → Each IsGraphic (xs ++ ys)
both [] ys p q = q
both (x ∷ xs) ys p q = (p.0, both xs ys p.1 q)

digits-graphic : (digits : List ℕ) → Each IsHexDigit digits → Each IsGraphic digits
digits-graphic [] p = tt
digits-graphic (digit ∷ digits) p = ((omega (arith, p.0), omega (arith, p.0)), digits-graphic digits p.1)

directive-graphic : (kind : ℕ) (digits : List ℕ) → IsGraphic kind → Each IsHexDigit digits → Each IsGraphic (92 ∷ 88 ∷ kind ∷ 92 ∷ (digits ++ end_extended))
directive-graphic kind digits h hex =
    let backslash : IsGraphic 92 = (lit≤ tt, lit≤ tt) in
    let letter : IsGraphic 88 = (lit≤ tt, lit≤ tt) in
    let zero_digit : IsGraphic 48 = (lit≤ tt, lit≤ tt) in
    (backslash, (letter, (h, (backslash, both digits end_extended (digits-graphic digits hex) (backslash, (letter, (zero_digit, (backslash, tt))))))))

character_spelling-graphic : (c : ℕ) → IsSpelledCharacter c → Each IsGraphic (character_spelling c)
character_spelling-graphic c (twice (inl h) e) = let own : IsGraphic c = (omega (arith, h), omega (arith, h)) in subst (Each IsGraphic) (sym e) (own, (own, tt))
character_spelling-graphic c (twice (inr h) e) = let own : IsGraphic c = (omega (arith, h), omega (arith, h)) in subst (Each IsGraphic) (sym e) (own, (own, tt))
character_spelling-graphic c (as_itself own _ _ e) = subst (Each IsGraphic) (sym e) (own, tt)
character_spelling-graphic c (with_four _ e) = subst (Each IsGraphic) (sym e) (directive-graphic 50 (hex_digits 4 c) (lit≤ tt, lit≤ tt) (are_hex_digits 4 c))
character_spelling-graphic c (with_eight e) = subst (Each IsGraphic) (sym e) (directive-graphic 52 (hex_digits 8 c) (lit≤ tt, lit≤ tt) (are_hex_digits 8 c))

characters-graphic : (cs : List ℕ) → Each IsGraphic (flat_map character_spelling cs)
characters-graphic [] = tt
characters-graphic (c ∷ cs) = both (character_spelling c) _ (character_spelling-graphic c (spelled c)) (characters-graphic cs)

-- a canonical spelling holds no byte but 20 to 7E
pub text_spelling-graphic : (cs : List ℕ) → Each IsGraphic (text_spelling cs)
text_spelling-graphic cs = ((lit≤ tt, lit≤ tt), both (flat_map character_spelling cs) (39 ∷ []) (characters-graphic cs) ((lit≤ tt, lit≤ tt), tt))
