-- Strings whose characters stand in their canonical spellings.
use Rattle.std.proofs.Common.{◌≡◌, ◌≢◌, ℕ, zero, suc, ◌+◌, ◌-◌, ◌%◌, ◌<◌, ◌≤◌, Bool, true, false, ◌&&◌, ◌||◌, eqb, List, [], ◌∷◌, ◌++◌, length, take, drop, refl, ap, ap₂, sym, subst, ◌∙◌, arith, append-nil, inl, inr, ◌⊎◌, length-append, length-drop}
use Rattle.std.proofs.lemmas.Bool.Decides.{nat_tests}
use Rattle.std.proofs.lemmas.Grind.{flat_map-append}
use Rattle.std.proofs.lemmas.List.{append_cancel_right, drop_at, length-take-le, drop-drop}
use Rattle.std.proofs.Math.Seq.{take-add}
use Rattle.std.specs.Char.{IsScalar}
use Rattle.std.specs.List.{flat_map, AllByRecursion as Each}
use Rattle.std.specs.Prelude.{if◌then◌else◌, nat_le, nat_lt}
use lib.Utf8.{low_scalar}
use Rattle.p21_spec_basics.proofs.HexDigits.{length-hex_digits}
use Rattle.p21_spec_basics.specs.Digits.{hex_digits}
use Rattle.p21_spec_exchange.proofs.Texts.{text_spells}
use Rattle.p21_spec_exchange.specs.Spelling.{character_spelling}
use Rattle.p21_spec_exchange.specs.Text.{IsApostropheOrBackslash, doubled, end_extended, Encodes}
use Rattle.p21_spec_exchange.specs.Token.{IsFollowed, text}
use Rattle.p21_tokens_automaton.specs.Run.{EachHasAction}
use Rattle.p21_tokens_automaton.specs.Step.{advance, inside_action, utf8_action}
use Rattle.p21_tokens_automaton.specs.declared.mode.Action.TheVariants.{Put, Refuse, Skip}
use Rattle.p21_tokens_automaton.specs.declared.mode.Mode.{Mode}
use Rattle.p21_tokens_automaton.specs.declared.mode.Mode.TheVariants.{Text}
use Rattle.p21_tokens_automaton.specs.declared.mode.TextMode.TheVariants.{Inside, Utf8Last, Utf8Second, Utf8Third}
use Rattle.p21_tokens_automaton.specs.declared.mode.Wrong.TheVariants as wrong
use Rattle.p21_scan.specs.Hex.{IsGroupAt}
use Rattle.p21_scan.specs.Text.{EndsText, IsUnitAt}
use Rattle.p21_shorter_tokens.specs.Characters.{AreCharacters, IsLoneGroup}
use Rattle.p21_shorter_tokens.specs.LeadingToken.{IsLeadingToken, IsCanonicalLeadingToken}
use Rattle.p21_scan.specs.Digits.{BeginsWithoutByte}
use Rattle.p21_spec_basics.proofs.Members.{Each-append, rest_is}

pub no_characters : (bytes : List ℕ) → AreCharacters bytes 0 0
no_characters bytes = record { characters = []; are_scalars = tt; size_is = refl; within = omega arith; bytes_are = refl }

-- one character, whose spelling stands at the front
pub one_character : (bytes : List ℕ) (count character : ℕ) → IsScalar character → count ≤ length bytes → take count bytes ≡ character_spelling character → AreCharacters bytes count 1
one_character bytes count character scalar within e = record {
  characters = character ∷ [];
  are_scalars = (scalar, tt);
  size_is = refl;
  within = within;
  bytes_are = e ∙ sym (append-nil (character_spelling character));
}

-- characters, and others behind them
pub more_characters : (bytes : List ℕ) (count size more many : ℕ) → AreCharacters bytes count size → AreCharacters (take (length bytes - count) (drop count bytes)) more many → AreCharacters bytes (count + more) (size + many)
more_characters bytes count size more many a others = let b = subst (λ (x : List ℕ). AreCharacters x more many) (rest_is bytes count) others in record {
  characters = a.characters ++ b.characters;
  are_scalars = Each-append IsScalar a.characters b.characters a.are_scalars b.are_scalars;
  size_is = ap₂ (λ (m n : ℕ). m + n) a.size_is b.size_is ∙ sym (length-append a.characters b.characters);
  within = let w = a.within in let v = b.within in omega (arith, length-drop count bytes);
  bytes_are = take-add count more bytes ∙ ap₂ (λ (x y : List ℕ). x ++ y) a.bytes_are b.bytes_are ∙ sym (flat_map-append character_spelling a.characters b.characters);
}

spelling-some : (c : ℕ) → 0 < length (character_spelling c)
spelling-some c = at (eqb c 39 || eqb c 92) (nat_le 32 c && nat_lt c 127) (nat_lt c 0x1_0000)
  where
    at : (p q r : Bool) → 0 < length (if p then c ∷ c ∷ [] else if q then c ∷ [] else if r then 92 ∷ 88 ∷ 50 ∷ 92 ∷ (hex_digits 4 c ++ end_extended) else 92 ∷ 88 ∷ 52 ∷ 92 ∷ (hex_digits 8 c ++ end_extended))
    at true q r = omega arith
    at false true r = omega arith
    at false false true = omega arith
    at false false false = omega arith

spellings-long : (cs : List ℕ) → length cs ≤ length (flat_map character_spelling cs)
spellings-long [] = omega arith
spellings-long (c ∷ cs) = omega (arith, spelling-some c, spellings-long cs, length-append (character_spelling c) (flat_map character_spelling cs))

-- as many characters as bytes, at most
pub size-within : (bytes : List ℕ) (count size : ℕ) → AreCharacters bytes count size → size ≤ count
size-within bytes count size a = omega (arith, a.size_is, spellings-long a.characters, ap (λ (x : List ℕ). length x) a.bytes_are, length-take-le count bytes a.within)

-- ---- characters of one byte

itself : (b : ℕ) → 32 ≤ b → b < 127 → b ≢ 39 → b ≢ 92 → character_spelling b ≡ b ∷ []
itself b low high quote backslash = grind (arith, nat_tests)

none-by_utf8 : (b character : ℕ) → utf8_action b ≡ Put (Text Inside) character → ⊥
none-by_utf8 b character =
    at (nat_le 0xC2 b && nat_le b 0xDF) (eqb b 0xE0) (eqb b 0xED) (nat_le 0xE1 b && nat_le b 0xEF) (eqb b 0xF0) (eqb b 0xF4) (nat_le 0xF1 b && nat_le b 0xF3) (Text (Utf8Last (b % 32))) (Text (Utf8Second 0xA0 0xBF 0)) (Text (Utf8Second 0x80 0x9F 13))
    (Text (Utf8Second 0x80 0xBF (b % 16))) (Text (Utf8Third 0x90 0xBF 0)) (Text (Utf8Third 0x80 0x8F 4)) (Text (Utf8Third 0x80 0xBF (b % 8)))
  where
    at : (p q r s t u v : Bool) (a b c d f g h : Mode) → (if p then Skip a else if q then Skip b else if r then Skip c else if s then Skip d else if t then Skip f else if u then Skip g else if v then Skip h else Refuse wrong.Utf8) ≡ Put (Text Inside) character → ⊥
    at true q r s t u v a b c d f g h e = cc
    at false true r s t u v a b c d f g h e = cc
    at false false true s t u v a b c d f g h e = cc
    at false false false true t u v a b c d f g h e = cc
    at false false false false true u v a b c d f g h e = cc
    at false false false false false true v a b c d f g h e = cc
    at false false false false false false true a b c d f g h e = cc
    at false false false false false false false a b c d f g h e = cc

plain-byte : (b : ℕ) → advance (Text Inside) b ≡ Put (Text Inside) b → (character_spelling b ≡ b ∷ []) × IsScalar b
plain-byte b = quote (eqb b 39) (eqb b 92) (nat_lt b 32 || eqb b 127) (nat_lt b 127) refl refl refl refl
  where
    quote : (p q r s : Bool) → eqb b 39 ≡ p → eqb b 92 ≡ q → (nat_lt b 32 || eqb b 127) ≡ r → nat_lt b 127 ≡ s → inside_action b ≡ Put (Text Inside) b → (character_spelling b ≡ b ∷ []) × IsScalar b
    quote true q r s e f g h k = let none = rw e at k in cc
    quote false true r s e f g h k = let none = rw (e, f) at k in cc
    quote false false true s e f g h k = let none = rw (e, f, g) at k in cc
    quote false false false true e f g h k =
        let low : 32 ≤ b = grind (arith, nat_tests) in
        let high : b < 127 = grind (arith, nat_tests) in
        (itself b low high (grind (arith, nat_tests)) (grind (arith, nat_tests)), low_scalar b (omega arith))
    quote false false false false e f g h k = absurd (none-by_utf8 b b (rw (e, f, g, h) at k))

pub plain-characters : (bytes : List ℕ) (count : ℕ) → EachHasAction (Text Inside) bytes count (λ byte. Put (Text Inside) byte) → AreCharacters bytes count count
plain-characters bytes zero h = no_characters bytes
plain-characters [] (suc count) h = absurd (let w = h.within in omega arith)
plain-characters (b ∷ bytes) (suc count) h =
    let rest = plain-characters bytes count (record { within = let w = h.within in omega arith; each = λ k l. h.each (suc k) (omega arith) }) in
    let first = plain-byte b (h.each 0 (omega arith)) in
    record {
      characters = b ∷ rest.characters;
      are_scalars = (first.1, rest.are_scalars);
      size_is = ap suc rest.size_is;
      within = let w = h.within in omega arith;
      bytes_are = ap₂ (λ (x y : List ℕ). x ++ y) (sym first.0) rest.bytes_are;
    }

-- ---- characters of more bytes

quoted-scalar : (byte : ℕ) → IsApostropheOrBackslash byte → IsScalar byte
quoted-scalar byte (inl e) = low_scalar byte (omega (arith, e))
quoted-scalar byte (inr e) = low_scalar byte (omega (arith, e))

quoted-spelling : (byte : ℕ) → IsApostropheOrBackslash byte → character_spelling byte ≡ byte ∷ byte ∷ []
quoted-spelling byte (inl e) = subst (λ (b : ℕ). character_spelling b ≡ b ∷ b ∷ []) (sym e) refl
quoted-spelling byte (inr e) = subst (λ (b : ℕ). character_spelling b ≡ b ∷ b ∷ []) (sym e) refl

pub doubled_at : (bytes rest : List ℕ) (byte : ℕ) → IsUnitAt bytes (doubled byte) rest → AreCharacters bytes 2 1
doubled_at bytes rest byte h =
    one_character bytes 2 byte (quoted-scalar byte h.is_unit) (let l = ap (λ (x : List ℕ). length x) h.bytes_are in omega arith) (ap (λ (x : List ℕ). take 2 x) h.bytes_are ∙ sym (quoted-spelling byte h.is_unit))

-- a character from 7F on or below 20 has a directive of its own
directive_of : (character : ℕ) → (character < 32) ⊎ (127 ≤ character) → character < 0x1_0000 → character_spelling character ≡ 92 ∷ 88 ∷ 50 ∷ 92 ∷ (hex_digits 4 character ++ end_extended)
directive_of character (inl low) small = search (nat_tests, arith)
directive_of character (inr high) small = search (nat_tests, arith)

pub lone_group_at : (groups behind rest : List ℕ) (character : ℕ) → IsScalar character → IsGroupAt 4 groups character behind → take (length groups - 4) (drop 4 groups) ≡ end_extended ++ rest → IsLoneGroup groups character
lone_group_at groups behind rest character scalar group end =
    let back : drop 4 groups ≡ behind = ap (λ (x : List ℕ). drop 4 x) group.bytes_are ∙ drop_at (hex_digits 4 character) behind 4 (length-hex_digits 4 character) in
    record { scalar = scalar; small = group.small; behind = rest; bytes_are = group.bytes_are ∙ ap (λ (x : List ℕ). hex_digits 4 character ++ x) (sym back ∙ (sym (rest_is groups 4) ∙ end)) }

pub lone_character : (bytes groups : List ℕ) (character : ℕ) → bytes ≡ 92 ∷ 88 ∷ 50 ∷ 92 ∷ groups → IsLoneGroup groups character → (character < 32) ⊎ (127 ≤ character) → AreCharacters bytes 12 1
lone_character bytes groups character begins alone no_graphic =
    let whole : bytes ≡ 92 ∷ 88 ∷ 50 ∷ 92 ∷ (hex_digits 4 character ++ (end_extended ++ alone.behind)) = begins ∙ ap (λ (x : List ℕ). 92 ∷ 88 ∷ 50 ∷ 92 ∷ x) alone.bytes_are in
    one_character bytes 12 character alone.scalar (let l = ap (λ (x : List ℕ). length x) whole in omega arith) (ap (λ (x : List ℕ). take 12 x) whole ∙ sym (directive_of character no_graphic alone.small))

-- ---- the whole string

followed-text : (characters spelling rest : List ℕ) → BeginsWithoutByte 39 rest → IsFollowed (text characters) spelling rest
followed-text characters spelling [] h = tt
followed-text characters spelling (byte ∷ rest) h = h

-- characters behind an apostrophe, up to the one that ends the string
module _ (inside characters : List ℕ) (count : ℕ) (ends : EndsText (drop count inside)) where
  whole : count + 2 ≡ suc (count + 1)
  whole = omega arith

  pub closed : take (count + 2) (39 ∷ inside) ≡ 39 ∷ (take count inside ++ 39 ∷ [])
  closed = ap (λ (n : ℕ). take n (39 ∷ inside)) whole ∙ ap (λ (x : List ℕ). 39 ∷ x) (take-add count 1 inside ∙ ap (λ (x : List ℕ). take count inside ++ take 1 x) ends.bytes_are)

  behind : drop (count + 2) (39 ∷ inside) ≡ ends.behind
  behind = ap (λ (n : ℕ). drop n (39 ∷ inside)) whole ∙ (sym (drop-drop 1 count inside) ∙ ap (λ (x : List ℕ). drop 1 x) ends.bytes_are)

  pub text-stands : Encodes (take count inside) characters → IsLeadingToken (39 ∷ inside) (count + 2) (text characters)
  text-stands encodes = record {
    within = let l = ap (λ (x : List ℕ). length x) ends.bytes_are in omega (arith, length-drop count inside);
    spells = record { inside = take count inside; bytes_are = closed; encodes = encodes };
    followed = followed-text characters (take (count + 2) (39 ∷ inside)) (drop (count + 2) (39 ∷ inside)) (subst (BeginsWithoutByte 39) (sym behind) ends.no_other);
  }

canonical-encodes : (cs : List ℕ) → Each IsScalar cs → Encodes (flat_map character_spelling cs) cs
canonical-encodes cs p =
    let s = text_spells cs p in
    subst (λ (x : List ℕ). Encodes x cs) (sym (append_cancel_right (flat_map character_spelling cs) s.inside (39 ∷ []) (ap (λ (x : List ℕ). drop 1 x) s.bytes_are))) s.encodes

pub characters-encoded : (bytes : List ℕ) (count size : ℕ) (a : AreCharacters bytes count size) → Encodes (take count bytes) a.characters
characters-encoded bytes count size a = subst (λ (x : List ℕ). Encodes x a.characters) (sym a.bytes_are) (canonical-encodes a.characters a.are_scalars)

module _ (bytes inside : List ℕ) (count size : ℕ) (is : bytes ≡ 39 ∷ inside) (a : AreCharacters inside count size) (ends : EndsText (take (length inside - count) (drop count inside))) where
  end : EndsText (drop count inside)
  end = subst EndsText (rest_is inside count) ends

  own : IsCanonicalLeadingToken (39 ∷ inside) (count + 2) (text a.characters)
  own = record {
    stands = text-stands inside a.characters count end (characters-encoded inside count size a);
    own = closed inside a.characters count end ∙ ap (λ (x : List ℕ). 39 ∷ (x ++ 39 ∷ [])) a.bytes_are;
  }

  pub text-at_front : (characters : List ℕ) × (size ≡ length characters) × IsCanonicalLeadingToken bytes (count + 2) (text characters)
  text-at_front = (a.characters, a.size_is, subst (λ (x : List ℕ). IsCanonicalLeadingToken x (count + 2) (text a.characters)) (sym is) own)
