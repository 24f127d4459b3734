-- Strings, spelled and not.
use Rattle.std.proofs.Common.{◌≡◌, ◌≢◌, ℕ, ◌<◌, ◌≤◌, List, [], ◌∷◌, ◌++◌, length, get_or, refl, ap, sym, subst, arith, lit<, lit≤, inl, inr}
use Rattle.std.specs.Prelude.{codes}
use Rattle.std.specs.Char.{encode_utf8}
use Rattle.p21_spec_exchange.specs.Text.{IsStringUnit, plain, page, arbitrary, high_codepoint, alphabet_a, ignored, extended2, extended4, Encodes, SpellsText}
use Rattle.p21_spec_exchange.proofs.StringUnits.{first_unit, behind_backslash, groups, utf16_behind, first_codepoint, first_unit_of, inside_text, FirstUnit}
use Rattle.p21_spec_exchange.proofs.Texts.{text_spells}
use Rattle.p21_spec_basics.proofs.Members.{tail_is}
use Rattle.p21_spec_exchange.specs.Token.{text, MayFollow}
use Rattle.p21_spec_exchange.specs.Spelling.{text_spelling}

-- `'\X2\D83DDE00\X0\'` is U+1F600, whose canonical spelling is its own `\X4\`
face : SpellsText (codes "'\\X2\\D83DDE00\\X0\\'") (0x1F600 ∷ [])
face =
    record {
      inside = codes "\\X2\\D83DDE00\\X0\\";
      bytes_are = refl;
      encodes = record { units = extended2 (0x1F600 ∷ []) ∷ []; are_units = ((lit< tt, (refl, tt)), tt); bytes_are = refl; characters_are = refl };
    }

face-canonical : text_spelling (0x1F600 ∷ []) ≡ codes "'\\X4\\0001F600\\X0\\'"
face-canonical = refl

face-eight : SpellsText (codes "'\\X4\\0001F600\\X0\\'") (0x1F600 ∷ [])
face-eight = text_spells (0x1F600 ∷ []) (refl, tt)

-- one directive may hold several characters
two_in_one : SpellsText (codes "'\\X2\\00E9D83DDE00\\X0\\'") (0xE9 ∷ 0x1F600 ∷ [])
two_in_one =
    record {
      inside = codes "\\X2\\00E9D83DDE00\\X0\\";
      bytes_are = refl;
      encodes = record { units = extended2 (0xE9 ∷ 0x1F600 ∷ []) ∷ []; are_units = ((lit< tt, (refl, (refl, tt))), tt); bytes_are = refl; characters_are = refl };
    }

two_in_eight : SpellsText (codes "'\\X4\\000000E90010FFFF\\X0\\'") (0xE9 ∷ 0x10FFFF ∷ [])
two_in_eight =
    record {
      inside = codes "\\X4\\000000E90010FFFF\\X0\\";
      bytes_are = refl;
      encodes = record { units = extended4 (0xE9 ∷ 0x10FFFF ∷ []) ∷ []; are_units = ((lit< tt, (refl, (refl, tt))), tt); bytes_are = refl; characters_are = refl };
    }

letter : (byte : ℕ) → 32 ≤ byte → byte ≤ 126 → (byte ≢ 39) → (byte ≢ 92) → IsStringUnit (plain byte)
letter byte a b c d = ((a, b), c, d)

plain_c : IsStringUnit (plain 99)
plain_c = letter 99 (lit≤ tt) (lit≤ tt) (λ e. omega (arith, e)) (λ e. omega (arith, e))

plain_a : IsStringUnit (plain 97)
plain_a = letter 97 (lit≤ tt) (lit≤ tt) (λ e. omega (arith, e)) (λ e. omega (arith, e))

plain_f : IsStringUnit (plain 102)
plain_f = letter 102 (lit≤ tt) (lit≤ tt) (λ e. omega (arith, e)) (λ e. omega (arith, e))

plain_x : IsStringUnit (plain 120)
plain_x = letter 120 (lit≤ tt) (lit≤ tt) (λ e. omega (arith, e)) (λ e. omega (arith, e))

-- `'caf\X\E9'` and `'\PA\caf\S\i'` are one text
cafe : List ℕ
cafe = 99 ∷ 97 ∷ 102 ∷ 0xE9 ∷ []

cafe-arbitrary : SpellsText (codes "'caf\\X\\E9'") cafe
unfolding cafe
cafe-arbitrary =
    record {
      inside = codes "caf\\X\\E9";
      bytes_are = refl;
      encodes = record { units = plain 99 ∷ plain 97 ∷ plain 102 ∷ arbitrary 0xE9 ∷ []; are_units = (plain_c, (plain_a, (plain_f, (lit< tt, tt)))); bytes_are = refl; characters_are = refl };
    }

cafe-page : SpellsText (codes "'\\PA\\caf\\S\\i'") cafe
unfolding cafe
cafe-page =
    record {
      inside = codes "\\PA\\caf\\S\\i";
      bytes_are = refl;
      encodes =
          record {
            units = alphabet_a ∷ plain 99 ∷ plain 97 ∷ plain 102 ∷ page 105 ∷ [];
            are_units = (tt, (plain_c, (plain_a, (plain_f, ((lit≤ tt, lit≤ tt), tt)))));
            bytes_are = refl;
            characters_are = refl;
          };
    }

cafe-raw : SpellsText (39 ∷ 99 ∷ 97 ∷ 102 ∷ 0xC3 ∷ 0xA9 ∷ 39 ∷ []) cafe
unfolding cafe encode_utf8
cafe-raw =
    record {
      inside = 99 ∷ 97 ∷ 102 ∷ 0xC3 ∷ 0xA9 ∷ [];
      bytes_are = refl;
      encodes = record { units = plain 99 ∷ plain 97 ∷ plain 102 ∷ high_codepoint 0xE9 ∷ []; are_units = (plain_c, (plain_a, (plain_f, ((lit≤ tt, refl), tt)))); bytes_are = refl; characters_are = refl };
    }

-- the first and the last character of two, three and four bytes
raw_borders : SpellsText (39 ∷ 0xC2 ∷ 0x80 ∷ 0xDF ∷ 0xBF ∷ 0xE0 ∷ 0xA0 ∷ 0x80 ∷ 0xEF ∷ 0xBF ∷ 0xBF ∷ 0xF0 ∷ 0x90 ∷ 0x80 ∷ 0x80 ∷ 0xF4 ∷ 0x8F ∷ 0xBF ∷ 0xBF ∷ 39 ∷ []) (0x80 ∷ 0x7FF ∷ 0x800 ∷ 0xFFFF ∷ 0x10000 ∷ 0x10FFFF ∷ [])
unfolding encode_utf8
raw_borders =
    record {
      inside = 0xC2 ∷ 0x80 ∷ 0xDF ∷ 0xBF ∷ 0xE0 ∷ 0xA0 ∷ 0x80 ∷ 0xEF ∷ 0xBF ∷ 0xBF ∷ 0xF0 ∷ 0x90 ∷ 0x80 ∷ 0x80 ∷ 0xF4 ∷ 0x8F ∷ 0xBF ∷ 0xBF ∷ [];
      bytes_are = refl;
      encodes =
          record {
            units = high_codepoint 0x80 ∷ high_codepoint 0x7FF ∷ high_codepoint 0x800 ∷ high_codepoint 0xFFFF ∷ high_codepoint 0x10000 ∷ high_codepoint 0x10FFFF ∷ [];
            are_units = ((lit≤ tt, refl), ((lit≤ tt, refl), ((lit≤ tt, refl), ((lit≤ tt, refl), ((lit≤ tt, refl), ((lit≤ tt, refl), tt))))));
            bytes_are = refl;
            characters_are = refl;
          };
    }

cafe-page_alone : SpellsText (codes "'caf\\S\\i'") cafe
unfolding cafe
cafe-page_alone =
    record {
      inside = codes "caf\\S\\i";
      bytes_are = refl;
      encodes =
          record { units = plain 99 ∷ plain 97 ∷ plain 102 ∷ page 105 ∷ []; are_units = (plain_c, (plain_a, (plain_f, ((lit≤ tt, lit≤ tt), tt)))); bytes_are = refl; characters_are = refl };
    }

cafe-extended : SpellsText (codes "'caf\\X2\\00E9\\X0\\'") cafe
unfolding cafe
cafe-extended = text_spells cafe (refl, (refl, (refl, (refl, tt))))

cafe-canonical : text_spelling cafe ≡ codes "'caf\\X2\\00E9\\X0\\'"
unfolding cafe
cafe-canonical = refl

-- in `'\S\'x'` the second apostrophe stands alone, as the code of U+00A7
section_sign : SpellsText (codes "'\\S\\'x'") (0xA7 ∷ 120 ∷ [])
section_sign =
    record {
      inside = codes "\\S\\'x";
      bytes_are = refl;
      encodes = record { units = page 39 ∷ plain 120 ∷ []; are_units = ((lit≤ tt, lit≤ tt), (plain_x, tt)); bytes_are = refl; characters_are = refl };
    }

section_sign-canonical : text_spelling (0xA7 ∷ 120 ∷ []) ≡ codes "'\\X2\\00A7\\X0\\x'"
section_sign-canonical = refl

-- and in `'\S\\'` the second backslash, as that of U+00DC
capital_u : SpellsText (codes "'\\S\\\\'") (0xDC ∷ [])
capital_u = record { inside = codes "\\S\\\\"; bytes_are = refl; encodes = record { units = page 92 ∷ []; are_units = ((lit≤ tt, lit≤ tt), tt); bytes_are = refl; characters_are = refl } }

capital_u-canonical : text_spelling (0xDC ∷ []) ≡ codes "'\\X2\\00DC\\X0\\'"
capital_u-canonical = refl

-- an LF and the byte 7F between units are ignored; an apostrophe and a backslash are doubled in the canonical spelling
ignored_byte : SpellsText (39 ∷ 97 ∷ 10 ∷ 99 ∷ 39 ∷ []) (codes "ac")
ignored_byte =
    record {
      inside = 97 ∷ 10 ∷ 99 ∷ [];
      bytes_are = refl;
      encodes = record { units = plain 97 ∷ ignored 10 ∷ plain 99 ∷ []; are_units = (plain_a, (inl (lit< tt), (plain_c, tt))); bytes_are = refl; characters_are = refl };
    }

ignored_borders : SpellsText (39 ∷ 0 ∷ 31 ∷ 39 ∷ []) []
ignored_borders =
    record {
      inside = 0 ∷ 31 ∷ [];
      bytes_are = refl;
      encodes = record { units = ignored 0 ∷ ignored 31 ∷ []; are_units = (inl (lit< tt), (inl (lit< tt), tt)); bytes_are = refl; characters_are = refl };
    }

ignored_delete : SpellsText (39 ∷ 97 ∷ 127 ∷ 99 ∷ 39 ∷ []) (codes "ac")
ignored_delete =
    record {
      inside = 97 ∷ 127 ∷ 99 ∷ [];
      bytes_are = refl;
      encodes = record { units = plain 97 ∷ ignored 127 ∷ plain 99 ∷ []; are_units = (plain_a, (inr refl, (plain_c, tt))); bytes_are = refl; characters_are = refl };
    }

doubled-canonical : text_spelling (codes "it's \\") ≡ codes "'it''s \\\\'"
doubled-canonical = refl

doubled-spelled : SpellsText (codes "'it''s \\\\'") (codes "it's \\")
doubled-spelled = text_spells (codes "it's \\") (refl, (refl, (refl, (refl, (refl, (refl, tt))))))

-- what a string would have to begin with
begins : (inside characters : List ℕ) → 0 < length inside → SpellsText (39 ∷ (inside ++ (39 ∷ []))) characters → FirstUnit inside (first_unit inside)
begins inside characters some s = first_unit_of inside characters some (inside_text inside characters s)

-- a surrogate is no character, in either extended directive
lone_surrogate : (characters : List ℕ) → SpellsText (codes "'\\X2\\D83D\\X0\\'") characters → ⊥
unfolding first_unit behind_backslash groups utf16_behind
lone_surrogate characters s = let no_scalar = (begins (codes "\\X2\\D83D\\X0\\") characters (lit< tt) s).is_unit.1.0 in cc

low_surrogate : (characters : List ℕ) → SpellsText (codes "'\\X2\\DE00\\X0\\'") characters → ⊥
unfolding first_unit behind_backslash groups utf16_behind
low_surrogate characters s = let no_scalar = (begins (codes "\\X2\\DE00\\X0\\") characters (lit< tt) s).is_unit.1.0 in cc

unpaired_surrogate : (characters : List ℕ) → SpellsText (codes "'\\X2\\D83D0041\\X0\\'") characters → ⊥
unfolding first_unit behind_backslash groups utf16_behind
unpaired_surrogate characters s =
    let first = begins (codes "\\X2\\D83D0041\\X0\\") characters (lit< tt) s in
    let digit : 48 ≡ 68 = ap (λ (bytes : List ℕ). get_or bytes 8 0) first.bytes_are in omega (arith, digit)

surrogate_in_eight : (characters : List ℕ) → SpellsText (codes "'\\X4\\0000D83D\\X0\\'") characters → ⊥
unfolding first_unit behind_backslash groups
surrogate_in_eight characters s = let no_scalar = (begins (codes "\\X4\\0000D83D\\X0\\") characters (lit< tt) s).is_unit.1.0 in cc

-- and no character is above U+10FFFF
above_unicode : (characters : List ℕ) → SpellsText (codes "'\\X4\\00110000\\X0\\'") characters → ⊥
unfolding first_unit behind_backslash groups
above_unicode characters s = let no_scalar = (begins (codes "\\X4\\00110000\\X0\\") characters (lit< tt) s).is_unit.1.0 in cc

-- hex digits are in upper case
lower_case : (characters : List ℕ) → SpellsText (codes "'\\X2\\00e9\\X0\\'") characters → ⊥
unfolding first_unit behind_backslash groups utf16_behind
lower_case characters s =
    let first = begins (codes "\\X2\\00e9\\X0\\") characters (lit< tt) s in
    let digit : 48 ≡ 50 = ap (λ (bytes : List ℕ). get_or bytes 5 0) first.bytes_are in omega (arith, digit)

-- an extended directive has a character
no_group : (characters : List ℕ) → SpellsText (codes "'\\X2\\\\X0\\'") characters → ⊥
unfolding first_unit behind_backslash groups utf16_behind
no_group characters s = let some : 0 < 0 = (begins (codes "\\X2\\\\X0\\") characters (lit< tt) s).is_unit.0 in omega (arith, some)

-- `\N\` is no directive
print_control : (characters : List ℕ) → SpellsText (codes "'\\N\\'") characters → ⊥
unfolding first_unit behind_backslash
print_control characters s = elim (begins (codes "\\N\\") characters (lit< tt) s).is_unit [ inl low ↦ omega (arith, low) | inr delete ↦ omega (arith, delete) ]

-- nor is `\PB\`
other_alphabet : (characters : List ℕ) → SpellsText (codes "'a\\PB\\b'") characters → ⊥
unfolding first_unit behind_backslash
other_alphabet characters s =
    let first = begins (codes "a\\PB\\b") characters (lit< tt) s in
    let behind : codes "\\PB\\b" ≡ first.rest = tail_is 97 97 _ _ first.bytes_are in
    let Rest : List ℕ → Type 0 = λ bytes. Encodes bytes first.characters in
    let second = first_unit_of (codes "\\PB\\b") first.characters (lit< tt) (subst Rest (sym behind) first.encodes) in
    let letter : 66 ≡ 65 = ap (λ (bytes : List ℕ). get_or bytes 2 0) second.bytes_are in omega (arith, letter)

-- an LF is not ignored inside a unit
broken_directive : (characters : List ℕ) → SpellsText (39 ∷ 92 ∷ 88 ∷ 92 ∷ 69 ∷ 10 ∷ 57 ∷ 39 ∷ []) characters → ⊥
unfolding first_unit behind_backslash
broken_directive characters s =
    let first = begins (92 ∷ 88 ∷ 92 ∷ 69 ∷ 10 ∷ 57 ∷ []) characters (lit< tt) s in
    let digit : 10 ≡ 48 = ap (λ (bytes : List ℕ). get_or bytes 4 0) first.bytes_are in omega (arith, digit)

page_of_control : (characters : List ℕ) → SpellsText (39 ∷ 92 ∷ 83 ∷ 92 ∷ 10 ∷ 39 ∷ []) characters → ⊥
unfolding first_unit behind_backslash
page_of_control characters s = let graphic : 32 ≤ 10 = (begins (92 ∷ 83 ∷ 92 ∷ 10 ∷ []) characters (lit< tt) s).is_unit.0 in omega (arith, graphic)

-- an apostrophe inside is doubled
single_apostrophe : (characters : List ℕ) → SpellsText (39 ∷ 39 ∷ 39 ∷ []) characters → ⊥
unfolding first_unit
single_apostrophe characters s =
    let first = begins (39 ∷ []) characters (lit< tt) s in
    let second : 0 ≡ 39 = ap (λ (bytes : List ℕ). get_or bytes 1 0) first.bytes_are in omega (arith, second)

-- a string is not followed by an apostrophe
no_apostrophe_behind : (characters spelling : List ℕ) → MayFollow (text characters) spelling 39 → ⊥
no_apostrophe_behind characters spelling differs = differs refl

-- a byte above 7F is no character by itself
raw_byte : (characters : List ℕ) → SpellsText (39 ∷ 0xE9 ∷ 39 ∷ []) characters → ⊥
unfolding first_unit first_codepoint encode_utf8
raw_byte characters s =
    let first = begins (0xE9 ∷ []) characters (lit< tt) s in
    let next : 0 ≡ 128 = ap (λ (bytes : List ℕ). get_or bytes 1 0) first.bytes_are in omega (arith, next)

-- nor is UTF-8 that is longer than it need be (C0 80), a surrogate's (ED A0 80), or past U+10FFFF (F4 90 80 80)
raw_overlong : (characters : List ℕ) → SpellsText (39 ∷ 0xC0 ∷ 0x80 ∷ 39 ∷ []) characters → ⊥
unfolding first_unit first_codepoint
raw_overlong characters s = let high : 128 ≤ 0 = (begins (0xC0 ∷ 0x80 ∷ []) characters (lit< tt) s).is_unit.0 in omega (arith, high)

raw_surrogate : (characters : List ℕ) → SpellsText (39 ∷ 0xED ∷ 0xA0 ∷ 0x80 ∷ 39 ∷ []) characters → ⊥
unfolding first_unit first_codepoint
raw_surrogate characters s = let no_scalar = (begins (0xED ∷ 0xA0 ∷ 0x80 ∷ []) characters (lit< tt) s).is_unit.1 in cc

raw_above_unicode : (characters : List ℕ) → SpellsText (39 ∷ 0xF4 ∷ 0x90 ∷ 0x80 ∷ 0x80 ∷ 39 ∷ []) characters → ⊥
unfolding first_unit first_codepoint
raw_above_unicode characters s = let no_scalar = (begins (0xF4 ∷ 0x90 ∷ 0x80 ∷ 0x80 ∷ []) characters (lit< tt) s).is_unit.1 in cc

-- a pair of surrogates does not stand in two directives
divided_pair : (characters : List ℕ) → SpellsText (codes "'\\X2\\D83D\\X0\\\\X2\\DE00\\X0\\'") characters → ⊥
unfolding first_unit behind_backslash groups utf16_behind
divided_pair characters s = let no_scalar = (begins (codes "\\X2\\D83D\\X0\\\\X2\\DE00\\X0\\") characters (lit< tt) s).is_unit.1.0 in cc

-- the apostrophe of `'\S\'` belongs to the directive, and the string does not end
page_alone : (characters : List ℕ) → SpellsText (codes "'\\S\\'") characters → ⊥
unfolding first_unit behind_backslash
page_alone characters s = let graphic : 32 ≤ 0 = (begins (codes "\\S\\") characters (lit< tt) s).is_unit.0 in omega (arith, graphic)
