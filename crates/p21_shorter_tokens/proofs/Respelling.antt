-- Characters that are read in any spelling, and appended in their canonical ones.
use Rattle.std.proofs.Common.{◌≡◌, ℕ, suc, ◌+◌, ◌-◌, ◌^◌, ◌<◌, ◌≤◌, true, List, [], ◌∷◌, ◌++◌, length, take, drop, refl, ap, ap₂, sym, subst, ◌∙◌, arith, append-nil, append_assoc, length-append, length-drop}
use Rattle.std.proofs.lemmas.Grind.{flat_map-append}
use Rattle.std.proofs.lemmas.Bool.Decides.{nat_tests}
use Rattle.std.proofs.lemmas.List.{flat_map_more, take_at}
use Rattle.std.specs.Prelude.{nat_lt}
use Rattle.std.proofs.Math.Seq.{take-add}
use Rattle.std.specs.Char.{IsScalar}
use Rattle.std.specs.List.{flat_map, AllByRecursion as Each}
use Rattle.p21_spec_basics.proofs.Members.{rest_is}
use Rattle.p21_spec_exchange.specs.Spelling.{character_spelling}
use Rattle.p21_spec_basics.proofs.HexDigits.{length-hex_digits}
use Rattle.p21_spec_basics.specs.Digits.{hex_digits}
use Rattle.p21_scan.proofs.Numbers.{front_take}
use Rattle.p21_scan.specs.Hex.{IsGroupAt}
use Rattle.p21_scan.specs.Text.{IsDirectiveAt, IsLatinAt, IsUnitAt, by_digits, by_page}
use Rattle.p21_scan.specs.declared.text.Directive.{Directive}
use Rattle.p21_scan.specs.declared.text.Directive.TheVariants.{Doubled, Latin, Alphabet, Extended2, Extended4}
use Rattle.p21_spec_exchange.specs.Text.{StringUnit, alphabet_a, arbitrary, doubled, extended2, extended4, page, IsStringUnit, unit_bytes, unit_characters, utf16_groups, end_extended, Encodes}
use Rattle.p21_spec_exchange.specs.Token.{text}
use Rattle.p21_tokens_automaton.proofs.Fits.{ModeFits, NameFits, StepFits}
use Rattle.p21_tokens_automaton.proofs.TextFits.{TextFits}
use Rattle.p21_tokens_automaton.proofs.TextSound.{text-fits}
use Rattle.p21_tokens_automaton.specs.Step.{advance}
use Rattle.p21_tokens_automaton.specs.declared.mode.Action.{Action}
use Rattle.p21_tokens_automaton.specs.declared.mode.Action.TheVariants.{Put, Skip}
use Rattle.p21_tokens_automaton.specs.declared.mode.Mode.{Mode}
use Rattle.p21_tokens_automaton.specs.declared.mode.Mode.TheVariants.{Between, Slash, Comment, Star, Number, Word, Name, Binary, Text}
use Rattle.p21_tokens_automaton.specs.declared.mode.NameMode.{NameMode}
use Rattle.p21_tokens_automaton.specs.declared.mode.NameMode.TheVariants.{Hash, Digits}
use Rattle.p21_tokens_automaton.specs.declared.mode.TextMode.{TextMode}
use Rattle.p21_tokens_automaton.specs.declared.mode.TextMode.TheVariants.{Inside}
use Rattle.p21_shorter_tokens.proofs.TextTokens.{characters-encoded, size-within, text-stands}
use Rattle.p21_shorter_tokens.specs.Characters.{AreCharacters}
use Rattle.p21_shorter_tokens.specs.LeadingToken.{AppendsToken}
use Rattle.p21_shorter_tokens.specs.Respelling.{AreExtended, AreGroups, Respells, RespellsAll}

both : {A : Type 0} (P : A → Type 0) (xs ys : List A) → Each P xs → Each P ys → Each P (xs ++ ys)
both P [] ys p q = q
both P (x ∷ xs) ys p q = (p.0, both P xs ys p.1 q)

encodes-both : (a b cs ds : List ℕ) → Encodes a cs → Encodes b ds → Encodes (a ++ b) (cs ++ ds)
encodes-both a b cs ds e f = record {
  units = e.units ++ f.units;
  are_units = both IsStringUnit e.units f.units e.are_units f.are_units;
  bytes_are = ap₂ (λ (x y : List ℕ). x ++ y) e.bytes_are f.bytes_are ∙ sym (flat_map-append unit_bytes e.units f.units);
  characters_are = ap₂ (λ (x y : List ℕ). x ++ y) e.characters_are f.characters_are ∙ sym (flat_map-append unit_characters e.units f.units);
}

groups-both : (width : ℕ) (a b cs ds : List ℕ) → AreGroups width a cs → AreGroups width b ds → AreGroups width (a ++ b) (cs ++ ds)
groups-both width a b cs ds g h = record {
  scalars = both IsScalar cs ds g.scalars h.scalars;
  small = both (λ c. c < 16 ^ width) cs ds g.small h.small;
  bytes_are = ap₂ (λ (x y : List ℕ). x ++ y) g.bytes_are h.bytes_are ∙ sym (flat_map-append (hex_digits width) cs ds);
}

module _ (StandFor : List ℕ → List ℕ → Type 0) where
  -- some, and more behind them
  further : ((a b cs ds : List ℕ) → StandFor a cs → StandFor b ds → StandFor (a ++ b) (cs ++ ds))
      → (bytes : List ℕ) (count size next many : ℕ) (old middle new : List ℕ) → Respells StandFor bytes count size old middle → Respells StandFor (drop count bytes) next many middle new → Respells StandFor bytes (count + next) (size + many) old new
  further join bytes count size next many old middle new a b = record {
    characters = a.characters ++ b.characters;
    size_is = ap₂ (λ (m n : ℕ). m + n) a.size_is b.size_is ∙ sym (length-append a.characters b.characters);
    fewer = omega (arith, a.fewer, b.fewer);
    within = let w = a.within in let v = b.within in omega (arith, length-drop count bytes);
    stand_for = subst (λ (x : List ℕ). StandFor x (a.characters ++ b.characters)) (sym (take-add count next bytes)) (join (take count bytes) (take next (drop count bytes)) a.characters b.characters a.stand_for b.stand_for);
    appended =
        b.appended
        ∙ (ap (λ (x : List ℕ). x ++ flat_map character_spelling b.characters) a.appended
        ∙ (append_assoc old (flat_map character_spelling a.characters) (flat_map character_spelling b.characters)
        ∙ ap (λ (x : List ℕ). old ++ x) (sym (flat_map-append character_spelling a.characters b.characters))));
  }

pub more-respelled : (bytes : List ℕ) (count size more many : ℕ) (old middle new : List ℕ) → Respells Encodes bytes count size old middle → Respells Encodes (take (length bytes - count) (drop count bytes)) more many middle new
    → Respells Encodes bytes (count + more) (size + many) old new
more-respelled bytes count size more many old middle new a b =
    further Encodes encodes-both bytes count size more many old middle new a (subst (λ (x : List ℕ). Respells Encodes x more many middle new) (rest_is bytes count) b)

-- one group more
pub more_groups : (width : ℕ) (bytes behind : List ℕ) (count size character : ℕ) (old middle new : List ℕ) → 0 < width → Respells (AreGroups width) bytes count size old middle → IsScalar character
    → IsGroupAt width (take (length bytes - count) (drop count bytes)) character behind → new ≡ middle ++ character_spelling character → Respells (AreGroups width) bytes (count + width) (size + 1) old new
more_groups width bytes behind count size character old middle new some a scalar group e =
    let front : drop count bytes ≡ hex_digits width character ++ behind = sym (rest_is bytes count) ∙ group.bytes_are in
    let long : length (hex_digits width character) ≡ width = length-hex_digits width character in
    further (AreGroups width) (groups-both width) bytes count size width 1 old middle new a (record {
      characters = character ∷ [];
      size_is = refl;
      fewer = omega (arith, some);
      within = omega (arith, ap length front, length-append (hex_digits width character) behind, long);
      stand_for = record {
        scalars = (scalar, tt);
        small = (group.small, tt);
        bytes_are = ap (take width) front ∙ take_at (hex_digits width character) behind width long ∙ sym (append-nil (hex_digits width character));
      };
      appended = e ∙ ap (λ (x : List ℕ). middle ++ x) (sym (append-nil (character_spelling character)));
    })

-- one group or more, and the end of their directive
pub extended_groups : (width : ℕ) (bytes behind : List ℕ) (count size : ℕ) (old new : List ℕ) → Respells (AreGroups width) bytes count size old new → take (length bytes - count) (drop count bytes) ≡ end_extended ++ behind → 0 < size
    → Respells (AreExtended width) bytes (length bytes - length behind) size old new
extended_groups width bytes behind count size old new r ends some =
    let size_is = r.size_is in
    let within = r.within in
    let end : drop count bytes ≡ end_extended ++ behind = sym (rest_is bytes count) ∙ ends in
    let whole : length bytes - length behind ≡ count + 4 = omega (arith, within, ap length end, length-drop count bytes) in
    record {
      characters = r.characters;
      size_is = r.size_is;
      fewer = omega (arith, r.fewer, whole);
      within = omega arith;
      stand_for = record { front = take count bytes; groups = r.stand_for; some = omega (arith, size_is); bytes_are = ap (λ (n : ℕ). take n bytes) whole ∙ (take-add count 4 bytes ∙ ap (λ (x : List ℕ). take count bytes ++ take 4 x) end) };
      appended = r.appended;
    }

-- ---- directives

four_more : (a b c d : ℕ) (bytes groups : List ℕ) (count : ℕ) → bytes ≡ a ∷ b ∷ c ∷ d ∷ groups → take (length bytes - length groups + count) bytes ≡ a ∷ b ∷ c ∷ d ∷ take count groups
four_more a b c d bytes groups count e =
    ap₂ (λ (n : ℕ) (x : List ℕ). take n x) (let more : length bytes - length groups + count ≡ suc (suc (suc (suc count))) = omega (arith, ap length e) in more) e

-- what a unit alone stands for
one-unit : (bytes characters : List ℕ) (unit : StringUnit) → IsStringUnit unit → bytes ≡ unit_bytes unit → characters ≡ unit_characters unit → Encodes bytes characters
one-unit bytes characters unit is e f = record { units = unit ∷ []; are_units = (is, tt); bytes_are = e ∙ sym (append-nil (unit_bytes unit)); characters_are = f ∙ sym (append-nil (unit_characters unit)) }

in-utf16 : (characters : List ℕ) → Each (λ c. c < 16 ^ 4) characters → flat_map (hex_digits 4) characters ≡ flat_map utf16_groups characters
in-utf16 [] small = refl
in-utf16 (c ∷ cs) small = ap₂ (λ (x y : List ℕ). x ++ y) (alone c small.0) (in-utf16 cs small.1)
  where
    alone : (c : ℕ) → c < 0x1_0000 → hex_digits 4 c ≡ utf16_groups c
    alone c h = let low : nat_lt c 0x1_0000 ≡ true = grind (arith, nat_tests) in rw low (sym (append-nil (hex_digits 4 c)))

module _ (bytes groups : List ℕ) (count size : ℕ) (old new : List ℕ) where
  pub extended2_respelled : bytes ≡ 92 ∷ 88 ∷ 50 ∷ 92 ∷ groups → Respells (AreExtended 4) groups count size old new → Respells Encodes bytes (length bytes - length groups + count) size old new
  extended2_respelled begins r =
      let e = r.stand_for in
      record {
        characters = r.characters;
        size_is = r.size_is;
        fewer = omega (arith, r.fewer);
        within = omega (arith, r.within, ap length begins);
        stand_for =
            one-unit (take (length bytes - length groups + count) bytes) r.characters (extended2 r.characters) (e.some, e.groups.scalars)
            (four_more 92 88 50 92 bytes groups count begins ∙ ap (λ (x : List ℕ). 92 ∷ 88 ∷ 50 ∷ 92 ∷ x) (e.bytes_are ∙ ap (λ (x : List ℕ). x ++ end_extended) (e.groups.bytes_are ∙ in-utf16 r.characters e.groups.small))) refl;
        appended = r.appended;
      }

  pub extended4_respelled : bytes ≡ 92 ∷ 88 ∷ 52 ∷ 92 ∷ groups → Respells (AreExtended 8) groups count size old new → Respells Encodes bytes (length bytes - length groups + count) size old new
  extended4_respelled begins r =
      let e = r.stand_for in
      record {
        characters = r.characters;
        size_is = r.size_is;
        fewer = omega (arith, r.fewer);
        within = omega (arith, r.within, ap length begins);
        stand_for =
            one-unit (take (length bytes - length groups + count) bytes) r.characters (extended4 r.characters) (e.some, e.groups.scalars)
            (four_more 92 88 52 92 bytes groups count begins ∙ ap (λ (x : List ℕ). 92 ∷ 88 ∷ 52 ∷ 92 ∷ x) (e.bytes_are ∙ ap (λ (x : List ℕ). x ++ end_extended) e.groups.bytes_are)) refl;
        appended = r.appended;
      }

-- a unit that stands for one character
one-character : (bytes behind : List ℕ) (unit : StringUnit) (character : ℕ) (old new : List ℕ) → IsUnitAt bytes unit behind → unit_characters unit ≡ character ∷ [] → 0 < length (unit_bytes unit) → new ≡ old ++ character_spelling character
    → Respells Encodes bytes (length bytes - length behind) 1 old new
one-character bytes behind unit character old new x character_is some e =
    let long = ap length x.bytes_are ∙ length-append (unit_bytes unit) behind in
    record {
      characters = character ∷ [];
      size_is = refl;
      fewer = omega (arith, long, some);
      within = omega arith;
      stand_for = one-unit (take (length bytes - length behind) bytes) (character ∷ []) unit x.is_unit (front_take bytes (unit_bytes unit) behind x.bytes_are) (sym character_is);
      appended = e ∙ ap (λ (y : List ℕ). old ++ y) (sym (append-nil (character_spelling character)));
    }

-- `\S\` or `\X\`
pub latin_respelled : (bytes behind : List ℕ) (character : ℕ) (old new : List ℕ) → IsLatinAt bytes character behind → new ≡ old ++ character_spelling character → Respells Encodes bytes (length bytes - length behind) 1 old new
latin_respelled bytes behind character old new (by_page byte is x) e = one-character bytes behind (page byte) character old new x (ap (λ (c : ℕ). c ∷ []) (sym is)) (omega arith) e
latin_respelled bytes behind character old new (by_digits x) e = one-character bytes behind (arbitrary character) character old new x refl (omega arith) e

unit-shorter : (bytes behind : List ℕ) (unit : StringUnit) → IsUnitAt bytes unit behind → length behind ≤ length bytes
unit-shorter bytes behind unit x = omega (arith, ap length x.bytes_are ∙ length-append (unit_bytes unit) behind)

pub latin_shorter : (bytes behind : List ℕ) (character : ℕ) → IsLatinAt bytes character behind → length behind ≤ length bytes
latin_shorter bytes behind character (by_page byte is x) = unit-shorter bytes behind (page byte) x
latin_shorter bytes behind character (by_digits x) = unit-shorter bytes behind (arbitrary character) x

pub directive_shorter : (bytes behind : List ℕ) (directive : Directive) → IsDirectiveAt bytes directive behind → length behind ≤ length bytes
directive_shorter bytes behind (Doubled byte) x = unit-shorter bytes behind (doubled byte) x
directive_shorter bytes behind (Latin character) x = latin_shorter bytes behind character x
directive_shorter bytes behind Alphabet x = unit-shorter bytes behind alphabet_a x
directive_shorter bytes behind Extended2 x = omega (arith, ap length x)
directive_shorter bytes behind Extended4 x = omega (arith, ap length x)

-- `\PA\`
pub alphabet_respelled : (bytes behind old : List ℕ) → IsUnitAt bytes alphabet_a behind → Respells Encodes bytes (length bytes - length behind) 0 old old
alphabet_respelled bytes behind old x = record {
  characters = [];
  size_is = refl;
  fewer = omega arith;
  within = omega arith;
  stand_for = one-unit (take (length bytes - length behind) bytes) [] alphabet_a tt (front_take bytes (unit_bytes alphabet_a) behind x.bytes_are) refl;
  appended = sym (append-nil old);
}

-- ---- characters in their canonical spellings

pub canonical-respelled : (bytes : List ℕ) (count size : ℕ) (old new : List ℕ) → AreCharacters bytes count size → new ≡ old ++ take count bytes → Respells Encodes bytes count size old new
canonical-respelled bytes count size old new a e = record {
  characters = a.characters;
  size_is = a.size_is;
  fewer = size-within bytes count size a;
  within = a.within;
  stand_for = characters-encoded bytes count size a;
  appended = e ∙ ap (λ (x : List ℕ). old ++ x) a.bytes_are;
}

-- ---- one unit, byte by byte

-- so many bytes lead the lexer from between two units to this mode, with so many characters, whose spellings are appended
pub record Leads (bytes : List ℕ) (count size : ℕ) (mode : Mode) (old new : List ℕ) : Type 0 where
  pub inner : TextMode
  pub mode_is : mode ≡ Text inner
  pub characters : List ℕ
  pub size_is : size ≡ length characters
  pub fewer : size ≤ count
  pub fits : TextFits inner characters (39 ∷ take count bytes)
  pub appended : new ≡ old ++ flat_map character_spelling characters

not-nothing : (front : List ℕ) → [] ≡ 39 ∷ front → ⊥
not-nothing front e = cc

no-name : (front digits : List ℕ) → 39 ∷ front ≡ 35 ∷ digits → ⊥
no-name front digits e = cc

not-named : (m : NameMode) (front : List ℕ) → NameFits m (39 ∷ front) → ⊥
not-named Hash front h = no-name front [] h
not-named (Digits value) front h = no-name front h.0 h.1

-- no other mode is one of a string
in-string : (next : Mode) (characters front : List ℕ) → ModeFits next [] characters (39 ∷ front) → (inner : TextMode) × (next ≡ Text inner) × TextFits inner characters (39 ∷ front)
in-string (Text m) cs front h = (m, refl, h)
in-string (Number m) cs front h = absurd (not-nothing front h.0)
in-string (Word m) cs front h = absurd (not-nothing front h.0)
in-string (Name m) cs front h = absurd (not-named m front h)
in-string (Binary m) cs front h = absurd (not-nothing front h)
in-string Between cs front h = absurd h
in-string Slash cs front h = absurd h
in-string Comment cs front h = absurd h
in-string Star cs front h = absurd h

step-fits : (bytes : List ℕ) (count size byte : ℕ) (mode : Mode) (action : Action) (old new : List ℕ) (h : Leads bytes count size mode old new) → advance mode byte ≡ action → StepFits (Text h.inner) [] h.characters (39 ∷ take count bytes) byte action
step-fits bytes count size byte mode action old new h e =
    subst (λ (a : Action). StepFits (Text h.inner) [] h.characters (39 ∷ take count bytes) byte a) (ap (λ (m : Mode). advance m byte) (sym h.mode_is) ∙ e)
    (text-fits h.inner byte [] h.characters (39 ∷ take count bytes) h.fits)

pub leads-skip : (bytes : List ℕ) (count size byte : ℕ) (mode next : Mode) (old new : List ℕ) → take (count + 1) bytes ≡ take count bytes ++ byte ∷ [] → Leads bytes count size mode old new → advance mode byte ≡ Skip next
    → Leads bytes (count + 1) size next old new
leads-skip bytes count size byte mode next old new longer h e =
    let step = in-string next h.characters (take count bytes ++ byte ∷ []) (step-fits bytes count size byte mode (Skip next) old new h e) in
    record {
      inner = step.0;
      mode_is = step.1;
      characters = h.characters;
      size_is = h.size_is;
      fewer = omega (arith, h.fewer);
      fits = subst (λ (x : List ℕ). TextFits step.0 h.characters (39 ∷ x)) (sym longer) step.2;
      appended = h.appended;
    }

pub leads-put : (bytes : List ℕ) (count size byte character : ℕ) (mode next : Mode) (old middle new : List ℕ) → take (count + 1) bytes ≡ take count bytes ++ byte ∷ [] → Leads bytes count size mode old middle → advance mode byte ≡ Put next character
    → new ≡ middle ++ character_spelling character → Leads bytes (count + 1) (size + 1) next old new
leads-put bytes count size byte character mode next old middle new longer h e appended =
    let characters = h.characters ++ character ∷ [] in
    let step = in-string next characters (take count bytes ++ byte ∷ []) (step-fits bytes count size byte mode (Put next character) old middle h e) in
    record {
      inner = step.0;
      mode_is = step.1;
      characters = characters;
      size_is = ap (λ (n : ℕ). n + 1) h.size_is ∙ sym (length-append h.characters (character ∷ []));
      fewer = omega (arith, h.fewer);
      fits = subst (λ (x : List ℕ). TextFits step.0 characters (39 ∷ x)) (sym longer) step.2;
      appended =
          appended
          ∙ (ap (λ (x : List ℕ). x ++ character_spelling character) h.appended
          ∙ (append_assoc old (flat_map character_spelling h.characters) (character_spelling character)
          ∙ ap (λ (x : List ℕ). old ++ x) (flat_map_more character_spelling [] h.characters character)));
    }

leads-inside : (bytes : List ℕ) (count size : ℕ) (inner : TextMode) (characters : List ℕ) → Text inner ≡ Text Inside → TextFits inner characters (39 ∷ take count bytes) → TextFits Inside characters (39 ∷ take count bytes)
leads-inside bytes count size inner characters e h = let same : inner ≡ Inside = cc in subst (λ (m : TextMode). TextFits m characters (39 ∷ take count bytes)) same h

-- behind a whole unit
pub unit-respelled : (bytes : List ℕ) (count size : ℕ) (mode : Mode) (old new : List ℕ) → count ≤ length bytes → Leads bytes count size mode old new → mode ≡ Text Inside → Respells Encodes bytes count size old new
unit-respelled bytes count size mode old new within h e =
    let s = leads-inside bytes count size h.inner h.characters (sym h.mode_is ∙ e) h.fits in
    let inside : take count bytes ≡ s.0 = ap (λ (x : List ℕ). drop 1 x) s.1 ∙ append-nil s.0 in
    record {
      characters = h.characters;
      size_is = h.size_is;
      fewer = h.fewer;
      within = within;
      stand_for = subst (λ (x : List ℕ). Encodes x h.characters) (sym inside) s.2;
      appended = h.appended;
    }

-- ---- the whole string

module _ (bytes inside : List ℕ) (count size : ℕ) (old middle after new : List ℕ) (is : bytes ≡ 39 ∷ inside) (all : RespellsAll inside count size middle after) (begins : middle ≡ old ++ 39 ∷ []) (ended : new ≡ after ++ 39 ∷ []) where
  abbrev r : Respells Encodes inside count size middle after
  r = all.respells

  abbrev written : List ℕ
  written = flat_map character_spelling r.characters

  appends : new ≡ old ++ (39 ∷ (written ++ 39 ∷ []))
  appends =
      ended
      ∙ (ap (λ (x : List ℕ). x ++ 39 ∷ []) (r.appended ∙ (ap (λ (x : List ℕ). x ++ written) begins ∙ append_assoc old (39 ∷ []) written))
      ∙ append_assoc old (39 ∷ written) (39 ∷ []))

  own : AppendsToken (39 ∷ inside) (count + 2) (text r.characters) old new
  own = record { stands = text-stands inside r.characters count all.ends r.stand_for; appended = appends }

  pub text-respelled : (characters : List ℕ) × (size ≡ length characters) × AppendsToken bytes (count + 2) (text characters) old new
  text-respelled = (r.characters, r.size_is, subst (λ (x : List ℕ). AppendsToken x (count + 2) (text r.characters) old new) (sym is) own)
