-- A string that is read byte by byte up to its end is one that its bytes spell.
use Rattle.std.proofs.Common.{IsTrue, ◌≡◌, ℕ, ◌+◌, ◌*◌, ◌%◌, ◌^◌, ◌<◌, ◌≤◌, true, false, List, [], ◌∷◌, ◌++◌, length, inl, inr, refl, sym, ap, ◌∙◌, subst, append_assoc, append-nil, arith, length-append, eqb, lit<, lit≤}
use Rattle.std.specs.Prelude.{◌==◌, nat_lt, ◌||◌}
use Rattle.std.specs.Char.{IsScalar}
use Rattle.std.specs.List.{flat_map, AllByRecursion as Each}
use Rattle.std.proofs.lemmas.Bool.{cond_both, leb-true, ltb-true, ltb-false, eqb-true, eqb-false, or_cases, or_parts, and_parts}
use Rattle.std.proofs.lemmas.List.{flat_map_more}
use Rattle.std.proofs.lemmas.Option.{none-some, same_Some}
use Rattle.p21_spec_basics.specs.Digits.{hex_digit, hex_digits}
use Rattle.p21_spec_exchange.specs.Text.{StringUnit, ignored, plain, doubled, high_codepoint, page, alphabet_a, arbitrary, extended2, extended4, IsApostropheOrBackslash, IsStringUnit, unit_bytes, unit_characters, utf16_groups, Encodes}
use Rattle.p21_spec_exchange.specs.Token.{text, Spells, MayFollow}
use Rattle.p21_tokens_automaton.specs.Meaning.{Means}
use Rattle.p21_tokens_automaton.specs.Reading.{known}
use Rattle.p21_scan.specs.Hex.{hex_value, is_hex_digit}
use Rattle.p21_tokens_automaton.specs.Step.{text_action, inside_action, utf8_action, utf8_value, utf8_last_action, directive_action, backslash_action, page_action, hex_mark_action, arbitrary_action, arbitrary_second_action, put_scalar, group_action, low_group_action, group_value, long_value, first2_action, digits2_action, low_first_action, low_digits_action, first4_action, digits4_action}
use Rattle.p21_tokens_automaton.specs.declared.mode.Mode.TheVariants.{Text}
use Rattle.p21_tokens_automaton.specs.declared.mode.TextMode.{TextMode}
use Rattle.p21_tokens_automaton.specs.declared.mode.TextMode.TheVariants as text_mode
use Rattle.p21_tokens_automaton.specs.declared.mode.Wrong.TheVariants as wrong
use Rattle.p21_tokens_automaton.specs.declared.mode.Action.{Action}
use Rattle.p21_tokens_automaton.specs.declared.mode.Action.TheVariants.{End, Refuse}
use Rattle.p21_scan.proofs.HexRuns.{group_small, hex_back, hex_digits-byte}
use Rattle.p21_tokens_automaton.proofs.HexDigits.{power-small, one-digit, two-digits}
use Rattle.p21_tokens_automaton.proofs.Utf16.{groups-one, groups-from_pair}
use Rattle.p21_tokens_automaton.proofs.Utf8.{two-lead, three-lead, four-lead}
use Rattle.p21_tokens_automaton.proofs.TextFits.{InString, InGroups, BehindGroup, InEnd, IsPart, IsHighSurrogate, LeadsToLast, LeadsToSecond, LeadsToThird, TextFits}
use Rattle.p21_tokens_automaton.proofs.Fits.{EndFits, StepFits}
use Rattle.p21_spec_basics.proofs.Members.{Each-append}

-- one more unit
pub Encodes-more : (inside characters : List ℕ) → Encodes inside characters → (unit : StringUnit) → IsStringUnit unit → Encodes (inside ++ unit_bytes unit) (characters ++ unit_characters unit)
Encodes-more inside characters e unit h = record {
  units = e.units ++ unit ∷ [];
  are_units = Each-append IsStringUnit e.units (unit ∷ []) e.are_units (h, tt);
  bytes_are = ap (λ x. x ++ unit_bytes unit) e.bytes_are ∙ flat_map_more unit_bytes [] e.units unit;
  characters_are = ap (λ x. x ++ unit_characters unit) e.characters_are ∙ flat_map_more unit_characters [] e.units unit;
}

-- one more byte behind whole units
in_string-more : (characters tail front : List ℕ) (byte : ℕ) → InString characters tail front → InString characters (tail ++ byte ∷ []) (front ++ byte ∷ [])
in_string-more characters tail front byte s =
    (s.0, ap (λ x. x ++ byte ∷ []) s.1 ∙ ap (λ x. 39 ∷ x) (append_assoc s.0 tail (byte ∷ [])), s.2)

-- the bytes behind whole units are one unit more
in_string-unit : (characters front : List ℕ) (unit : StringUnit) → IsStringUnit unit → InString characters (unit_bytes unit) front → InString (characters ++ unit_characters unit) [] front
in_string-unit characters front unit h s =
    (s.0 ++ unit_bytes unit, s.1 ∙ ap (λ x. 39 ∷ x) (sym (append-nil (s.0 ++ unit_bytes unit))), Encodes-more s.0 characters s.2 unit h)

-- Groups of `\X2\` and `\X4\`

in_groups-begin : (mark : ℕ) (group : ℕ → List ℕ) (characters front : List ℕ) → InString characters (92 ∷ 88 ∷ mark ∷ 92 ∷ []) front → InGroups mark group [] characters front
in_groups-begin mark group characters front s = record {
  inside = s.0;
  outer = characters;
  own = [];
  front_is = s.1;
  encodes = s.2;
  characters_are = sym (append-nil characters);
  are_scalars = tt;
}

in_groups-more : (mark : ℕ) (group : ℕ → List ℕ) (tail characters front : List ℕ) (byte : ℕ) → InGroups mark group tail characters front → InGroups mark group (tail ++ byte ∷ []) characters (front ++ byte ∷ [])
in_groups-more mark group tail characters front byte g = record {
  inside = g.inside;
  outer = g.outer;
  own = g.own;
  front_is =
      ap (λ x. x ++ byte ∷ []) g.front_is
      ∙ (ap (λ x. 39 ∷ x) (append_assoc g.inside (92 ∷ 88 ∷ mark ∷ 92 ∷ (flat_map group g.own ++ tail)) (byte ∷ []))
      ∙ ap (λ x. 39 ∷ (g.inside ++ (92 ∷ 88 ∷ mark ∷ 92 ∷ x))) (append_assoc (flat_map group g.own) tail (byte ∷ [])));
  encodes = g.encodes;
  characters_are = g.characters_are;
  are_scalars = g.are_scalars;
}

longer : (xs : List ℕ) (x : ℕ) → 0 < length (xs ++ x ∷ [])
longer xs x = simp length-append (omega arith)

-- a whole group
behind_group : (mark : ℕ) (group : ℕ → List ℕ) (characters front : List ℕ) (character : ℕ) → IsScalar character → InGroups mark group (group character) characters front → BehindGroup mark group (characters ++ character ∷ []) front
behind_group mark group characters front character h g =
    let groups : InGroups mark group [] (characters ++ character ∷ []) front = record {
      inside = g.inside;
      outer = g.outer;
      own = g.own ++ character ∷ [];
      front_is = g.front_is ∙ ap (λ x. 39 ∷ (g.inside ++ (92 ∷ 88 ∷ mark ∷ 92 ∷ x))) (flat_map_more group [] g.own character ∙ sym (append-nil (flat_map group (g.own ++ character ∷ []))));
      encodes = g.encodes;
      characters_are = ap (λ x. x ++ character ∷ []) g.characters_are ∙ append_assoc g.outer g.own (character ∷ []);
      are_scalars = Each-append IsScalar g.own (character ∷ []) g.are_scalars (h, tt);
    } in
    (groups, longer g.own character)

-- the backslash that ends the groups
in_end-begin : (mark : ℕ) (group : ℕ → List ℕ) (unit : List ℕ → StringUnit) (characters front : List ℕ)
    → ((own : List ℕ) → unit_bytes (unit own) ≡ 92 ∷ 88 ∷ mark ∷ 92 ∷ (flat_map group own ++ 92 ∷ 88 ∷ 48 ∷ 92 ∷ [])) → ((own : List ℕ) → unit_characters (unit own) ≡ own)
    → ((own : List ℕ) → 0 < length own → Each IsScalar own → IsStringUnit (unit own))
    → BehindGroup mark group characters front → InEnd (88 ∷ 48 ∷ 92 ∷ []) characters (front ++ 92 ∷ [])
unfolding in_groups-more
in_end-begin mark group unit characters front bytes_are characters_are is_unit b =
    let g = b.0 in
    record {
      inside = g.inside;
      outer = g.outer;
      taken = 92 ∷ 88 ∷ mark ∷ 92 ∷ (flat_map group g.own ++ 92 ∷ []);
      unit = unit g.own;
      front_is = let more = in_groups-more mark group [] characters front 92 g in more.front_is;
      encodes = g.encodes;
      is_unit = is_unit g.own b.1 g.are_scalars;
      unit_is = bytes_are g.own ∙ ap (λ x. 92 ∷ 88 ∷ mark ∷ 92 ∷ x) (sym (append_assoc (flat_map group g.own) (92 ∷ []) (88 ∷ 48 ∷ 92 ∷ [])));
      characters_are = g.characters_are ∙ ap (λ x. g.outer ++ x) (sym (characters_are g.own));
    }

in_end-more : (byte : ℕ) (wanted characters front : List ℕ) → InEnd (byte ∷ wanted) characters front → InEnd wanted characters (front ++ byte ∷ [])
in_end-more byte wanted characters front s = record {
  inside = s.inside;
  outer = s.outer;
  taken = s.taken ++ byte ∷ [];
  unit = s.unit;
  front_is = ap (λ x. x ++ byte ∷ []) s.front_is ∙ ap (λ x. 39 ∷ x) (append_assoc s.inside s.taken (byte ∷ []));
  encodes = s.encodes;
  is_unit = s.is_unit;
  unit_is = s.unit_is ∙ sym (append_assoc s.taken (byte ∷ []) wanted);
  characters_are = s.characters_are;
}

in_end-end : (characters front : List ℕ) → InEnd [] characters front → InString characters [] front
in_end-end characters front s =
    let taken : s.taken ≡ unit_bytes s.unit = sym (s.unit_is ∙ append-nil s.taken) in
    let string : InString s.outer (unit_bytes s.unit) front = (s.inside, s.front_is ∙ ap (λ x. 39 ∷ (s.inside ++ x)) taken, s.encodes) in
    subst (λ x. InString x [] front) (sym s.characters_are) (in_string-unit s.outer front s.unit s.is_unit string)

-- What a byte makes of each state

module _ (b : ℕ) (pending_bytes characters front : List ℕ) where
  -- the byte that is wanted
  at : (expected : ℕ) (next : TextMode) → eqb b expected ≡ true → TextFits next characters (front ++ expected ∷ []) → TextFits next characters (front ++ b ∷ [])
  at expected next e h = subst (λ x. TextFits next characters (front ++ x ∷ [])) (sym (eqb-true b expected e)) h

  directive_action-step : (m : TextMode) (expected : ℕ) (next : TextMode) → TextFits next characters (front ++ expected ∷ []) → StepFits (Text m) pending_bytes characters front b (directive_action expected next b)
  directive_action-step m expected next h = cond_both _ _ _ (λ a. StepFits (Text m) pending_bytes characters front b a) (λ e. at expected next e h) (λ _. tt)

  -- a byte that ends a unit which stands for no character
  silent : (unit : StringUnit) → unit_characters unit ≡ [] → IsStringUnit unit → (next : List ℕ) → InString characters (unit_bytes unit) next → InString characters [] next
  silent unit e h next s = subst (λ x. InString x [] next) (ap (λ x. characters ++ x) e ∙ append-nil characters) (in_string-unit characters next unit h s)

  group_action-step : (m : TextMode) (value : ℕ) → value < 65536 → InGroups 50 utf16_groups (hex_digits 4 value) characters (front ++ b ∷ []) → StepFits (Text m) pending_bytes characters front b (group_action value)
  group_action-step m value small g =
      let P : Action → Type 0 = λ a. StepFits (Text m) pending_bytes characters front b a in
      cond_both _ _ _ P (λ e.
      let p = and_parts _ _ e in
      let fits : TextFits (text_mode.LowFirst value) characters (front ++ b ∷ []) = ((leb-true 0xD800 value p.0, leb-true value 0xDBFF p.1), g) in
      fits) (λ _.
      cond_both _ _ _ P (λ e. behind_group 50 utf16_groups characters (front ++ b ∷ []) value e (subst (λ x. InGroups 50 utf16_groups x characters (front ++ b ∷ [])) (sym (groups-one value small)) g)) (λ _. tt))

  low_group_action-step : (m : TextMode) (high value : ℕ) → IsHighSurrogate high → InGroups 50 utf16_groups (hex_digits 4 high ++ hex_digits 4 value) characters (front ++ b ∷ []) → StepFits (Text m) pending_bytes characters front b (low_group_action high value)
  low_group_action-step m high value h g =
      let P : Action → Type 0 = λ a. StepFits (Text m) pending_bytes characters front b a in
      let character = 65536 + (high % 1024) * 1024 + value % 1024 in
      cond_both _ _ _ P (λ e.
      let p = and_parts _ _ e in
      cond_both _ _ _ P (λ s. behind_group 50 utf16_groups characters (front ++ b ∷ []) character s
      (subst (λ x. InGroups 50 utf16_groups x characters (front ++ b ∷ [])) (sym (groups-from_pair high value h.0 h.1 (leb-true 0xDC00 value p.0) (leb-true value 0xDFFF p.1))) g)) (λ _. tt)) (λ _. tt)

  -- one more digit of a group that isn't whole with it
  part-more : (mark : ℕ) (group : ℕ → List ℕ) (limit count value : ℕ) → IsTrue (is_hex_digit b) → count < limit → IsPart limit count value → (tail : List ℕ) → InGroups mark group (tail ++ hex_digits count value) characters front
      → IsPart limit (count + 1) (value * 16 + hex_value b) × InGroups mark group (tail ++ hex_digits (count + 1) (value * 16 + hex_value b)) characters (front ++ b ∷ [])
  part-more mark group limit count value e k h tail g = (
    (omega arith, group_small count value (hex_value b) h.1 (hex_back b e).0),
    subst (λ x. InGroups mark group x characters (front ++ b ∷ [])) (append_assoc tail (hex_digits count value) (b ∷ []) ∙ ap (λ x. tail ++ x) (hex_digits-byte count value b e)) (in_groups-more mark group (tail ++ hex_digits count value) characters front b g),
  )

  -- the last digit of a group
  part-end : (mark : ℕ) (group : ℕ → List ℕ) (limit count value : ℕ) → IsTrue (is_hex_digit b) → limit ≤ count → IsPart limit count value → (tail : List ℕ) → InGroups mark group (tail ++ hex_digits count value) characters front
      → (value * 16 + hex_value b < 16 ^ (limit + 1)) × InGroups mark group (tail ++ hex_digits (limit + 1) (value * 16 + hex_value b)) characters (front ++ b ∷ [])
  part-end mark group limit count value e k h tail g =
      let is : count ≡ limit = omega arith in
      let more = in_groups-more mark group (tail ++ hex_digits count value) characters front b g in
      subst (λ n. (value * 16 + hex_value b < 16 ^ (n + 1)) × InGroups mark group (tail ++ hex_digits (n + 1) (value * 16 + hex_value b)) characters (front ++ b ∷ [])) is (
        group_small count value (hex_value b) h.1 (hex_back b e).0,
        subst (λ x. InGroups mark group x characters (front ++ b ∷ [])) (append_assoc tail (hex_digits count value) (b ∷ []) ∙ ap (λ x. tail ++ x) (hex_digits-byte count value b e)) more,
      )

  group_value-is : (count value : ℕ) → IsPart 3 count value → value * 16 + hex_value b ≡ group_value value b
  group_value-is count value h = let small : value < 4096 = power-small 3 count value h.0 h.1 in omega arith

  long_value-is : (count value : ℕ) → IsPart 7 count value → value * 16 + hex_value b ≡ long_value value b
  long_value-is count value h = let small : value < 268435456 = power-small 7 count value h.0 h.1 in omega arith

  -- the first digit of a group
  first-digit : (mark : ℕ) (group : ℕ → List ℕ) → IsTrue (is_hex_digit b) → (tail : List ℕ) → InGroups mark group tail characters front → InGroups mark group (tail ++ hex_digits 1 (hex_value b)) characters (front ++ b ∷ [])
  first-digit mark group e tail g = subst (λ x. InGroups mark group (tail ++ x) characters (front ++ b ∷ [])) (one-digit b e) (in_groups-more mark group tail characters front b g)

  first2-step : (m : TextMode) → InGroups 50 utf16_groups [] characters front → StepFits (Text m) pending_bytes characters front b (first2_action b)
  first2-step m g = cond_both _ _ _ (λ a. StepFits (Text m) pending_bytes characters front b a) (λ e.
      let fits : TextFits (text_mode.Extended2Digits 1 (hex_value b)) characters (front ++ b ∷ []) = ((lit≤ tt, (hex_back b e).0), first-digit 50 utf16_groups e [] g) in
      fits) (λ _. tt)

  digits2-step : (m : TextMode) (count value : ℕ) → IsPart 3 count value → InGroups 50 utf16_groups (hex_digits count value) characters front → StepFits (Text m) pending_bytes characters front b (digits2_action count value b)
  digits2-step m count value h g =
      let P : Action → Type 0 = λ a. StepFits (Text m) pending_bytes characters front b a in
      cond_both _ _ _ P (λ e.
      cond_both _ _ _ P (λ f. subst (λ v. TextFits (text_mode.Extended2Digits (count + 1) v) characters (front ++ b ∷ [])) (group_value-is count value h) (part-more 50 utf16_groups 3 count value e (ltb-true count 3 f) h [] g))
      (λ f.
      let p = part-end 50 utf16_groups 3 count value e (ltb-false count 3 f) h [] g in
      subst (λ v. P (group_action v)) (group_value-is count value h) (group_action-step m (value * 16 + hex_value b) p.0 p.1))) (λ _. tt)

  low_first-step : (m : TextMode) (high : ℕ) → IsHighSurrogate high → InGroups 50 utf16_groups (hex_digits 4 high) characters front → StepFits (Text m) pending_bytes characters front b (low_first_action high b)
  low_first-step m high h g =
      let P : Action → Type 0 = λ a. StepFits (Text m) pending_bytes characters front b a in
      cond_both _ _ _ P (λ e.
      let fits : TextFits (text_mode.LowDigits high 1 (hex_value b)) characters (front ++ b ∷ []) = (h, (lit≤ tt, (hex_back b e).0), first-digit 50 utf16_groups e (hex_digits 4 high) g) in
      fits) (λ _. cond_both (eqb b 92) (Refuse wrong.CodePoint) (Refuse wrong.Directive) P (λ _. tt) (λ _. tt))

  low_digits-step : (m : TextMode) (high count value : ℕ) → IsHighSurrogate high → IsPart 3 count value → InGroups 50 utf16_groups (hex_digits 4 high ++ hex_digits count value) characters front → StepFits (Text m) pending_bytes characters front b (low_digits_action high count value b)
  low_digits-step m high count value k h g =
      let P : Action → Type 0 = λ a. StepFits (Text m) pending_bytes characters front b a in
      cond_both _ _ _ P (λ e.
      cond_both _ _ _ P (λ f.
      let p = part-more 50 utf16_groups 3 count value e (ltb-true count 3 f) h (hex_digits 4 high) g in
      subst (λ v. TextFits (text_mode.LowDigits high (count + 1) v) characters (front ++ b ∷ [])) (group_value-is count value h) (k, p.0, p.1))
      (λ f.
      let p = part-end 50 utf16_groups 3 count value e (ltb-false count 3 f) h (hex_digits 4 high) g in
      subst (λ v. P (low_group_action high v)) (group_value-is count value h) (low_group_action-step m high (value * 16 + hex_value b) k p.1))) (λ _. tt)

  first4-step : (m : TextMode) → InGroups 52 (hex_digits 8) [] characters front → StepFits (Text m) pending_bytes characters front b (first4_action b)
  first4-step m g = cond_both _ _ _ (λ a. StepFits (Text m) pending_bytes characters front b a) (λ e.
      let fits : TextFits (text_mode.Extended4Digits 1 (hex_value b)) characters (front ++ b ∷ []) = ((lit≤ tt, (hex_back b e).0), first-digit 52 (hex_digits 8) e [] g) in
      fits) (λ _. tt)

  scalar4-step : (m : TextMode) (value : ℕ) → InGroups 52 (hex_digits 8) (hex_digits 8 value) characters (front ++ b ∷ []) → StepFits (Text m) pending_bytes characters front b (put_scalar text_mode.Extended4Next value)
  scalar4-step m value g = cond_both _ _ _ (λ a. StepFits (Text m) pending_bytes characters front b a) (λ e. behind_group 52 (hex_digits 8) characters (front ++ b ∷ []) value e g) (λ _. tt)

  digits4-step : (m : TextMode) (count value : ℕ) → IsPart 7 count value → InGroups 52 (hex_digits 8) (hex_digits count value) characters front → StepFits (Text m) pending_bytes characters front b (digits4_action count value b)
  digits4-step m count value h g =
      let P : Action → Type 0 = λ a. StepFits (Text m) pending_bytes characters front b a in
      cond_both _ _ _ P (λ e.
      cond_both _ _ _ P (λ f. subst (λ v. TextFits (text_mode.Extended4Digits (count + 1) v) characters (front ++ b ∷ [])) (long_value-is count value h) (part-more 52 (hex_digits 8) 7 count value e (ltb-true count 7 f) h [] g))
      (λ f.
      let p = part-end 52 (hex_digits 8) 7 count value e (ltb-false count 7 f) h [] g in
      subst (λ v. P (put_scalar text_mode.Extended4Next v)) (long_value-is count value h) (scalar4-step m (value * 16 + hex_value b) p.1))) (λ _. tt)

  -- The bytes between two units

  ignored-step : (nat_lt b 32 || b == 127) ≡ true → InString characters [] front → InString characters [] (front ++ b ∷ [])
  ignored-step e s =
      let is_unit : IsStringUnit (ignored b) = elim (or_cases _ _ e) [ inl x ↦ inl (ltb-true b 32 x) | inr x ↦ inr (eqb-true b 127 x) ] in
      silent (ignored b) refl is_unit (front ++ b ∷ []) (in_string-more characters [] front b s)

  plain-step : (b ≡ 39 → ⊥) → (b ≡ 92 → ⊥) → (nat_lt b 32 || b == 127) ≡ false → nat_lt b 127 ≡ true → InString characters [] front → InString (characters ++ b ∷ []) [] (front ++ b ∷ [])
  plain-step no_apostrophe no_backslash e f s =
      let from : 32 ≤ b = ltb-false b 32 (or_parts _ _ e).0 in
      let to : b < 127 = ltb-true b 127 f in
      let is_unit : IsStringUnit (plain b) = ((from, omega arith), no_apostrophe, no_backslash) in
      in_string-unit characters (front ++ b ∷ []) (plain b) is_unit (in_string-more characters [] front b s)

  utf8-step : (m : TextMode) → InString characters [] front → StepFits (Text m) pending_bytes characters front b (utf8_action b)
  utf8-step m s =
      let P : Action → Type 0 = λ a. StepFits (Text m) pending_bytes characters front b a in
      let more : InString characters (b ∷ []) (front ++ b ∷ []) = in_string-more characters [] front b s in
      cond_both _ _ _ P (λ e.
      let p = and_parts _ _ e in
      let fits : TextFits (text_mode.Utf8Last (b % 32)) characters (front ++ b ∷ []) = (b ∷ [], more, two-lead b (leb-true 0xC2 b p.0) (leb-true b 0xDF p.1)) in
      fits) (λ _.
      cond_both _ _ _ P (λ e.
      let fits : TextFits (text_mode.Utf8Second 0xA0 0xBF 0) characters (front ++ b ∷ []) = (b ∷ [], more, three-lead b 0 0xA0 0xBF (sym (eqb-true b 0xE0 e)) (lit< tt) (lit≤ tt) (lit≤ tt) (lit≤ tt)) in
      fits) (λ _.
      cond_both _ _ _ P (λ e.
      let fits : TextFits (text_mode.Utf8Second 0x80 0x9F 13) characters (front ++ b ∷ []) = (b ∷ [], more, three-lead b 13 0x80 0x9F (sym (eqb-true b 0xED e)) (lit< tt) (lit≤ tt) (lit≤ tt) (lit≤ tt)) in
      fits) (λ _.
      cond_both _ _ _ P (λ e.
      let p = and_parts _ _ e in
      let from : 0xE1 ≤ b = leb-true 0xE1 b p.0 in
      let to : b ≤ 0xEF = leb-true b 0xEF p.1 in
      let fits : TextFits (text_mode.Utf8Second 0x80 0xBF (b % 16)) characters (front ++ b ∷ []) = (b ∷ [], more, three-lead b (b % 16) 0x80 0xBF (omega arith) (omega arith) (lit≤ tt) (lit≤ tt) (omega arith)) in
      fits) (λ _.
      cond_both _ _ _ P (λ e.
      let fits : TextFits (text_mode.Utf8Third 0x90 0xBF 0) characters (front ++ b ∷ []) = (b ∷ [], more, four-lead b 0 0x90 0xBF (sym (eqb-true b 0xF0 e)) (lit< tt) (lit≤ tt) (lit≤ tt) (lit≤ tt)) in
      fits) (λ _.
      cond_both _ _ _ P (λ e.
      let fits : TextFits (text_mode.Utf8Third 0x80 0x8F 4) characters (front ++ b ∷ []) = (b ∷ [], more, four-lead b 4 0x80 0x8F (sym (eqb-true b 0xF4 e)) (lit< tt) (lit≤ tt) (lit≤ tt) (lit≤ tt)) in
      fits) (λ _.
      cond_both _ _ _ P (λ e.
      let p = and_parts _ _ e in
      let from : 0xF1 ≤ b = leb-true 0xF1 b p.0 in
      let to : b ≤ 0xF3 = leb-true b 0xF3 p.1 in
      let fits : TextFits (text_mode.Utf8Third 0x80 0xBF (b % 8)) characters (front ++ b ∷ []) = (b ∷ [], more, four-lead b (b % 8) 0x80 0xBF (omega arith) (omega arith) (lit≤ tt) (lit≤ tt) (omega arith)) in
      fits) (λ _. tt)))))))

  inside-step : InString characters [] front → StepFits (Text text_mode.Inside) pending_bytes characters front b (inside_action b)
  inside-step s =
      let P : Action → Type 0 = λ a. StepFits (Text text_mode.Inside) pending_bytes characters front b a in
      cond_both _ _ _ P (λ e. at 39 text_mode.Apostrophe e (in_string-more characters [] front 39 s)) (λ no_apostrophe.
      cond_both _ _ _ P (λ e. at 92 text_mode.Backslash e (in_string-more characters [] front 92 s)) (λ no_backslash.
      cond_both _ _ _ P (λ e. ignored-step e s) (λ e.
      cond_both _ _ _ P (λ f. plain-step (eqb-false b 39 no_apostrophe) (eqb-false b 92 no_backslash) e f s) (λ _. utf8-step text_mode.Inside s))))

  -- The bytes of a unit

  doubled-end : (byte : ℕ) → IsApostropheOrBackslash byte → eqb b byte ≡ true → InString characters (byte ∷ []) front → InString (characters ++ byte ∷ []) [] (front ++ b ∷ [])
  doubled-end byte h e s =
      subst (λ x. InString (characters ++ byte ∷ []) [] (front ++ x ∷ [])) (sym (eqb-true b byte e))
      (in_string-unit characters (front ++ byte ∷ []) (doubled byte) h (in_string-more characters (byte ∷ []) front byte s))

  apostrophe-step : InString characters (39 ∷ []) front → StepFits (Text text_mode.Apostrophe) pending_bytes characters front b (text_action text_mode.Apostrophe b)
  apostrophe-step s = cond_both _ _ _ (λ a. StepFits (Text text_mode.Apostrophe) pending_bytes characters front b a) (λ e. doubled-end 39 (inl refl) e s) (λ e. follows e)
    where
      follows : eqb b 39 ≡ false → StepFits (Text text_mode.Apostrophe) pending_bytes characters front b End
      follows e = record {
        follows = λ found token is means.
            let known : Means (known (text characters)) token = subst (λ f. Means f token) (sym (same_Some (known (text characters)) found is)) means in
            subst (λ t. MayFollow t front b) known (eqb-false b 39 e);
        no_token = λ none. absurd (none (known (text characters)) (text characters) refl refl);
      }

  backslash-step : InString characters (92 ∷ []) front → StepFits (Text text_mode.Backslash) pending_bytes characters front b (backslash_action b)
  backslash-step s =
      let P : Action → Type 0 = λ a. StepFits (Text text_mode.Backslash) pending_bytes characters front b a in
      cond_both _ _ _ P (λ e. doubled-end 92 (inr refl) e s) (λ _.
      cond_both _ _ _ P (λ e. at 88 text_mode.HexMark e (in_string-more characters (92 ∷ []) front 88 s)) (λ _.
      cond_both _ _ _ P (λ e. at 83 text_mode.PageMark e (in_string-more characters (92 ∷ []) front 83 s)) (λ _.
      cond_both _ _ _ P (λ e. at 80 text_mode.AlphabetMark e (in_string-more characters (92 ∷ []) front 80 s)) (λ _. tt))))

  page-step : InString characters (92 ∷ 83 ∷ 92 ∷ []) front → StepFits (Text text_mode.Page) pending_bytes characters front b (page_action b)
  page-step s =
      cond_both _ _ _ (λ a. StepFits (Text text_mode.Page) pending_bytes characters front b a) (λ e.
      let p = and_parts _ _ e in
      in_string-unit characters (front ++ b ∷ []) (page b) (leb-true 32 b p.0, leb-true b 126 p.1) (in_string-more characters (92 ∷ 83 ∷ 92 ∷ []) front b s)) (λ _. tt)

  alphabet-end : InString characters (92 ∷ 80 ∷ 65 ∷ []) front → InString characters [] (front ++ 92 ∷ [])
  alphabet-end s = silent alphabet_a refl tt (front ++ 92 ∷ []) (in_string-more characters (92 ∷ 80 ∷ 65 ∷ []) front 92 s)

  hex_mark-step : InString characters (92 ∷ 88 ∷ []) front → StepFits (Text text_mode.HexMark) pending_bytes characters front b (hex_mark_action b)
  hex_mark-step s =
      let P : Action → Type 0 = λ a. StepFits (Text text_mode.HexMark) pending_bytes characters front b a in
      cond_both _ _ _ P (λ e. at 50 text_mode.Extended2Mark e (in_string-more characters (92 ∷ 88 ∷ []) front 50 s)) (λ _.
      cond_both _ _ _ P (λ e. at 52 text_mode.Extended4Mark e (in_string-more characters (92 ∷ 88 ∷ []) front 52 s)) (λ _.
      cond_both _ _ _ P (λ e. at 92 text_mode.Arbitrary e (in_string-more characters (92 ∷ 88 ∷ []) front 92 s)) (λ _. tt)))

  arbitrary-step : InString characters (92 ∷ 88 ∷ 92 ∷ []) front → StepFits (Text text_mode.Arbitrary) pending_bytes characters front b (arbitrary_action b)
  arbitrary-step s =
      cond_both _ _ _ (λ a. StepFits (Text text_mode.Arbitrary) pending_bytes characters front b a) (λ e.
      let fits : TextFits (text_mode.ArbitrarySecond (hex_value b)) characters (front ++ b ∷ []) =
      ((hex_back b e).0, subst (λ x. InString characters (92 ∷ 88 ∷ 92 ∷ x ∷ []) (front ++ b ∷ [])) (sym (hex_back b e).1) (in_string-more characters (92 ∷ 88 ∷ 92 ∷ []) front b s)) in
      fits) (λ _. tt)

  arbitrary_second-step : (m : TextMode) (high : ℕ) → high < 16 → InString characters (92 ∷ 88 ∷ 92 ∷ hex_digit high ∷ []) front → StepFits (Text m) pending_bytes characters front b (arbitrary_second_action high b)
  arbitrary_second-step m high h s =
      cond_both _ _ _ (λ a. StepFits (Text m) pending_bytes characters front b a) (λ e.
      let low : hex_value b < 16 = (hex_back b e).0 in
      let character = high % 16 * 16 + hex_value b in
      let small : character < 256 = omega arith in
      let digits : hex_digit high ∷ b ∷ [] ≡ hex_digits 2 character = ap (λ x. hex_digit high ∷ x ∷ []) (sym (hex_back b e).1) ∙ sym (two-digits high (hex_value b) h low) in
      in_string-unit characters (front ++ b ∷ []) (arbitrary character) small
      (subst (λ x. InString characters (92 ∷ 88 ∷ 92 ∷ x) (front ++ b ∷ [])) digits (in_string-more characters (92 ∷ 88 ∷ 92 ∷ hex_digit high ∷ []) front b s))) (λ _. tt)

  utf8_last-step : (m : TextMode) (value : ℕ) (taken : List ℕ) → InString characters taken front → LeadsToLast value taken → StepFits (Text m) pending_bytes characters front b (utf8_last_action value b)
  utf8_last-step m value taken s leads =
      let P : Action → Type 0 = λ a. StepFits (Text m) pending_bytes characters front b a in
      let character = utf8_value value b in
      cond_both _ _ _ P (λ e.
      let p = and_parts _ _ e in
      let is = leads b (leb-true 0x80 b p.0) (leb-true b 0xBF p.1) in
      cond_both _ _ _ P (λ f. in_string-unit characters (front ++ b ∷ []) (high_codepoint character) (is.0, f)
      (subst (λ x. InString characters x (front ++ b ∷ [])) (sym is.1) (in_string-more characters taken front b s))) (λ _. tt)) (λ _. tt)

  utf8_second-step : (low high value : ℕ) (taken : List ℕ) → InString characters taken front → LeadsToSecond low high value taken
      → StepFits (Text (text_mode.Utf8Second low high value)) pending_bytes characters front b (text_action (text_mode.Utf8Second low high value) b)
  utf8_second-step low high value taken s leads =
      cond_both _ _ _ (λ a. StepFits (Text (text_mode.Utf8Second low high value)) pending_bytes characters front b a) (λ e.
      let p = and_parts _ _ e in
      let fits : TextFits (text_mode.Utf8Last (utf8_value value b)) characters (front ++ b ∷ []) = (taken ++ b ∷ [], in_string-more characters taken front b s, leads b (leb-true low b p.0) (leb-true b high p.1)) in
      fits) (λ _. tt)

  utf8_third-step : (low high value : ℕ) (taken : List ℕ) → InString characters taken front → LeadsToThird low high value taken
      → StepFits (Text (text_mode.Utf8Third low high value)) pending_bytes characters front b (text_action (text_mode.Utf8Third low high value) b)
  utf8_third-step low high value taken s leads =
      cond_both _ _ _ (λ a. StepFits (Text (text_mode.Utf8Third low high value)) pending_bytes characters front b a) (λ e.
      let p = and_parts _ _ e in
      let fits : TextFits (text_mode.Utf8Second 0x80 0xBF (utf8_value value b)) characters (front ++ b ∷ []) = (taken ++ b ∷ [], in_string-more characters taken front b s, leads b (leb-true low b p.0) (leb-true b high p.1)) in
      fits) (λ _. tt)

  extended2_next-step : BehindGroup 50 utf16_groups characters front → StepFits (Text text_mode.Extended2Next) pending_bytes characters front b (text_action text_mode.Extended2Next b)
  extended2_next-step g =
      cond_both _ _ _ (λ a. StepFits (Text text_mode.Extended2Next) pending_bytes characters front b a)
      (λ e. at 92 text_mode.EndBackslash e (in_end-begin 50 utf16_groups extended2 characters front (λ _. refl) (λ _. refl) (λ _ h k. (h, k)) g)) (λ _. first2-step text_mode.Extended2Next g.0)

  extended4_next-step : BehindGroup 52 (hex_digits 8) characters front → StepFits (Text text_mode.Extended4Next) pending_bytes characters front b (text_action text_mode.Extended4Next b)
  extended4_next-step g =
      cond_both _ _ _ (λ a. StepFits (Text text_mode.Extended4Next) pending_bytes characters front b a)
      (λ e. at 92 text_mode.EndBackslash e (in_end-begin 52 (hex_digits 8) extended4 characters front (λ _. refl) (λ _. refl) (λ _ h k. (h, k)) g)) (λ _. first4-step text_mode.Extended4Next g.0)

-- what a byte inside a string makes of the bytes behind it
pub text-fits : (m : TextMode) (b : ℕ) (pending_bytes characters front : List ℕ) → TextFits m characters front → StepFits (Text m) pending_bytes characters front b (text_action m b)
text-fits text_mode.Inside b pending_bytes cs front h = inside-step b pending_bytes cs front h
text-fits text_mode.Apostrophe b pending_bytes cs front h = apostrophe-step b pending_bytes cs front h
text-fits text_mode.Backslash b pending_bytes cs front h = backslash-step b pending_bytes cs front h
text-fits text_mode.PageMark b pending_bytes cs front h = directive_action-step b pending_bytes cs front text_mode.PageMark 92 text_mode.Page (in_string-more cs (92 ∷ 83 ∷ []) front 92 h)
text-fits text_mode.Page b pending_bytes cs front h = page-step b pending_bytes cs front h
text-fits text_mode.AlphabetMark b pending_bytes cs front h = directive_action-step b pending_bytes cs front text_mode.AlphabetMark 65 text_mode.Alphabet (in_string-more cs (92 ∷ 80 ∷ []) front 65 h)
text-fits text_mode.Alphabet b pending_bytes cs front h = directive_action-step b pending_bytes cs front text_mode.Alphabet 92 text_mode.Inside (alphabet-end b pending_bytes cs front h)
text-fits text_mode.HexMark b pending_bytes cs front h = hex_mark-step b pending_bytes cs front h
text-fits text_mode.Arbitrary b pending_bytes cs front h = arbitrary-step b pending_bytes cs front h
text-fits (text_mode.ArbitrarySecond high) b pending_bytes cs front h = arbitrary_second-step b pending_bytes cs front (text_mode.ArbitrarySecond high) high h.0 h.1
text-fits text_mode.Extended2Mark b pending_bytes cs front h =
    directive_action-step b pending_bytes cs front text_mode.Extended2Mark 92 text_mode.Extended2First (in_groups-begin 50 utf16_groups cs (front ++ 92 ∷ []) (in_string-more cs (92 ∷ 88 ∷ 50 ∷ []) front 92 h))
text-fits text_mode.Extended2First b pending_bytes cs front h = first2-step b pending_bytes cs front text_mode.Extended2First h
text-fits text_mode.Extended2Next b pending_bytes cs front h = extended2_next-step b pending_bytes cs front h
text-fits (text_mode.Extended2Digits count value) b pending_bytes cs front h = digits2-step b pending_bytes cs front (text_mode.Extended2Digits count value) count value h.0 h.1
text-fits (text_mode.LowFirst high) b pending_bytes cs front h = low_first-step b pending_bytes cs front (text_mode.LowFirst high) high h.0 h.1
text-fits (text_mode.LowDigits high count value) b pending_bytes cs front h = low_digits-step b pending_bytes cs front (text_mode.LowDigits high count value) high count value h.0 h.1 h.2
text-fits text_mode.Extended4Mark b pending_bytes cs front h =
    directive_action-step b pending_bytes cs front text_mode.Extended4Mark 92 text_mode.Extended4First (in_groups-begin 52 (hex_digits 8) cs (front ++ 92 ∷ []) (in_string-more cs (92 ∷ 88 ∷ 52 ∷ []) front 92 h))
text-fits text_mode.Extended4First b pending_bytes cs front h = first4-step b pending_bytes cs front text_mode.Extended4First h
text-fits text_mode.Extended4Next b pending_bytes cs front h = extended4_next-step b pending_bytes cs front h
text-fits (text_mode.Extended4Digits count value) b pending_bytes cs front h = digits4-step b pending_bytes cs front (text_mode.Extended4Digits count value) count value h.0 h.1
text-fits text_mode.EndBackslash b pending_bytes cs front h = directive_action-step b pending_bytes cs front text_mode.EndBackslash 88 text_mode.EndMark (in_end-more 88 (48 ∷ 92 ∷ []) cs front h)
text-fits text_mode.EndMark b pending_bytes cs front h = directive_action-step b pending_bytes cs front text_mode.EndMark 48 text_mode.EndZero (in_end-more 48 (92 ∷ []) cs front h)
text-fits text_mode.EndZero b pending_bytes cs front h = directive_action-step b pending_bytes cs front text_mode.EndZero 92 text_mode.Inside (in_end-end cs (front ++ 92 ∷ []) (in_end-more 92 [] cs front h))
text-fits (text_mode.Utf8Last value) b pending_bytes cs front h = utf8_last-step b pending_bytes cs front (text_mode.Utf8Last value) value h.0 h.1 h.2
text-fits (text_mode.Utf8Second low high value) b pending_bytes cs front h = utf8_second-step b pending_bytes cs front low high value h.0 h.1 h.2
text-fits (text_mode.Utf8Third low high value) b pending_bytes cs front h = utf8_third-step b pending_bytes cs front low high value h.0 h.1 h.2

-- a string that ends is spelled by its bytes
pub text-ends : (m : TextMode) (pending_bytes characters front : List ℕ) → TextFits m characters front → EndFits (Text m) pending_bytes characters front
text-ends text_mode.Apostrophe pending_bytes cs front h found token is means =
    let known : Means (known (text cs)) token = subst (λ f. Means f token) (sym (same_Some (known (text cs)) found is)) means in
    subst (λ t. Spells t front) known (record { inside = h.0; bytes_are = h.1; encodes = h.2 })
text-ends other pending_bytes cs front h found token is means = absurd (none-some found is)
