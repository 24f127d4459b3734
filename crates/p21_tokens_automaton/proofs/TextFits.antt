-- The bytes of an open string that lead to a state.
use Rattle.std.proofs.Common.{◌≡◌, ℕ, ◌^◌, ◌<◌, ◌≤◌, List, [], ◌∷◌, ◌++◌, length}
use Rattle.std.specs.Char.{IsScalar, encode_utf8}
use Rattle.std.specs.List.{flat_map, AllByRecursion as Each}
use Rattle.p21_spec_basics.specs.Digits.{hex_digit, hex_digits}
use Rattle.p21_spec_exchange.specs.Text.{StringUnit, IsStringUnit, unit_bytes, unit_characters, utf16_groups, Encodes}
use Rattle.p21_tokens_automaton.specs.Step.{utf8_value}
use Rattle.p21_tokens_automaton.specs.declared.mode.TextMode.{TextMode}
use Rattle.p21_tokens_automaton.specs.declared.mode.TextMode.TheVariants as text_mode

-- a string up to and with these bytes behind whole units
abbrev pub InString : List ℕ → List ℕ → List ℕ → Type 0
InString characters tail front = (inside : List ℕ) × (front ≡ 39 ∷ (inside ++ tail)) × Encodes inside characters

-- behind `\X2\` or `\X4\`, whole groups, and these bytes of the next ones
pub record InGroups (mark : ℕ) (group : ℕ → List ℕ) (tail characters front : List ℕ) : Type 0 where
  pub inside : List ℕ
  pub outer : List ℕ
  pub own : List ℕ
  pub front_is : front ≡ 39 ∷ (inside ++ (92 ∷ 88 ∷ mark ∷ 92 ∷ (flat_map group own ++ tail)))
  pub encodes : Encodes inside outer
  pub characters_are : characters ≡ outer ++ own
  pub are_scalars : Each IsScalar own

-- behind one group or more, which may end
abbrev pub BehindGroup : ℕ → (ℕ → List ℕ) → List ℕ → List ℕ → Type 0
BehindGroup mark group characters front = (groups : InGroups mark group [] characters front) × (0 < length groups.own)

-- inside the last unit, which wants these bytes more
pub record InEnd (wanted characters front : List ℕ) : Type 0 where
  pub inside : List ℕ
  pub outer : List ℕ
  pub taken : List ℕ
  pub unit : StringUnit
  pub front_is : front ≡ 39 ∷ (inside ++ taken)
  pub encodes : Encodes inside outer
  pub is_unit : IsStringUnit unit
  pub unit_is : unit_bytes unit ≡ taken ++ wanted
  pub characters_are : characters ≡ outer ++ unit_characters unit

-- so many digits of a group, and their value
abbrev pub IsPart : ℕ → ℕ → ℕ → Type 0
IsPart limit count value = (count ≤ limit) × (value < 16 ^ count)

abbrev pub IsHighSurrogate : ℕ → Type 0
IsHighSurrogate value = (0xD800 ≤ value) × (value ≤ 0xDBFF)

-- with any last byte these bytes are the UTF-8 of the number that the reader makes of them
abbrev pub LeadsToLast : ℕ → List ℕ → Type 0
LeadsToLast value taken =
    (byte : ℕ) → 0x80 ≤ byte → byte ≤ 0xBF → (128 ≤ utf8_value value byte) × (encode_utf8 (utf8_value value byte) ≡ taken ++ byte ∷ [])

-- with a byte from low to high they lead to the last byte
abbrev pub LeadsToSecond : ℕ → ℕ → ℕ → List ℕ → Type 0
LeadsToSecond low high value taken = (byte : ℕ) → low ≤ byte → byte ≤ high → LeadsToLast (utf8_value value byte) (taken ++ byte ∷ [])

-- with a byte from low to high they lead to the last byte but one
abbrev pub LeadsToThird : ℕ → ℕ → ℕ → List ℕ → Type 0
LeadsToThird low high value taken = (byte : ℕ) → low ≤ byte → byte ≤ high → LeadsToSecond 0x80 0xBF (utf8_value value byte) (taken ++ byte ∷ [])

-- what a state says of the bytes behind it, the opening apostrophe first, and of the characters so far
abbrev pub TextFits : TextMode → List ℕ → List ℕ → Type 0
TextFits text_mode.Inside characters front = InString characters [] front
TextFits text_mode.Apostrophe characters front = InString characters (39 ∷ []) front
TextFits text_mode.Backslash characters front = InString characters (92 ∷ []) front
TextFits text_mode.PageMark characters front = InString characters (92 ∷ 83 ∷ []) front
TextFits text_mode.Page characters front = InString characters (92 ∷ 83 ∷ 92 ∷ []) front
TextFits text_mode.AlphabetMark characters front = InString characters (92 ∷ 80 ∷ []) front
TextFits text_mode.Alphabet characters front = InString characters (92 ∷ 80 ∷ 65 ∷ []) front
TextFits text_mode.HexMark characters front = InString characters (92 ∷ 88 ∷ []) front
TextFits text_mode.Arbitrary characters front = InString characters (92 ∷ 88 ∷ 92 ∷ []) front
TextFits (text_mode.ArbitrarySecond high) characters front = (high < 16) × InString characters (92 ∷ 88 ∷ 92 ∷ hex_digit high ∷ []) front
TextFits text_mode.Extended2Mark characters front = InString characters (92 ∷ 88 ∷ 50 ∷ []) front
TextFits text_mode.Extended2First characters front = InGroups 50 utf16_groups [] characters front
TextFits text_mode.Extended2Next characters front = BehindGroup 50 utf16_groups characters front
TextFits (text_mode.Extended2Digits count value) characters front = IsPart 3 count value × InGroups 50 utf16_groups (hex_digits count value) characters front
TextFits (text_mode.LowFirst high) characters front = IsHighSurrogate high × InGroups 50 utf16_groups (hex_digits 4 high) characters front
TextFits (text_mode.LowDigits high count value) characters front =
    IsHighSurrogate high × IsPart 3 count value × InGroups 50 utf16_groups (hex_digits 4 high ++ hex_digits count value) characters front
TextFits text_mode.Extended4Mark characters front = InString characters (92 ∷ 88 ∷ 52 ∷ []) front
TextFits text_mode.Extended4First characters front = InGroups 52 (hex_digits 8) [] characters front
TextFits text_mode.Extended4Next characters front = BehindGroup 52 (hex_digits 8) characters front
TextFits (text_mode.Extended4Digits count value) characters front = IsPart 7 count value × InGroups 52 (hex_digits 8) (hex_digits count value) characters front
TextFits text_mode.EndBackslash characters front = InEnd (88 ∷ 48 ∷ 92 ∷ []) characters front
TextFits text_mode.EndMark characters front = InEnd (48 ∷ 92 ∷ []) characters front
TextFits text_mode.EndZero characters front = InEnd (92 ∷ []) characters front
TextFits (text_mode.Utf8Last value) characters front = (taken : List ℕ) × InString characters taken front × LeadsToLast value taken
TextFits (text_mode.Utf8Second low high value) characters front = (taken : List ℕ) × InString characters taken front × LeadsToSecond low high value taken
TextFits (text_mode.Utf8Third low high value) characters front = (taken : List ℕ) × InString characters taken front × LeadsToThird low high value taken
