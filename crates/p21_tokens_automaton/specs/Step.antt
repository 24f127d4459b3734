-- What a byte does in each state of a reader of tokens: the code's table of states, which nobody has to believe.
-- proofs/Complete and proofs/Sound join it to the tokens that are laid in bytes.
use Rattle.std.specs.Prelude.{ℕ, ◌+◌, ◌-◌, ◌*◌, ◌%◌, ◌^◌, Bool, nat_le, nat_lt, ◌==◌, ◌&&◌, ◌||◌, if◌then◌else◌, List, length, Option, Some, None, codes, slice_get}
use lib.Utf8.{scalar}
use Rattle.p21_scan.specs.Bytes.{is_upper, is_keyword_byte, is_blank}
use Rattle.p21_scan.specs.Hex.{hex_value, is_hex_digit}
use Rattle.p21_tokens_automaton.specs.declared.mode.Mode.{Mode}
use Rattle.p21_tokens_automaton.specs.declared.mode.Mode.TheVariants.{Between, Slash, Comment, Star, Number, Word, Name, Binary, Text}
use Rattle.p21_tokens_automaton.specs.declared.mode.NumberMode.{NumberMode}
use Rattle.p21_tokens_automaton.specs.declared.mode.NumberMode.TheVariants as number
use Rattle.p21_tokens_automaton.specs.declared.mode.WordMode.{WordMode}
use Rattle.p21_tokens_automaton.specs.declared.mode.WordMode.TheVariants as word
use Rattle.p21_tokens_automaton.specs.declared.mode.Marker.{Marker}
use Rattle.p21_tokens_automaton.specs.declared.mode.Marker.TheVariants.{Begin, Finish}
use Rattle.p21_tokens_automaton.specs.declared.mode.NameMode.{NameMode}
use Rattle.p21_tokens_automaton.specs.declared.mode.NameMode.TheVariants as name
use Rattle.p21_tokens_automaton.specs.declared.mode.BinaryMode.{BinaryMode}
use Rattle.p21_tokens_automaton.specs.declared.mode.BinaryMode.TheVariants as binary
use Rattle.p21_tokens_automaton.specs.declared.mode.TextMode.{TextMode}
use Rattle.p21_tokens_automaton.specs.declared.mode.TextMode.TheVariants as text
use Rattle.p21_tokens_automaton.specs.declared.mode.Single.TheVariants as single
use Rattle.p21_tokens_automaton.specs.declared.mode.Absent.TheVariants.{Scope, ValueName, ConstantName}
use Rattle.p21_tokens_automaton.specs.declared.mode.Wrong.TheVariants as wrong
use Rattle.p21_tokens_automaton.specs.declared.mode.Action.{Action}
use Rattle.p21_tokens_automaton.specs.declared.mode.Action.TheVariants.{Pass, Skip, Keep, Put, Give, Close, End, Dash, Refuse}
use Rattle.p21_spec_basics.specs.Digits.{is_digit}

-- the part of a number that a digit belongs to
abbrev pub mode_behind_digit : NumberMode → NumberMode
mode_behind_digit number.Sign = number.Whole
mode_behind_digit number.Whole = number.Whole
mode_behind_digit number.Fraction = number.Fraction
mode_behind_digit number.Exponent = number.ExponentDigits
mode_behind_digit number.ExponentSign = number.ExponentDigits
mode_behind_digit number.ExponentDigits = number.ExponentDigits

-- a byte that is no digit, inside a number
abbrev pub non_digit_action : NumberMode → ℕ → Action
non_digit_action number.Sign byte = Refuse wrong.Number
non_digit_action number.Whole byte = if byte == 46 then Keep (Number number.Fraction) else End
non_digit_action number.Fraction byte = if byte == 69 then Keep (Number number.Exponent) else End
non_digit_action number.Exponent byte = if byte == 43 || byte == 45 then Keep (Number number.ExponentSign) else Refuse wrong.Number
non_digit_action number.ExponentSign byte = Refuse wrong.Number
non_digit_action number.ExponentDigits byte = End

abbrev pub number_action : NumberMode → ℕ → Action
number_action mode byte = if is_digit byte then Keep (Number (mode_behind_digit mode)) else non_digit_action mode byte

abbrev pub marker_text : Marker → List ℕ
marker_text Begin = codes "ISO-10303-21"
marker_text Finish = codes "END-ISO-10303-21"

-- the byte of a marker's text that is due, if there is one
abbrev pub marker_action : Marker → ℕ → ℕ → Option ℕ → Action
marker_action marker taken byte None = Refuse wrong.Byte
marker_action marker taken byte (Some expected) =
    if byte == expected then (if nat_lt (taken + 1) (length (marker_text marker)) then Keep (Word (word.Marker marker (taken + 1))) else Keep (Word (word.Marked marker)))
    else Refuse wrong.Byte

-- the first keyword character behind a mark
abbrev pub begin_word_action : WordMode → ℕ → Action
begin_word_action mode byte = if is_upper byte then Keep (Word mode) else Refuse wrong.Byte

abbrev pub word_action : WordMode → ℕ → Action
word_action word.Keyword byte =
    if is_keyword_byte byte then Keep (Word word.Keyword) else if byte == 45 then Dash else End
word_action (word.Marker marker taken) byte = marker_action marker taken byte (slice_get (marker_text marker) taken)
word_action (word.Marked marker) byte = if is_keyword_byte byte then Refuse wrong.Byte else End
word_action word.Exclamation byte = begin_word_action word.UserKeyword byte
word_action word.UserKeyword byte =
    if is_keyword_byte byte then Keep (Word word.UserKeyword) else if byte == 45 then Refuse wrong.Byte else End
word_action word.Point byte = begin_word_action word.Item byte
word_action word.Item byte =
    if is_keyword_byte byte then Keep (Word word.Item) else if byte == 46 then Close else Refuse wrong.Byte

-- a further digit of a name, if the number stays below 2 ^ 64
abbrev pub name_digit_action : ℕ → ℕ → Action
name_digit_action value digit =
    if nat_lt (value * 10 + digit) (2 ^ 64) then Skip (Name (name.Digits (value * 10 + digit))) else Refuse wrong.NameRange

abbrev pub name_action : NameMode → ℕ → Action
name_action name.Hash byte =
    if is_digit byte then name_digit_action 0 (byte - 48)
    else if is_upper byte then Refuse (wrong.LeftOut ConstantName)
    else Refuse wrong.Name
name_action (name.Digits value) byte = if is_digit byte then name_digit_action value (byte - 48) else End

-- the first hex digit, whose padding bits are zero
abbrev pub has_zero_padding : ℕ → ℕ → Bool
has_zero_padding padding value =
    if padding == 0 then nat_lt value 16 else if padding == 1 then nat_lt value 8 else if padding == 2 then nat_lt value 4 else nat_lt value 2

abbrev pub binary_action : BinaryMode → ℕ → Action
binary_action binary.Quote byte =
    if nat_le 48 byte && nat_le byte 51 then Keep (Binary (binary.Padding (byte - 48))) else Refuse wrong.Binary
binary_action (binary.Padding padding) byte =
    if is_hex_digit byte then (if has_zero_padding padding (hex_value byte) then Keep (Binary binary.Hex) else Refuse wrong.Binary)
    else if byte == 34 && padding == 0 then Close
    else Refuse wrong.Binary
binary_action binary.Hex byte =
    if is_hex_digit byte then Keep (Binary binary.Hex) else if byte == 34 then Close else Refuse wrong.Binary

-- a character that is known, if it is a scalar value
abbrev pub put_scalar : TextMode → ℕ → Action
put_scalar mode character = if scalar character then Put (Text mode) character else Refuse wrong.CodePoint

-- a whole group of `\X2\`
abbrev pub group_action : ℕ → Action
group_action value = if nat_le 0xD800 value && nat_le value 0xDBFF then Skip (Text (text.LowFirst value)) else put_scalar text.Extended2Next value

-- a whole group behind a high surrogate
abbrev pub low_group_action : ℕ → ℕ → Action
low_group_action high value =
    if nat_le 0xDC00 value && nat_le value 0xDFFF then put_scalar text.Extended2Next (65536 + (high % 1024) * 1024 + value % 1024)
    else Refuse wrong.CodePoint

abbrev pub group_value : ℕ → ℕ → ℕ
group_value value byte = value % 4096 * 16 + hex_value byte

abbrev pub long_value : ℕ → ℕ → ℕ
long_value value byte = value % 2 ^ 28 * 16 + hex_value byte

-- the first byte of a character in UTF-8
abbrev pub utf8_action : ℕ → Action
utf8_action byte =
    if nat_le 0xC2 byte && nat_le byte 0xDF then Skip (Text (text.Utf8Last (byte % 32)))
    else if byte == 0xE0 then Skip (Text (text.Utf8Second 0xA0 0xBF 0))
    else if byte == 0xED then Skip (Text (text.Utf8Second 0x80 0x9F 13))
    else if nat_le 0xE1 byte && nat_le byte 0xEF then Skip (Text (text.Utf8Second 0x80 0xBF (byte % 16)))
    else if byte == 0xF0 then Skip (Text (text.Utf8Third 0x90 0xBF 0))
    else if byte == 0xF4 then Skip (Text (text.Utf8Third 0x80 0x8F 4))
    else if nat_le 0xF1 byte && nat_le byte 0xF3 then Skip (Text (text.Utf8Third 0x80 0xBF (byte % 8)))
    else Refuse wrong.Utf8

abbrev pub utf8_value : ℕ → ℕ → ℕ
utf8_value value byte = value % 2 ^ 15 * 64 + byte % 64

abbrev pub inside_action : ℕ → Action
inside_action byte =
    if byte == 39 then Skip (Text text.Apostrophe)
    else if byte == 92 then Skip (Text text.Backslash)
    else if nat_lt byte 32 || byte == 127 then Skip (Text text.Inside)
    else if nat_lt byte 127 then Put (Text text.Inside) byte
    else utf8_action byte

-- this byte goes on with a directive
abbrev pub directive_action : ℕ → TextMode → ℕ → Action
directive_action expected mode byte = if byte == expected then Skip (Text mode) else Refuse wrong.Directive

abbrev pub backslash_action : ℕ → Action
backslash_action byte =
    if byte == 92 then Put (Text text.Inside) 92
    else if byte == 88 then Skip (Text text.HexMark)
    else if byte == 83 then Skip (Text text.PageMark)
    else if byte == 80 then Skip (Text text.AlphabetMark)
    else Refuse wrong.Directive

abbrev pub page_action : ℕ → Action
page_action byte = if nat_le 32 byte && nat_le byte 126 then Put (Text text.Inside) (byte + 128) else Refuse wrong.Directive

abbrev pub hex_mark_action : ℕ → Action
hex_mark_action byte =
    if byte == 50 then Skip (Text text.Extended2Mark)
    else if byte == 52 then Skip (Text text.Extended4Mark)
    else if byte == 92 then Skip (Text text.Arbitrary)
    else Refuse wrong.Directive

abbrev pub arbitrary_action : ℕ → Action
arbitrary_action byte = if is_hex_digit byte then Skip (Text (text.ArbitrarySecond (hex_value byte))) else Refuse wrong.Directive

abbrev pub arbitrary_second_action : ℕ → ℕ → Action
arbitrary_second_action high byte =
    if is_hex_digit byte then Put (Text text.Inside) (high % 16 * 16 + hex_value byte) else Refuse wrong.Directive

abbrev pub first2_action : ℕ → Action
first2_action byte = if is_hex_digit byte then Skip (Text (text.Extended2Digits 1 (hex_value byte))) else Refuse wrong.Directive

abbrev pub digits2_action : ℕ → ℕ → ℕ → Action
digits2_action count value byte =
    if is_hex_digit byte then (if nat_lt count 3 then Skip (Text (text.Extended2Digits (count + 1) (group_value value byte))) else group_action (group_value value byte))
    else Refuse wrong.Directive

abbrev pub low_first_action : ℕ → ℕ → Action
low_first_action high byte =
    if is_hex_digit byte then Skip (Text (text.LowDigits high 1 (hex_value byte)))
    else if byte == 92 then Refuse wrong.CodePoint
    else Refuse wrong.Directive

abbrev pub low_digits_action : ℕ → ℕ → ℕ → ℕ → Action
low_digits_action high count value byte =
    if is_hex_digit byte then (if nat_lt count 3 then Skip (Text (text.LowDigits high (count + 1) (group_value value byte))) else low_group_action high (group_value value byte))
    else Refuse wrong.Directive

abbrev pub first4_action : ℕ → Action
first4_action byte = if is_hex_digit byte then Skip (Text (text.Extended4Digits 1 (hex_value byte))) else Refuse wrong.Directive

abbrev pub digits4_action : ℕ → ℕ → ℕ → Action
digits4_action count value byte =
    if is_hex_digit byte then (if nat_lt count 7 then Skip (Text (text.Extended4Digits (count + 1) (long_value value byte))) else put_scalar text.Extended4Next (long_value value byte))
    else Refuse wrong.Directive

abbrev pub utf8_last_action : ℕ → ℕ → Action
utf8_last_action value byte =
    if nat_le 0x80 byte && nat_le byte 0xBF then (if scalar (utf8_value value byte) then Put (Text text.Inside) (utf8_value value byte) else Refuse wrong.Utf8)
    else Refuse wrong.Utf8

abbrev pub text_action : TextMode → ℕ → Action
text_action text.Inside byte = inside_action byte
text_action text.Apostrophe byte = if byte == 39 then Put (Text text.Inside) 39 else End
text_action text.Backslash byte = backslash_action byte
text_action text.PageMark byte = directive_action 92 text.Page byte
text_action text.Page byte = page_action byte
text_action text.AlphabetMark byte = directive_action 65 text.Alphabet byte
text_action text.Alphabet byte = directive_action 92 text.Inside byte
text_action text.HexMark byte = hex_mark_action byte
text_action text.Arbitrary byte = arbitrary_action byte
text_action (text.ArbitrarySecond high) byte = arbitrary_second_action high byte
text_action text.Extended2Mark byte = directive_action 92 text.Extended2First byte
text_action text.Extended2First byte = first2_action byte
text_action text.Extended2Next byte = if byte == 92 then Skip (Text text.EndBackslash) else first2_action byte
text_action (text.Extended2Digits count value) byte = digits2_action count value byte
text_action (text.LowFirst high) byte = low_first_action high byte
text_action (text.LowDigits high count value) byte = low_digits_action high count value byte
text_action text.Extended4Mark byte = directive_action 92 text.Extended4First byte
text_action text.Extended4First byte = first4_action byte
text_action text.Extended4Next byte = if byte == 92 then Skip (Text text.EndBackslash) else first4_action byte
text_action (text.Extended4Digits count value) byte = digits4_action count value byte
text_action text.EndBackslash byte = directive_action 88 text.EndMark byte
text_action text.EndMark byte = directive_action 48 text.EndZero byte
text_action text.EndZero byte = directive_action 92 text.Inside byte
text_action (text.Utf8Last value) byte = utf8_last_action value byte
text_action (text.Utf8Second low high value) byte =
    if nat_le low byte && nat_le byte high then Skip (Text (text.Utf8Last (utf8_value value byte))) else Refuse wrong.Utf8
text_action (text.Utf8Third low high value) byte =
    if nat_le low byte && nat_le byte high then Skip (Text (text.Utf8Second 0x80 0xBF (utf8_value value byte))) else Refuse wrong.Utf8

-- a byte between tokens that is no separator, digit or letter
abbrev pub punctuation_action : ℕ → Action
punctuation_action byte =
    if byte == 44 then Give single.Comma
    else if byte == 35 then Skip (Name name.Hash)
    else if byte == 40 then Give single.Left
    else if byte == 41 then Give single.Right
    else if byte == 39 then Skip (Text text.Inside)
    else if byte == 46 then Keep (Word word.Point)
    else if byte == 59 then Give single.Semicolon
    else if byte == 61 then Give single.Equals
    else if byte == 36 then Give single.Dollar
    else if byte == 42 then Give single.Star
    else if byte == 43 then Keep (Number number.Sign)
    else if byte == 45 then Keep (Number number.Sign)
    else if byte == 34 then Keep (Binary binary.Quote)
    else if byte == 33 then Keep (Word word.Exclamation)
    else if byte == 47 then Pass Slash
    else if byte == 38 then Refuse (wrong.LeftOut Scope)
    else if byte == 64 then Refuse (wrong.LeftOut ValueName)
    else Refuse wrong.Byte

-- a byte between tokens
abbrev pub between_action : ℕ → Action
between_action byte =
    if is_blank byte then Pass Between
    else if is_digit byte then Keep (Number number.Whole)
    else if is_upper byte then Keep (Word word.Keyword)
    else punctuation_action byte

abbrev pub advance : Mode → ℕ → Action
advance Between byte = between_action byte
advance Slash byte = if byte == 42 then Pass Comment else Refuse wrong.Byte
advance Comment byte = if byte == 42 then Pass Star else Pass Comment
advance Star byte = if byte == 47 then Pass Between else if byte == 42 then Pass Star else Pass Comment
advance (Number mode) byte = number_action mode byte
advance (Word mode) byte = word_action mode byte
advance (Name mode) byte = name_action mode byte
advance (Binary mode) byte = binary_action mode byte
advance (Text mode) byte = text_action mode byte
