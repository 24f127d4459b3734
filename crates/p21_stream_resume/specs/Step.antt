-- What a byte does in each state of a seeker: the code's table of states, which nobody has to believe. proofs/Finding joins it to the
-- signposts that stand in bytes.
use Rattle.std.specs.Prelude.{ℕ, ◌+◌, ◌-◌, ◌*◌, ◌^◌, min, Bool, true, false, nat_lt, ◌==◌, ◌&&◌, if◌then◌else◌, List, length, Option, Some, None, codes, slice_get}
use Rattle.p21_scan.specs.Bytes.{is_blank}
use Rattle.p21_spec_basics.specs.Digits.{is_digit}
use Rattle.p21_stream_resume.specs.declared.class.Class.{Class}
use Rattle.p21_stream_resume.specs.declared.class.Class.TheVariants as class
use Rattle.p21_stream_resume.specs.declared.mode.Mode.{Mode}
use Rattle.p21_stream_resume.specs.declared.mode.Mode.TheVariants as mode
use Rattle.p21_stream_resume.specs.declared.mode.Step.{Step}
use Rattle.p21_stream_resume.specs.declared.mode.Step.TheVariants.{Goes, Ends}
use Rattle.p21_stream_resume.specs.declared.mode.Word.{Word}
use Rattle.p21_stream_resume.specs.declared.mode.Word.TheVariants as word
use Rattle.p21_stream_resume.specs.declared.signpost.Numeral.{Numeral}
use Rattle.p21_stream_resume.specs.declared.signpost.Signpost.TheVariants as signpost

abbrev pub class_of : ℕ → Class
class_of byte =
    if byte == 35 then class.Hash
    else if byte == 61 then class.Equals
    else if byte == 59 then class.Semicolon
    else if byte == 41 then class.Parenthesis
    else if byte == 10 then class.LineEnd
    else if byte == 13 then class.LineEnd
    else if is_digit byte then class.Digit
    else if is_blank byte then class.Blank
    else class.Other

-- one more, in 64 bits
abbrev pub one_more : ℕ → ℕ
one_more count = min (count + 1) (2 ^ 64 - 1)

-- the number of digits and one more, if it is below 2 ^ 64
abbrev pub next_value : ℕ → ℕ → Option ℕ
next_value value digit = if nat_lt (value * 10 + digit) (2 ^ 64) then Some (value * 10 + digit) else None

abbrev pub no_digits : Numeral
no_digits = record { count = 0; value = 0; fits = true }

-- digits whose number with this one is known, or is too large
abbrev pub grown : Numeral → Option ℕ → Numeral
grown name None = record { count = name.count; value = name.value; fits = false }
grown name (Some value) = record { count = one_more name.count; value = value; fits = true }

abbrev pub with_digit : Numeral → ℕ → Numeral
with_digit name digit = if name.fits then grown name (next_value name.value (digit - 48)) else name

-- a byte that may be the first of a word
abbrev pub begun_word : ℕ → Mode
begun_word byte = if byte == 69 then mode.Word word.SectionEnd 1 else if byte == 73 then mode.Word word.FileBegin 1 else mode.Closed

-- a byte that belongs to no signpost that has begun
abbrev pub outside : Bool → Class → ℕ → Mode
outside opened class.Semicolon byte = mode.Opened
outside opened class.Parenthesis byte = mode.Opened
outside opened class.LineEnd byte = mode.Opened
outside true class.Blank byte = mode.Opened
outside true class.Hash byte = mode.Hash
outside true class.Other byte = begun_word byte
outside opened kind byte = mode.Closed

abbrev pub hash_step : Class → ℕ → Step
hash_step class.Digit byte = Goes (mode.Digits (with_digit no_digits byte))
hash_step kind byte = Goes (outside false kind byte)

abbrev pub digits_step : Numeral → Class → ℕ → Step
digits_step name class.Digit byte = Goes (mode.Digits (with_digit name byte))
digits_step name class.Equals byte = Ends (signpost.Instance name 0)
digits_step name class.Blank byte = Goes (mode.NameGap name 1 false)
digits_step name class.LineEnd byte = Goes (mode.NameGap name 1 true)
digits_step name kind byte = Goes (outside false kind byte)

abbrev pub name_gap_step : Numeral → ℕ → Bool → Class → ℕ → Step
name_gap_step name blanks opened class.Equals byte = Ends (signpost.Instance name blanks)
name_gap_step name blanks opened class.Blank byte = Goes (mode.NameGap name (one_more blanks) opened)
name_gap_step name blanks opened class.LineEnd byte = Goes (mode.NameGap name (one_more blanks) true)
name_gap_step name blanks opened kind byte = Goes (outside opened kind byte)

abbrev pub section_gap_step : ℕ → Bool → Class → ℕ → Step
section_gap_step blanks opened class.Semicolon byte = Ends (signpost.SectionEnd blanks)
section_gap_step blanks opened class.Blank byte = Goes (mode.SectionGap (one_more blanks) opened)
section_gap_step blanks opened class.LineEnd byte = Goes (mode.SectionGap (one_more blanks) true)
section_gap_step blanks opened kind byte = Goes (outside opened kind byte)

abbrev pub word_bytes : Word → List ℕ
word_bytes word.SectionEnd = codes "ENDSEC"
word_bytes word.FileBegin = codes "ISO-10303-21"
word_bytes word.FileEnd = codes "END-ISO-10303-21"

-- the last byte of a word
abbrev pub behind_word : Word → Step
behind_word word.SectionEnd = Goes (mode.SectionGap 0 false)
behind_word word.FileBegin = Ends signpost.FileBegin
behind_word word.FileEnd = Ends signpost.FileEnd

-- a byte that isn't due: `END` begins two words
abbrev pub other_word_step : Word → ℕ → Class → ℕ → Step
other_word_step word.SectionEnd taken kind byte =
    if taken == 3 && byte == 45 then Goes (mode.Word word.FileEnd 4) else Goes (outside false kind byte)
other_word_step word.FileBegin taken kind byte = Goes (outside false kind byte)
other_word_step word.FileEnd taken kind byte = Goes (outside false kind byte)

-- a byte where this one of the word is due, if one is
abbrev pub due_step : Word → ℕ → Class → ℕ → Option ℕ → Step
due_step of taken kind byte None = Goes (outside false kind byte)
due_step of taken kind byte (Some due) =
    if byte == due then (if nat_lt (taken + 1) (length (word_bytes of)) then Goes (mode.Word of (taken + 1)) else behind_word of)
    else other_word_step of taken kind byte

abbrev pub step : Mode → Class → ℕ → Step
step mode.Closed kind byte = Goes (outside false kind byte)
step mode.Opened kind byte = Goes (outside true kind byte)
step mode.Hash kind byte = hash_step kind byte
step (mode.Digits name) kind byte = digits_step name kind byte
step (mode.NameGap name blanks opened) kind byte = name_gap_step name blanks opened kind byte
step (mode.Word of taken) kind byte = due_step of taken kind byte (slice_get (word_bytes of) taken)
step (mode.SectionGap blanks opened) kind byte = section_gap_step blanks opened kind byte
