-- A header in words: a line for each value of the three records that each file has, by the names of their attributes
-- (ISO 10303-21, header section: FILE_DESCRIPTION, FILE_NAME, FILE_SCHEMA; the words are this project's own).
use Rattle.std.specs.Prelude.{ℕ, Bool, ◌&&◌, ◌||◌, not, if◌then◌else◌, nat_eq, nat_le, nat_lt, List, [], ◌∷◌, ◌++◌, codes, encode_utf8}
use Rattle.std.specs.List.{flat_map}
use Rattle.std.specs.Str.{bytes_eq}
use Rattle.p21_spec_basics.specs.Digits.{hex_digits}
use Rattle.p21_spec_exchange.specs.Parameter.{Key, Param, text, list, listed}
use Rattle.p21_spec_exchange.specs.Record.{Part}
use Rattle.p21_spec_exchange.specs.Text.{end_extended}

-- ---- texts

-- a control character, one that ends a line, or one that turns the direction of the others (Unicode: Cc, Zl, Zp, Bidi_Control)
abbrev pub is_hidden : ℕ → Bool
is_hidden c = nat_lt c 32 || nat_le 127 c && nat_lt c 160 || nat_eq c 1564 || nat_le 8206 c && nat_le c 8207 || nat_le 8232 c && nat_le c 8238 || nat_le 8294 c && nat_le c 8297

-- a character in UTF-8, or where a line or a terminal would not show it the directive `\X2\` that the standard has for it
abbrev pub shown_character : ℕ → List ℕ
shown_character c = if is_hidden c then 92 ∷ 88 ∷ 50 ∷ 92 ∷ (hex_digits 4 c ++ end_extended) else encode_utf8 c

-- the characters of a text, behind a blank where there are any
abbrev pub text_behind : List ℕ → List ℕ
text_behind [] = []
text_behind (c ∷ cs) = 32 ∷ flat_map shown_character (c ∷ cs)

-- `WORD: TEXT` and a line feed
abbrev pub text_line : List ℕ → List ℕ → List ℕ
text_line word chars = word ++ (58 ∷ (text_behind chars ++ 10 ∷ []))

-- ---- values

-- the line of a text; `$` has none
abbrev pub string_lines : List ℕ → Param → List ℕ
string_lines word (text chars) = text_line word chars
string_lines word other = []

-- a line for a text, or for each one of a list
abbrev pub value_lines : List ℕ → Param → List ℕ
value_lines word (text chars) = text_line word chars
value_lines word (list ps) = flat_map (string_lines word) (listed ps)
value_lines word other = []

-- the lines of values, each with its word
abbrev pub values_lines : List (List ℕ) → List Param → List ℕ
values_lines (word ∷ words) (p ∷ ps) = value_lines word p ++ values_lines words ps
values_lines words ps = []

-- ---- records

abbrev pub file_description_words : List (List ℕ)
file_description_words = codes "description" ∷ codes "implementation level" ∷ []

abbrev pub file_name_words : List (List ℕ)
file_name_words =
    codes "file name" ∷ codes "time stamp" ∷ codes "author" ∷ codes "organization" ∷ codes "preprocessor version"
    ∷ codes "originating system" ∷ codes "authorization" ∷ []

abbrev pub file_schema_words : List (List ℕ)
file_schema_words = codes "schema" ∷ []

-- whether a key is this keyword, and no user keyword
abbrev pub is_keyword : Key → List ℕ → Bool
is_keyword key word = not key.user && bytes_eq key.word word

-- a keyword as it is written
abbrev pub key_text : Key → List ℕ
key_text key = if key.user then 33 ∷ key.word else key.word

-- the lines of a record: of its values, or of a further record its keyword
abbrev pub record_lines : Part → List ℕ
record_lines part =
    if is_keyword part.key (codes "FILE_DESCRIPTION") then values_lines file_description_words (listed part.params)
    else if is_keyword part.key (codes "FILE_NAME") then values_lines file_name_words (listed part.params)
    else if is_keyword part.key (codes "FILE_SCHEMA") then values_lines file_schema_words (listed part.params)
    else codes "further record: " ++ (key_text part.key ++ 10 ∷ [])

-- the lines of a header
abbrev pub header_text : List Part → List ℕ
header_text parts = flat_map record_lines parts
