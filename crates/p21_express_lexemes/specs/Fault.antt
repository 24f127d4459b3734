-- The refusals of a schema text before its names are resolved: their numbers and names, and which one a lexeme shows that
-- the grammar doesn't have where it stands (this project's own).
use Rattle.std.specs.Prelude.{ℕ, Bool, List, [], ◌∷◌, codes, Some, None, ◌||◌, ◌==◌, if◌then◌else◌}
use Rattle.p21_spec_schema.specs.Express.{Lexeme, identifier, symbol}
use Rattle.p21_express_lexemes.specs.Taking.{Items}
use Rattle.p21_express_lexemes.specs.Words.{is_among, is_reserved}
use Rattle.p21_express_lexemes.specs.declared.fault.Wanted.{Wanted}
use Rattle.p21_express_lexemes.specs.declared.fault.Wanted.TheVariants.{Grammar, Bound, SelectList, Width, BehindDigits}
use Rattle.p21_express_lexemes.specs.declared.fault.SyntaxFault.{SyntaxFault}
use Rattle.p21_express_lexemes.specs.declared.fault.SyntaxFault.TheVariants.{Token, Syntax, LeftOut, Bounds, TooLarge, NoMemory}

abbrev pub fault_number : SyntaxFault → ℕ
fault_number Token = 1
fault_number Syntax = 2
fault_number LeftOut = 6
fault_number Bounds = 7
fault_number TooLarge = 9
fault_number NoMemory = 90

abbrev pub fault_name : SyntaxFault → List ℕ
fault_name Token = codes "Token"
fault_name Syntax = codes "Syntax"
fault_name LeftOut = codes "LeftOut"
fault_name Bounds = codes "Bounds"
fault_name TooLarge = codes "TooLarge"
fault_name NoMemory = codes "NoMemory"

-- the words of what isn't read
abbrev pub left_out_words : List (List ℕ)
left_out_words =
    codes "USE" ∷ codes "REFERENCE" ∷ codes "EXTENSIBLE" ∷ codes "BASED_ON" ∷ codes "GENERIC" ∷ codes "GENERIC_ENTITY" ∷ codes "AGGREGATE" ∷ codes "RENAMED" ∷ []

-- behind the digits of a bound or width an operator shows an expression: `+ - * / . < > = | \`
abbrev pub is_operator : ℕ → Bool
is_operator byte = byte == 43 || byte == 45 || byte == 42 || byte == 47 || byte == 46 || byte == 60 || byte == 62 || byte == 61 || byte == 124 || byte == 92

-- A lexeme that stands where the grammar has another: any other; a bound, or the list of a select, where each lexeme shows
-- what isn't read; a width, where `?` doesn't; what stands behind digits, where a name shows an expression, too
unfoldable pub shown_by : Wanted → Lexeme → SyntaxFault
shown_by Grammar (identifier name) = if is_among left_out_words name then LeftOut else Syntax
shown_by Grammar lexeme = Syntax
shown_by Bound lexeme = LeftOut
shown_by SelectList lexeme = LeftOut
shown_by Width (symbol byte) = if byte == 63 then Syntax else LeftOut
shown_by Width lexeme = LeftOut
shown_by BehindDigits (identifier name) = if is_reserved name then if is_among left_out_words name then LeftOut else Syntax else LeftOut
shown_by BehindDigits (symbol byte) = if is_operator byte then LeftOut else Syntax
shown_by BehindDigits lexeme = Syntax

-- the refusal where what is wanted doesn't stand first
unfoldable pub refusal_of : Wanted → Items → SyntaxFault
refusal_of wanted [] = Syntax
refusal_of wanted (None ∷ rest) = Token
refusal_of wanted (Some lexeme ∷ rest) = shown_by wanted lexeme
