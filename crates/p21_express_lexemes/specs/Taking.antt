-- What stands first among the lexemes that are left, taken from them: plain functions between the code and the definitions,
-- which nobody has to believe.
use Rattle.std.specs.Prelude.{◌≡◌, ◌≢◌, ℕ, Bool, true, false, ◌==◌, List, [], ◌∷◌, map, Option, Some, None, Result, Ok, Err, if◌then◌else◌}
use Rattle.std.specs.Borrow.{Bor}
use Rattle.std.specs.Str.{bytes_eq}
use Rattle.p21_express_lexemes.specs.declared.fault.SyntaxFault.{SyntaxFault}
use Rattle.p21_express_lexemes.specs.declared.fault.SyntaxFault.TheVariants.{NoMemory}
use Rattle.p21_express_lexemes.specs.Words.{is_reserved}
use Rattle.p21_spec_schema.specs.Express.{Lexeme, identifier, digits, simple_string, symbol, upper}

-- the lexemes that are left; a None stands where the text goes wrong
abbrev pub Items : Type 0
Items = List (Option Lexeme)

-- lexemes in front of what is left
abbrev pub put : List Lexeme → Items → Items
put [] more = more
put (lexeme ∷ lexemes) more = Some lexeme ∷ put lexemes more

abbrev pub symbol_or : ℕ → Lexeme → Items → Option Items
symbol_or byte (symbol other) rest = if other == byte then Some rest else None
symbol_or byte other rest = None

abbrev pub word_or : List ℕ → Lexeme → Items → Option Items
word_or name (identifier other) rest = if bytes_eq other name then Some rest else None
word_or name other rest = None

abbrev pub simple_string_or : Lexeme → Items → Option Items
simple_string_or (simple_string inside) rest = Some rest
simple_string_or other rest = None

abbrev pub digits_or : Lexeme → Items → Option (List ℕ × Items)
digits_or (digits ds) rest = Some (ds, rest)
digits_or other rest = None

abbrev pub name_or : Lexeme → Items → Option (List ℕ × Items)
name_or (identifier name) rest = if is_reserved name then None else Some (name, rest)
name_or other rest = None

-- what is left behind this symbol
unfoldable pub take_symbol : ℕ → Items → Option Items
take_symbol byte [] = None
take_symbol byte (None ∷ rest) = None
take_symbol byte (Some lexeme ∷ rest) = symbol_or byte lexeme rest

-- what is left behind this word
unfoldable pub take_word : List ℕ → Items → Option Items
take_word name [] = None
take_word name (None ∷ rest) = None
take_word name (Some lexeme ∷ rest) = word_or name lexeme rest

-- what is left behind a simple string
unfoldable pub take_simple_string : Items → Option Items
take_simple_string [] = None
take_simple_string (None ∷ rest) = None
take_simple_string (Some lexeme ∷ rest) = simple_string_or lexeme rest

unfoldable pub take_digits : Items → Option (List ℕ × Items)
take_digits [] = None
take_digits (None ∷ rest) = None
take_digits (Some lexeme ∷ rest) = digits_or lexeme rest

unfoldable pub take_name : Items → Option (List ℕ × Items)
take_name [] = None
take_name (None ∷ rest) = None
take_name (Some lexeme ∷ rest) = name_or lexeme rest

-- an answer whether it was taken
abbrev pub WasTaken : Bool → Option Items → Items → Items → Type 0
WasTaken true taken old new = taken ≡ Some new
WasTaken false taken old new = (taken ≡ None) × (new ≡ old)

-- what was found first, with what is left
abbrev pub with_rest : {A : Type 0} → Option A → Items → Option (A × Items)
with_rest None rest = None
with_rest (Some x) rest = Some (x, rest)

-- what was taken, and what is left
abbrev pub OneWasTaken : {A : Type 0} → Option A → Option (A × Items) → Items → Items → Type 0
OneWasTaken (Some x) taken old new = taken ≡ Some (x, new)
OneWasTaken None taken old new = (taken ≡ None) × (new ≡ old)

-- bytes that the code refers to
abbrev pub bytes_seen : Option (Bor (List ℕ)) → Option (List ℕ)
bytes_seen None = None
bytes_seen (Some bytes) = Some bytes.now

-- in upper case
abbrev pub upper_bytes_seen : Option (Bor (List ℕ)) → Option (List ℕ)
upper_bytes_seen None = None
upper_bytes_seen (Some bytes) = Some (map upper bytes.now)

-- a refusal for want of memory owes nothing, any other that nothing is read
abbrev pub RefusalShows : SyntaxFault → Type 0 → Type 0
RefusalShows fault claim = fault ≢ NoMemory → claim

-- what was read by this function, if anything was, and what is left
abbrev pub ReadBy : {A B : Type 0} → (A → B) → Result A SyntaxFault → Option (B × Items) → Items → Type 0
ReadBy meant (Ok x) read new = read ≡ Some (meant x, new)
ReadBy meant (Err fault) read new = RefusalShows fault (read ≡ None)

-- what was taken, if it stood first
abbrev pub TakesExpected : Result (Unit {0}) SyntaxFault → Option Items → Items → Type 0
TakesExpected (Ok u) taken new = taken ≡ Some new
TakesExpected (Err fault) taken new = RefusalShows fault (taken ≡ None)

-- in upper case
abbrev pub upper_of : Bor (List ℕ) → List ℕ
upper_of name = map upper name.now
