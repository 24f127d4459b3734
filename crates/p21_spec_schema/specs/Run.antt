-- Runs of lexical elements that are read over: supertype expressions, derivations, rules, and declarations other than
-- those of entities and types (ISO 10303-11, Declarations).
use Rattle.std.specs.Prelude.{◌≡◌, ℕ, ◌≤◌, Bool, false, List, take, ◌==◌}
use Rattle.std.specs.List.{count_by}
use Rattle.std.specs.Str.{bytes_eq}
use Rattle.p21_spec_schema.specs.Express.{Lexeme, identifier, symbol}

-- the lexemes before the first one at which those that close, it among them, are one more than those that open
abbrev pub IsRun : (Lexeme → Bool) → (Lexeme → Bool) → List Lexeme → Type 0
IsRun opens closes run = ((k : ℕ) → count_by closes (take k run) ≤ count_by opens (take k run)) × (count_by closes run ≡ count_by opens run)

-- the lexeme is this word
abbrev pub is_word : List ℕ → Lexeme → Bool
is_word name (identifier other) = bytes_eq other name
is_word name lexeme = false

-- the lexeme is this byte
abbrev pub is_symbol : ℕ → Lexeme → Bool
is_symbol byte (symbol other) = other == byte
is_symbol byte lexeme = false

-- no lexeme opens
abbrev pub none : Lexeme → Bool
none lexeme = false
