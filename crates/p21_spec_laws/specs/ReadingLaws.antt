-- The laws by which bytes are read in one way.
use Rattle.std.specs.Prelude.{◌≡◌, ℕ, List}
use Rattle.p21_spec_basics.specs.Limits.{Limits}
use Rattle.p21_spec_schema.specs.WellFormed.{IsWellFormed}
use Rattle.p21_spec_exchange.specs.Grammar.{InGrammar}
use Rattle.p21_spec_exchange.specs.Laying.{AreStatementsWithin, LaidAs, Lexeme}
use Rattle.p21_spec_exchange.specs.Structure.{Structure}
use Rattle.p21_spec_file.specs.Accepted.{Means}
use Rattle.p21_spec_file.specs.File.{FileMeaning, Reads}
use Rattle.p21_spec_schema.specs.Schema.{Schema}

-- bytes have one list of lexemes: one list of tokens, and one size for each
abbrev pub OneListOfLexemes : Type 0
OneListOfLexemes = (bytes : List ℕ) (lexemes others : List Lexeme) → LaidAs bytes lexemes → LaidAs bytes others → lexemes ≡ others

-- bytes have one tree, and one text of a schema in its header
abbrev pub OneTreeOfBytes : Type 0
OneTreeOfBytes = (bytes : List ℕ) (structure other : Structure) (text other_text : List ℕ) → InGrammar bytes structure text → InGrammar bytes other other_text → (structure ≡ other) × (text ≡ other_text)

-- bytes read as one meaning
abbrev pub OneMeaningOfBytes : Type 0
OneMeaningOfBytes = (s : Schema) → IsWellFormed s → (bytes : List ℕ) (m n : FileMeaning) → Reads s bytes m → Reads s bytes n → m ≡ n

-- within whatever limits, too
abbrev pub OneMeaningWithinLimits : Type 0
OneMeaningWithinLimits = (s : Schema) → IsWellFormed s → (limits others : Limits) (bytes : List ℕ) (m n : FileMeaning) → Means s limits bytes m → Means s others bytes n → m ≡ n

-- the limit on statements holds for each reading of bytes that mean something within it
abbrev pub LimitHoldsForEachReading : Type 0
LimitHoldsForEachReading = (s : Schema) (limits : Limits) (bytes : List ℕ) (m n : FileMeaning) → Means s limits bytes m → (reads : Reads s bytes n) → AreStatementsWithin limits.record_source 0 reads.in_grammar.laid.lexemes
