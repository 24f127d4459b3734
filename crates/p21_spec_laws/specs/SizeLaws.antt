-- The laws by which bytes are dead that are too long, or whose canonical lines are.
use Rattle.std.specs.Prelude.{◌<◌, ◌+◌, ℕ, List, [], ◌∷◌, ◌++◌, length, Contains, ◌≤◌}
use Rattle.std.specs.List.{AllByRecursion as Each}
use Rattle.p21_spec_basics.specs.Digits.{IsByte}
use Rattle.p21_spec_basics.specs.Limits.{Limits}
use Rattle.p21_spec_laws.specs.Taken.{AreStatementsTaken, BeginsWith}
use Rattle.p21_spec_schema.specs.WellFormed.{IsWellFormed}
use Rattle.p21_spec_exchange.specs.CanonicalText.{line, statement_text}
use Rattle.p21_spec_exchange.specs.Laying.{AreStatementsWithin, LaidAs, Lexeme, open_bytes}
use Rattle.p21_spec_exchange.specs.Pending.{IsTokenByte, LaidUpTo, Tail, tail_size}
use Rattle.p21_spec_exchange.specs.Record.{Part, Record}
use Rattle.p21_spec_exchange.specs.Statement.{SectionLine, Statement, section, header, instance}
use Rattle.p21_spec_file.specs.Accepted.{IsDead}
use Rattle.p21_spec_file.specs.CanonicalTexts.{HaveCanonicalSize, IsInstanceText}
use Rattle.p21_spec_schema.specs.Schema.{Schema}

-- ---- the source

-- more bytes than a source may have
abbrev pub LongSourceIsDead : Type 0
LongSourceIsDead = (s : Schema) (limits : Limits) (bytes : List ℕ) → limits.file_source < length bytes → IsDead s limits bytes

-- no laying of bytes that begin so has statements within their limit
abbrev pub LongStatementIsDead : Type 0
LongStatementIsDead = (s : Schema) (limits : Limits) (bytes : List ℕ) → ((more : List ℕ) → Each IsByte more → (lexemes : List Lexeme) → LaidAs (bytes ++ more) lexemes → ¬ AreStatementsWithin limits.record_source 0 lexemes) → IsDead s limits bytes

-- each laying of bytes that begin so begins with lexemes that are over the limit of a statement
abbrev pub LongLexemesAreDead : Type 0
LongLexemesAreDead = (s : Schema) (limits : Limits) (bytes : List ℕ) (given : List Lexeme) → ((more : List ℕ) → Each IsByte more → (lexemes : List Lexeme) → LaidAs (bytes ++ more) lexemes → BeginsWith given lexemes)
    → ¬ AreStatementsWithin limits.record_source 0 given → IsDead s limits bytes

-- a byte that is one more than the tokens of a statement may have, behind bytes in which lexemes are laid up to a tail
abbrev pub FullStatementIsDead : Type 0
FullStatementIsDead = (s : Schema) (limits : Limits) (bytes : List ℕ) (lexemes : List Lexeme) (tail : Tail) (byte : ℕ) → LaidUpTo bytes lexemes tail → IsTokenByte tail byte → limits.record_source ≤ open_bytes 0 lexemes + tail_size tail
    → IsDead s limits (bytes ++ (byte ∷ []))

-- ---- canonical lines

-- a section line over its limit: that of a data section with a name, or under a limit that no file keeps
abbrev pub LongSectionLineIsDead : Type 0
LongSectionLineIsDead = (s : Schema) (limits : Limits) (bytes : List ℕ) (taken : List Statement) → AreStatementsTaken bytes taken → (line_ : SectionLine) → Contains taken (section line_) → limits.record_canonical < length (statement_text (section line_)) → IsDead s limits bytes

-- a header record whose canonical line is over its limit
abbrev pub LongHeaderIsDead : Type 0
LongHeaderIsDead = (s : Schema) (limits : Limits) (bytes : List ℕ) (taken : List Statement) → AreStatementsTaken bytes taken → (part : Part) → Contains taken (header part) → limits.record_canonical < length (statement_text (header part)) → IsDead s limits bytes

-- an instance whose canonical line is over its limit
abbrev pub LongInstanceIsDead : Type 0
LongInstanceIsDead = (s : Schema) → IsWellFormed s → (limits : Limits) (bytes : List ℕ) (taken : List Statement) → AreStatementsTaken bytes taken
    → (n : ℕ) (record_ : Record) (text : List ℕ) → Contains taken (instance n record_) → IsInstanceText s n record_ text → limits.record_canonical < length text → IsDead s limits bytes

-- the last line of each canonical file has 17 bytes: under a lower limit on lines nothing is accepted
abbrev pub NarrowLineLimitIsDead : Type 0
NarrowLineLimitIsDead = (s : Schema) (limits : Limits) (bytes : List ℕ) → limits.record_canonical < 17 → IsDead s limits bytes

-- ---- canonical files

-- the bytes of section lines, and the LF of each other line
abbrev pub framing : List Statement → ℕ
framing [] = 0
framing (section line_ ∷ rest) = length (line (section line_)) + framing rest
framing (other ∷ rest) = 1 + framing rest

-- the canonical lines of the statements that have ended are more than a canonical file may have
abbrev pub LongFileIsDead : Type 0
LongFileIsDead = (s : Schema) → IsWellFormed s → (limits : Limits) (bytes : List ℕ) (taken : List Statement) → AreStatementsTaken bytes taken
    → (kept : ℕ) → HaveCanonicalSize s taken kept → limits.file_canonical < kept + framing taken → IsDead s limits bytes
