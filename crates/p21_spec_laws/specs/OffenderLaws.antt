-- The laws by which a session's refusals while bytes come are right, in the words of the lexer and the parser below it.
use Rattle.std.specs.Prelude.{List, [], ℕ, ◌++◌, ◌+◌, ◌∷◌, ◌≡◌}
use Rattle.p21_spec_basics.specs.Limits.{Limits}
use Rattle.p21_spec_laws.specs.CompleteFile.{SectionEntries}
use Rattle.p21_spec_laws.specs.SizeLaws.{framing}
use Rattle.p21_spec_laws.specs.Taken.{AreStatementsEnded, AreStatementsTaken, BeginsWith}
use Rattle.p21_spec_laws.specs.UnrefusedStatements.{AreUnrefused, canonical_size}
use Rattle.p21_spec_laws.specs.Offending.{HasFileSize, Offends}
use Rattle.p21_spec_exchange.specs.Grammar.{IsFile}
use Rattle.p21_spec_exchange.specs.Laying.{Laid}
use Rattle.p21_spec_exchange.specs.Statement.{Statement}
use Rattle.p21_spec_exchange.specs.Structure.{Structure, tokens_of}
use Rattle.p21_spec_exchange.specs.Token.{Token}
use Rattle.p21_spec_file.specs.Accepted.{IsDead}
use Rattle.p21_spec_schema.specs.Schema.{Schema}
use Rattle.p21_spec_schema.specs.WellFormed.{IsWellFormed}

-- ---- what the lexer and the parser say of bytes and tokens

-- the tokens laid in any bytes that begin so begin with these
abbrev pub AreFirstTokens : List ℕ → List Token → Type 0
AreFirstTokens bytes given = (rest : List ℕ) (tokens : List Token) → Laid (bytes ++ rest) tokens → BeginsWith given tokens

-- no tree of a file has tokens that begin so; none has these tokens
abbrev pub AreNoFilePrefix : List Token → Type 0
AreNoFilePrefix tokens = (structure : Structure) (text : List ℕ) → IsFile structure text → ¬ BeginsWith tokens (tokens_of structure)

abbrev pub AreNoFileTokens : List Token → Type 0
AreNoFileTokens tokens = (structure : Structure) (text : List ℕ) → IsFile structure text → ¬ (tokens_of structure ≡ tokens)

-- ---- while bytes come

-- where tokens are given first, and statements of them, these are taken
abbrev pub GivenStatementsAreTaken : Type 0
GivenStatementsAreTaken = (bytes : List ℕ) (tokens : List Token) (given : List Statement) → AreFirstTokens bytes tokens → AreStatementsEnded tokens given → AreStatementsTaken bytes given

-- what the lexer refuses for its form
abbrev pub UnlayableIsDead : Type 0
UnlayableIsDead = (s : Schema) (limits : Limits) (bytes : List ℕ) → ((rest : List ℕ) (tokens : List Token) → ¬ Laid (bytes ++ rest) tokens) → IsDead s limits bytes

-- what the parser refuses
abbrev pub NoFilePrefixIsDead : Type 0
NoFilePrefixIsDead = (s : Schema) (limits : Limits) (bytes : List ℕ) (tokens : List Token) → AreFirstTokens bytes tokens → AreNoFilePrefix tokens → IsDead s limits bytes

-- what a statement refuses
abbrev pub OffendingStatementIsDead : Type 0
OffendingStatementIsDead = (s : Schema) → IsWellFormed s → (limits : Limits) (bytes : List ℕ) (given : List Statement) (size : ℕ) → HasFileSize s given size → (statement : Statement) (number : ℕ) → AreStatementsTaken bytes (given ++ (statement ∷ [])) → Offends s limits given size statement number
    → IsDead s limits bytes

-- what is known has its size
abbrev pub UnrefusedHaveFileSize : Type 0
UnrefusedHaveFileSize = (s : Schema) (limits : Limits) (given : List Statement) (groups : List SectionEntries) → AreUnrefused s limits given groups → HasFileSize s given (canonical_size given groups + framing given)
