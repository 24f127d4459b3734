-- The laws of what the files that begin with some bytes begin with, and of bytes with which none begins.
use Rattle.std.specs.Prelude.{ℕ, List, ◌++◌}
use Rattle.std.specs.List.{flat_map, AllByRecursion as Each}
use Rattle.p21_spec_basics.specs.Digits.{IsByte}
use Rattle.p21_spec_basics.specs.Limits.{Limits}
use Rattle.p21_spec_laws.specs.Taken.{AreStatementsEnded, AreTokensTaken, AreStatementsTaken, BeginsWith}
use Rattle.p21_spec_exchange.specs.Grammar.{IsFile}
use Rattle.p21_spec_exchange.specs.Laying.{Laid}
use Rattle.p21_spec_exchange.specs.Statement.{Statement, statement_tokens}
use Rattle.p21_spec_exchange.specs.Structure.{AreFirstStatements, Structure, tokens_of}
use Rattle.p21_spec_exchange.specs.Token.{Token}
use Rattle.p21_spec_file.specs.Accepted.{IsDead}
use Rattle.p21_spec_schema.specs.Schema.{Schema}

-- where the tokens begin each laying, and each tree that they begin begins with the statements, each tree does
abbrev pub PrefixIsTaken : Type 0
PrefixIsTaken = (bytes : List ℕ) (given : List Token) (taken : List Statement) → AreTokensTaken bytes given → AreStatementsEnded given taken → AreStatementsTaken bytes taken

-- the tokens of the first statements of some tree and of an open front of the next are such tokens; statements in another
-- order need not be, since a DATA with a name has the tokens of a header record
abbrev pub FirstStatementsAreEnded : Type 0
FirstStatementsAreEnded = (taken : List Statement) (first : Structure) (opened : List Token) → AreFirstStatements taken first → AreStatementsEnded (flat_map statement_tokens taken ++ opened) taken

-- what is taken stays taken when bytes come
abbrev pub TakenStaysTaken : Type 0
TakenStaysTaken = (bytes more : List ℕ) (taken : List Statement) → Each IsByte more → AreStatementsTaken bytes taken → AreStatementsTaken (bytes ++ more) taken

-- no tokens are laid in bytes that begin so
abbrev pub NoLayingIsDead : Type 0
NoLayingIsDead = (s : Schema) (limits : Limits) (bytes : List ℕ) → ((more : List ℕ) → Each IsByte more → (tokens : List Token) → ¬ Laid (bytes ++ more) tokens) → IsDead s limits bytes

-- no tree's tokens begin so
abbrev pub NoTreePrefixIsDead : Type 0
NoTreePrefixIsDead = (s : Schema) (limits : Limits) (bytes : List ℕ) (given : List Token) → AreTokensTaken bytes given → ((structure : Structure) (text : List ℕ) → IsFile structure text → ¬ BeginsWith given (tokens_of structure)) → IsDead s limits bytes

-- what is dead stays dead when bytes come
abbrev pub DeadStaysDead : Type 0
DeadStaysDead = (s : Schema) (limits : Limits) (bytes more : List ℕ) → Each IsByte more → IsDead s limits bytes → IsDead s limits (bytes ++ more)
