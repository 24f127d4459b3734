-- Bytes that are an exchange structure within the limits on bytes, whatever it means under a schema (ISO 10303-21, formal
-- definition of the exchange structure; the limits are this project's own).
use Rattle.std.specs.Prelude.{ℕ, ◌≤◌, List, ◌++◌, length}
use Rattle.std.specs.List.{AllByRecursion as Each}
use Rattle.p21_spec_basics.specs.Digits.{IsByte}
use Rattle.p21_spec_basics.specs.Limits.{Limits}
use Rattle.p21_spec_exchange.specs.Grammar.{InGrammar}
use Rattle.p21_spec_exchange.specs.Laying.{AreStatementsWithin}
use Rattle.p21_spec_exchange.specs.Structure.{Structure}

-- the bytes are this tree, they are as many as a file may have, and so are the token bytes of each statement;
-- `schema` is the text of its FILE_SCHEMA
pub record IsFileWithin (limits : Limits) (bytes : List ℕ) (structure : Structure) (schema : List ℕ) : Type 0 where
  pub in_grammar : InGrammar bytes structure schema
  pub file_within : length bytes ≤ limits.file_source
  pub statements_within : AreStatementsWithin limits.record_source 0 in_grammar.laid.lexemes

-- the bytes are no tree, whatever the limits
abbrev pub IsNoFile : List ℕ → Type 0
IsNoFile bytes = (structure : Structure) (schema : List ℕ) → InGrammar bytes structure schema → ⊥

-- no bytes within the limits that are a tree begin so
abbrev pub BeginsNoFile : Limits → List ℕ → Type 0
BeginsNoFile limits bytes = (more : List ℕ) → Each IsByte more → (structure : Structure) (schema : List ℕ) → IsFileWithin limits (bytes ++ more) structure schema → ⊥
