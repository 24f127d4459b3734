-- What is held of a file of which some bytes are taken and none was refused (this project's own, on exchange structures
-- of ISO 10303-21).
use Rattle.std.specs.Prelude.{◌≡◌, ℕ, List, [], length}
use Rattle.std.specs.List.{flat_map}
use Rattle.p21_spec_file.specs.CanonicalTexts.{HaveCanonicalSize}
use Rattle.p21_spec_exchange.specs.Grammar.{IsFile}
use Rattle.p21_spec_exchange.specs.Laying.{tokens_in}
use Rattle.p21_spec_exchange.specs.OpenNesting.{IsDepth}
use Rattle.p21_spec_exchange.specs.Pending.{IsPending}
use Rattle.p21_spec_file.specs.Reference.{record_references}
use Rattle.p21_spec_schema.specs.Schema.{Schema}
use Rattle.p21_spec_exchange.specs.Statement.{Statement, instance, statement_tokens}
use Rattle.p21_spec_exchange.specs.Structure.{Structure, AreFirstStatements}

-- token bytes of the open statement; open lists and typed parameters; bytes of canonical statements; references
pub record Held : Type 0 where
  pub pending : ℕ
  pub depth : ℕ
  pub kept : ℕ
  pub needs : ℕ

-- the instance names in the parameters of an instance, each as often as it stands
abbrev pub statement_references : Statement → List ℕ
statement_references (instance n record_) = record_references record_
statement_references other = []

-- What is held of the bytes taken: of the statements that they end, which are the first of those of some tree that a file
-- may have, and of the one that they leave open
pub record IsHeld (s : Schema) (taken : List ℕ) (held : Held) : Type 0 where
  pub pending : IsPending taken held.pending
  pub depth : IsDepth (tokens_in pending.lexemes) held.depth
  pub statements : List Statement
  pub structure : Structure
  pub schema_text : List ℕ
  pub is_file : IsFile structure schema_text
  pub are_first : AreFirstStatements statements structure
  pub ended_are : depth.open_statement.ended ≡ flat_map statement_tokens statements
  pub kept : HaveCanonicalSize s statements held.kept
  pub needs : held.needs ≡ length (flat_map statement_references statements)
