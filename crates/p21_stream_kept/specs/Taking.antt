-- What is known of the statements before one that is taken, and of those of a whole file.
use Rattle.std.specs.Prelude.{◌≡◌, ◌<◌, ◌^◌, ℕ, List, [], ◌∷◌, ◌++◌, length}
use Rattle.std.specs.List.{flat_map}
use Rattle.p21_spec_basics.specs.Limits.{Limits}
use Rattle.p21_spec_laws.specs.Keeping.{Keeps, Kept}
use Rattle.p21_spec_laws.specs.Stored.{with_lines}
use Rattle.p21_spec_exchange.specs.Grammar.{IsFile}
use Rattle.p21_spec_exchange.specs.Record.{Record}
use Rattle.p21_spec_exchange.specs.Statement.{Statement, instance, statement_tokens}
use Rattle.p21_spec_exchange.specs.Structure.{AreFirstStatements, Structure, statements}
use Rattle.p21_spec_file.specs.Reference.{Need}
use Rattle.p21_spec_schema.specs.Schema.{Schema}
use Rattle.p21_stream_kept.specs.Found.{HasFound}

-- The statement stands in a tree behind those of which this is kept, and 64 bits count the tokens of all of them
pub record Follows (s : Schema) (limits : Limits) (kept : Kept) (statement : Statement) : Type 0 where
  pub given : List Statement
  pub keeps : Keeps s limits given kept
  pub structure : Structure
  pub are_first : AreFirstStatements (given ++ statement ∷ []) structure
  pub few : length (flat_map statement_tokens (given ++ statement ∷ [])) < 2 ^ 64

-- An instance of this name stands there, and this is found of it
pub record FollowsFound (s : Schema) (limits : Limits) (kept : Kept) (n : ℕ) (entities : List ℕ) (needs : List Need) (text : List ℕ) : Type
    0 where
  pub record_ : Record
  pub found : HasFound s n record_ entities needs text
  pub follows : Follows s limits kept (instance n record_)

-- this is kept of the statements of a whole file, with its lines
pub record IsKeptOfFile (kept : Kept) : Type 0 where
  pub schema : Schema
  pub limits : Limits
  pub given : List Statement
  pub keeps : Keeps schema limits given kept
  pub structure : Structure
  pub text : List ℕ
  pub is_file : IsFile structure text
  pub statements_are : statements structure ≡ given
  pub lines : kept.lines ≡ with_lines
