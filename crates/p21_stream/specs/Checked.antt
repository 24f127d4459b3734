-- What is known of the statements that bytes end, as soon as these are taken (ISO 10303-21, formal definition of the
-- exchange structure; mapping from EXPRESS).
use Rattle.std.specs.Prelude.{◌≡◌, ℕ, List, [], ◌∷◌, ◌++◌, Contains, nat_eq}
use Rattle.std.specs.List.{IsDistinct, flat_map, AllByRecursion as Each}
use Rattle.p21_spec_laws.specs.Taken.{BeginsWith, instances_among, names_among}
use Rattle.p21_spec_exchange.specs.Header.{IsFileSchema}
use Rattle.p21_spec_exchange.specs.Laying.{Laid}
use Rattle.p21_spec_exchange.specs.Record.{Part, Record}
use Rattle.p21_spec_exchange.specs.Statement.{Statement, header, statement_tokens}
use Rattle.p21_spec_exchange.specs.Token.{Token, semicolon}
use Rattle.p21_spec_file.specs.Meaning.{RecordMeans, Typed}
use Rattle.p21_spec_file.specs.Reference.{EntitySets}
use Rattle.p21_grammar.specs.Histories.{BeginsFile}
use Rattle.p21_spec_schema.specs.Schema.{Schema}
use Rattle.p21_spec_schema.specs.SchemaName.{NamesSchema}

-- among some instances the record has a meaning
abbrev pub IsMeaningful : Schema → Record → Type 0
IsMeaningful s record_ = (kinds : EntitySets) × (meaning : Typed) × RecordMeans s kinds record_ meaning

-- These tokens, whole statements, are the first of statements with which a file may begin; of these the instances have
-- different names and mean something, and a FILE_SCHEMA names the schema
pub record AreChecked (s : Schema) (tokens : List Token) : Type 0 where
  pub statements : List Statement
  pub tokens_begin : BeginsWith tokens (flat_map statement_tokens statements)
  pub of_file : BeginsFile (flat_map statement_tokens statements) statements
  pub names_differ : IsDistinct nat_eq (names_among statements)
  pub records_mean : Each (λ (i : ℕ × Record). IsMeaningful s i.1) (instances_among statements)
  pub schema_named : (part : Part) (chars : List ℕ) → Contains statements (header part) → IsFileSchema part chars → NamesSchema chars s.name

-- where a prefix of the bytes is laid and its last token is a `;`, its statements are checked
abbrev pub ChecksStatements : Schema → List ℕ → Type 0
ChecksStatements s taken = (front rest : List ℕ) (tokens : List Token) → taken ≡ front ++ rest → Laid front (tokens ++ semicolon ∷ [])
    → AreChecked s (tokens ++ semicolon ∷ [])
