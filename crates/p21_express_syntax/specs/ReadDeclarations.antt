-- What the reader of a schema text owes.
use Rattle.std.specs.Prelude.{◌≡◌, ℕ, ◌≤◌, List, length, Result, Ok, Err}
use Rattle.p21_spec_schema.specs.ExpressLaying.{LaidLexemes}
use Rattle.p21_spec_schema.specs.SchemaDeclaration.{SchemaDeclaration, schema_lexemes, IsSchemaDeclaration}
use Rattle.p21_express_lexemes.specs.Taking.{RefusalShows}
use Rattle.p21_express_lexemes.specs.declared.fault.SyntaxFault.{SyntaxFault}
use Rattle.p21_express_syntax.specs.Digesting.{schema_digest}
use Rattle.p21_express_syntax.specs.Views.{schema_view}
use Rattle.p21_express_syntax.specs.Within.{IsSchemaWithin}
use Rattle.p21_express_syntax.specs.declared.schema.Declarations.{Declarations}
use Rattle.p21_spec_basics.specs.Limits.{text_limit}

-- the text is a schema declaration within the limits
pub record IsTextOf (x : SchemaDeclaration) (text : List ℕ) : Type 0 where
  pub laid : LaidLexemes (schema_lexemes x) text
  pub is_schema : IsSchemaDeclaration x
  pub is_within : IsSchemaWithin x
  pub is_short : length text ≤ text_limit

-- what was answered is kept of the declaration whose text it is; a refusal, where it is the text of none
abbrev pub ReadsDeclarations : List ℕ → Result Declarations SyntaxFault → Type 0
ReadsDeclarations text (Ok declarations) = (x : SchemaDeclaration) × IsTextOf x text × (schema_view declarations ≡ schema_digest x)
ReadsDeclarations text (Err fault) = RefusalShows fault ((x : SchemaDeclaration) → IsTextOf x text → ⊥)

-- what is kept of a text is one
abbrev pub TextHasOneDigest : Type 0
TextHasOneDigest = (text : List ℕ) (x y : SchemaDeclaration) → IsTextOf x text → IsTextOf y text → schema_digest x ≡ schema_digest y
