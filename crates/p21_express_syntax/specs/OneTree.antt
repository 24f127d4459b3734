-- A text is that of one schema declaration at most, within whatever limits: its lexemes are one list, and these have one tree.
use Rattle.std.specs.Prelude.{◌≡◌, ℕ, List}
use Rattle.p21_spec_schema.specs.ExpressLaying.{LaidLexemes}
use Rattle.p21_spec_schema.specs.SchemaDeclaration.{SchemaDeclaration, schema_lexemes, IsSchemaDeclaration}

abbrev pub LexemesHaveOneTree : Type 0
LexemesHaveOneTree = (x y : SchemaDeclaration) → IsSchemaDeclaration x → IsSchemaDeclaration y → schema_lexemes x ≡ schema_lexemes y → x ≡ y

abbrev pub TextHasOneTree : Type 0
TextHasOneTree = (text : List ℕ) (x y : SchemaDeclaration) → IsSchemaDeclaration x → IsSchemaDeclaration y → LaidLexemes (schema_lexemes x) text → LaidLexemes (schema_lexemes y) text → x ≡ y
