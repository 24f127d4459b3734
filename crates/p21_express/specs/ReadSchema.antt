-- What is read of a schema text, step by step.
use Rattle.std.specs.Prelude.{◌≡◌, ℕ, List, Result, Ok, Err}
use Rattle.p21_spec_schema.specs.Declared.{Declares, HasNoCircle, HasSupertype, Renames, HasSelect}
use Rattle.p21_spec_schema.specs.Schema.{Schema}
use Rattle.p21_spec_schema.specs.SchemaDeclaration.{SchemaDeclaration}
use Rattle.p21_express_outline.specs.Finding.{RefusalShows}
use Rattle.p21_express_outline.specs.declared.fault.SchemaFault.{SchemaFault}
use Rattle.p21_express_outline.specs.Bare.{bare}
use Rattle.p21_express_outline.specs.DeclaredBy.{DeclaredBy, RenamesNoSelect}
use Rattle.p21_express_outline.specs.Outline.{IsOutline}
use Rattle.p21_express_syntax.specs.Digest.{SchemaDigest}
use Rattle.p21_express_syntax.specs.Digesting.{schema_digest}
use Rattle.p21_express_syntax.specs.ReadDeclarations.{IsTextOf}
use Rattle.p21_express_graph.specs.SchemaContents.{schema_of, AreNamed}
use Rattle.p21_express_graph.specs.declared.schema_contents.SchemaContents.{SchemaContents}

-- the declarations are those of a text
abbrev pub AreOfText : SchemaDigest → Type 0
AreOfText k = (tree : SchemaDeclaration) × (text : List ℕ) × IsTextOf tree text × (k ≡ schema_digest tree)

-- the schema is what the declarations declare, but that nothing is redeclared
pub record IsBareSchema (k : SchemaDigest) (s : Schema) : Type 0 where
  pub outline : IsOutline k s
  pub is_bare : bare s ≡ s
  pub supertypes_end : HasNoCircle (HasSupertype s)
  pub renaming_ends : HasNoCircle (Renames s)
  pub no_select : RenamesNoSelect s
  pub selects_end : HasNoCircle (HasSelect s)

-- the declarations declare no schema
abbrev pub DeclareNoSchema : SchemaDigest → Type 0
DeclareNoSchema k = (s : Schema) → DeclaredBy k s → ⊥

-- the parts of such a schema, or none is declared
abbrev pub OutlineChecked : SchemaDigest → Result SchemaContents SchemaFault → Type 0
OutlineChecked k (Ok parts) = IsBareSchema k (schema_of parts) × AreNamed parts
OutlineChecked k (Err fault) = RefusalShows fault (DeclareNoSchema k)

-- these parts are those of such a schema, or none is declared
abbrev pub PartsChecked : SchemaDigest → SchemaContents → Result (Unit {0}) SchemaFault → Type 0
PartsChecked k parts (Ok _) = OutlineChecked k (Ok parts)
PartsChecked k parts (Err fault) = OutlineChecked k (Err fault)

-- such a schema, or none is declared
abbrev pub BareRead : SchemaDigest → Result Schema SchemaFault → Type 0
BareRead k (Ok s) = IsBareSchema k s
BareRead k (Err fault) = RefusalShows fault (DeclareNoSchema k)

-- the schema that is declared, or none is
abbrev pub SchemaDeclared : SchemaDigest → Result Schema SchemaFault → Type 0
SchemaDeclared k (Ok s) = DeclaredBy k s
SchemaDeclared k (Err fault) = RefusalShows fault (DeclareNoSchema k)

-- the schema that the text declares, or it declares none
abbrev pub SchemaRead : List ℕ → Result Schema SchemaFault → Type 0
SchemaRead text (Ok s) = Declares text s
SchemaRead text (Err fault) = RefusalShows fault ((s : Schema) → Declares text s → ⊥)
