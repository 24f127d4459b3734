-- The schema that kept declarations declare: all that a schema declaration says of it.
use Rattle.std.specs.Prelude.{◌≡◌, ℕ, List}
use Rattle.std.specs.List.{AllZip, enumerate_from}
use Rattle.p21_spec_schema.specs.Schema.{Schema}
use Rattle.p21_spec_schema.specs.Select.{IsSelect}
use Rattle.p21_spec_schema.specs.Declared.{HasNoCircle, HasSupertype, Renames, HasSelect, Declares}
use Rattle.p21_express_syntax.specs.Digest.{SchemaDigest}
use Rattle.p21_express_outline.specs.Outline.{IsOutline, digest_names}
use Rattle.p21_express_outline.specs.Redeclarations.{RedeclarationsAre}

-- no type is just the name of a select
abbrev pub RenamesNoSelect : Schema → Type 0
RenamesNoSelect s = (t u : ℕ) → Renames s t u → IsSelect s u → ⊥

-- each entity redeclares what its declaration says
abbrev pub AreRedeclared : SchemaDigest → Schema → Type 0
AreRedeclared k s = AllZip (λ x found. RedeclarationsAre s (digest_names k) k.entities x.0 x.1 found) (enumerate_from 0 k.entities)
    s.entities

pub record DeclaredBy (k : SchemaDigest) (s : Schema) : Type 0 where
  pub outline : IsOutline k s
  pub redeclared : AreRedeclared k s
  pub no_select : RenamesNoSelect s
  pub supertypes_end : HasNoCircle (HasSupertype s)
  pub renaming_ends : HasNoCircle (Renames s)
  pub selects_end : HasNoCircle (HasSelect s)

-- a text declares one schema at most
abbrev pub OneSchemaDeclared : Type 0
OneSchemaDeclared = (text : List ℕ) (s t : Schema) → Declares text s → Declares text t → s ≡ t
