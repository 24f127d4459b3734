-- What the functions that read declarations answer.
use Rattle.std.specs.Prelude.{◌≡◌, ◌≢◌, ◌⊎◌, ◌+◌, ℕ, Bool, true, false, List, length, Option, Some, None, Result, Ok, Err}
use Rattle.p21_express_lexemes.specs.Taking.{Items, RefusalShows}
use Rattle.p21_express_lexemes.specs.declared.fault.SyntaxFault.{SyntaxFault}
use Rattle.p21_express_syntax.specs.Declaring.{DeclarationDigest, digest_of, begins_entity_or_type}
use Rattle.p21_express_syntax.specs.Digest.{SchemaDigest}
use Rattle.p21_express_syntax.specs.Views.{schema_view}
use Rattle.p21_express_syntax.specs.declared.schema.Declarations.{Declarations}
use Rattle.p21_spec_schema.specs.Declared.{most_declarations}

abbrev pub DeclarationsRead : List ℕ → Result Declarations SyntaxFault → Option (List DeclarationDigest × Items) → Items → Type 0
DeclarationsRead name (Ok declarations) read new = (ds : List DeclarationDigest) × (read ≡ Some (ds, new)) × (schema_view declarations ≡ digest_of name ds)
DeclarationsRead name (Err fault) read new = RefusalShows fault (read ≡ None)

abbrev pub SchemaRead : Result Declarations SyntaxFault → Option SchemaDigest → Type 0
SchemaRead (Ok declarations) read = read ≡ Some (schema_view declarations)
SchemaRead (Err fault) read = RefusalShows fault (read ≡ None)

abbrev pub digest_count : SchemaDigest → ℕ
digest_count held = length held.entities + length held.types

-- whether one declaration more is too many
abbrev pub SaysOneTooMany : Bool → SchemaDigest → Items → Type 0
SaysOneTooMany true held items = (digest_count held ≡ most_declarations) × (begins_entity_or_type items ≡ true)
SaysOneTooMany false held items = (digest_count held ≢ most_declarations) ⊎ (begins_entity_or_type items ≡ false)
