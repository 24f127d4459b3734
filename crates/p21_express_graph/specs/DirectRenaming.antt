-- Types that rename others, and for each type the last one of those that it renames, one behind the other (ISO 10303-11,
-- Defined data type).
use Rattle.std.specs.Prelude.{◌≡◌, ℕ, List, [], ◌∷◌, Some, length, slice_index_or}
use Rattle.p21_spec_schema.specs.Schema as schema
use Rattle.p21_spec_schema.specs.Schema.{Schema, TypeUse, Kind, defined, alias, kind_of}
use Rattle.p21_express_graph.specs.Resolved.{IsType}

-- from type to type, each the declaration of the one before, one comes to the last
pub data ComesTo (s : Schema) : TypeUse → TypeUse → Type 0 where
  at_itself : (type : TypeUse) → ComesTo s type type
  through : (t : ℕ) (type last : TypeUse) → kind_of s t ≡ Some (alias type) → ComesTo s type last → ComesTo s (defined t) last

-- no declared type
abbrev pub IsPlain : TypeUse → Type 0
IsPlain (defined t) = ⊥
IsPlain other = Unit {0}

-- the declared type that a type is just the name of
abbrev pub renamed_by : TypeUse → List ℕ
renamed_by (schema.defined t) = t ∷ []
renamed_by other = []

abbrev pub direct_renaming : Kind → List ℕ
direct_renaming (schema.alias type) = renamed_by type
direct_renaming other = []

-- a type that is this renames no declared type
abbrev pub RenamesNone : Kind → Type 0
RenamesNone kind = (type : TypeUse) → kind ≡ alias type → IsPlain type

-- one comes from the first type to the last, which renames no declared one
pub record IsEnd (s : Schema) (t last : ℕ) : Type 0 where
  pub comes : ComesTo s (defined t) (defined last)
  pub is_type : IsType s last
  pub no_more : (type : TypeUse) → kind_of s last ≡ Some (alias type) → IsPlain type

-- the table has the last one for each type
pub record AreEnds (s : Schema) (ends : List ℕ) : Type 0 where
  pub size : length ends ≡ length s.types
  pub each : (t : ℕ) → IsType s t → IsEnd s t (slice_index_or ends t 0)
