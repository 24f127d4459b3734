-- The names of the entities and types of a schema, as the code has them.
use Rattle.std.specs.Prelude.{◌≡◌, ℕ, ◌+◌, ◌≤◌, List, ◌++◌, length, Contains, Result, Ok, Err}
use Rattle.std.specs.List.{IsDistinct, AllByRecursion as Each}
use Rattle.std.specs.Str.{bytes_eq}
use Rattle.p21_spec_schema.specs.Declared.{most_declarations}
use Rattle.p21_express_outline.specs.Finding.{RefusalShows}
use Rattle.p21_express_outline.specs.declared.fault.SchemaFault.{SchemaFault}
use Rattle.p21_express_graph.specs.declared.schema_contents.KnownNames.{KnownNames}
use Rattle.p21_express_outline.specs.Outline.{Named}

abbrev pub names_of : KnownNames → Named
names_of known = record { entities = known.entities; types = known.types }

-- their numbers are small
abbrev pub AreFew : KnownNames → Type 0
AreFew known = length known.entities + length known.types ≤ most_declarations

-- none of the others is among the names
abbrev pub AreOthers : List (List ℕ) → List (List ℕ) → Type 0
AreOthers names others = Each (λ name. Contains names name → ⊥) others

-- the names, which are all different, or they aren't
abbrev pub KnowsNames : Named → Result KnownNames SchemaFault → Type 0
KnowsNames n (Ok known) = (names_of known ≡ n) × IsDistinct bytes_eq (n.entities ++ n.types)
KnowsNames n (Err fault) = RefusalShows fault (IsDistinct bytes_eq (n.entities ++ n.types) → ⊥)

-- the names are all different
abbrev pub AreDifferent : KnownNames → Type 0
AreDifferent known = IsDistinct bytes_eq ((names_of known).entities ++ (names_of known).types)
