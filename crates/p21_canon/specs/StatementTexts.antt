-- What a canonical statement is put together from.
use Rattle.std.specs.Prelude.{◌≡◌, ◌≢◌, ◌↔◌, ◌<◌, ℕ, length, Bool, true, false, List, [], ◌∷◌, ◌++◌, codes, Contains, Some, None, slice_get, nat_eq, if◌then◌else◌}
use Rattle.std.specs.List.{flat_map, IsDistinct, AllByRecursion as Each}
use Rattle.p21_spec_file.specs.Meaning.{Typed}
use Rattle.p21_spec_file.specs.Value.{Values, no_values}
use Rattle.p21_spec_file.specs.ValueText.{list_text, value_texts, with_commas, with_commas_between}
use Rattle.p21_spec_schema.specs.Schema.{Schema}
use Rattle.p21_spec_schema.specs.Supertype.{InClosure, IsA}
use Rattle.p21_spec_exchange.specs.Token.{IsSpelled}
use Rattle.p21_spec_exchange.specs.Spelling.{name_spelling}
use Rattle.p21_spec_exchange.specs.Token as token
use Rattle.p21_express_graph.specs.Lookups.{AreEntities}
use Rattle.p21_mapping_values.specs.KnownTypes.{HaveKnownTypes}
use Rattle.p21_mapping_values.specs.Spelled.{AreSpelled}

-- the name of the entity of this number
abbrev pub entity_name : Schema → ℕ → List ℕ
entity_name s e = elim (slice_get s.entities e) [ Some x ↦ x.name | None ↦ [] ]

-- the values beside an entity
abbrev pub row_among : List ℕ → List Values → ℕ → Values
row_among [] rows e = no_values
row_among (f ∷ es) [] e = no_values
row_among (f ∷ es) (vs ∷ rows) e = if nat_eq f e then vs else row_among es rows e

-- the values that the meaning has for the places that the entity declares itself
abbrev pub row_of : Typed → ℕ → Values
row_of meaning e = row_among meaning.entities meaning.values e

-- the texts of the values of some entities
abbrev pub rows_texts : Schema → Typed → List ℕ → List (List ℕ)
rows_texts s meaning entities = flat_map (λ e. value_texts s (row_of meaning e)) entities

-- texts with a comma between each two, and one in front where they are not the first
abbrev pub texts_behind : Bool → List (List ℕ) → List ℕ
texts_behind true texts = with_commas_between texts
texts_behind false texts = with_commas texts

-- whether what stands behind them is the first still
abbrev pub still_first : Bool → List (List ℕ) → Bool
still_first first [] = first
still_first first (x ∷ xs) = false

-- a keyword, and texts in parentheses
abbrev pub part_text : Schema → ℕ → List (List ℕ) → List ℕ
part_text s e texts = entity_name s e ++ list_text texts

-- an entity beside each row
abbrev pub parts_text : Schema → List ℕ → List Values → List ℕ
parts_text s [] rows = []
parts_text s (e ∷ es) [] = []
parts_text s (e ∷ es) (vs ∷ rows) = part_text s e (value_texts s vs) ++ parts_text s es rows

-- a name, `=`, a record and `;`
abbrev pub statement_of : ℕ → List ℕ → List ℕ
statement_of n body = name_spelling n ++ (codes "=" ++ (body ++ codes ";"))

-- the keyword and the values of an entity have spellings
abbrev pub IsSpelledPart : Schema → ℕ → Values → Type 0
IsSpelledPart s e vs = IsSpelled (token.keyword (entity_name s e)) × AreSpelled s vs

abbrev pub AreSpelledParts : Schema → List ℕ → List Values → Type 0
AreSpelledParts s [] rows = Unit {0}
AreSpelledParts s (e ∷ es) [] = Unit {0}
AreSpelledParts s (e ∷ es) (vs ∷ rows) = IsSpelledPart s e vs × AreSpelledParts s es rows

-- the entities have no other direct and indirect supertypes, and none is there twice
pub record IsClosedSet (s : Schema) (entities : List ℕ) : Type 0 where
  pub distinct : IsDistinct nat_eq entities
  pub closed : (f : ℕ) → InClosure s entities f → Contains entities f

-- the set is the entity and its direct and indirect supertypes
abbrev pub IsClosureOf : Schema → List ℕ → ℕ → Type 0
IsClosureOf s entities e = (f : ℕ) → Contains entities f ↔ IsA s e f

-- each is an entity of the schema, none is there twice, each has a row, and each type in the rows is one of the schema
pub record HasRows (s : Schema) (meaning : Typed) : Type 0 where
  pub entities_are : AreEntities s meaning.entities
  pub distinct : IsDistinct nat_eq meaning.entities
  pub long : length meaning.entities ≡ length meaning.values
  pub known : Each (HaveKnownTypes s) meaning.values

-- the number stands there, and nowhere before
abbrev pub IsFirstAt : List ℕ → ℕ → ℕ → Type 0
IsFirstAt xs x k = (slice_get xs k ≡ Some x) × ((j : ℕ) → j < k → slice_get xs j ≢ Some x)
