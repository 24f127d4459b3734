-- The parameters of a record with the places at which they stand (ISO 10303-21, Mapping of EXPRESS entity data types: internal
-- mapping, external mapping).
use Rattle.std.specs.Prelude.{◌≡◌, ℕ, List, [], ◌∷◌, ◌++◌, length}
use Rattle.std.specs.List.{zip, AllByRecursion as Each}
use Rattle.p21_spec_exchange.specs.Parameter.{Param, listed}
use Rattle.p21_spec_exchange.specs.Record.{Part, Record, simple, complex}
use Rattle.p21_spec_file.specs.Meaning.{FitsPlace, NamesEntity, Typed}
use Rattle.p21_spec_file.specs.Reference.{EntitySets}
use Rattle.p21_spec_schema.specs.Order.{places, own_places}
use Rattle.p21_spec_schema.specs.Schema.{Place, Schema}

-- a place, and the parameter that stands at it
abbrev pub Row : Type 0
Row = Place × Param

-- the parameters of a simple record, at the places that go with the entity that its keyword names
pub record ArePartRows (s : Schema) (places_of : ℕ → List Place) (part : Part) (rows : List Row) : Type 0 where
  pub entity : ℕ
  pub named : NamesEntity s part.key entity
  pub as_many : length (places_of entity) ≡ length (listed part.params)
  pub rows_are : rows ≡ zip (places_of entity) (listed part.params)

-- those of simple records in external mapping, where each has the places that its entity declares itself
abbrev pub ArePartsRows : Schema → List Part → List Row → Type 0
ArePartsRows s [] rows = rows ≡ []
ArePartsRows s (part ∷ parts) rows = (own more : List Row) × ArePartRows s (own_places s) part own × ArePartsRows s parts more
    × (rows ≡ own ++ more)

-- those of a record, in its order
abbrev pub AreRowsOf : Schema → Record → List Row → Type 0
AreRowsOf s (simple part) rows = ArePartRows s (places s) part rows
AreRowsOf s (complex parts) rows = ArePartsRows s parts rows

-- each parameter stands for the value that the meaning has at its place
abbrev pub AreMeant : Schema → EntitySets → Typed → List Row → Type 0
AreMeant s kinds meaning rows = Each (λ (row : Row). FitsPlace s kinds meaning row.0 row.1) rows
