-- The set of entities of a record, and the places that its parameters stand at, by its keywords alone (ISO 10303-21,
-- Mapping of EXPRESS entity data types: internal mapping, external mapping).
use Rattle.std.specs.Prelude.{ℕ, ◌↔◌, List, Contains}
use Rattle.std.specs.List.{zip}
use Rattle.p21_spec_file.specs.Meaning.{NamesEntity}
use Rattle.p21_spec_schema.specs.Order.{places, own_places}
use Rattle.p21_spec_exchange.specs.Parameter.{Param, listed}
use Rattle.p21_spec_exchange.specs.Record.{Part, Record, simple, complex, parts_of}
use Rattle.p21_spec_schema.specs.Schema.{Schema, Place}
use Rattle.p21_spec_schema.specs.Supertype.{IsA}

-- a simple record of the record has a keyword that names the entity
abbrev pub HasPart : Schema → Record → Part → ℕ → Type 0
HasPart s record_ part e = Contains (parts_of record_) part × NamesEntity s part.key e

-- the entities that its keywords name, and all direct and indirect supertypes of them
abbrev pub IsInEntitySet : Schema → Record → ℕ → Type 0
IsInEntitySet s record_ f = (part : Part) × (e : ℕ) × HasPart s record_ part e × IsA s e f

-- the entities are the set of the record
abbrev pub IsEntitySetOf : Schema → Record → List ℕ → Type 0
IsEntitySetOf s record_ entities = (f : ℕ) → Contains entities f ↔ IsInEntitySet s record_ f

-- the places of a simple record whose keyword names the entity: in internal mapping those of the entity's order, in
-- external mapping those that it declares itself
abbrev pub part_places : Schema → Record → ℕ → List Place
part_places s (simple part) e = places s e
part_places s (complex parts) e = own_places s e

-- the parameter stands at the place
abbrev pub HasParamAt : Schema → Record → Place → Param → Type 0
HasParamAt s record_ place p = (part : Part) × (e : ℕ) × HasPart s record_ part e × Contains (zip (part_places s record_ e) (listed part.params)) (place, p)
