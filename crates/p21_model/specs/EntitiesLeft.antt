-- What is left of the entity set of an instance.
use Rattle.std.specs.Prelude.{◌≡◌, ◌↔◌, ◌+◌, ℕ, List, [], ◌∷◌, ◌++◌, Option, Some, None, Contains, length}
use Rattle.p21_express_graph.specs.Orders.{numbers}
use Rattle.p21_express_graph.specs.declared.number.EntityId.{EntityId}
use Rattle.p21_model.specs.declared.entities.Entities.{Entities}
use Rattle.p21_model.specs.Left.{AreLeftParts}
use Rattle.p21_model_values.specs.Written.{AreLeft}
use Rattle.p21_spec_exchange.specs.Parameter.{Params}
use Rattle.p21_spec_exchange.specs.Record.{Part, Record, simple, complex}
use Rattle.p21_spec_file.specs.CanonicalTexts.{IsInstanceText}
use Rattle.p21_spec_file.specs.Meaning.{NamesEntity}
use Rattle.p21_spec_schema.specs.Order.{order}
use Rattle.p21_spec_schema.specs.Schema.{Schema}

-- the entities that the keywords of simple records name
abbrev pub ArePartEntities : Schema → List Part → List ℕ → Type 0
ArePartEntities s [] entities = entities ≡ []
ArePartEntities s (part ∷ parts) entities = (e : ℕ) × (more : List ℕ) × NamesEntity s part.key e × ArePartEntities s parts more
    × (entities ≡ e ∷ more)

-- those of a record: in internal mapping the entity that the keyword names and all above it
abbrev pub AreEntitiesOf : Schema → Record → List ℕ → Type 0
AreEntitiesOf s (simple part) entities = (e : ℕ) × NamesEntity s part.key e × (entities ≡ order s e)
AreEntitiesOf s (complex parts) entities = ArePartEntities s parts entities

-- these entities are left of a simple record whose values come next, and behind them simple records
pub record AreLeftEntities (s : Schema) (owners bytes entities : List ℕ) : Type 0 where
  pub params : Params
  pub after : List ℕ
  pub left : AreLeft params after bytes
  pub parts : List Part
  pub end : List ℕ
  pub behind : AreLeftParts parts end after
  pub later : List ℕ
  pub later_are : ArePartEntities s parts later
  pub entities_are : entities ≡ owners ++ later

-- these entities are left
abbrev pub TellsEntities : Entities → List ℕ → Type 0
TellsEntities a entities = AreLeftEntities a.schema.now (numbers a.owners.now) a.values.rest.now entities

-- the schema that declares them
abbrev pub set_schema : Entities → Schema
set_schema a = a.schema.now

-- the entities in front of the next value, and the bytes from it on
abbrev pub entities_size : Entities → ℕ
entities_size a = length a.owners.now + length a.values.rest.now

-- the next of them is handed out, and the others are left
abbrev pub HandsOutEntity : List ℕ → Option EntityId → Entities → Type 0
HandsOutEntity [] None new = Unit {0}
HandsOutEntity [] (Some found) new = ⊥
HandsOutEntity (e ∷ entities) None new = ⊥
HandsOutEntity (e ∷ entities) (Some found) new = (found.0 ≡ e) × TellsEntities new entities

-- all entities of the instance's set are handed out, and no others
pub record TellsSet {s : Schema} {n : ℕ} {record_ : Record} {text : List ℕ} (stated : IsInstanceText s n record_ text)
    (entities : Entities) : Type 0 where
  pub set : List ℕ
  pub same : (f : ℕ) → Contains set f ↔ Contains stated.canonical_meaning.entities f
  pub tells : TellsEntities entities set
