-- The simple records of an instance of external mapping that is taken straight from its bytes.
use Rattle.std.specs.Prelude.{◌≡◌, ℕ, ◌-◌, List, [], ◌∷◌, ◌++◌, map}
use Rattle.std.specs.List.{AllByRecursion as Each, flat_map}
use Rattle.p21_spec_laws.specs.Needs.{FitsAtWithNeeds}
use Rattle.p21_spec_exchange.specs.Parameter.{key_of, more_tokens, params_tokens}
use Rattle.p21_spec_exchange.specs.Record.{Part, part_tokens}
use Rattle.p21_spec_exchange.specs.Token.{right, semicolon}
use Rattle.p21_spec_file.specs.Reference as meant
use Rattle.p21_spec_file.specs.ValueText.{with_commas, with_commas_between}
use Rattle.p21_express_graph.specs.Lookups.{places_from}
use Rattle.p21_mapping_values.specs.declared.need.Need.{Need}
use Rattle.p21_mapping_values.specs.TypedView.{need_view}
use Rattle.p21_spec_schema.specs.Order.{own_places}
use Rattle.p21_spec_schema.specs.PlaceType.{PlaceType, TypeAt}
use Rattle.p21_spec_schema.specs.Schema.{EntityNamed, Place, Schema}
use Rattle.p21_shorter_instances.specs.declared.taken.Taken.{Taken}
use Rattle.p21_shorter_instances.specs.TakenParameters.{IsPlacedParameter, PlacedParameter, TakesPlaces, TakesTokens, needs_at, params_at, places_at, texts_at}
use Rattle.p21_shorter_instances.specs.ExternalSet.{IsNumberedSet, IsExternalSet}
use Rattle.p21_shorter_instances.specs.TakenValues.{LaidBefore, TakesWithNeeds, with_text}

-- a parameter that fits the place in an instance with this set is laid at the front, with the rest behind it
abbrev pub TakesAtPlace : Schema → List ℕ → Place → List ℕ → List ℕ → Taken → Taken → Type 0
TakesAtPlace s entities place bytes rest old new = (at : PlaceType) × TypeAt s entities place at
    × TakesWithNeeds s (FitsAtWithNeeds s at) 64 bytes rest old new

-- parameters at the places that an entity declares itself
abbrev pub TakesOwnPlaces : Schema → List ℕ → ℕ → List ℕ → List ℕ → Taken → Taken → Type 0
TakesOwnPlaces s entities e = TakesPlaces s entities params_tokens with_commas_between (own_places s e)

-- the same up to a place, from the second on, with a comma before each
abbrev pub TakesFurtherPlaces : Schema → List ℕ → ℕ → ℕ → List ℕ → List ℕ → Taken → Taken → Type 0
TakesFurtherPlaces s entities e count = TakesPlaces s entities more_tokens with_commas (places_from e 1 (count - 1))

-- the simple record of an entity: its keyword, and parameters at the places that the entity declares itself
pub record OwnRecord : Type 0 where
  pub owner : ℕ
  pub word : List ℕ
  pub placed : List PlacedParameter

-- it is so in an instance with this set
pub record IsOwnRecord (s : Schema) (entities : List ℕ) (o : OwnRecord) : Type 0 where
  pub named : EntityNamed s o.owner o.word
  pub places_are : places_at o.placed ≡ own_places s o.owner
  pub each : Each (IsPlacedParameter s entities) o.placed

abbrev pub part_of : OwnRecord → Part
part_of o = record { key = key_of o.word; params = params_at o.placed }

abbrev pub parts_at : List OwnRecord → List Part
parts_at os = map part_of os

abbrev pub owners_at : List OwnRecord → List ℕ
owners_at os = map (λ (o : OwnRecord). o.owner) os

abbrev pub needs_in : List OwnRecord → List meant.Need
needs_in os = flat_map (λ (o : OwnRecord). needs_at o.placed) os

-- its canonical text
abbrev pub own_record_text : Schema → OwnRecord → List ℕ
own_record_text s o = o.word ++ (40 ∷ (with_commas_between (texts_at s o.placed) ++ 41 ∷ []))

abbrev pub own_record_texts : Schema → List OwnRecord → List ℕ
own_record_texts s os = flat_map (own_record_text s) os

-- Simple records of these entities are laid at the front, and their canonical texts are appended. What they need is added to
-- the needs before, in their order
pub record TakesParts (s : Schema) (entities owners bytes rest : List ℕ) (old new : Taken) : Type 0 where
  pub owned : List OwnRecord
  pub each : Each (IsOwnRecord s entities) owned
  pub owners_are : owners_at owned ≡ owners
  pub added : List Need
  pub needs_are : new.needs.items ≡ old.needs.items ++ added
  pub added_are : needs_in owned ≡ map need_view added
  pub laid : LaidBefore bytes (flat_map part_tokens (parts_at owned)) rest
  pub text_is : new.draft ≡ old.draft ++ own_record_texts s owned

-- those of all entities of the set, and the end of the statement behind them
pub record TakesRecord (s : Schema) (entities bytes rest : List ℕ) (old new : Taken) : Type 0 where
  pub middle : List ℕ
  pub between : List ℕ
  pub parts : TakesParts s entities entities bytes middle old (with_text between new)
  pub end : TakesTokens (right ∷ semicolon ∷ []) (41 ∷ 59 ∷ []) middle rest between new.draft

-- the same with a set of external mapping, which has this number among others
pub record TakesNumbered (s : Schema) (sets : List (List ℕ)) (at : ℕ) (bytes rest : List ℕ) (old new : Taken) : Type 0 where
  pub entities : List ℕ
  pub numbered : IsNumberedSet sets at entities
  pub usual : IsExternalSet s entities
  pub takes : TakesRecord s entities bytes rest old new
