-- What the record of an instance means (ISO 10303-21, Mapping of EXPRESS entity data types: internal mapping, external
-- mapping; ISO 10303-11, Subtypes and supertypes: abstract entities).
use Rattle.std.specs.Prelude.{◌≡◌, ℕ, ◌<◌, ◌↔◌, List, [], ◌∷◌, length, Some, Contains, nat_eq}
use Rattle.std.specs.List.{AllZip, IsDistinct, zip, AllByRecursion as Each}
use Rattle.p21_spec_schema.specs.Schema.{Schema, Place, EntityNamed, IsAbstract, attributes_of, AreRisingByName}
use Rattle.p21_spec_schema.specs.Supertype.{IsA, InClosure, IsLeaf}
use Rattle.p21_spec_schema.specs.OneOf.{Clashes}
use Rattle.p21_spec_schema.specs.Order.{places, own_places}
use Rattle.p21_spec_schema.specs.PlaceType.{PlaceType, two_redeclarations, TypeAt}
use Rattle.p21_spec_exchange.specs.Parameter.{Key, Param, Params, no_params, param, key_of}
use Rattle.p21_spec_exchange.specs.Record.{Part, Record, simple, complex}
use Rattle.p21_spec_file.specs.Value.{Value, Values, count, value_at}
use Rattle.p21_spec_file.specs.Reference.{EntitySets}
use Rattle.p21_spec_file.specs.Fits.{FitsAt}

-- the meaning of a record: its set of entities, rising by keyword, and for each the values of the places that it declares
pub record Typed : Type 0 where
  pub entities : List ℕ
  pub values : List Values

-- these are the values that the meaning has for the entity's own places
abbrev pub HasValues : Typed → ℕ → Values → Type 0
HasValues meaning e vs = Contains (zip meaning.entities meaning.values) (e, vs)

-- the value that the meaning has at the place
abbrev pub HasValueAt : Typed → Place → Value → Type 0
HasValueAt meaning place v = (vs : Values) × HasValues meaning place.entity vs × (value_at vs place.index ≡ Some v)

-- the parameter fits the place, and stands for the value that the meaning has there
abbrev pub FitsPlace : Schema → EntitySets → Typed → Place → Param → Type 0
FitsPlace s kinds meaning place p = (at : PlaceType) × (v : Value) × TypeAt s meaning.entities place at × FitsAt s kinds at p v × HasValueAt meaning place v

-- the parameters fit the places one by one
abbrev pub FitPlaces : Schema → EntitySets → Typed → List Place → Params → Type 0
FitPlaces s kinds meaning [] no_params = Unit {0}
FitPlaces s kinds meaning [] (param p ps) = ⊥
FitPlaces s kinds meaning (place ∷ rest) no_params = ⊥
FitPlaces s kinds meaning (place ∷ rest) (param p ps) = FitsPlace s kinds meaning place p × FitPlaces s kinds meaning rest ps

-- the keyword is the name of the entity
abbrev pub NamesEntity : Schema → Key → ℕ → Type 0
NamesEntity s key e = (name : List ℕ) × EntityNamed s e name × (key ≡ key_of name)

-- internal mapping: the keyword names an entity whose closure the set is, and the parameters fit the places of its order
pub record MeansInternal (s : Schema) (kinds : EntitySets) (part : Part) (meaning : Typed) : Type 0 where
  pub entity : ℕ
  pub named : NamesEntity s part.key entity
  pub closure : (f : ℕ) → Contains meaning.entities f ↔ IsA s entity f
  pub fit : FitPlaces s kinds meaning (places s entity) part.params

-- a part of external mapping: the keyword names the entity, and the parameters fit the places that it declares itself
abbrev pub PartMeans : Schema → EntitySets → Typed → Part → ℕ → Type 0
PartMeans s kinds meaning part e = NamesEntity s part.key e × FitPlaces s kinds meaning (own_places s e) part.params

-- external mapping: one part or more, in any order, one for each entity of the set, which is its own closure
pub record MeansExternal (s : Schema) (kinds : EntitySets) (parts : List Part) (meaning : Typed) : Type 0 where
  pub some_parts : 0 < length parts
  pub entities : List ℕ
  pub distinct : IsDistinct nat_eq entities
  pub same_entities : (f : ℕ) → Contains entities f ↔ Contains meaning.entities f
  pub closed : (f : ℕ) → InClosure s entities f → Contains entities f
  pub parts_mean : AllZip (PartMeans s kinds meaning) parts entities

-- a simple record by internal mapping, a list of simple records by external mapping
abbrev pub MeansByMapping : Schema → EntitySets → Record → Typed → Type 0
MeansByMapping s kinds (simple part) meaning = MeansInternal s kinds part meaning
MeansByMapping s kinds (complex parts) meaning = MeansExternal s kinds parts meaning

-- as many values as the entity has places of its own
abbrev pub HasOwnCount : Schema → ℕ → Values → Type 0
HasOwnCount s e vs = count vs ≡ length (attributes_of s e)

-- no redeclarations leave a place of the entity open
abbrev pub HasPlaceTypes : Schema → List ℕ → ℕ → Type 0
HasPlaceTypes s entities e = Each (λ place. ¬ TypeAt s entities place two_redeclarations) (own_places s e)

-- what the record of an instance means, where the sets of all instances are known
pub record RecordMeans (s : Schema) (kinds : EntitySets) (record_ : Record) (meaning : Typed) : Type 0 where
  pub rising : AreRisingByName s meaning.entities
  pub own_counts : AllZip (HasOwnCount s) meaning.entities meaning.values
  pub no_abstract_leaf : (e : ℕ) → IsLeaf s meaning.entities e → ¬ IsAbstract s e
  pub no_clash : ¬ Clashes s meaning.entities
  pub place_types : Each (HasPlaceTypes s meaning.entities) meaning.entities
  pub means : MeansByMapping s kinds record_ meaning
