-- Parameters at the places of entities, with the values that they stand for there and what these need.
use Rattle.std.specs.Prelude.{◌≡◌, ◌≢◌, ℕ, List, ◌++◌, map, reverse, Contains}
use Rattle.std.specs.List.{AllByRecursion as Each, flat_map, zip}
use Rattle.p21_spec_laws.specs.Needs.{FitsAtWithNeeds}
use Rattle.p21_spec_exchange.specs.Parameter.{Param, listed}
use Rattle.p21_spec_exchange.specs.Record.{Part, complex}
use Rattle.p21_express_graph.specs.Lookups.{places_from}
use Rattle.p21_spec_file.specs.BrokenValue.{BreaksAtPlace}
use Rattle.p21_spec_file.specs.RecordPlaces.{HasPart}
use Rattle.p21_spec_file.specs.Reference.{Need}
use Rattle.p21_spec_file.specs.Value.{Value, Values}
use Rattle.p21_grammar_tree.specs.declared.param.Param.{Param as Parameter}
use Rattle.p21_grammar_tree.specs.View as tree
use Rattle.p21_mapping_values.specs.KnownTypes.{HasKnownTypes}
use Rattle.p21_grammar_tree.specs.declared.fault.CheckFault.{CheckFault}
use Rattle.p21_grammar_tree.specs.declared.fault.CheckFault.TheVariants.{NoMemory}
use Rattle.p21_grammar_tree.specs.Fault.{fault_number}
use Rattle.p21_mapping_values.specs.View.{row_of_values}
use Rattle.p21_spec_schema.specs.Order.{own_places}
use Rattle.p21_spec_schema.specs.PlaceType.{PlaceType, TypeAt}
use Rattle.p21_spec_schema.specs.Schema.{Schema, Place}

-- a parameter at a place, its value there, and its needs
pub record FittedParam : Type 0 where
  pub place : Place
  pub param : Param
  pub value : Value
  pub needs : List Need

abbrev pub IsFitted : Schema → List ℕ → FittedParam → Type 0
IsFitted s entities f = (at : PlaceType) × TypeAt s entities f.place at × FitsAtWithNeeds s at f.param f.value f.needs
    × HasKnownTypes s f.value

-- parameters at places one by one
pub record FitsRow (s : Schema) (entities : List ℕ) (places : List Place) (ps : List Param) (vs : List Value) (needs : List Need) : Type
    0 where
  pub fitted : List FittedParam
  pub each : Each (IsFitted s entities) fitted
  pub places_are : map (λ (f : FittedParam). f.place) fitted ≡ places
  pub params_are : map (λ (f : FittedParam). f.param) fitted ≡ ps
  pub values_are : map (λ (f : FittedParam). f.value) fitted ≡ vs
  pub needs_are : flat_map (λ (f : FittedParam). f.needs) fitted ≡ needs

-- an entity, with the parameters at the places that it declares itself
pub record Row : Type 0 where
  pub owner : ℕ
  pub params : List Param
  pub values : List Value
  pub needs : List Need

abbrev pub IsRow : Schema → List ℕ → Row → Type 0
IsRow s entities row = FitsRow s entities (own_places s row.owner) row.params row.values row.needs

-- parameters at the places of entities one by one
pub record FitsRows (s : Schema) (entities owners : List ℕ) (pss : List (List Param)) (vss : List Values) (needs : List Need) : Type 0 where
  pub rows : List Row
  pub each : Each (IsRow s entities) rows
  pub owners_are : map (λ (row : Row). row.owner) rows ≡ owners
  pub params_are : map (λ (row : Row). row.params) rows ≡ pss
  pub values_are : map (λ (row : Row). row_of_values row.values) rows ≡ vss
  pub needs_are : flat_map (λ (row : Row). row.needs) rows ≡ needs

-- the parameters one by one
abbrev pub param_views : List Parameter → List Param
param_views ps = map tree.view ps

-- the parameters of a row that are taken from its end, the next one first
abbrev pub left_views : List Parameter → List Param
left_views left = param_views (reverse left)

-- a parameter fits at the place, and adds its needs
abbrev pub FitsHere : Schema → List ℕ → Place → Param → Value → List Need → List Need → Type 0
FitsHere s entities place p v old new = (added : List Need) × (new ≡ old ++ added)
    × IsFitted s entities (record { place = place; param = p; value = v; needs = added })

-- or it breaks the rule of the number
abbrev pub BreaksHere : Schema → List ℕ → Place → Param → ℕ → Type 0
BreaksHere s entities place p number = (at : PlaceType) × TypeAt s entities place at × BreaksAtPlace s at p number

abbrev pub RefusesHere : Schema → List ℕ → Place → Param → CheckFault → Type 0
RefusesHere s entities place p fault = fault ≢ NoMemory → BreaksHere s entities place p (fault_number fault)

-- the first places of an entity, from the front of parameters
pub record RowSoFar (s : Schema) (entities : List ℕ) (owner index : ℕ) (before after : List Param) (values : List Value)
    (old new : List Need) : Type 0 where
  pub params : List Param
  pub added : List Need
  pub taken : before ≡ params ++ after
  pub needed : new ≡ old ++ added
  pub fits : FitsRow s entities (places_from owner 0 index) params values added

-- a row is taken from the front of parameters
pub record TakesRow (s : Schema) (entities : List ℕ) (owner : ℕ) (before after : List Param) (values : List Value)
    (old new : List Need) : Type 0 where
  pub params : List Param
  pub added : List Need
  pub taken : before ≡ params ++ after
  pub needed : new ≡ old ++ added
  pub fits : FitsRow s entities (own_places s owner) params values added

-- a parameter at one of the places breaks the rule of the number
abbrev pub BreaksAmong : Schema → List ℕ → List (Place × Param) → ℕ → Type 0
BreaksAmong s entities pairs number = (place : Place) × (p : Param) × Contains pairs (place, p) × BreaksHere s entities place p number

abbrev pub RefusesAmong : Schema → List ℕ → List (Place × Param) → CheckFault → Type 0
RefusesAmong s entities pairs fault = fault ≢ NoMemory → BreaksAmong s entities pairs (fault_number fault)

-- a parameter at one of the places that the entity declares breaks the rule of the fault
abbrev pub RefusesRow : Schema → List ℕ → ℕ → List Param → CheckFault → Type 0
RefusesRow s entities owner params = RefusesAmong s entities (zip (own_places s owner) params)

-- rows of the first entities, from the front of parameters
pub record TakesRows (s : Schema) (entities owners : List ℕ) (before after : List Param) (rows : List Values) (old new : List Need) : Type
    0 where
  pub params : List (List Param)
  pub added : List Need
  pub taken : before ≡ flat_map (λ (ps : List Param). ps) params ++ after
  pub needed : new ≡ old ++ added
  pub fits : FitsRows s entities owners params rows added

-- rows of the first simple records
pub record TakesParts (s : Schema) (entities owners : List ℕ) (before after : List Part) (rows : List Values) (old new : List Need) : Type
    0 where
  pub parts : List Part
  pub added : List Need
  pub taken : before ≡ parts ++ after
  pub needed : new ≡ old ++ added
  pub fits : FitsRows s entities owners (map (λ (part : Part). listed part.params) parts) rows added

-- a parameter of a simple record breaks a rule
abbrev pub RefusesPart : Schema → List ℕ → List Part → CheckFault → Type 0
RefusesPart s entities parts fault = fault ≢ NoMemory
    → ((part : Part) × (e : ℕ) × HasPart s (complex parts) part e
    × BreaksAmong s entities (zip (own_places s e) (listed part.params)) (fault_number fault))
