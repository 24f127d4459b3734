-- The laws of what a record needs of the instances that it refers to.
use Rattle.std.specs.Prelude.{◌≡◌, ◌↔◌, List, map}
use Rattle.std.specs.List.{AllByRecursion as Each}
use Rattle.p21_spec_schema.specs.WellFormed.{IsWellFormed}
use Rattle.p21_spec_laws.specs.Needs.{FitPlacesWithNeeds, MeansWithNeeds, AreNeedsOfRecord}
use Rattle.p21_spec_exchange.specs.Parameter.{Params}
use Rattle.p21_spec_exchange.specs.Record.{Record}
use Rattle.p21_spec_file.specs.Meaning.{FitPlaces, RecordMeans, Typed}
use Rattle.p21_spec_file.specs.Reference.{IsServed, EntitySets, Need, record_references}
use Rattle.p21_spec_schema.specs.Schema.{Place, Schema}

-- a record that means something among some instances means it exactly among those that serve its needs
abbrev pub ServedNeedsDecideMeaning : Type 0
ServedNeedsDecideMeaning = (s : Schema) → IsWellFormed s → (record_ : Record) (meaning : Typed) (needs : List Need) → MeansWithNeeds s record_ meaning needs → (kinds : EntitySets) → RecordMeans s kinds record_ meaning ↔ Each (IsServed s kinds) needs

-- each record that means something has needs
abbrev pub RecordHasNeeds : Type 0
RecordHasNeeds = (s : Schema) (kinds : EntitySets) (record_ : Record) (meaning : Typed) → RecordMeans s kinds record_ meaning → (needs : List Need) × AreNeedsOfRecord s record_ meaning needs

-- their targets are the instance names in its parameters, as they stand
abbrev pub NeedsAreReferences : Type 0
NeedsAreReferences = (s : Schema) (record_ : Record) (meaning : Typed) (needs : List Need) → AreNeedsOfRecord s record_ meaning needs → map (λ (need : Need). need.target) needs ≡ record_references record_

-- some instances serve them all
abbrev pub NeedsCanBeServed : Type 0
NeedsCanBeServed = (s : Schema) (record_ : Record) (meaning : Typed) (needs : List Need) → AreNeedsOfRecord s record_ meaning needs → (kinds : EntitySets) × Each (IsServed s kinds) needs

-- among instances that serve them the parameters fit
abbrev pub ServedParamsFit : Type 0
ServedParamsFit = (s : Schema) (kinds : EntitySets) (meaning : Typed) (places : List Place) (params : Params) (needs : List Need) → FitPlacesWithNeeds s meaning places params needs → Each (IsServed s kinds) needs → FitPlaces s kinds meaning places params
