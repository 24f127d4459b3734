-- What is known of the records of internal form of an entity.
use Rattle.std.specs.Prelude.{◌≡◌, ◌≢◌, ℕ, List, length, map, Contains}
use Rattle.std.specs.List.{AllByRecursion as Each, AllZip, zip}
use Rattle.p21_express_graph.specs.Meaning.{place_type}
use Rattle.p21_grammar_tree.specs.Fault.{fault_number}
use Rattle.p21_grammar_tree.specs.declared.fault.CheckFault.{CheckFault}
use Rattle.p21_grammar_tree.specs.declared.fault.CheckFault.TheVariants.{NoMemory}
use Rattle.p21_mapping.specs.Shape.{PassesOwnSet, RefusesOwnSet}
use Rattle.p21_mapping.specs.declared.known.Known.{Known}
use Rattle.p21_mapping.specs.declared.known.Known.TheVariants.{Counted, Places, Refused}
use Rattle.p21_mapping.specs.declared.known.KnownEntity.{KnownEntity}
use Rattle.p21_spec_exchange.specs.Parameter.{Param}
use Rattle.p21_spec_file.specs.BrokenValue.{BreaksAtPlace}
use Rattle.p21_spec_schema.specs.Order.{order, places}
use Rattle.p21_spec_schema.specs.PlaceType.{PlaceType, TypeAt}
use Rattle.p21_spec_schema.specs.Schema.{Schema}

-- these may stand at the places of the entity's own set, in the order of internal mapping
abbrev pub AreOwnTypes : Schema → ℕ → List PlaceType → Type 0
AreOwnTypes s e types = AllZip (TypeAt s (order s e)) (places s e) types

-- its records are refused by this fault; or they have so many places; or it may have instances, and these may stand at the places of one
abbrev pub IsKnown : Schema → ℕ → Known → Type 0
IsKnown s e (Refused fault) = RefusesOwnSet s e fault
IsKnown s e (Counted count) = count ≡ length (places s e)
IsKnown s e (Places types) = PassesOwnSet s e × AreOwnTypes s e (map place_type types.items)

-- all that is known is right
abbrev pub AreKnown : Schema → List KnownEntity → Type 0
AreKnown s all = Each (λ (k : KnownEntity). IsKnown s k.entity.0 k.known) all

-- a parameter breaks the rule of this number at what may stand at its place
abbrev pub BreaksParams : Schema → List PlaceType → List Param → ℕ → Type 0
BreaksParams s types params number = (at : PlaceType) × (p : Param) × Contains (zip types params) (at, p) × BreaksAtPlace s at p number

-- a refusal other than want of memory has the number of such a rule
abbrev pub RefusesParams : Schema → List PlaceType → List Param → CheckFault → Type 0
RefusesParams s types params fault = fault ≢ NoMemory → BreaksParams s types params (fault_number fault)
