-- What is known of a record once its keywords and the numbers of its parameters are looked at.
use Rattle.std.specs.Prelude.{◌≡◌, ◌≢◌, ℕ, List, length, nat_eq, slice_get, Option, Some, None, Contains}
use Rattle.std.specs.List.{AllByRecursion as Each, AllZip, IsDistinct}
use Rattle.p21_spec_exchange.specs.Parameter.{listed}
use Rattle.p21_spec_exchange.specs.Record.{Part, Record, simple, complex}
use Rattle.p21_express_graph.specs.Orders.{numbers}
use Rattle.p21_schema.specs.OwnSets.{LeavesOpen}
use Rattle.p21_express_graph.specs.Resolved.{IsEntity}
use Rattle.p21_express_graph.specs.Rising.{HaveSame}
use Rattle.p21_express_graph.specs.declared.number.EntityId.{EntityId}
use Rattle.p21_spec_file.specs.BrokenRule.{Breaks}
use Rattle.p21_spec_file.specs.Meaning.{HasPlaceTypes, NamesEntity}
use Rattle.p21_spec_file.specs.RecordPlaces.{HasPart, IsEntitySetOf, part_places}
use Rattle.p21_mapping.specs.declared.shape.Listed.{Listed}
use Rattle.p21_mapping.specs.declared.shape.Listed.TheVariants.{Named, Order}
use Rattle.p21_mapping.specs.declared.shape.Shape.{Shape}
use Rattle.p21_grammar_tree.specs.Fault.{fault_number}
use Rattle.p21_grammar_tree.specs.declared.fault.CheckFault.{CheckFault}
use Rattle.p21_grammar_tree.specs.declared.fault.CheckFault.TheVariants.{PartTwice, PartMissing, Abstract, OneOf, TwoRedeclarations, NoMemory}
use Rattle.p21_spec_schema.specs.OneOf.{Clashes}
use Rattle.p21_spec_schema.specs.Order.{order, own_places}
use Rattle.p21_spec_schema.specs.PlaceType.{TypeAt, two_redeclarations}
use Rattle.p21_spec_schema.specs.Schema.{Schema, Place, IsAbstract, AreRisingByName}
use Rattle.p21_spec_schema.specs.Supertype.{InClosure, IsLeaf}

-- a refusal other than want of memory has the number of a rule that the record breaks
abbrev pub Refuses : Schema → Record → CheckFault → Type 0
Refuses s record_ fault = fault ≢ NoMemory → Breaks s record_ (fault_number fault)

-- the keywords name the entities, one by one
abbrev pub AreNamed : Schema → List Part → List ℕ → Type 0
AreNamed s parts entities = AllZip (λ (part : Part) e. NamesEntity s part.key e) parts entities

-- a number stands at two places
abbrev pub HasTwice : List ℕ → Type 0
HasTwice es = (i j e : ℕ) × (i ≢ j) × (slice_get es i ≡ Some e) × (slice_get es j ≡ Some e)

-- all supertypes are there
abbrev pub IsClosed : Schema → List ℕ → Type 0
IsClosed s es = (f : ℕ) → InClosure s es f → Contains es f

-- a supertype is not there
abbrev pub LacksSupertype : Schema → List ℕ → Type 0
LacksSupertype s es = (f : ℕ) × InClosure s es f × ¬ Contains es f

-- each entity stands once, and all supertypes are there
abbrev pub AreMembers : Schema → List ℕ → Type 0
AreMembers s es = IsDistinct nat_eq es × IsClosed s es

-- or not
abbrev pub RefusesMembers : Schema → List ℕ → CheckFault → Type 0
RefusesMembers s es PartTwice = HasTwice es
RefusesMembers s es PartMissing = LacksSupertype s es
RefusesMembers s es NoMemory = Unit {0}
RefusesMembers s es other = ⊥

-- a leaf is abstract
abbrev pub HasSomeAbstractLeaf : Schema → List ℕ → Type 0
HasSomeAbstractLeaf s es = (e : ℕ) × IsLeaf s es e × IsAbstract s e

-- no leaf is
abbrev pub HasNoAbstractLeaf : Schema → List ℕ → Type 0
HasNoAbstractLeaf s es = (e : ℕ) → IsLeaf s es e → ¬ IsAbstract s e

-- redeclarations leave a place of the entity open
abbrev pub HasOpenPlaceOf : Schema → List ℕ → ℕ → Type 0
HasOpenPlaceOf s es e = (place : Place) × Contains (own_places s e) place × TypeAt s es place two_redeclarations

-- they leave a place of some entity open
abbrev pub HasOpenPlace : Schema → List ℕ → Type 0
HasOpenPlace s es = (e : ℕ) × Contains es e × HasOpenPlaceOf s es e

-- the set has no two of a ONEOF list, and no open place
abbrev pub PassesSet : Schema → List ℕ → Type 0
PassesSet s es = ¬ Clashes s es × Each (HasPlaceTypes s es) es

-- or it has
abbrev pub RefusesSet : Schema → List ℕ → CheckFault → Type 0
RefusesSet s es OneOf = Clashes s es
RefusesSet s es TwoRedeclarations = HasOpenPlace s es
RefusesSet s es NoMemory = Unit {0}
RefusesSet s es other = ⊥

-- the entity can be that of an instance of internal form: it is no abstract one, its closure has no two of a ONEOF list, and
-- no place of that is open
abbrev pub PassesOwnSet : Schema → ℕ → Type 0
PassesOwnSet s e = ¬ IsAbstract s e × ¬ Clashes s (order s e) × ¬ LeavesOpen s e

-- or it can't
abbrev pub RefusesOwnSet : Schema → ℕ → CheckFault → Type 0
RefusesOwnSet s e Abstract = IsAbstract s e
RefusesOwnSet s e OneOf = Clashes s (order s e)
RefusesOwnSet s e TwoRedeclarations = LeavesOpen s e
RefusesOwnSet s e other = ⊥

-- the set is the closure of the entity, where there is one
abbrev pub IsOwnClosure : Schema → Option EntityId → List ℕ → Type 0
IsOwnClosure s None entities = Unit {0}
IsOwnClosure s (Some e) entities = IsEntity s e.0 × HaveSame (order s e.0) entities

-- the entity whose closure the set is, where that is known
abbrev pub own_of : Listed → Option EntityId
own_of (Order e) = Some e
own_of (Named es) = None

-- the entities whose places the parameters stand at
abbrev pub listed_in : Schema → Listed → List ℕ
listed_in s (Order e) = order s e.0
listed_in s (Named es) = numbers es.items

-- the entity of an order is one of the schema
abbrev pub AreListed : Schema → Listed → Type 0
AreListed s (Order e) = IsEntity s e.0
AreListed s (Named es) = Unit {0}

-- as many parameters as the entity has places of its own
abbrev pub HasCount : Schema → Part → ℕ → Type 0
HasCount s part e = length (listed part.params) ≡ length (own_places s e)

-- another number of them somewhere
abbrev pub HasOtherCount : Schema → List Part → List ℕ → Type 0
HasOtherCount s parts es = (at e : ℕ) × (part : Part) × (slice_get parts at ≡ Some part) × (slice_get es at ≡ Some e) × ¬ HasCount s part e

-- the entities whose places the parameters of a record stand at: in internal mapping the order of the named entity, in
-- external mapping the named entities, each once, with all their supertypes
abbrev pub IsEntityList : Schema → Record → List ℕ → Type 0
IsEntityList s (simple part) es = (e : ℕ) × NamesEntity s part.key e × (es ≡ order s e)
IsEntityList s (complex parts) es = AreNamed s parts es × IsDistinct nat_eq es × IsClosed s es

-- each simple record has as many parameters as places
abbrev pub HasCounts : Schema → Record → Type 0
HasCounts s record_ = (part : Part) (e : ℕ) → HasPart s record_ part e → length (listed part.params) ≡ length (part_places s record_ e)

-- nothing is wrong with the entities of a record, nor with the numbers of its parameters
pub record HasShape (s : Schema) (record_ : Record) (es entities : List ℕ) : Type 0 where
  pub listed_are : IsEntityList s record_ es
  pub same : HaveSame es entities
  pub set_is : IsEntitySetOf s record_ entities
  pub rising : AreRisingByName s entities
  pub no_abstract_leaf : HasNoAbstractLeaf s entities
  pub no_clash : ¬ Clashes s entities
  pub place_types : Each (HasPlaceTypes s entities) entities
  pub counts : HasCounts s record_

-- the entities of the record are found, and its set is the closure of its entity, where that is known
abbrev pub IsShape : Schema → Record → Shape → Type 0
IsShape s record_ shape = HasShape s record_ (listed_in s shape.listed) (numbers shape.entities)
    × IsOwnClosure s (own_of shape.listed) (numbers shape.entities)
