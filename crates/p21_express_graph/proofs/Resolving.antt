-- What a schema with all names resolved hands out is of the schema.
use Rattle.std.specs.Prelude.{◌≡◌, ℕ, Bool, List, [], Some, None, Option, slice_get, Contains, refl}
use Rattle.std.proofs.Common.{subst, inl, inr}
use Rattle.std.proofs.lemmas.Option.{slice_get_within}
use Rattle.p21_spec_basics.proofs.Members.{Each-member, Each-at}
use Rattle.p21_spec_schema.specs.Schema.{Schema, TypeUse, Kind, alias, choice, Member, Place, Attribute, Entity, Defined, kind_of}
use Rattle.p21_spec_schema.specs.PlaceType.{stored_place, TypeAt}
use Rattle.p21_spec_schema.specs.WellFormed.{AreListedEntities, IsWellFormed}
use Rattle.p21_spec_schema.specs.Order.{order}
use Rattle.p21_express_graph.specs.Lookups.{AreEntities}
use Rattle.p21_express_graph.specs.Resolved.{HoldsTogether, IsEntity, IsType, IsTypeUse, IsMember, IsKind, IsResolved, IsAttribute, IsRedeclared}
use Rattle.p21_express_graph.proofs.OrderTables.{IsA-within, are-entities, order-tells}

pub are-listed : (s : Schema) → HoldsTogether s → AreListedEntities s
are-listed s holds listed e among has = Each-member (IsEntity s) listed e (Each-member _ s.one_of_lists listed holds.one_of_are among) has

pub well-formed : (s : Schema) → HoldsTogether s → IsWellFormed s
well-formed s holds = record {
  supertypes_are = are-entities s holds;
  listed_are = are-listed s holds;
  supertypes_end = holds.supertypes_end;
  renaming_ends = holds.renaming_ends;
  selects_end = holds.selects_end;
  entities_distinct = holds.entities_distinct;
  types_distinct = holds.types_distinct;
  redeclares_once = holds.redeclares_once;
}

-- what a type is, is of the schema
pub kind-is : (s : Schema) → HoldsTogether s → (t : ℕ) (k : Kind) → kind_of s t ≡ Some k → IsKind s k
kind-is s holds t k is = cases (slice_get s.types t) refl is
  where
    cases : (o : Option Defined) → slice_get s.types t ≡ o → ◌≡◌ {A = Option Kind} (elim o [ Some x ↦ Some x.kind | None ↦ None ]) (Some k) → IsKind s k
    cases None at is = cc
    cases (Some x) at is = let same : x.kind ≡ k = cc in subst (IsKind s) same (Each-at (λ y. IsKind s y.kind) s.types t x holds.types_are at)

-- the number of a type that is something is that of a type
pub type-is : (s : Schema) (t : ℕ) (k : Kind) → kind_of s t ≡ Some k → IsType s t
type-is s t k is = let (x, at) = cases (slice_get s.types t) refl is in slice_get_within s.types t x at
  where
    cases : (o : Option Defined) → slice_get s.types t ≡ o → ◌≡◌ {A = Option Kind} (elim o [ Some x ↦ Some x.kind | None ↦ None ]) (Some k) → (x : Defined) × (slice_get s.types t ≡ Some x)
    cases None at is = cc
    cases (Some x) at is = (x, at)

-- what a type renames is of the schema
pub alias-is : (s : Schema) → HoldsTogether s → (t : ℕ) (type : TypeUse) → kind_of s t ≡ Some (alias type) → IsTypeUse s type
alias-is s holds t type is = kind-is s holds t (alias type) is

-- each member of a select is
pub member-is : (s : Schema) → HoldsTogether s → (t : ℕ) (members : List Member) (m : Member) → kind_of s t ≡ Some (choice members) → Contains members m → IsMember s m
member-is s holds t members m is among = Each-member (IsMember s) members m (kind-is s holds t (choice members) is) among

-- the type at a place is
pub stored-is : (s : Schema) → HoldsTogether s → (entities : List ℕ) (place : Place) (optional : Bool) (type : TypeUse) → TypeAt s entities place (stored_place optional type) → IsTypeUse s type
stored-is s holds entities place optional type (none, decided) = elim decided [
  | inl (r, (e, (among, (x, at, redeclares), place_is), below), optional_is, type_is) ↦ subst (IsTypeUse s) type_is (Each-member (IsRedeclared s) x.redeclared r (Each-at (IsResolved s) s.entities e x holds.entities_are at).redeclared_are redeclares).1
  | inr (undeclared, (a, at, optional_is, type_is)) ↦ subst (IsTypeUse s) type_is (declared (slice_get s.entities place.entity) refl a at)
]
  where
    declared : (o : Option Entity) → slice_get s.entities place.entity ≡ o → (a : Attribute) → slice_get (elim o [ Some x ↦ x.attributes | None ↦ [] ]) place.index ≡ Some a → IsTypeUse s a.type
    declared None is a at = cc
    declared (Some x) is a at = Each-at (IsAttribute s) x.attributes place.index a (Each-at (IsResolved s) s.entities place.entity x holds.entities_are is).attributes_are at

-- the entities of an order are
pub own-entities : (s : Schema) → HoldsTogether s → (e : ℕ) → IsEntity s e → (entities : List ℕ) → entities ≡ order s e → AreEntities s entities
own-entities s holds e is entities same f among =
    let P : List ℕ → Type 0 = λ fs. Contains fs f in
    IsA-within s (are-entities s holds) e f ((order-tells s holds e f).0 (subst P same among)) is
