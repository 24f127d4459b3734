-- The entity that an entity declaration declares (ISO 10303-11, Entity declaration).
use Rattle.std.specs.Prelude.{◌≡◌, ℕ, ◌≤◌, Bool, true, false, List, [], ◌∷◌, ◌++◌, map, Option, Some, None, slice_get, Contains, nat_eq, ◌&&◌}
use Rattle.std.specs.List.{AllZip, flat_map, IsDistinct, AllByRecursion as Each}
use Rattle.std.specs.Str.{bytes_eq}
use Rattle.p21_spec_schema.specs.WrittenType.{WrittenType, nesting}
use Rattle.p21_spec_schema.specs.EntityDeclaration.{EntityDeclaration, AttributeName, own, redeclared, ExplicitAttributes, DerivedAttribute}
use Rattle.p21_spec_schema.specs.SupertypeConstraint.{SupertypeConstraint, no_constraint, abstract_entity, abstract_supertype, abstract_supertype_of, supertype_of}
use Rattle.p21_spec_schema.specs.Schema.{Schema, Entity, Attribute, Redeclared, Place, EntityNamed}
use Rattle.p21_spec_schema.specs.Supertype.{IsA}
use Rattle.p21_spec_schema.specs.DeclaredType.{DenotesType, deepest_nesting}
use Rattle.p21_spec_schema.specs.Redeclaration.{IsProperSupertype, RedeclaresPlace, HasNoPlace}

-- the two are one place
abbrev pub same_place : Place → Place → Bool
same_place p q = nat_eq p.entity q.entity && nat_eq p.index q.index

-- ABSTRACT stands there
abbrev pub is_abstract_by : SupertypeConstraint → Bool
is_abstract_by no_constraint = false
is_abstract_by abstract_entity = true
is_abstract_by abstract_supertype = true
is_abstract_by (abstract_supertype_of expression) = true
is_abstract_by (supertype_of expression) = false

-- the names of a clause that may be left out
abbrev pub names_of : Option (List (List ℕ)) → List (List ℕ)
names_of None = []
names_of (Some names) = names

-- the attributes of a DERIVE clause, if there is one
abbrev pub derived_names : Option (List DerivedAttribute) → List AttributeName
derived_names None = []
derived_names (Some derived) = map (λ x. x.name) derived

-- the names of new attributes
abbrev pub own_names : List AttributeName → List (List ℕ)
own_names [] = []
own_names (own name ∷ names) = name ∷ own_names names
own_names (redeclared entity name ∷ names) = own_names names

-- the attributes that are redeclared, each by its supertype and its name
abbrev pub redeclared_names : List AttributeName → List (List ℕ × List ℕ)
redeclared_names [] = []
redeclared_names (own name ∷ names) = redeclared_names names
redeclared_names (redeclared entity name ∷ names) = (entity, name) ∷ redeclared_names names

-- each new explicit attribute, with OPTIONAL or not and its type
abbrev pub own_explicit : List ExplicitAttributes → List (List ℕ × Bool × WrittenType)
own_explicit explicit = flat_map (λ x. map (λ name. (name, x.optional, x.type)) (own_names x.names)) explicit

-- each explicit redeclaration, with OPTIONAL or not and its type
abbrev pub redeclared_explicit : List ExplicitAttributes → List ((List ℕ × List ℕ) × Bool × WrittenType)
redeclared_explicit explicit = flat_map (λ x. map (λ name. (name, x.optional, x.type)) (redeclared_names x.names)) explicit

-- a new attribute as it is written
abbrev pub DeclaresAttribute : Schema → List ℕ × Bool × WrittenType → Attribute → Type 0
DeclaresAttribute s written a = (a.name ≡ written.0) × (a.optional ≡ written.1) × DenotesType s written.2 a.type

-- an explicit redeclaration as it is written
abbrev pub DeclaresRedeclared : Schema → ℕ → (List ℕ × List ℕ) × Bool × WrittenType → Redeclared → Type 0
DeclaresRedeclared s e written r = RedeclaresPlace s e written.0.0 written.0.1 r.place × (r.optional ≡ written.1) × DenotesType s written.2 r.type

-- the entity or a supertype of it derives a new attribute of this name
abbrev pub DerivesName : Schema → List EntityDeclaration → ℕ → List ℕ → Type 0
DerivesName s declarations e name = (f : ℕ) × (x : EntityDeclaration) × IsA s e f × (slice_get declarations f ≡ Some x) × Contains (own_names (derived_names x.derive)) name

-- The places that the redeclarations of a DERIVE clause stand for. One stands for none where its supertype has no place
-- of that name, but it or a supertype of it derives an attribute of that name
pub data DeclaresDerived (s : Schema) (declarations : List EntityDeclaration) (e : ℕ) : List (List ℕ × List ℕ) → List Place → Type 0 where
  no_more : DeclaresDerived s declarations e [] []
  a_place : (supertype name : List ℕ) (place : Place) (names : List (List ℕ × List ℕ)) (found : List Place) → RedeclaresPlace s e supertype name place → DeclaresDerived s declarations e names found
      → DeclaresDerived s declarations e ((supertype, name) ∷ names) (place ∷ found)
  no_place : (supertype name : List ℕ) (sup : ℕ) (names : List (List ℕ × List ℕ)) (found : List Place) → IsProperSupertype s e sup supertype → HasNoPlace s sup name → DerivesName s declarations sup name
      → DeclaresDerived s declarations e names found → DeclaresDerived s declarations e ((supertype, name) ∷ names) found

-- The declaration of this number declares this entity. No supertype is listed twice, no attribute is declared twice, and
-- no place is redeclared twice
pub record DeclaresEntity (s : Schema) (declarations : List EntityDeclaration) (e : ℕ) (x : EntityDeclaration) (found : Entity) : Type 0 where
  pub name_is : found.name ≡ x.name
  pub abstract_is : found.is_abstract ≡ is_abstract_by x.constraint
  pub supertypes_are : AllZip (EntityNamed s) found.supertypes (names_of x.subtype_of)
  pub attributes_are : AllZip (DeclaresAttribute s) (own_explicit x.explicit) found.attributes
  pub redeclared_are : AllZip (DeclaresRedeclared s e) (redeclared_explicit x.explicit) found.redeclared
  pub derived_are : DeclaresDerived s declarations e (redeclared_names (derived_names x.derive)) found.derived
  pub nesting_small : Each (λ d. nesting d.type ≤ deepest_nesting) x.explicit
  pub supertypes_distinct : IsDistinct bytes_eq (names_of x.subtype_of)
  pub names_distinct : IsDistinct bytes_eq (own_names (flat_map (λ d. d.names) x.explicit) ++ own_names (derived_names x.derive))
  pub places_distinct : IsDistinct same_place (map (λ r. r.place) found.redeclared ++ found.derived)
