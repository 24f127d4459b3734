-- Declarations of the grammar that declare no schema.
use Rattle.std.specs.Prelude.{◌≡◌, ℕ, ◌<◌, zero, suc, Bool, true, false, List, [], ◌∷◌, codes, Option, Some, None, Contains, refl, slice_get}
use Rattle.std.specs.List.{IsDistinct, AllZip}
use Rattle.std.specs.Str.{bytes_eq}
use Rattle.std.proofs.Common.{arith, inl, inr, ap, sym, subst, ◌∙◌}
use Rattle.p21_spec_schema.specs.WrittenType.{WrittenType, real_type, named_type, list_type, bounded}
use Rattle.p21_spec_schema.specs.EntityDeclaration.{EntityDeclaration, own, redeclared}
use Rattle.p21_spec_schema.specs.SupertypeConstraint.{no_constraint}
use Rattle.p21_spec_schema.specs.Schema as schema
use Rattle.p21_spec_schema.specs.Schema.{Schema, Entity, Defined, Kind, type_member, choice, alias, kind_of, TypeNamed, Place, Attribute, TypeUse, EntityNamed, PlaceNamed}
use Rattle.p21_spec_schema.specs.DeclaredType.{DenotesType, is_entity, is_defined, is_list}
use Rattle.p21_spec_schema.specs.DeclaredEntity.{DeclaresAttribute, DeclaresDerived, a_place, no_place, own_explicit, names_of, DeclaresEntity, own_names, derived_names}
use Rattle.p21_spec_schema.specs.DefinedType.{DeclaresType, DeclaresKind, is_alias, is_items}
use Rattle.p21_spec_schema.specs.Select.{IsSelect}
use Rattle.p21_spec_schema.specs.TypeDeclaration.{underlying, enumeration}
use Rattle.p21_spec_schema.specs.ReservedWord.{IsName}
use Rattle.p21_spec_schema.specs.Declared.{HasNoCircle, HasSupertype, Renames, HasSelect, DeclaresSchema}
use Rattle.p21_spec_schema.specs.SchemaDeclaration.{SchemaDeclaration, entities_of}
use Rattle.p21_spec_basics.proofs.Members.{Contains-none, Contains-first, AllZip-member, AllZip-second_member}
use Rattle.p21_spec_schema.proofs.DeclaredSchemas.{declared-entity, declared-found, names_of_all, distinct_names-entities, distinct_names-types, distinct_names-apart}
use Rattle.p21_spec_schema.proofs.DeclaredExamples.{entity_named, attribute_named, schema_of}

-- `ENTITY a; END_ENTITY; ENTITY a; END_ENTITY;`: two entities of one name
abbrev twice : SchemaDeclaration
twice = schema_of (entity_named (codes "A") [] ∷ entity_named (codes "A") [] ∷ [])

pub twice-declares_nothing : (s : Schema) → DeclaresSchema twice s → ⊥
twice-declares_nothing s declares =
    let (x, at, x_is) = declared-found twice s declares 0 (entity_named (codes "A") []) refl in
    let (y, at_, y_is) = declared-found twice s declares 1 (entity_named (codes "A") []) refl in
    let h : 0 ≡ 1 = distinct_names-entities s declares.names_distinct 0 1 (codes "A") (x, at, x_is.name_is) (y, at_, y_is.name_is) in
    omega (arith, h)

-- the only attribute of the only entity has a type
only_attribute : (type : WrittenType) (s : Schema) → DeclaresSchema (schema_of (entity_named (codes "A") (attribute_named (codes "X") type ∷ []) ∷ [])) s → (t : TypeUse) × DenotesType s type t
only_attribute type s declares =
    let (x, at, x_is) = declared-found _ s declares 0 (entity_named (codes "A") (attribute_named (codes "X") type ∷ [])) refl in
    let (a, among, a_is) = AllZip-member (DeclaresAttribute s) (own_explicit (attribute_named (codes "X") type ∷ [])) x.attributes (codes "X", false, type) x_is.attributes_are (Contains-first (codes "X", false, type) []) in
    (a.type, a_is.2)

-- `ENTITY a; x : foo; END_ENTITY;`: a name that is not declared
pub unknown_name-declares_nothing : (s : Schema) → DeclaresSchema (schema_of (entity_named (codes "A") (attribute_named (codes "X") (named_type (codes "FOO")) ∷ []) ∷ [])) s → ⊥
unknown_name-declares_nothing s declares = refuted (only_attribute (named_type (codes "FOO")) s declares).0 (only_attribute (named_type (codes "FOO")) s declares).1
  where
    no_types : (types : List Defined) (u : ℕ) (x : Defined) → AllZip (DeclaresType s) [] types → slice_get types u ≡ Some x → ⊥
    no_types [] u x all at = cc
    no_types (y ∷ ys) u x all at = absurd all

    no_entity : (e : ℕ) (x : Entity) (d : EntityDeclaration) → slice_get (entity_named (codes "A") (attribute_named (codes "X") (named_type (codes "FOO")) ∷ []) ∷ []) e ≡ Some d → x.name ≡ d.name → x.name ≡ codes "FOO" → ⊥
    no_entity zero x d at name_is is = let h : d ≡ entity_named (codes "A") (attribute_named (codes "X") (named_type (codes "FOO")) ∷ []) = cc in let k : codes "FOO" ≡ codes "A" = sym is ∙ name_is ∙ ap (λ y. y.name) h in cc
    no_entity (suc e) x d at name_is is = cc

    refuted : (t : TypeUse) → DenotesType s (named_type (codes "FOO")) t → ⊥
    refuted t (is_entity _ e (x, at, is)) = let (d, at_d, x_is) = declared-entity _ s declares e x at in no_entity e x d at_d x_is.name_is is
    refuted t (is_defined _ u (x, at, is)) = no_types s.types u x declares.types_are at

-- `ENTITY a; x : LIST [3:1] OF REAL; END_ENTITY;`: the lower bound is over the upper one
pub bounds-declare_nothing : (s : Schema) → DeclaresSchema (schema_of (entity_named (codes "A") (attribute_named (codes "X") (list_type (Some (record { low = codes "3"; high = bounded (codes "1") })) false (real_type None)) ∷ []) ∷ [])) s → ⊥
bounds-declare_nothing s declares = refuted _ (only_attribute _ s declares).1
  where
    refuted : (t : TypeUse) → DenotesType s (list_type (Some (record { low = codes "3"; high = bounded (codes "1") })) false (real_type None)) t → ⊥
    refuted t (is_list _ low high unique element type bounds is) = omega (arith, bounds.0, bounds.2.1)

-- `ENTITY a SUBTYPE OF (b); END_ENTITY; ENTITY b SUBTYPE OF (a); END_ENTITY;`: supertypes that come back
abbrev below : List ℕ → List ℕ → EntityDeclaration
below name supertype = record { name = name; constraint = no_constraint; subtype_of = Some (supertype ∷ []); explicit = []; derive = None; rules = None }

abbrev circle : SchemaDeclaration
circle = schema_of (below (codes "A") (codes "B") ∷ below (codes "B") (codes "A") ∷ [])

-- an entity that is declared to be below another has it as a supertype
below-has_supertype : (tree : SchemaDeclaration) (s : Schema) → DeclaresSchema tree s → (e f : ℕ) (d : EntityDeclaration) (name : List ℕ) → slice_get (entities_of tree.declarations) e ≡ Some d → Contains (names_of d.subtype_of) name → EntityNamed s f name → HasSupertype s e f
below-has_supertype tree s declares e f d name at among named =
    let (x, at_x, x_is) = declared-found tree s declares e d at in
    let (g, g_among, g_named) = AllZip-second_member (EntityNamed s) x.supertypes (names_of d.subtype_of) name x_is.supertypes_are among in
    let same : g ≡ f = distinct_names-entities s declares.names_distinct g f name g_named named in
    let P : ℕ → Type 0 = λ h. Contains x.supertypes h in
    let Q : Option Entity → Type 0 = λ o. Contains (elim o [ Some y ↦ y.supertypes | None ↦ [] ]) f in
    subst Q (sym at_x) (subst P same g_among)

pub circle-declares_nothing : (s : Schema) → DeclaresSchema circle s → ⊥
circle-declares_nothing s declares =
    let (x, at_x, x_is) = declared-found circle s declares 0 (below (codes "A") (codes "B")) refl in
    let (y, at_y, y_is) = declared-found circle s declares 1 (below (codes "B") (codes "A")) refl in
    let up : HasSupertype s 0 1 = below-has_supertype circle s declares 0 1 (below (codes "A") (codes "B")) (codes "B") refl (Contains-first (codes "B") []) (y, at_y, y_is.name_is) in
    let back : HasSupertype s 1 0 = below-has_supertype circle s declares 1 0 (below (codes "B") (codes "A")) (codes "A") refl (Contains-first (codes "A") []) (x, at_x, x_is.name_is) in
    omega (arith, declares.supertypes_end.1 0 1 up, declares.supertypes_end.1 1 0 back)

-- `ENTITY a; END_ENTITY; ENTITY b SUBTYPE OF (a); DERIVE SELF\a.z : ..; END_ENTITY;`: there is no such place
abbrev derives_z : EntityDeclaration
derives_z = record { name = codes "B"; constraint = no_constraint; subtype_of = Some (codes "A" ∷ []); explicit = []; derive = Some (record { name = redeclared (codes "A") (codes "Z"); run = [] } ∷ []); rules = None }

abbrev no_z : SchemaDeclaration
no_z = schema_of (entity_named (codes "A") [] ∷ derives_z ∷ [])

pub no_place-declares_nothing : (s : Schema) → DeclaresSchema no_z s → ⊥
no_place-declares_nothing s declares =
    let (x, at, x_is) = declared-found no_z s declares 1 derives_z refl in
    refuted x.derived x_is.derived_are
  where
    no_attributes : (attributes : List Attribute) → AllZip (DeclaresAttribute s) [] attributes → (i : ℕ) (a : Attribute) → slice_get attributes i ≡ Some a → ⊥
    no_attributes [] all i a at = cc
    no_attributes (b ∷ bs) all i a at = absurd all

    declares_none : (e : ℕ) (d : EntityDeclaration) → slice_get (entities_of no_z.declarations) e ≡ Some d → own_explicit d.explicit ≡ []
    declares_none zero d at = let h : d ≡ entity_named (codes "A") [] = cc in ap (λ y. own_explicit y.explicit) h
    declares_none (suc zero) d at = let h : d ≡ derives_z = cc in ap (λ y. own_explicit y.explicit) h
    declares_none (suc (suc e)) d at = cc

    unnamed : (place : Place) (name : List ℕ) → PlaceNamed s place name → ⊥
    unnamed place name (a, at, is) = by_entity (slice_get s.entities place.entity) refl at
      where
        by_entity : (o : Option Entity) → slice_get s.entities place.entity ≡ o → slice_get (elim o [ Some x ↦ x.attributes | None ↦ [] ]) place.index ≡ Some a → ⊥
        by_entity None is at = cc
        by_entity (Some x) is at =
            let (d, at_d, x_is) = declared-entity no_z s declares place.entity x is in
            let P : List (List ℕ × Bool × WrittenType) → Type 0 = λ xs. AllZip (DeclaresAttribute s) xs x.attributes in
            no_attributes x.attributes (subst P (declares_none place.entity d at_d) x_is.attributes_are) place.index a at

    underived : (f : ℕ) (d : EntityDeclaration) (name : List ℕ) → slice_get (entities_of no_z.declarations) f ≡ Some d → Contains (own_names (derived_names d.derive)) name → ⊥
    underived zero d name at among = let h : d ≡ entity_named (codes "A") [] = cc in let P : EntityDeclaration → Type 0 = λ y. Contains (own_names (derived_names y.derive)) name in Contains-none name (subst P h among)
    underived (suc zero) d name at among = let h : d ≡ derives_z = cc in let P : EntityDeclaration → Type 0 = λ y. Contains (own_names (derived_names y.derive)) name in Contains-none name (subst P h among)
    underived (suc (suc f)) d name at among = cc

    refuted : (found : List Place) → DeclaresDerived s (entities_of no_z.declarations) 1 ((codes "A", codes "Z") ∷ []) found → ⊥
    refuted found (a_place _ _ place _ _ (sup, proper, inl of_itself) more) = unnamed place (codes "Z") of_itself.1
    refuted found (a_place _ _ place _ _ (sup, proper, inr (none, of_sup, only)) more) = unnamed place (codes "Z") of_sup.1
    refuted found (no_place _ _ sup _ _ proper none (f, d, is_a, at, among) more) = underived f d (codes "Z") at among

-- a TYPE that is just the name of a select declares nothing
pub renamed_select-declares_nothing : (s : Schema) → IsDistinct bytes_eq (names_of_all s) → (t : ℕ) (name : List ℕ) (kind : Kind) → TypeNamed s t name → IsSelect s t → DeclaresKind s (underlying (named_type name)) kind → ⊥
renamed_select-declares_nothing s distinct t name kind named select (is_alias _ type (is_entity _ e of_e) shallow may) = may
renamed_select-declares_nothing s distinct t name kind named select (is_alias _ type (is_defined _ u of_u) shallow may) = let P : ℕ → Type 0 = λ v. IsSelect s v in may (subst P (distinct_names-types s distinct t u name named of_u) select)

-- so does a TYPE that is just the name of an entity
pub renamed_entity-declares_nothing : (s : Schema) → IsDistinct bytes_eq (names_of_all s) → (e : ℕ) (name : List ℕ) (kind : Kind) → EntityNamed s e name → DeclaresKind s (underlying (named_type name)) kind → ⊥
renamed_entity-declares_nothing s distinct e name kind named (is_alias _ type (is_entity _ f of_f) shallow may) = may
renamed_entity-declares_nothing s distinct e name kind named (is_alias _ type (is_defined _ t of_t) shallow may) = distinct_names-apart s distinct e t name named of_t

-- an enumeration with one item twice declares nothing
pub repeated_item-declares_nothing : (s : Schema) (kind : Kind) → DeclaresKind s (enumeration (codes "RED" ∷ codes "RED" ∷ [])) kind → ⊥
unfolding IsDistinct
repeated_item-declares_nothing s kind (is_items _ distinct) = let h : true ≡ false = distinct.0.0 in cc

-- `USE` is no name
pub use-is_no_name : IsName (codes "USE") → ⊥
use-is_no_name is_name = is_name (36, omega arith, refl)

-- no select is a member of itself, and no type is just its own name
pub own_member-comes_back : (s : Schema) (t : ℕ) → kind_of s t ≡ Some (choice (type_member t ∷ [])) → HasNoCircle (HasSelect s) → ⊥
own_member-comes_back s t is none = omega (arith, none.1 t t ((type_member t ∷ [], is, Contains-first (type_member t) []), (type_member t ∷ [], is)))

pub own_name-comes_back : (s : Schema) (t : ℕ) → kind_of s t ≡ Some (alias (schema.defined t)) → HasNoCircle (Renames s) → ⊥
own_name-comes_back s t is none = omega (arith, none.1 t t is)

-- but `TYPE t = LIST OF t;` renames nothing
pub list_of_itself-ends : HasNoCircle (Renames (record { name = codes "S"; entities = []; types = record { name = codes "T"; kind = alias (schema.list 0 None false (schema.defined 0)) } ∷ []; one_of_lists = [] }))
list_of_itself-ends = (λ t. 0, never)
  where
    never : (t u : ℕ) → Renames (record { name = codes "S"; entities = []; types = record { name = codes "T"; kind = alias (schema.list 0 None false (schema.defined 0)) } ∷ []; one_of_lists = [] }) t u → 0 < 0
    never zero u is = cc
    never (suc t) u is = cc

-- `SUBTYPE OF (a, a)`
pub listed_twice-declares_nothing : (s : Schema) (declarations : List EntityDeclaration) (e : ℕ) (x : EntityDeclaration) (found : Entity) → x.subtype_of ≡ Some (codes "A" ∷ codes "A" ∷ []) → DeclaresEntity s declarations e x found → ⊥
unfolding IsDistinct
listed_twice-declares_nothing s declarations e x found listed is =
    let P : Option (List (List ℕ)) → Type 0 = λ names. IsDistinct bytes_eq (names_of names) in
    let distinct : IsDistinct bytes_eq (codes "A" ∷ codes "A" ∷ []) = subst P listed is.supertypes_distinct in
    let h : true ≡ false = distinct.0.0 in cc

-- `ENTITY a; x : REAL; DERIVE x : ..; END_ENTITY;`: an explicit and a derived attribute of one name
abbrev x_twice : EntityDeclaration
x_twice = record { name = codes "A"; constraint = no_constraint; subtype_of = None; explicit = attribute_named (codes "X") (real_type None) ∷ []; derive = Some (record { name = own (codes "X"); run = [] } ∷ []); rules = None }

pub named_twice-declares_nothing : (s : Schema) (declarations : List EntityDeclaration) (e : ℕ) (found : Entity) → DeclaresEntity s declarations e x_twice found → ⊥
unfolding IsDistinct
named_twice-declares_nothing s declarations e found is = let h : true ≡ false = is.names_distinct.0.0 in cc
