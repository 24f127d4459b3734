-- What the laws on schemas take holds of each schema that a declaration declares.
use Rattle.std.specs.Prelude.{◌≡◌, ℕ, zero, suc, ◌+◌, ◌<◌, Bool, true, false, List, [], ◌∷◌, ◌++◌, length, map, Option, Some, None, slice_get, Contains, refl, nat_eq, ◌&&◌}
use Rattle.std.specs.List.{IsDistinct}
use Rattle.std.specs.Str.{bytes_eq}
use Rattle.std.proofs.Common.{arith, inl, inr, subst, ap, sym, ◌∙◌}
use Rattle.std.proofs.lemmas.Bool.{eq-eqb}
use Rattle.std.proofs.lemmas.Option.{slice_get_within}
use Rattle.p21_spec_schema.specs.EntityDeclaration.{EntityDeclaration}
use Rattle.p21_spec_schema.specs.SchemaDeclaration.{SchemaDeclaration, entities_of}
use Rattle.p21_spec_schema.specs.Schema.{Schema, Entity, Place, Redeclared, EntityNamed, TypeNamed}
use Rattle.p21_spec_schema.specs.DeclaredEntity.{DeclaresEntity, same_place, names_of}
use Rattle.p21_spec_schema.specs.DeclaredOneOf.{all_one_of_names, DeclaresOneOf}
use Rattle.p21_spec_schema.specs.Declared.{DeclaresSchema}
use Rattle.p21_spec_basics.proofs.Members.{Each-at, Each-member, Contains-none, Contains-cases, Contains-at, Contains-found, Contains-mapped, AllZip-member, AllZip-second_member, AllZip-numbered, AllZip-numbered_first, Each-front, Each-back, Each-unmapped, Each-append}
pub use Rattle.p21_spec_schema.specs.WellFormed.{HasDistinctEntities, HasDistinctTypes, AreEntities, AreListedEntities, RedeclaresOnce, IsWellFormed}
use Rattle.p21_spec_basics.proofs.Comparing.{bytes_eq-itself}

-- where all f of the front differ, two of the same f have one number
distinct-number : {X Y : Type 0} (eq : Y → Y → Bool) → ((y : Y) → eq y y ≡ true) → (f : X → Y) (xs : List X) (ys : List Y) → IsDistinct eq (map f xs ++ ys) → (i j : ℕ) (x z : X) → slice_get xs i ≡ Some x → slice_get xs j ≡ Some z → f x ≡ f z → i ≡ j
unfolding IsDistinct
distinct-number eq reflexive f [] ys distinct i j x z at_i at_j same = cc
distinct-number eq reflexive f (w ∷ ws) ys distinct zero zero x z at_i at_j same = refl
distinct-number {X} {Y} eq reflexive f (w ∷ ws) ys distinct zero (suc j) x z at_i at_j same =
    let first : w ≡ x = cc in
    let differ : eq (f w) (f z) ≡ false = Each-at (λ v. eq (f w) (f v) ≡ false) ws j z (Each-unmapped (λ y. eq (f w) y ≡ false) f ws (Each-front (λ y. eq (f w) y ≡ false) (map f ws) ys distinct.0)) at_j in
    let h : true ≡ false = sym (reflexive (f w)) ∙ ap (λ y. eq (f w) y) (ap f first ∙ same) ∙ differ in cc
distinct-number {X} {Y} eq reflexive f (w ∷ ws) ys distinct (suc i) zero x z at_i at_j same =
    let first : w ≡ z = cc in
    let differ : eq (f w) (f x) ≡ false = Each-at (λ v. eq (f w) (f v) ≡ false) ws i x (Each-unmapped (λ y. eq (f w) y ≡ false) f ws (Each-front (λ y. eq (f w) y ≡ false) (map f ws) ys distinct.0)) at_i in
    let h : true ≡ false = sym (reflexive (f w)) ∙ ap (λ y. eq (f w) y) (ap f first ∙ sym same) ∙ differ in cc
distinct-number eq reflexive f (w ∷ ws) ys distinct (suc i) (suc j) x z at_i at_j same = let h : i ≡ j = distinct-number eq reflexive f ws ys distinct.1 i j x z at_i at_j same in omega (arith, h)

IsDistinct-back : {Y : Type 0} (eq : Y → Y → Bool) (xs ys : List Y) → IsDistinct eq (xs ++ ys) → IsDistinct eq ys
unfolding IsDistinct
IsDistinct-back eq [] ys distinct = distinct
IsDistinct-back eq (x ∷ xs) ys distinct = IsDistinct-back eq xs ys distinct.1

IsDistinct-unpadded : {Y : Type 0} (eq : Y → Y → Bool) (xs : List Y) → IsDistinct eq xs → IsDistinct eq (xs ++ [])
unfolding IsDistinct
IsDistinct-unpadded eq [] distinct = tt
IsDistinct-unpadded eq (x ∷ xs) distinct = (Each-append (λ y. eq x y ≡ false) xs [] distinct.0 tt, IsDistinct-unpadded eq xs distinct.1)

same_place-reflexive : (place : Place) → same_place place place ≡ true
same_place-reflexive place = ap (λ b. b && nat_eq place.index place.index) (eq-eqb place.entity place.entity refl) ∙ eq-eqb place.index place.index refl

-- each entity of a declared schema is declared
pub declared-entity : (tree : SchemaDeclaration) (s : Schema) → DeclaresSchema tree s → (e : ℕ) (x : Entity) → slice_get s.entities e ≡ Some x
    → (d : EntityDeclaration) × (slice_get (entities_of tree.declarations) e ≡ Some d) × DeclaresEntity s (entities_of tree.declarations) e d x
declared-entity tree s declares e x is =
    let (d, at, holds) = AllZip-numbered (λ k d found. DeclaresEntity s (entities_of tree.declarations) k d found) 0 (entities_of tree.declarations) s.entities e x declares.entities_are is in
    let zero_ : 0 + e ≡ e = omega arith in
    let P : ℕ → Type 0 = λ k. DeclaresEntity s (entities_of tree.declarations) k d x in
    (d, at, subst P zero_ holds)

-- each entity that is declared is one of the schema
pub declared-found : (tree : SchemaDeclaration) (s : Schema) → DeclaresSchema tree s → (e : ℕ) (d : EntityDeclaration) → slice_get (entities_of tree.declarations) e ≡ Some d
    → (x : Entity) × (slice_get s.entities e ≡ Some x) × DeclaresEntity s (entities_of tree.declarations) e d x
declared-found tree s declares e d is =
    let (x, at, holds) = AllZip-numbered_first (λ k d found. DeclaresEntity s (entities_of tree.declarations) k d found) 0 (entities_of tree.declarations) s.entities e d declares.entities_are is in
    let zero_ : 0 + e ≡ e = omega arith in
    let P : ℕ → Type 0 = λ k. DeclaresEntity s (entities_of tree.declarations) k d x in
    (x, at, subst P zero_ holds)

-- each supertype is an entity of the schema
pub declared-supertypes : (tree : SchemaDeclaration) (s : Schema) → DeclaresSchema tree s → AreEntities s
declared-supertypes tree s declares e f up = by_entity (slice_get s.entities e) refl up
  where
    by_entity : (o : Option Entity) → slice_get s.entities e ≡ o → Contains (elim o [ Some x ↦ x.supertypes | None ↦ [] ]) f → f < length s.entities
    by_entity None is among = absurd (Contains-none f among)
    by_entity (Some x) is among =
        let (d, at, entity_is) = declared-entity tree s declares e x is in
        let (name, in_names, named) = AllZip-member (EntityNamed s) x.supertypes (names_of d.subtype_of) f entity_is.supertypes_are among in
        slice_get_within s.entities f named.0 named.1

-- each member of a ONEOF list is an entity of the schema
pub declared-listed : (tree : SchemaDeclaration) (s : Schema) → DeclaresSchema tree s → AreListedEntities s
declared-listed tree s declares listed e among has =
    let (names, in_names, is) = AllZip-second_member (DeclaresOneOf s) (all_one_of_names (entities_of tree.declarations)) s.one_of_lists listed declares.one_of_are among in
    let (name, in_list, named) = AllZip-member (EntityNamed s) listed names e is.0 has in
    slice_get_within s.entities e named.0 named.1

-- where no name of an entity or a type is twice, a name is that of one entity or one type at most
abbrev pub names_of_all : Schema → List (List ℕ)
names_of_all s = map (λ z. z.name) s.entities ++ map (λ z. z.name) s.types

pub distinct_names-entities : (s : Schema) → IsDistinct bytes_eq (names_of_all s) → HasDistinctEntities s
distinct_names-entities s distinct e f name (x, at_e, x_named) (y, at_f, y_named) = distinct-number bytes_eq bytes_eq-itself (λ z. z.name) s.entities (map (λ z. z.name) s.types) distinct e f x y at_e at_f (x_named ∙ sym y_named)

pub distinct_names-types : (s : Schema) → IsDistinct bytes_eq (names_of_all s) → HasDistinctTypes s
distinct_names-types s distinct t u name (x, at_t, x_named) (y, at_u, y_named) =
    distinct-number bytes_eq bytes_eq-itself (λ z. z.name) s.types [] (IsDistinct-unpadded bytes_eq (map (λ z. z.name) s.types) (IsDistinct-back bytes_eq (map (λ z. z.name) s.entities) (map (λ z. z.name) s.types) distinct)) t u x y at_t at_u (x_named ∙ sym y_named)

-- where all f of the front differ, two members of the same f are one
distinct-member : {X Y : Type 0} (eq : Y → Y → Bool) → ((y : Y) → eq y y ≡ true) → (f : X → Y) (xs : List X) (ys : List Y) (x z : X) → IsDistinct eq (map f xs ++ ys) → Contains xs x → Contains xs z → f x ≡ f z → x ≡ z
distinct-member {X} eq reflexive f xs ys x z distinct among among_ same =
    let (i, at) = Contains-at xs x among in
    let (j, at_) = Contains-at xs z among_ in
    let number : i ≡ j = distinct-number eq reflexive f xs ys distinct i j x z at at_ same in
    let P : ℕ → Type 0 = λ k. slice_get xs k ≡ Some z in
    let at_same : slice_get xs i ≡ Some z = subst P (sym number) at_ in cc

pub declared-redeclares_once : (tree : SchemaDeclaration) (s : Schema) → DeclaresSchema tree s → RedeclaresOnce s
declared-redeclares_once tree s declares e r q (x, at, among) (y, at_, among_) same =
    let one : y ≡ x = (let h : Some y ≡ Some x = sym at_ ∙ at in cc) in
    let P : Entity → Type 0 = λ z. Contains z.redeclared q in
    let (d, at_d, entity_is) = declared-entity tree s declares e x at in
    distinct-member same_place same_place-reflexive (λ z. z.place) x.redeclared x.derived r q entity_is.places_distinct among (subst P one among_) same

-- no f of the front is one of the back
distinct-apart : {X Y : Type 0} (eq : Y → Y → Bool) → ((y : Y) → eq y y ≡ true) → (f : X → Y) (xs : List X) (ys : List Y) (x : X) → IsDistinct eq (map f xs ++ ys) → Contains xs x → Contains ys (f x) → ⊥
unfolding IsDistinct
distinct-apart eq reflexive f [] ys x distinct among among_back = Contains-none x among
distinct-apart eq reflexive f (z ∷ zs) ys x distinct among among_back = elim (Contains-cases z zs x among) [
  | inl h ↦ let differ : eq (f z) (f x) ≡ false = Each-member (λ y. eq (f z) y ≡ false) ys (f x) (Each-back (λ y. eq (f z) y ≡ false) (map f zs) ys distinct.0) among_back in let k : true ≡ false = sym (reflexive (f z)) ∙ ap (λ y. eq (f z) y) (ap f h) ∙ differ in cc
  | inr h ↦ distinct-apart eq reflexive f zs ys x distinct.1 h among_back
]

-- no entity has the name of a type
pub distinct_names-apart : (s : Schema) → IsDistinct bytes_eq (names_of_all s) → (e t : ℕ) (name : List ℕ) → EntityNamed s e name → TypeNamed s t name → ⊥
distinct_names-apart s distinct e t name (x, at, named) (y, at_t, named_t) =
    let P : List ℕ → Type 0 = λ n. Contains (map (λ z. z.name) s.types) n in
    distinct-apart bytes_eq bytes_eq-itself (λ z. z.name) s.entities (map (λ z. z.name) s.types) x distinct (Contains-found s.entities e x at) (subst P (named_t ∙ sym named) (Contains-mapped (λ z. z.name) s.types y (Contains-found s.types t y at_t)))

-- no entity redeclares a place both as an explicit and as a derived attribute
pub declared-explicit_or_derived : (tree : SchemaDeclaration) (s : Schema) → DeclaresSchema tree s → (e : ℕ) (x : Entity) (r : Redeclared) → slice_get s.entities e ≡ Some x → Contains x.redeclared r → Contains x.derived r.place → ⊥
declared-explicit_or_derived tree s declares e x r at among among_derived =
    let (d, at_d, entity_is) = declared-entity tree s declares e x at in
    distinct-apart same_place same_place-reflexive (λ z. z.place) x.redeclared x.derived r entity_is.places_distinct among among_derived

-- and none derives a place twice
pub declared-derives_once : (tree : SchemaDeclaration) (s : Schema) → DeclaresSchema tree s → (e : ℕ) (x : Entity) → slice_get s.entities e ≡ Some x → IsDistinct same_place x.derived
declared-derives_once tree s declares e x at =
    let (d, at_d, entity_is) = declared-entity tree s declares e x at in
    IsDistinct-back same_place (map (λ z. z.place) x.redeclared) x.derived entity_is.places_distinct

pub declared-well_formed : (tree : SchemaDeclaration) (s : Schema) → DeclaresSchema tree s → IsWellFormed s
declared-well_formed tree s declares = record {
  supertypes_are = declared-supertypes tree s declares;
  listed_are = declared-listed tree s declares;
  supertypes_end = declares.supertypes_end;
  renaming_ends = declares.renaming_ends;
  selects_end = declares.selects_end;
  entities_distinct = distinct_names-entities s declares.names_distinct;
  types_distinct = distinct_names-types s declares.names_distinct;
  redeclares_once = declared-redeclares_once tree s declares;
}
