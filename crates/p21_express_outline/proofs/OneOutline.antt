-- Kept declarations have one outline.
use Rattle.std.specs.Prelude.{◌≡◌, ℕ, Bool, List, [], ◌∷◌, ◌++◌, map, refl}
use Rattle.std.specs.List.{flat_map}
use Rattle.std.proofs.Common.{ap, sym, ◌∙◌}
use Rattle.std.proofs.lemmas.List.{map-append}
use Rattle.p21_spec_schema.specs.Schema as schema
use Rattle.p21_spec_schema.specs.Schema.{Schema, Member, entity_member, type_member, Kind, Entity, Attribute, Defined}
use Rattle.p21_express_syntax.specs.Digest.{TypeDigest, AttributesDigest, EntityDigest, BodyDigest, enumeration, select, underlying, DefinedTypeDigest, SchemaDigest}
use Rattle.p21_express_syntax.specs.declared.attributes.AttributeName.{AttributeName}
use Rattle.p21_express_syntax.specs.declared.attributes.AttributeName.TheVariants.{Own, Redeclared}
use Rattle.p21_express_outline.specs.Bare.{bare_entity, bare}
use Rattle.p21_express_outline.specs.Outline.{Named, digest_names, IsNamed, MemberIs, DigestKindIs, DigestAttributeIs, EntityOutline, TypeOutline, DigestOneOfIs, digest_one_of_lists, digest_own_explicit, digest_own_names, IsOutline}
use Rattle.p21_express_outline.proofs.TypeDigests.{type-one}
use Rattle.p21_express_outline.proofs.NameLemmas.{AreApart, one-entity, one-type, no-both}
use Rattle.p21_express_outline.proofs.Zips.{AllZip-one, AllZip-one_first, AllZip-one_mapped, map-twice}

attribute-one : (n : Named) → AreApart n → (kept : List ℕ × Bool × TypeDigest) (a b : Attribute) → DigestAttributeIs n kept a
    → DigestAttributeIs n kept b → a ≡ b
attribute-one n distinct kept a b is is_ =
    let name : a.name ≡ b.name = is.0 ∙ sym is_.0 in
    let optional : a.optional ≡ b.optional = is.1 ∙ sym is_.1 in
    let type : a.type ≡ b.type = type-one n distinct kept.2 a.type b.type is.2 is_.2 in
    let f : List ℕ → Attribute = λ v. record { name = v; optional = a.optional; type = a.type } in
    let g : Bool → Attribute = λ v. record { name = b.name; optional = v; type = a.type } in
    let h : schema.TypeUse → Attribute = λ v. record { name = b.name; optional = b.optional; type = v } in
    ap f name ∙ ap g optional ∙ ap h type

pub entity-one : (n : Named) → AreApart n → (x : EntityDigest) (a b : Entity) → EntityOutline n x a → EntityOutline n x b
    → bare_entity a ≡ bare_entity b
entity-one n distinct x a b is is_ =
    let supertypes : a.supertypes ≡ b.supertypes = AllZip-one_first (IsNamed n.entities) (IsNamed n.entities)
    (λ e f name h k. one-entity n distinct e f name h k) a.supertypes b.supertypes x.supertypes is.supertypes_are is_.supertypes_are in
    let attributes : a.attributes ≡ b.attributes = AllZip-one (DigestAttributeIs n) (DigestAttributeIs n) (attribute-one n distinct)
    (digest_own_explicit x.explicit) a.attributes b.attributes is.attributes_are is_.attributes_are in
    let f : List ℕ → Entity = λ v. record {
      name = v;
      is_abstract = a.is_abstract;
      supertypes = a.supertypes;
      attributes =
          a.attributes;
      redeclared = [];
      derived = [];
    } in
    let g : Bool → Entity = λ v. record {
      name = b.name;
      is_abstract = v;
      supertypes = a.supertypes;
      attributes = a.attributes;
      redeclared =
          [];
      derived = [];
    } in
    let h : List ℕ → Entity = λ v. record {
      name = b.name;
      is_abstract = b.is_abstract;
      supertypes = v;
      attributes =
          a.attributes;
      redeclared = [];
      derived = [];
    } in
    let k : List Attribute → Entity = λ v. record {
      name = b.name;
      is_abstract = b.is_abstract;
      supertypes = b.supertypes;
      attributes =
          v;
      redeclared = [];
      derived = [];
    } in
    ap f (is.name_is ∙ sym is_.name_is) ∙ ap g (is.abstract_is ∙ sym is_.abstract_is) ∙ ap h supertypes ∙ ap k attributes

member-one : (n : Named) → AreApart n → (a b : Member) (name : List ℕ) → MemberIs n a name → MemberIs n b name → a ≡ b
member-one n distinct (entity_member e) (entity_member f) name is is_ = ap entity_member (one-entity n distinct e f name is is_)
member-one n distinct (entity_member e) (type_member t) name is is_ = absurd (no-both n distinct e t name is is_)
member-one n distinct (type_member t) (entity_member e) name is is_ = absurd (no-both n distinct e t name is_ is)
member-one n distinct (type_member t) (type_member u) name is is_ = ap type_member (one-type n distinct t u name is is_)

kind-one : (n : Named) → AreApart n → (body : BodyDigest) (a b : Kind) → DigestKindIs n body a → DigestKindIs n body b → a ≡ b
kind-one n distinct (underlying kept) a b (type, is, alone, same) (type_, is_, alone_, same_) = same
    ∙ ap schema.alias (type-one n distinct kept type type_ is is_) ∙ sym same_
kind-one n distinct (enumeration names) a b is is_ = is.0 ∙ sym is_.0
kind-one n distinct (select names) a b (members, are, apart, same) (members_, are_, apart_, same_) = same
    ∙ ap schema.choice (AllZip-one_first (MemberIs n) (MemberIs n) (member-one n distinct) members members_ names are are_) ∙ sym same_

type_outline-one : (n : Named) → AreApart n → (x : DefinedTypeDigest) (a b : Defined) → TypeOutline n x a → TypeOutline n x b → a ≡ b
type_outline-one n distinct x a b is is_ =
    let f : List ℕ → Defined = λ v. record { name = v; kind = a.kind } in
    let g : Kind → Defined = λ v. record { name = b.name; kind = v } in
    ap f (is.name_is ∙ sym is_.name_is) ∙ ap g (kind-one n distinct x.body a.kind b.kind is.kind_is is_.kind_is)

list-one : (n : Named) → AreApart n → (names : List (List ℕ)) (a b : List ℕ) → DigestOneOfIs n names a → DigestOneOfIs n names b → a ≡ b
list-one n distinct names a b is is_ = AllZip-one_first (IsNamed n.entities) (IsNamed n.entities)
    (λ e f name h k. one-entity n distinct e f name h k) a b names is.0 is_.0

pub outline-one : (k : SchemaDigest) (s t : Schema) → IsOutline k s → IsOutline k t → bare s ≡ bare t
outline-one k s t is is_ =
    let n : Named = digest_names k in
    let distinct : AreApart n = is.names_distinct in
    let entities : map bare_entity s.entities ≡ map bare_entity t.entities =
    AllZip-one_mapped (EntityOutline n) (EntityOutline n) bare_entity (entity-one n distinct) k.entities s.entities t.entities
    is.entities_are is_.entities_are in
    let types : s.types ≡ t.types = AllZip-one (TypeOutline n) (TypeOutline n) (type_outline-one n distinct) k.types s.types t.types
    is.types_are is_.types_are in
    let lists : s.one_of_lists ≡ t.one_of_lists = AllZip-one (DigestOneOfIs n) (DigestOneOfIs n) (list-one n distinct)
    (digest_one_of_lists k.entities) s.one_of_lists t.one_of_lists is.one_of_are is_.one_of_are in
    let f : List ℕ → Schema = λ v. record {
      name = v;
      entities = map bare_entity s.entities;
      types = s.types;
      one_of_lists =
          s.one_of_lists;
    } in
    let g : List Entity → Schema = λ v. record { name = t.name; entities = v; types = s.types; one_of_lists = s.one_of_lists } in
    let h : List Defined → Schema = λ v. record {
      name = t.name;
      entities = map bare_entity t.entities;
      types = v;
      one_of_lists =
          s.one_of_lists;
    } in
    let l : List (List ℕ) → Schema = λ v. record {
      name = t.name;
      entities = map bare_entity t.entities;
      types = t.types;
      one_of_lists =
          v;
    } in
    ap f (is.name_is ∙ sym is_.name_is) ∙ ap g entities ∙ ap h types ∙ ap l lists

-- ---- the names of the attributes of an entity

pub own_names-append : (xs ys : List AttributeName) → digest_own_names (xs ++ ys) ≡ digest_own_names xs ++ digest_own_names ys
own_names-append [] ys = refl
own_names-append (Own name ∷ xs) ys = ap (λ ns. name ∷ ns) (own_names-append xs ys)
own_names-append (Redeclared entity name ∷ xs) ys = own_names-append xs ys

map-itself : {X : Type 0} (xs : List X) → map (λ x. x) xs ≡ xs
map-itself [] = refl
map-itself (x ∷ xs) = ap (λ ys. x ∷ ys) (map-itself xs)

pub own-names : (explicit : List AttributesDigest)
    → map (λ w. w.0) (digest_own_explicit explicit) ≡ digest_own_names (flat_map (λ d. d.names) explicit)
own-names [] = refl
own-names (d ∷ explicit) =
    map-append (λ w. w.0) (map (λ name. (name, d.optional, d.type)) (digest_own_names d.names)) (digest_own_explicit explicit)
    ∙ ap (λ ns. ns ++ map (λ w. w.0) (digest_own_explicit explicit))
    (map-twice (λ name. (name, d.optional, d.type)) (λ w. w.0) (digest_own_names d.names) ∙ map-itself (digest_own_names d.names))
    ∙ ap (λ ns. digest_own_names d.names ++ ns) (own-names explicit)
    ∙ sym (own_names-append d.names (flat_map (λ y. y.names) explicit))
