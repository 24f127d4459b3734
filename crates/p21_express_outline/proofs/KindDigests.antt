-- A type declaration, and what is kept of it.
use Rattle.std.specs.Prelude.{◌≡◌, ℕ, List, Option, Some, None, slice_get, Contains, refl}
use Rattle.std.specs.List.{AllZip}
use Rattle.std.proofs.Common.{ap, sym, ◌∙◌, subst}
use Rattle.p21_spec_basics.proofs.Members.{Contains-at, Contains-found, AllZip-second_member}
use Rattle.p21_spec_schema.specs.TypeDeclaration as written
use Rattle.p21_spec_schema.specs.TypeDeclaration.{TypeDeclaration, Body}
use Rattle.p21_spec_schema.specs.Schema as schema
use Rattle.p21_spec_schema.specs.Schema.{Schema, TypeUse, Member, entity_member, type_member, Kind, alias, Defined, kind_of}
use Rattle.p21_spec_schema.specs.Select.{IsSelect}
use Rattle.p21_spec_schema.specs.DefinedType.{MemberNamed, MayBeUnderlying, DeclaresKind, is_alias, is_items, is_choice, DeclaresType}
use Rattle.p21_express_syntax.specs.Digesting.{body_digest, defined_type_digest}
use Rattle.p21_express_syntax.specs.Within.{IsBodyWithin, IsDefinedWithin}
use Rattle.p21_express_outline.specs.DeclaredBy.{RenamesNoSelect}
use Rattle.p21_express_outline.specs.Outline.{Named, MemberIs, IsNoEntity, DigestKindIs, TypeOutline}
use Rattle.p21_express_outline.proofs.TypeDigests.{type-digested, type-written, type-numbers}
use Rattle.p21_express_outline.proofs.NameLemmas.{HasNames, entity-at, type-at, entity-of, type-of}
use Rattle.p21_express_outline.proofs.Zips.{AllZip-weaker}

no-entity : (s : Schema) (type : TypeUse) → MayBeUnderlying s type → IsNoEntity type
no-entity s schema.whole may = tt
no-entity s schema.real may = tt
no-entity s schema.number may = tt
no-entity s schema.boolean may = tt
no-entity s schema.logical may = tt
no-entity s (schema.text width) may = tt
no-entity s (schema.bits width) may = tt
no-entity s (schema.entity e) may = may
no-entity s (schema.defined t) may = tt
no-entity s (schema.array low high optional unique element) may = tt
no-entity s (schema.list low high unique element) may = tt
no-entity s (schema.set low high element) may = tt
no-entity s (schema.bag low high element) may = tt

may-be : (s : Schema) (type : TypeUse) → IsNoEntity type → ((u : ℕ) → type ≡ schema.defined u → IsSelect s u → ⊥) → MayBeUnderlying s type
may-be s schema.whole named none = tt
may-be s schema.real named none = tt
may-be s schema.number named none = tt
may-be s schema.boolean named none = tt
may-be s schema.logical named none = tt
may-be s (schema.text width) named none = tt
may-be s (schema.bits width) named none = tt
may-be s (schema.entity e) named none = named
may-be s (schema.defined t) named none = none t refl
may-be s (schema.array low high optional unique element) named none = tt
may-be s (schema.list low high unique element) named none = tt
may-be s (schema.set low high element) named none = tt
may-be s (schema.bag low high element) named none = tt

member-at : (s : Schema) (n : Named) → HasNames s n → (m : Member) (name : List ℕ) → MemberNamed s m name → MemberIs n m name
member-at s n has (entity_member e) name is = entity-at s n has e name is
member-at s n has (type_member t) name is = type-at s n has t name is

member-of : (s : Schema) (n : Named) → HasNames s n → (m : Member) (name : List ℕ) → MemberIs n m name → MemberNamed s m name
member-of s n has (entity_member e) name is = entity-of s n has e name is
member-of s n has (type_member t) name is = type-of s n has t name is

kind-digested : (s : Schema) (n : Named) → HasNames s n → (b : Body) (k : Kind) → DeclaresKind s b k → DigestKindIs n (body_digest b) k
kind-digested s n has _ _ (is_alias w type is small may) = (type, type-digested s n has w type is, no-entity s type may, refl)
kind-digested s n has _ _ (is_items names distinct) = (refl, distinct)
kind-digested s n has _ _ (is_choice names members are distinct) = (
  members,
  AllZip-weaker (MemberNamed s) (MemberIs n) members names (λ m name among among_ h. member-at s n has m name h) are,
  distinct,
  refl,
)

pub defined-digested : (s : Schema) (n : Named) → HasNames s n → (x : TypeDeclaration) (found : Defined) → DeclaresType s x found
    → TypeOutline n (defined_type_digest x) found
defined-digested s n has x found is = record { name_is = is.name_is; kind_is = kind-digested s n has x.body found.kind is.kind_is }

kind-written : (s : Schema) (n : Named) → HasNames s n → (b : Body) (k : Kind) → IsBodyWithin b
    → ((u : ℕ) → k ≡ alias (schema.defined u) → IsSelect s u → ⊥) → DigestKindIs n (body_digest b) k → DeclaresKind s b k
kind-written s n has (written.underlying w) k within none (type, is, named, same) =
    subst (DeclaresKind s (written.underlying w)) (sym same)
    (is_alias w type (type-written s n has w type within.0 is) within.1
    (may-be s type named (λ u is_defined. none u (same ∙ ap alias is_defined))))
kind-written s n has (written.enumeration names) k within none (same, distinct) =
    subst (DeclaresKind s (written.enumeration names)) (sym same) (is_items names distinct)
kind-written s n has (written.select names) k within none (members, are, distinct, same) =
    subst (DeclaresKind s (written.select names)) (sym same)
    (is_choice names members (AllZip-weaker (MemberIs n) (MemberNamed s) members names
    (λ m name among among_ h. member-of s n has m name h) are) distinct)

kind-at : (s : Schema) (t : ℕ) (found : Defined) → slice_get s.types t ≡ Some found → kind_of s t ≡ Some found.kind
kind-at s t found at = let g : Option Defined → Option Kind = λ o. elim o [ Some x ↦ Some x.kind | None ↦ None ] in ap g at

pub defined-written : (s : Schema) (n : Named) → HasNames s n → RenamesNoSelect s → (x : TypeDeclaration) (found : Defined)
    → IsDefinedWithin x → Contains s.types found → TypeOutline n (defined_type_digest x) found → DeclaresType s x found
defined-written s n has none x found within among is =
    let (t, at) = Contains-at s.types found among in
    record {
      name_is = is.name_is;
      kind_is = kind-written s n has x.body found.kind within
          (λ u same select. none t u (kind-at s t found at ∙ ap Some same) select) is.kind_is;
    }

pub defined-within : (s : Schema) (b : Body) (k : Kind) → DeclaresKind s b k → IsBodyWithin b
defined-within s _ _ (is_alias w type is small may) = (type-numbers s w type is, small)
defined-within s _ _ (is_items names distinct) = tt
defined-within s _ _ (is_choice names members are distinct) = tt

underlying-no_select : (s : Schema) (b : Body) (k : Kind) (u : ℕ) → DeclaresKind s b k → k ≡ alias (schema.defined u) → IsSelect s u → ⊥
underlying-no_select s _ _ u (is_alias w type is small may) same select = let h : type ≡ schema.defined u = cc in
    let m : MayBeUnderlying s (schema.defined u) = subst (MayBeUnderlying s) h may in m select
underlying-no_select s _ _ u (is_items names distinct) same select = cc
underlying-no_select s _ _ u (is_choice names members are distinct) same select = cc

pub declared-no_select : (s : Schema) (types : List TypeDeclaration) → AllZip (DeclaresType s) types s.types → RenamesNoSelect s
declared-no_select s types are t u renames select = by (slice_get s.types t) refl renames
  where
    by : (o : Option Defined) → slice_get s.types t ≡ o
        → ◌≡◌ {A = Option Kind} (elim o [ Some x ↦ Some x.kind | None ↦ None ]) (Some (alias (schema.defined u))) → ⊥
    by None at is = cc
    by (Some found) at is =
        let (x, among, defined_is) = AllZip-second_member (DeclaresType s) types s.types found are (Contains-found s.types t found at) in
        let same : found.kind ≡ alias (schema.defined u) = cc in
        underlying-no_select s x.body found.kind u defined_is.kind_is same select
