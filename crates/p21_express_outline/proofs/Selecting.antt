-- Types that are selects.
use Rattle.std.specs.Prelude.{◌≡◌, ◌↔◌, ℕ, suc, ◌<◌, ◌≤◌, true, false, List, length, map, Option, Some, None, slice_get, Contains, refl, IsTrue}
use Rattle.std.specs.Option.{option_map}
use Rattle.std.proofs.Common.{arith, ap, sym, ◌∙◌, subst, get_or}
use Rattle.std.proofs.lemmas.Option.{slice_get-get_or, slice_get-map, slice_get_within, get_or_from_slice_get}
use Rattle.p21_spec_basics.proofs.Members.{Contains-at}
use Rattle.p21_spec_schema.specs.Schema as schema
use Rattle.p21_spec_schema.specs.Schema.{Kind, Defined, kind_of}
use Rattle.p21_spec_schema.specs.Declared.{Renames}
use Rattle.p21_spec_schema.specs.Select.{IsSelect}
use Rattle.p21_express_outline.proofs.Settling.{kind-renamed}
use Rattle.p21_express_outline.proofs.Zips.{at-mapped, mapped-at}
use Rattle.p21_express_graph.specs.SchemaContents.{schema_of, defined}
use Rattle.p21_express_graph.specs.declared.schema_contents.Defined.{Defined as Declared}
use Rattle.p21_express_graph.specs.declared.schema_contents.SchemaContents.{SchemaContents}
use Rattle.p21_express_graph.specs.Meaning.{kind, member}
use Rattle.p21_express_graph.specs.declared.kind.Member.{Member}
use Rattle.p21_express_graph.specs.declared.kind.TypeKind.TheVariants.{Choice}
use Rattle.p21_express_graph.specs.DirectRenaming.{direct_renaming}
use Rattle.p21_express_graph.proofs.Ends.{in-renamed}

kind_in : Option Defined → Option Kind
kind_in o = elim o [ Some x ↦ Some x.kind | None ↦ None ]

pub kind-at : (parts : SchemaContents) (t : ℕ) (x : Declared) → slice_get parts.types.items t ≡ Some x
    → kind_of (schema_of parts) t ≡ Some (kind x.kind)
unfolding kind_in
kind-at parts t x at = ap kind_in (mapped-at defined parts.types.items t x at)

pub not-select : (parts : SchemaContents) (t : ℕ) (k : Kind) → kind_of (schema_of parts) t ≡ Some k
    → ((members : List schema.Member) → k ≡ schema.choice members → ⊥) → IsSelect (schema_of parts) t → ⊥
not-select parts t k is none (members, is_select) = none members (let h : Some k ≡ Some (schema.choice members) = sym is ∙ is_select in cc)

-- what an element of the types renames
pub renames-at : (parts : SchemaContents) (t u : ℕ) (x : Declared) → t < length parts.types.items → x ≡ get_or parts.types.items t x
    → Contains (direct_renaming (kind x.kind)) u → Renames (schema_of parts) t u
renames-at parts t u x below is among = kind-at parts t x (slice_get-get_or parts.types.items t x below ∙ ap Some (sym is))
    ∙ ap Some (in-renamed (kind x.kind) u among)

pub renames-of : (parts : SchemaContents) (t u : ℕ) (x : Declared) → t < length parts.types.items → x ≡ get_or parts.types.items t x
    → Renames (schema_of parts) t u → Contains (direct_renaming (kind x.kind)) u
renames-of parts t u x below is renames =
    let h : Some (kind x.kind) ≡ Some (schema.alias (schema.defined u)) =
    sym (kind-at parts t x (slice_get-get_or parts.types.items t x below ∙ ap Some (sym is))) ∙ renames in
    kind-renamed (kind x.kind) u (cc)

pub select-said : (parts : SchemaContents) (t : ℕ) (x : Declared) (members : List Member) → slice_get parts.types.items t ≡ Some x
    → x.kind ≡ Choice members → IsTrue true ↔ IsSelect (schema_of parts) t
select-said parts t x members at is = (λ h. (map member members, kind-at parts t x at ∙ ap (λ k. Some (kind k)) is), λ h. refl)

pub no-select-said : (parts : SchemaContents) (t : ℕ) (x : Declared) → slice_get parts.types.items t ≡ Some x
    → ((members : List schema.Member) → kind x.kind ≡ schema.choice members → ⊥) → IsTrue false ↔ IsSelect (schema_of parts) t
no-select-said parts t x at none = (λ h. cc, λ is. absurd (not-select parts t (kind x.kind) (kind-at parts t x at) none is))

pub absent-said : (parts : SchemaContents) (t : ℕ) → slice_get parts.types.items t ≡ None → IsTrue false ↔ IsSelect (schema_of parts) t
unfolding kind_in
absent-said parts t at = (
  λ h. cc,
  λ is. absurd (let same : kind_of (schema_of parts) t ≡ None =
      ap kind_in (slice_get-map defined parts.types.items t ∙ ap (option_map defined) at) in let h : None ≡ Some (schema.choice is.0) =
      sym same ∙ is.1 in none-is h),
)
  where
    none-is : {A : Type 0} {x : A} → None ≡ Some x → ⊥
    none-is h = cc

-- ---- numbers

pub none-of : (P : ℕ → Type 0) (numbers : List ℕ) (n : ℕ) → length numbers ≤ n → ((k : ℕ) → k < n → P (get_or numbers k 0) → ⊥)
    → ((u : ℕ) × Contains numbers u × P u) → ⊥
none-of P numbers n le none (u, among, holds) =
    let (k, at) = Contains-at numbers u among in
    let below = slice_get_within numbers k u at in
    none k (omega (arith, le, below)) (subst P (sym (get_or_from_slice_get numbers k u 0 at)) holds)

pub said-none : (claim : Type 0) → (claim → ⊥) → IsTrue false ↔ claim
said-none claim none = (λ h. cc, λ holds. absurd (none holds))

pub renames-within : (parts : SchemaContents) (t u : ℕ) → Renames (schema_of parts) t u → t < length parts.types.items
renames-within parts t u renames = by (slice_get (map defined parts.types.items) t) refl renames
  where
    by : (o : Option Defined) → slice_get (map defined parts.types.items) t ≡ o
        → ◌≡◌ {A = Option Kind} (elim o [ Some x ↦ Some x.kind | None ↦ None ]) (Some (schema.alias (schema.defined u)))
        → t < length parts.types.items
    by None at is = cc
    by (Some x) at is = let (d, d_at, same) = at-mapped defined parts.types.items t x at in slice_get_within parts.types.items t d d_at

pub looked : {X : Type 0} (items : List X) (k : ℕ) (x : X) → suc k ≤ length items → x ≡ get_or items k x → slice_get items k ≡ Some x
looked items k x below is = slice_get-get_or items k x (omega (arith, below)) ∙ ap Some (sym is)
