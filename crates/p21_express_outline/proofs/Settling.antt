-- Numbers that are settled have ranks, and ranks of lists are ranks of what the lists stand for.
use Rattle.std.specs.Prelude.{◌≡◌, ℕ, zero, suc, ◌<◌, ◌⊎◌, Bool, List, [], ◌∷◌, length, map, take, Option, Some, None, slice_get, Contains, Result, Ok, Err, nat_eq, if◌then◌else◌, refl}
use Rattle.std.specs.Option.{option_map}
use Rattle.std.proofs.Common.{arith, ap, sym, ◌∙◌, subst, inl, inr}
use Rattle.std.proofs.lemmas.Bool.{cases_eq, eq-eqb, ne_eqb}
use Rattle.std.proofs.lemmas.List.{length-map}
use Rattle.std.proofs.lemmas.Option.{slice_get-map, slice_get_within}
use Rattle.p21_spec_basics.proofs.Members.{Contains-none, Contains-first, Contains-cases}
use Rattle.p21_spec_schema.specs.Schema as schema
use Rattle.p21_spec_schema.specs.Schema.{Schema, Kind, Defined}
use Rattle.p21_spec_schema.specs.Declared.{HasNoCircle, HasSupertype, Renames}
use Rattle.p21_spec_schema.specs.WellFormed.{AreEntities}
use Rattle.p21_express_outline.specs.Chains.{AreTypes}
use Rattle.p21_express_outline.specs.Finding.{DecidesClaim}
use Rattle.p21_express_outline.specs.declared.fault.SchemaFault.{SchemaFault}
use Rattle.p21_express_outline.proofs.Zips.{map-twice}
use Rattle.p21_express_graph.specs.SchemaContents.{defined}
use Rattle.p21_express_graph.specs.declared.schema_contents.Defined.{Defined as Declared}
use Rattle.p21_express_graph.specs.Meaning.{kind}
use Rattle.p21_express_graph.specs.Orders.{supertype_lists}
use Rattle.p21_express_graph.specs.SettledOrder.{IsNext, IsSettledOrder, AreWithin}
use Rattle.p21_express_graph.proofs.OrderTables.{supertypes-listed, no-circle}
use Rattle.p21_express_graph.specs.DirectRenaming.{direct_renaming}
use Rattle.p21_express_graph.proofs.Ends.{in-renamed}

-- where a number stands first
abbrev rank : List ℕ → ℕ → ℕ
rank [] x = 0
rank (z ∷ zs) x = if nat_eq z x then 0 else suc (rank zs x)

rank-same : (z : ℕ) (zs : List ℕ) (x : ℕ) → z ≡ x → rank (z ∷ zs) x ≡ 0
rank-same z zs x is = ap (λ (b : Bool). if b then 0 else suc (rank zs x)) (eq-eqb z x is)

rank-other : (z : ℕ) (zs : List ℕ) (x : ℕ) → (z ≡ x → ⊥) → rank (z ∷ zs) x ≡ suc (rank zs x)
rank-other z zs x differ = ap (λ (b : Bool). if b then 0 else suc (rank zs x)) (ne_eqb z x differ)

rank-at : (zs : List ℕ) (x : ℕ) → Contains zs x → slice_get zs (rank zs x) ≡ Some x
rank-at [] x among = absurd (Contains-none x among)
rank-at (z ∷ zs) x among = elim (cases_eq z x) [
  | inl h ↦ let P : ℕ → Type 0 = λ k. slice_get (z ∷ zs) k ≡ Some x in subst P (sym (rank-same z zs x h)) (ap Some h)
  | inr h ↦ let P : ℕ → Type 0 = λ k. slice_get (z ∷ zs) k ≡ Some x in
      subst P (sym (rank-other z zs x h)) (rank-at zs x (later (Contains-cases z zs x among) h))
]
  where
    later : (z ≡ x) ⊎ Contains zs x → (z ≡ x → ⊥) → Contains zs x
    later (inl same) differ = absurd (differ same)
    later (inr among_) differ = among_

rank-before : (zs : List ℕ) (k y : ℕ) → Contains (take k zs) y → rank zs y < k
rank-before zs zero y among = absurd (Contains-none y among)
rank-before [] (suc k) y among = absurd (Contains-none y among)
rank-before (z ∷ zs) (suc k) y among = elim (cases_eq z y) [
  | inl h ↦ (let r = rank-same z zs y h in omega (arith, r))
  | inr h ↦ (let r = rank-other z zs y h in let b = rank-before zs k y (later (Contains-cases z (take k zs) y among) h) in
      omega (arith, r, b))
]
  where
    later : (z ≡ y) ⊎ Contains (take k zs) y → (z ≡ y → ⊥) → Contains (take k zs) y
    later (inl same) differ = absurd (differ same)
    later (inr among_) differ = among_

next-within : (lists : List (List ℕ)) (x y : ℕ) → IsNext lists x y → x < length lists
next-within lists x y step = by (slice_get lists x) refl step
  where
    by : (o : Option (List ℕ)) → slice_get lists x ≡ o → Contains (elim o [ Some nexts ↦ nexts | None ↦ [] ]) y → x < length lists
    by None is among = absurd (Contains-none y among)
    by (Some nexts) is among = slice_get_within lists x nexts is

pub settled-ends : (lists : List (List ℕ)) (listed : List ℕ) → IsSettledOrder lists listed → HasNoCircle (IsNext lists)
settled-ends lists listed settled_order = (
  rank listed,
  λ x y step. rank-before listed (rank listed x) y (settled_order.behind (rank listed x) x y
      (rank-at listed x (settled_order.all x (next-within lists x y step))) step),
)

-- ---- supertypes

pub supertypes-within : (s : Schema) → AreEntities s → AreWithin (supertype_lists s)
supertypes-within s are x y step =
    let P : List ℕ → Type 0 = λ ys. Contains ys y in
    let below = are x y (subst P (supertypes-listed s x) step) in
    let long : length (supertype_lists s) ≡ length s.entities = length-map s.entities (λ z. z.supertypes) in omega (arith, below, long)

pub supertypes-checked : (s : Schema) (lists : List (List ℕ)) (result : Result (Unit {0}) SchemaFault) → lists ≡ supertype_lists s
    → DecidesClaim (HasNoCircle (IsNext lists)) result → DecidesClaim (HasNoCircle (HasSupertype s)) result
supertypes-checked s lists (Ok u) same ends =
    let P : List (List ℕ) → Type 0 = λ ls. HasNoCircle (IsNext ls) in
    let all = subst P same ends in
    (all.0, λ e f up. all.1 e f (let Q : List ℕ → Type 0 = λ ys. Contains ys f in subst Q (sym (supertypes-listed s e)) up))
supertypes-checked s lists (Err fault) same refused = λ other ends.
    let P : List (List ℕ) → Type 0 = λ ls. HasNoCircle (IsNext ls) in
    refused other (subst P (sym same) (no-circle s ends))

-- ---- renamed types

abbrev pub renamed_lists : Schema → List (List ℕ)
renamed_lists s = map (λ x. direct_renaming x.kind) s.types

pub renamed-next : (s : Schema) (t u : ℕ) → IsNext (renamed_lists s) t u → Renames s t u
renamed-next s t u step = by (slice_get s.types t) refl
    (let P : Option (List ℕ) → Type 0 = λ o. Contains (elim o [ Some nexts ↦ nexts | None ↦ [] ]) u in
    subst P (slice_get-map (λ x. direct_renaming x.kind) s.types t) step)
  where
    by : (o : Option Defined) → slice_get s.types t ≡ o
        → Contains (elim (option_map (λ x. direct_renaming x.kind) o) [ Some nexts ↦ nexts | None ↦ [] ]) u → Renames s t u
    by None at among = absurd (Contains-none u among)
    by (Some x) at among = let g : Option Defined → Option Kind = λ o. elim o [ Some z ↦ Some z.kind | None ↦ None ] in ap g at
        ∙ ap Some (in-renamed x.kind u among)

pub next-renamed : (s : Schema) (t u : ℕ) → Renames s t u → IsNext (renamed_lists s) t u
next-renamed s t u renames =
    let P : Option (List ℕ) → Type 0 = λ o. Contains (elim o [ Some nexts ↦ nexts | None ↦ [] ]) u in
    subst P (sym (slice_get-map (λ x. direct_renaming x.kind) s.types t)) (by (slice_get s.types t) renames)
  where
    by : (o : Option Defined) → ◌≡◌ {A = Option Kind} (elim o [ Some z ↦ Some z.kind | None ↦ None ])
        (Some (schema.alias (schema.defined u))) → Contains
        (elim (option_map (λ x. direct_renaming x.kind) o) [ Some nexts ↦ nexts | None ↦ [] ]) u
    by None is = cc
    by (Some x) is = let same : x.kind ≡ schema.alias (schema.defined u) = cc in let Q : Kind
        → Type 0 = λ k. Contains (direct_renaming k) u in subst Q (sym same) (Contains-first u [])

pub renamed-within : (s : Schema) → AreTypes s → AreWithin (renamed_lists s)
renamed-within s are x y step = let below = are x y (renamed-next s x y step) in let long : length (renamed_lists s) ≡ length s.types =
    length-map s.types (λ z. direct_renaming z.kind) in omega (arith, below, long)

pub renamed-checked : (s : Schema) (lists : List (List ℕ)) (result : Result (Unit {0}) SchemaFault) → lists ≡ renamed_lists s
    → DecidesClaim (HasNoCircle (IsNext lists)) result → DecidesClaim (HasNoCircle (Renames s)) result
renamed-checked s lists (Ok u) same ends =
    let P : List (List ℕ) → Type 0 = λ ls. HasNoCircle (IsNext ls) in
    let all = subst P same ends in
    (all.0, λ t v renames. all.1 t v (next-renamed s t v renames))
renamed-checked s lists (Err fault) same refused = λ other ends.
    let P : List (List ℕ) → Type 0 = λ ls. HasNoCircle (IsNext ls) in
    refused other (subst P (sym same) (ends.0, λ t v step. ends.1 t v (renamed-next s t v step)))

pub renamed-are : (types : List Declared) → map (λ x. direct_renaming x.kind) (map defined types) ≡ map (λ x. direct_renaming (kind x.kind))
    types
renamed-are types = map-twice defined (λ x. direct_renaming x.kind) types

pub kind-renamed : (kind_ : Kind) (u : ℕ) → kind_ ≡ schema.alias (schema.defined u) → Contains (direct_renaming kind_) u
kind-renamed kind_ u same = let Q : Kind → Type 0 = λ k. Contains (direct_renaming k) u in subst Q (sym same) (Contains-first u [])
