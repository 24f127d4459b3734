-- The last one of the types that a type renames, one behind the other.
use Rattle.std.specs.Prelude.{◌≡◌, ℕ, suc, List, [], Some, length, slice_get, slice_set, take, Contains, refl}
use Rattle.std.proofs.Common.{arith, ap, sym, ◌∙◌, subst, inl, inr, get_or}
use Rattle.std.proofs.lemmas.Bool.{cases_eq}
use Rattle.std.proofs.lemmas.List.{get_or-set_other, get_or-set_same, length-set, length-map}
use Rattle.p21_spec_basics.proofs.Members.{Contains-none, Contains-first, Contains-cases}
use Rattle.p21_spec_schema.specs.Declared.{HasNoCircle, Renames}
use Rattle.p21_spec_schema.specs.Schema as schema
use Rattle.p21_spec_schema.specs.Schema.{Schema, TypeUse, Kind, defined, alias, kind_of}
use Rattle.p21_express_graph.specs.DirectRenaming.{at_itself, through, IsPlain, AreEnds, IsEnd, RenamesNone, renamed_by, direct_renaming}
use Rattle.p21_express_graph.specs.Resolved.{HoldsTogether, IsType}
use Rattle.p21_express_graph.specs.SettledOrder.{AreWithin, IsNext, IsSettledOrder}
use Rattle.p21_express_graph.proofs.Offering.{listed, listed-got, listed-has}
use Rattle.p21_express_graph.proofs.OrderTables.{take-more}
use Rattle.p21_express_graph.proofs.Resolving.{alias-is}

in-renamed_by : (type : TypeUse) (t : ℕ) → Contains (renamed_by type) t → type ≡ defined t
in-renamed_by (schema.defined u) t among = elim (Contains-cases u [] t among) [ inl h ↦ ap schema.defined h | inr h ↦ absurd (Contains-none t h) ]
in-renamed_by schema.whole t among = absurd (Contains-none t among)
in-renamed_by schema.real t among = absurd (Contains-none t among)
in-renamed_by schema.number t among = absurd (Contains-none t among)
in-renamed_by schema.boolean t among = absurd (Contains-none t among)
in-renamed_by schema.logical t among = absurd (Contains-none t among)
in-renamed_by (schema.text width) t among = absurd (Contains-none t among)
in-renamed_by (schema.bits width) t among = absurd (Contains-none t among)
in-renamed_by (schema.entity e) t among = absurd (Contains-none t among)
in-renamed_by (schema.array low high optional unique element) t among = absurd (Contains-none t among)
in-renamed_by (schema.list low high unique element) t among = absurd (Contains-none t among)
in-renamed_by (schema.set low high element) t among = absurd (Contains-none t among)
in-renamed_by (schema.bag low high element) t among = absurd (Contains-none t among)

pub in-renamed : (kind : Kind) (t : ℕ) → Contains (direct_renaming kind) t → kind ≡ alias (defined t)
in-renamed (schema.alias type) t among = ap alias (in-renamed_by type t among)
in-renamed (schema.items words) t among = absurd (Contains-none t among)
in-renamed (schema.choice members) t among = absurd (Contains-none t among)

-- the types that each renames
abbrev pub renamed_types : Schema → List (List ℕ)
renamed_types s = listed direct_renaming s.types

module _ (s : Schema) where
  pub next-renames : (t u : ℕ) → IsNext (renamed_types s) t u → Renames s t u
  next-renames t u next = let (k, is, among) = listed-has s direct_renaming t u next in is ∙ ap Some (in-renamed k u among)

  pub renames-next : (t u : ℕ) → Renames s t u → IsNext (renamed_types s) t u
  renames-next t u is = listed-got s direct_renaming t u (alias (defined u)) is (Contains-first u [])

  pub renamed-within : HoldsTogether s → AreWithin (renamed_types s)
  renamed-within holds t u next = let below = alias-is s holds t (defined u) (next-renames t u next) in omega (arith, below, length-map s.types (λ x. direct_renaming x.kind))

  pub renamed-end : HoldsTogether s → HasNoCircle (IsNext (renamed_types s))
  renamed-end holds = (holds.renaming_ends.0, λ t u next. holds.renaming_ends.1 t u (next-renames t u next))

  -- a type that renames none is the last, and another one has the last of the next
  pub end-itself : (t : ℕ) (kind : Kind) → IsType s t → kind_of s t ≡ Some kind → RenamesNone kind → IsEnd s t t
  end-itself t kind is_type is none = record { comes = at_itself (defined t); is_type = is_type; no_more = λ type renames. none type (let same : Some kind ≡ Some (alias type) = sym is ∙ renames in cc) }

  pub end-next : (t u last : ℕ) → Renames s t u → IsEnd s u last → IsEnd s t last
  end-next t u last is end = record { comes = through t (defined u) (defined last) is end.comes; is_type = end.is_type; no_more = end.no_more }

-- the last ones of those that were listed so far are in the table
pub record AreSoFar (s : Schema) (ends done : List ℕ) : Type 0 where
  pub size : length ends ≡ length s.types
  pub each : (t : ℕ) → Contains done t → IsEnd s t (get_or ends t 0)

module _ (s : Schema) (listed_ : List ℕ) (settled_order : IsSettledOrder (renamed_types s) listed_) (ends : List ℕ) (k t : ℕ) (at : slice_get listed_ k ≡ Some t) (so_far : AreSoFar s ends (take k listed_)) where
  -- the next one is known
  pub next-known : (u : ℕ) → Renames s t u → IsEnd s u (get_or ends u 0)
  next-known u is = so_far.each u (settled_order.behind k t u at (renames-next s t u is))

  pub ends-more : (last : ℕ) → IsType s t → IsEnd s t last → AreSoFar s (slice_set ends t last) (take (suc k) listed_)
  ends-more last is_type end = record {
    size = length-set ends t last ∙ so_far.size;
    each = λ u among. elim (cases_eq u t) [
      | inl same ↦
          let P : ℕ → Type 0 = λ x. IsEnd s x (get_or (slice_set ends t last) x 0) in
          let Q : ℕ → Type 0 = λ x. IsEnd s t x in
          subst P (sym same) (subst Q (sym (get_or-set_same ends t last 0 (omega (arith, is_type, so_far.size)))) end)
      | inr other ↦
          let Q : ℕ → Type 0 = λ x. IsEnd s u x in
          subst Q (sym (get_or-set_other ends t u last 0 other)) (so_far.each u (elim (take-more listed_ k u among) [ inl h ↦ h | inr h ↦ absurd (other (let same : Some u ≡ Some t = sym h ∙ at in cc)) ]))
    ];
  }

pub all-ends : (s : Schema) (listed_ ends : List ℕ) → IsSettledOrder (renamed_types s) listed_ → AreSoFar s ends listed_ → AreEnds s ends
all-ends s listed_ ends settled_order so_far = record { size = so_far.size; each = λ t is. so_far.each t (settled_order.all t (omega (arith, is, length-map s.types (λ x. direct_renaming x.kind)))) }

none-declared : (type : TypeUse) → IsPlain type → renamed_by type ≡ []
none-declared (schema.defined t) plain = absurd plain
none-declared other plain = refl

-- a type that renames no declared one has an empty list
pub none-renamed : (kind : Kind) → RenamesNone kind → direct_renaming kind ≡ []
none-renamed (schema.alias type) none = none-declared type (none type refl)
none-renamed (schema.items words) none = refl
none-renamed (schema.choice members) none = refl
