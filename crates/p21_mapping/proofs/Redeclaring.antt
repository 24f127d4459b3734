-- What may stand at a place depends on those of the entities alone that redeclare it.
use Rattle.std.specs.Prelude.{◌≡◌, ◌↔◌, ◌+◌, ◌<◌, ℕ, List, ◌++◌, [], ◌∷◌, length, take, Contains, refl}
use Rattle.std.proofs.Common.{inl, inr, ap, sym, ◌∙◌, subst, get_or}
use Rattle.std.proofs.lemmas.List.{map-append}
use Rattle.std.proofs.lemmas.List.Elements.{Contains-append_left, Contains-append_right, Contains-push_cases}
use Rattle.p21_spec_basics.proofs.Members.{Contains-none, Contains-first}
use Rattle.p21_express_graph.proofs.Lookups.{numbers-more}
use Rattle.p21_express_graph.specs.Orders.{numbers}
use Rattle.p21_express_graph.specs.declared.number.EntityId.{EntityId}
use Rattle.p21_express_graph.specs.Lookups.{AreEntities}
use Rattle.p21_schema.specs.Redeclarers.{RedeclaresPlace}
use Rattle.p21_mapping.proofs.Shapes.{stored-not_open}
use Rattle.p21_mapping.specs.Redeclaring.{AreThoseAmong}
use Rattle.p21_spec_schema.specs.PlaceType.{PlaceType, TypeAt, derived_place, stored_place, two_redeclarations, IsDerivedIn, IsRedeclared, Decides}
use Rattle.p21_spec_schema.specs.Schema.{Schema, Place, Redeclared}

module _ (s : Schema) (es fs : List ℕ) (place : Place) (same : (e : ℕ) → RedeclaresPlace s e place → Contains es e ↔ Contains fs e) where
  derived-there : IsDerivedIn s es place → IsDerivedIn s fs place
  derived-there (e, x, among, at, derives) = (e, x, (same e (inr (x, at, derives))).0 among, at, derives)

  derived-here : IsDerivedIn s fs place → IsDerivedIn s es place
  derived-here (e, x, among, at, derives) = (e, x, (same e (inr (x, at, derives))).1 among, at, derives)

  redeclared-there : IsRedeclared s es place → IsRedeclared s fs place
  redeclared-there (e, r, (among, redeclares, is)) = (e, r, ((same e (inl (r, (redeclares, is)))).0 among, redeclares, is))

  redeclared-here : IsRedeclared s fs place → IsRedeclared s es place
  redeclared-here (e, r, (among, redeclares, is)) = (e, r, ((same e (inl (r, (redeclares, is)))).1 among, redeclares, is))

  decides-there : (r : Redeclared) → Decides s es place r → Decides s fs place r
  decides-there r (e, (among, redeclares, is), below) = (
    e,
    ((same e (inl (r, (redeclares, is)))).0 among, redeclares, is),
    λ f other (f_among, f_redeclares, f_is). below f other
        ((same f (inl (other, (f_redeclares, f_is)))).1 f_among, f_redeclares, f_is),
  )

  decides-here : (r : Redeclared) → Decides s fs place r → Decides s es place r
  decides-here r (e, (among, redeclares, is), below) = (
    e,
    ((same e (inl (r, (redeclares, is)))).1 among, redeclares, is),
    λ f other (f_among, f_redeclares, f_is). below f other
        ((same f (inl (other, (f_redeclares, f_is)))).0 f_among, f_redeclares, f_is),
  )

  pub type-there : (at : PlaceType) → TypeAt s es place at → TypeAt s fs place at
  type-there derived_place is = derived-there is
  type-there (stored_place optional type) (stored, inl (r, decides, is_optional, is_type)) =
      (λ derived. stored (derived-here derived), inl (r, decides-there r decides, is_optional, is_type))
  type-there (stored_place optional type) (stored, inr (none, declared)) =
      (λ derived. stored (derived-here derived), inr (λ redeclared. none (redeclared-here redeclared), declared))
  type-there two_redeclarations (stored, some, none) =
      (λ derived. stored (derived-here derived), redeclared-there some, λ r decides. none r (decides-here r decides))

-- the type by those that redeclare the place is that of all
pub type-all : (s : Schema) (entities some members : List ℕ) (place : Place) → ((e : ℕ) → RedeclaresPlace s e place → Contains some e)
    → AreThoseAmong entities some members → (at : PlaceType) → TypeAt s members place at → TypeAt s entities place at
type-all s entities some members place all are at is =
    type-there s members entities place (λ e redeclares. (λ among. ((are e).0 among).1, λ among. (are e).1 (all e redeclares, among))) at is

pub members-within : (s : Schema) (entities some members : List ℕ) → AreEntities s entities → AreThoseAmong entities some members
    → AreEntities s members
members-within s entities some members known are e among = known e ((are e).0 among).1

-- a place that is left open has no other type
pub only-open : (s : Schema) (es : List ℕ) (place : Place) (at : PlaceType) → TypeAt s es place at → TypeAt s es place two_redeclarations
    → at ≡ two_redeclarations
only-open s es place derived_place is two = absurd (two.0 is)
only-open s es place (stored_place optional type) is two = absurd (stored-not_open s es place optional type is two)
only-open s es place two_redeclarations is two = refl

-- ---- those among others

pub none-among : (entities members : List ℕ) → members ≡ [] → AreThoseAmong entities [] members
none-among entities members none e = (
  λ is. absurd (Contains-none e (subst (λ (es : List ℕ). Contains es e) none is)),
  λ both. absurd
      (Contains-none e both.0),
)

behind-is : (es : List ℕ) (e f : ℕ) → e ≡ f → Contains (es ++ e ∷ []) f
behind-is es e f same = subst (λ (x : ℕ). Contains (es ++ e ∷ []) x) same (Contains-append_right es (e ∷ []) e (Contains-first e []))

grown : (entities earlier members : List ℕ) (e : ℕ) → Contains entities e → AreThoseAmong entities earlier members
    → AreThoseAmong entities (earlier ++ e ∷ []) (members ++ e ∷ [])
grown entities earlier members e among are f = (
  λ is. elim (Contains-push_cases members e f is) [
    | inl old ↦ (let both = (are f).0 old in (Contains-append_left earlier (e ∷ []) f both.0, both.1))
    | inr new ↦ (behind-is earlier e f new, subst (λ (x : ℕ). Contains entities x) new among)
  ],
  λ both. elim (Contains-push_cases earlier e f both.0) [
    | inl old ↦ Contains-append_left members (e ∷ []) f ((are f).1 (old, both.1))
    | inr new ↦ behind-is members e f new
  ],
)

passed : (entities earlier members : List ℕ) (e : ℕ) → (Contains entities e → ⊥) → AreThoseAmong entities earlier members
    → AreThoseAmong entities (earlier ++ e ∷ []) members
passed entities earlier members e other are f = (
  λ is. (let both = (are f).0 is in (Contains-append_left earlier (e ∷ []) f both.0, both.1)),
  λ both. elim (Contains-push_cases earlier e f both.0) [
    | inl old ↦ (are f).1 (old, both.1)
    | inr new ↦ absurd (other (subst (λ (x : ℕ). Contains entities x) (sym new) both.1))
  ],
)

module _ (entities : List ℕ) (some : List EntityId) (k : ℕ) (d : EntityId) (members after : List EntityId) (below : k < length some)
    (are : AreThoseAmong entities (numbers (take k some)) (numbers members)) where
  next-is : numbers (take (k + 1) some) ≡ numbers (take k some) ++ (get_or some k d).0 ∷ []
  next-is = numbers-more (λ (e : EntityId). e.0) some k d below

  -- one more that is among the entities
  pub one-among : Contains entities (get_or some k d).0 → after ≡ members ++ get_or some k d ∷ []
      → AreThoseAmong entities (numbers (take (k + 1) some)) (numbers after)
  one-among among is =
      let after-is : numbers after ≡ numbers members ++ (get_or some k d).0 ∷ [] = ap numbers is
      ∙ map-append (λ (e : EntityId). e.0) members (get_or some k d ∷ []) in
      rw (next-is, after-is) (grown entities (numbers (take k some)) (numbers members) (get_or some k d).0 among are)

  -- and one that isn't
  pub one-apart : (Contains entities (get_or some k d).0 → ⊥) → after ≡ members
      → AreThoseAmong entities (numbers (take (k + 1) some)) (numbers after)
  one-apart other is = rw (next-is, is) (passed entities (numbers (take k some)) (numbers members) (get_or some k d).0 other are)
