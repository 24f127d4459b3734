-- What decides on the type at a place.
use Rattle.std.specs.Prelude.{◌≡◌, ◌↔◌, ℕ, ◌⊎◌, List, [], ◌∷◌, ◌++◌, Option, Some, None, MatchOption, Contains, slice_get, refl}
use Rattle.std.proofs.Common.{ap, sym, ◌∙◌, subst, inl, inr}
use Rattle.std.proofs.lemmas.List.Elements.{Contains-append_cases}
use Rattle.p21_spec_basics.proofs.Members.{Contains-none, Contains-cases, Contains-found}
use Rattle.p21_spec_schema.specs.Order.{order}
use Rattle.p21_spec_schema.specs.PlaceType.{two_redeclarations, TypeAt, IsDerivedIn, IsRedeclared, IsRedeclaredIn, Decides}
use Rattle.p21_spec_schema.specs.Schema.{Schema, Place, Redeclared}
use Rattle.p21_spec_schema.specs.Supertype.{IsA}
use Rattle.p21_spec_schema.proofs.PlaceTypes.{IsA-antisymmetric}
use Rattle.p21_express_graph.specs.declared.number.EntityId.{EntityId}
use Rattle.p21_express_graph.specs.Lookups.{DerivesPlace}
use Rattle.p21_express_graph.specs.Resolved.{HoldsTogether}
use Rattle.p21_express_graph.proofs.OrderTables.{order-tells}
use Rattle.p21_schema.specs.Decisions.{AreMembers, IsBelowAll, IsBelowLast, IsDecision, IsDeriving, IsLowest, IsRedeclaredAs, IsRedeclaring}
use Rattle.p21_schema.specs.Redeclarers.{RedeclaresPlace}
use Rattle.p21_schema.specs.declared.place_types.Decision.{Decision}
use Rattle.p21_schema.specs.declared.place_types.Decision.TheVariants.{Declared, Derived, Redeclared as Redeclared', Two}

module _ (s : Schema) (entities : List ℕ) (own : Option EntityId) (place : Place) where
  -- the lowest one of those that were seen
  abbrev pub IsLowestSeen : List ℕ → Option EntityId → Type 0
  IsLowestSeen seen None = (f : ℕ) → Contains seen f → IsRedeclaring s own place f → ⊥
  IsLowestSeen seen (Some e) = Contains entities e.0 × IsRedeclaring s own place e.0
      × ((f : ℕ) → Contains seen f → IsRedeclaring s own place f → IsBelowAll s entities own place f → f ≡ e.0)

  -- where all of them were seen
  pub seen-all : (last : Option EntityId) → IsLowestSeen entities last
      → MatchOption last ((f : ℕ) → Contains entities f → IsRedeclaring s own place f → ⊥) (λ e. IsLowest s entities own place e.0)
  seen-all None none = none
  seen-all (Some e) lowest = lowest

  module _ (seen : List ℕ) (e : EntityId) (among : Contains entities e.0) where
    seen-cases : (f : ℕ) → Contains (seen ++ e.0 ∷ []) f → Contains seen f ⊎ (f ≡ e.0)
    seen-cases f is = elim (Contains-append_cases seen (e.0 ∷ []) f is) [
      | inl h ↦ inl h
      | inr h ↦ elim (Contains-cases e.0 [] f h) [ inl same ↦ inr (sym same) | inr none ↦ absurd (Contains-none f none) ]
    ]

    -- one more that is lower
    pub lower-seen : HoldsTogether s → (last : Option EntityId) → IsLowestSeen seen last → IsRedeclaring s own place e.0
        → IsBelowLast s e.0 last → IsLowestSeen (seen ++ e.0 ∷ []) (Some e)
    lower-seen holds None none redeclares below = (
      among,
      redeclares,
      λ f is f_redeclares f_below. elim (seen-cases f is)
          [ inl h ↦ absurd (none f h f_redeclares) | inr h ↦ h ],
    )
    lower-seen holds (Some last) lowest redeclares below = (
      among,
      redeclares,
      λ f is f_redeclares f_below. elim (seen-cases f is) [
        | inl h ↦
            let P : ℕ → Type 0 = λ x. IsA s e.0 x in
            IsA-antisymmetric s holds.supertypes_end f e.0 (f_below e.0 among redeclares)
            (subst P (sym (lowest.2 f h f_redeclares f_below)) below)
        | inr h ↦ h
      ],
    )

    -- and one more that isn't
    pub other-seen : (last : Option EntityId) → IsLowestSeen seen last → (IsRedeclaring s own place e.0 → IsBelowLast s e.0 last → ⊥)
        → IsLowestSeen (seen ++ e.0 ∷ []) last
    other-seen None none other = λ f is f_redeclares. elim (seen-cases f is) [
      | inl h ↦ none f h f_redeclares
      | inr h ↦ let P : ℕ → Type 0 = λ x. IsRedeclaring s own place x in other (subst P h f_redeclares) tt
    ]
    other-seen (Some last) lowest other = (
      lowest.0,
      lowest.1,
      λ f is f_redeclares f_below. elim (seen-cases f is) [
        | inl h ↦ lowest.2 f h f_redeclares f_below
        | inr h ↦
            let P : ℕ → Type 0 = λ x. IsRedeclaring s own place x in
            let Q : ℕ → Type 0 = λ x. IsA s x last.0 in
            absurd (other (subst P h f_redeclares) (subst Q h (f_below last.0 lowest.0 lowest.1)))
      ],
    )

  -- a set whose members these are
  module _ (set : List ℕ) (are : AreMembers s entities own place set) where
    pub derived-in : (e : ℕ) → Contains entities e → IsDeriving s own place e → IsDerivedIn s set place
    derived-in e among ((x, at, derives), counts) = (e, x, are.within e among counts, at, derives)

    pub derived-of : IsDerivedIn s set place → (e : ℕ) × Contains entities e × IsDeriving s own place e
    derived-of (e, x, in_, at, derives) = let (among, counts) = are.counting e in_ (inr (x, at, derives)) in
        (e, among, ((x, at, derives), counts))

    redeclared-of : (f : ℕ) (r : Redeclared) → IsRedeclaredIn s set place f r → Contains entities f × IsRedeclaring s own place f
    redeclared-of f r (in_, redeclares, is) = let (among, counts) = are.counting f in_ (inl (r, (redeclares, is))) in
        (among, ((r, (redeclares, is)), counts))

    pub none-redeclared : ((f : ℕ) → Contains entities f → IsRedeclaring s own place f → ⊥) → IsRedeclared s set place → ⊥
    none-redeclared none (f, r, is) = let (among, redeclares) = redeclared-of f r is in none f among redeclares

    module _ (e : ℕ) (lowest : IsLowest s entities own place e) where
      -- it is of the set
      lowest-in : Contains set e
      lowest-in = are.within e lowest.0 lowest.1.1

      -- where the lowest one isn't below all, none decides
      pub none-decides : (IsDerivedIn s set place → ⊥) → (IsBelowAll s entities own place e → ⊥) → TypeAt s set place two_redeclarations
      none-decides stored apart =
          let (r, (redeclares, is)) = lowest.1.0 in (
            stored,
            (e, r, (lowest-in, redeclares, is)),
            λ q (f, found, below).
                let f_below : IsBelowAll s entities own place f = λ g among redeclaring. below g redeclaring.0.0
                (are.within g among redeclaring.1, redeclaring.0.1.0, redeclaring.0.1.1) in
                let (f_among, f_redeclares) = redeclared-of f q found in
                let P : ℕ → Type 0 = λ x. IsBelowAll s entities own place x in
                apart (subst P (lowest.2 f f_among f_redeclares f_below) f_below),
          )

      -- where it is, it does
      pub lowest-decides : IsBelowAll s entities own place e → (at : ℕ) (r : Redeclared) → IsRedeclaredAs s e at r → r.place ≡ place
          → Decides s set place r
      lowest-decides below at r (x, x_at, r_at) is = (
        e,
        (lowest-in, (x, x_at, Contains-found x.redeclared at r r_at), is),
        λ f other found. let (among, redeclares) =
            redeclared-of f other found in below f among redeclares,
      )

-- a set is the members of itself
pub members-all : (s : Schema) (entities : List ℕ) (place : Place) → AreMembers s entities None place entities
members-all s entities place = record { counting = λ e among redeclares. (among, tt); within = λ e among counts. among }

-- the set of an entity and its supertypes, of these and of those that redeclare the place
module _ (s : Schema) (holds : HoldsTogether s) (own : EntityId) (place : Place) where
  pub members-order : AreMembers s (order s own.0) (Some own) place (order s own.0)
  members-order = record {
    counting = λ e among redeclares. (among, (order-tells s holds own.0 e).0 among);
    within =
        λ e among counts. among;
  }

  pub members-redeclarers : (redeclarers : List ℕ) → ((e : ℕ) → RedeclaresPlace s e place → Contains redeclarers e)
      → AreMembers s redeclarers (Some own) place (order s own.0)
  members-redeclarers redeclarers all = record {
    counting =
        λ e among redeclares. (all e redeclares, (order-tells s holds own.0 e).0 among);
    within =
        λ e among counts. (order-tells s holds own.0 e).1 counts;
  }

  -- whether it derives the place, of entities among which are all of it that do
  pub own-derived : (entities : List ℕ) → ((e : ℕ) → IsA s own.0 e → DerivesPlace s e place → Contains entities e)
      → ((e : ℕ) × Contains entities e × IsDeriving s (Some own) place e) ↔ IsDerivedIn s (order s own.0) place
  own-derived entities all = (
    λ (e, among, ((x, at, derives), counts)). (e, x, (order-tells s holds own.0 e).1 counts, at, derives),
    λ (e, x, among, at, derives). let is_a = (order-tells s holds own.0 e).0 among in
        (e, all e is_a (x, at, derives), ((x, at, derives), is_a)),
  )

-- what stands at a place of a list is one
pub redeclared-one : (s : Schema) (e at : ℕ) (r q : Redeclared) → IsRedeclaredAs s e at r → IsRedeclaredAs s e at q → r ≡ q
redeclared-one s e at r q (x, x_at, r_at) (y, y_at, q_at) =
    let entities : Some y ≡ Some x = sym y_at ∙ x_at in
    let same : y ≡ x = cc in
    let both : Some r ≡ Some q = sym r_at ∙ ap (λ z. slice_get z.redeclared at) (sym same) ∙ q_at in
    cc

-- a place that a set leaves open is decided so, and is a place
module _ (s : Schema) (entities : List ℕ) (place : Place) where
  pub open-decided : TypeAt s entities place two_redeclarations → (decision : Decision) → IsDecision s entities place decision
      → decision ≡ Two
  open-decided open_ Declared is = absurd (is.1 open_.1)
  open-decided open_ Derived is = absurd (open_.0 is)
  open-decided open_ (Redeclared' e at) is = absurd (open_.2 is.1.0 is.1.2)
  open-decided open_ Two is = refl
