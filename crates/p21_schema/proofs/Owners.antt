-- The entities that redeclare places, and where these stand in their lists.
use Rattle.std.specs.Prelude.{◌≡◌, ◌≢◌, ◌+◌, ℕ, zero, suc, ◌<◌, List, [], ◌∷◌, ◌++◌, take, Option, None, Some, MatchOption, length, map, slice_get, Contains, refl}
use Rattle.std.proofs.Common.{arith, ap, sym, ◌∙◌, subst, inl, inr, get_or}
use Rattle.std.proofs.lemmas.List.{length-append, map-append, take_more}
use Rattle.std.proofs.lemmas.Option.{slice_get_within}
use Rattle.std.proofs.lemmas.List.Elements.{Contains-append_left, Contains-append_right, Contains-append_cases, Contains-push, Contains-push_cases}
use Rattle.p21_spec_basics.proofs.Members.{Contains-none, Contains-cases, Contains-found, Contains-mapped, some_is}
use Rattle.p21_spec_schema.specs.PlaceType.{IsDerivedIn, IsRedeclared}
use Rattle.p21_spec_schema.specs.Schema.{Schema, Place, Entity, Redeclared}
use Rattle.p21_express_graph.specs.declared.number.EntityId.{EntityId}
use Rattle.p21_express_graph.specs.Lookups.{DerivesPlace}
use Rattle.p21_express_graph.specs.Orders.{numbers}
use Rattle.p21_express_graph.specs.Resolved.{IsEntity}
use Rattle.p21_express_graph.proofs.Pairs.{snoc-get}
use Rattle.p21_schema.specs.Decisions.{IsRedeclaredAs, IsRedeclarer}
use Rattle.p21_schema.specs.PlacePositions.{HavePositions}
use Rattle.p21_schema.specs.Redeclarers.{AddsRedeclarer, ArePlacesOf, ArePlacesOfEach, AreRedeclarers, AreRedeclarersOf, RedeclaresPlace, explicit_places, places_redeclared, redeclarers_in}
use Rattle.p21_schema.specs.declared.redeclarers.EntityPlaces.{EntityPlaces}
use Rattle.p21_schema.specs.declared.redeclarers.Redeclarers.{Redeclarers}
use Rattle.p21_schema.proofs.Places.{same-or}

-- none redeclares a place for which there is no redeclarer
pub no-redeclarer : (s : Schema) (place : Place) (found : List EntityId) → length found ≡ 0
    → ((e : ℕ) → RedeclaresPlace s e place → Contains (numbers found) e) → (e : ℕ) → RedeclaresPlace s e place → ⊥
no-redeclarer s place [] empty all e is = Contains-none e (all e is)
no-redeclarer s place (f ∷ found) empty all e is = absurd (omega (arith, empty))

-- where none redeclares a place, no entity of a set does
module _ (s : Schema) (place : Place) (none : (e : ℕ) → RedeclaresPlace s e place → ⊥) (entities : List ℕ) where
  pub none-derives : IsDerivedIn s entities place → ⊥
  none-derives (e, x, among, at, derives) = none e (inr (x, at, derives))

  pub none-redeclares : IsRedeclared s entities place → ⊥
  none-redeclares (e, r, (among, redeclares, is)) = none e (inl (r, (redeclares, is)))

-- ---- entities that are added

pub adds-none : (e : ℕ) (all : Redeclarers) → AddsRedeclarer e [] all all
adds-none e all = record { here = λ p among. absurd (Contains-none p among); kept = λ p f among. among; within = λ p f among. inl among }

-- at some places, and at some others
pub adds-both : (e : ℕ) (ps qs : List Place) (before now after : Redeclarers) → AddsRedeclarer e ps before now
    → AddsRedeclarer e qs now after → AddsRedeclarer e (ps ++ qs) before after
adds-both e ps qs before now after first second = record {
  here = λ p among. elim (Contains-append_cases ps qs p among) [ inl h ↦ second.kept p e (first.here p h) | inr h ↦ second.here p h ];
  kept = λ p f among. second.kept p f (first.kept p f among);
  within = λ p f among. elim (second.within p f among) [ inl h ↦ first.within p f h | inr h ↦ inr h ];
}

-- at one place
pub adds-one : (e : ℕ) (p : Place) (before after : Redeclarers) → redeclarers_in after p ≡ redeclarers_in before p ++ e ∷ []
    → ((q : Place) → q ≢ p → redeclarers_in after q ≡ redeclarers_in before q) → AddsRedeclarer e (p ∷ []) before after
adds-one e p before after there others = record {
  here = λ q among. elim (Contains-cases p [] q among) [
    | inl same ↦ (let P : Place → Type 0 = λ r. Contains (redeclarers_in after r) e in let Q : List ℕ
        → Type 0 = λ fs. Contains fs e in subst P same (subst Q (sym there) (Contains-push (redeclarers_in before p) e)))
    | inr none ↦ absurd (Contains-none q none)
  ];
  kept = λ q f among. let Q : List ℕ → Type 0 = λ fs. Contains fs f in elim (same-or p q) [
    | inl same ↦
        let P : Place → Type 0 = λ r. Contains (redeclarers_in after r) f in
        let R : Place → Type 0 = λ r. Contains (redeclarers_in before r) f in
        subst P (sym same) (subst Q (sym there) (Contains-append_left (redeclarers_in before p) (e ∷ []) f (subst R same among)))
    | inr differ ↦ subst Q (sym (others q differ)) among
  ];
  within = λ q f among. let Q : List ℕ → Type 0 = λ fs. Contains fs f in elim (same-or p q) [
    | inl same ↦
        let P : Place → Type 0 = λ r. Contains (redeclarers_in after r) f in
        let R : Place → Type 0 = λ r. Contains (redeclarers_in before r) f in
        elim (Contains-push_cases (redeclarers_in before p) e f (subst Q there (subst P same among)))
        [ inl old ↦ inl (subst R (sym same) old) | inr new ↦ inr (sym new) ]
    | inr differ ↦ inl (subst Q (others q differ) among)
  ];
}

-- each of the entities so far has been added, and one more
pub redeclarers-more : (xs : List Entity) (x : Entity) (before after : Redeclarers) → AreRedeclarersOf xs before
    → AddsRedeclarer (length xs) (places_redeclared x) before after → AreRedeclarersOf (xs ++ x ∷ []) after
redeclarers-more xs x before after so_far adds = record {
  all = λ e y p at among. elim (snoc-get xs x e y at) [
    | inl old ↦ adds.kept p e (so_far.all e y p old among)
    | inr new ↦
        let P : ℕ → Type 0 = λ f. Contains (redeclarers_in after p) f in
        let Q : Entity → Type 0 = λ z. Contains (places_redeclared z) p in
        subst P (sym new.0) (adds.here p (subst Q new.1 among))
  ];
  within = λ e p among. let more = length-append xs (x ∷ []) in elim (adds.within p e among) [
    | inl old ↦ (let below = so_far.within e p old in omega (arith, below, more))
    | inr new ↦ omega (arith, new, more)
  ];
}

pub redeclarers-none : (all : Redeclarers) → ((p : Place) → redeclarers_in all p ≡ []) → AreRedeclarersOf [] all
redeclarers-none all none = record {
  all = λ e x p at among. (let no : None ≡ Some x = at in cc);
  within = λ e p among. let P : List ℕ → Type 0 = λ fs. Contains fs e in absurd (Contains-none e (subst P (none p) among));
}

pub are-redeclarers : (s : Schema) (all : Redeclarers) → AreRedeclarersOf s.entities all → AreRedeclarers s all
are-redeclarers s all are = record { all = λ e place redeclares. by e place redeclares; within = λ e place among. are.within e place among }
  where
    by : (e : ℕ) (place : Place) → RedeclaresPlace s e place → Contains (redeclarers_in all place) e
    by e place (inl (r, ((x, at, among), is))) =
        let P : Place → Type 0 = λ q. Contains (explicit_places x) q in
        are.all e x place at (Contains-append_left (explicit_places x) x.derived place
        (subst P is (Contains-mapped (λ q. q.place) x.redeclared r among)))
    by e place (inr (x, at, among)) = are.all e x place at (Contains-append_right (explicit_places x) x.derived place among)

-- ---- positions in the lists of each entity

pub each-none : (of_each : List EntityPlaces) → of_each ≡ [] → ArePlacesOfEach [] of_each
each-none of_each none = record { size = ap length none; each = λ e x places at found. (let no : None ≡ Some x = at in cc) }

pub each-next : (xs : List Entity) (x : Entity) (before after : List EntityPlaces) (places : EntityPlaces) → ArePlacesOfEach xs before
    → ArePlacesOf x places → after ≡ before ++ places ∷ [] → ArePlacesOfEach (xs ++ x ∷ []) after
each-next xs x before after places so_far one after_is = record {
  size = (let long = length-append xs (x ∷ []) in let long_ = length-append before (places ∷ []) in
      omega (arith, ap length after_is, long, long_, so_far.size));
  each = λ e y found at found_at. elim (snoc-get xs x e y at) [
    | inl old ↦ elim (snoc-get before places e found (ap (λ ps. slice_get ps e) (sym after_is) ∙ found_at)) [
      | inl h ↦ so_far.each e y found old h
      | inr h ↦ (let below = slice_get_within xs e y old in absurd (omega (arith, below, h.0, so_far.size)))
    ]
    | inr new ↦ elim (snoc-get before places e found (ap (λ ps. slice_get ps e) (sym after_is) ∙ found_at)) [
      | inl h ↦ (let below = slice_get_within before e found h in absurd (omega (arith, below, new.0, so_far.size)))
      | inr h ↦
          let P : EntityPlaces → Type 0 = λ ps. ArePlacesOf y ps in
          let Q : Entity → Type 0 = λ z. ArePlacesOf z places in
          subst P (sym h.1) (subst Q (sym new.1) one)
    ]
  ];
}

-- one place more of redeclarations
pub place-next : {X Y : Type 0} (place : X → Place) (of : Y → Place) (xs after : List X) (x : X) (ys : List Y) (k : ℕ) (d : Y)
    → k < length ys → after ≡ xs ++ x ∷ [] → place x ≡ of (get_or ys k d) → map place xs ≡ map of (take k ys)
    → map place after ≡ map of (take (k + 1) ys)
place-next place of xs after x ys k d below after_is is so_far =
    ap (map place) after_is ∙ map-append place xs (x ∷ []) ∙ ap (λ ps. ps ++ place x ∷ []) so_far
    ∙ ap (λ p. map of (take k ys) ++ p ∷ []) is ∙ sym (ap (map of) (take_more ys k d below)
    ∙ map-append of (take k ys) (get_or ys k d ∷ []))

-- ---- what is found of an entity

there : {X : Type 0} (xs : List X) (k : ℕ) → k < length xs → (x : X) × (slice_get xs k ≡ Some x)
there [] k below = absurd (omega (arith, below))
there (x ∷ xs) zero below = (x, refl)
there (x ∷ xs) (suc k) below = there xs k (omega (arith, below))

unmapped-at : {X Y : Type 0} (f : X → Y) (xs : List X) (k : ℕ) (y : Y) → slice_get (map f xs) k ≡ Some y
    → (x : X) × (slice_get xs k ≡ Some x) × (f x ≡ y)
unmapped-at f [] k y at = cc
unmapped-at f (x ∷ xs) zero y at = (x, refl, some_is (f x) y at)
unmapped-at f (x ∷ xs) (suc k) y at = unmapped-at f xs k y at

module _ (s : Schema) (e : ℕ) (p : Place) (places : EntityPlaces) (is : IsEntity s e)
    (are : (x : Entity) → slice_get s.entities e ≡ Some x → ArePlacesOf x places) where
  pub derives-option : (result : Option ℕ) → ((qs : List Place) → HavePositions places.derived qs
      → MatchOption result (Contains qs p → ⊥) (λ k. slice_get qs k ≡ Some p))
      → MatchOption result (DerivesPlace s e p → ⊥) (λ k. DerivesPlace s e p)
  derives-option None found = λ (x, at, among). found x.derived (are x at).derived_are among
  derives-option (Some k) found = let (x, at) = there s.entities e is in
      (x, at, Contains-found x.derived k p (found x.derived (are x at).derived_are))

  pub redeclares-option : (result : Option ℕ) → ((qs : List Place) → HavePositions places.redeclared qs
      → MatchOption result (Contains qs p → ⊥) (λ k. slice_get qs k ≡ Some p))
      → MatchOption result (IsRedeclarer s p e → ⊥) (λ k. (r : Redeclared) × IsRedeclaredAs s e k r × (r.place ≡ p))
  redeclares-option None found =
      λ (r, ((x, at, among), same)). let P : Place → Type 0 = λ q. Contains (explicit_places x) q in
      found (explicit_places x) (are x at).explicit_are (subst P same (Contains-mapped (λ q. q.place) x.redeclared r among))
  redeclares-option (Some k) found =
      let (x, at) = there s.entities e is in
      let (r, r_at, same) = unmapped-at (λ q. q.place) x.redeclared k p (found (explicit_places x) (are x at).explicit_are) in
      (r, (x, at, r_at), same)

-- an entity that redeclares a place so is one that redeclares it
pub redeclarer-at : (s : Schema) (e : ℕ) (p : Place) (k : ℕ) (r : Redeclared) → IsRedeclaredAs s e k r → r.place ≡ p → IsRedeclarer s p e
redeclarer-at s e p k r (x, at, r_at) same = (r, ((x, at, Contains-found x.redeclared k r r_at), same))
