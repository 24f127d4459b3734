-- The places of the set that an entity and its supertypes make.
use Rattle.std.specs.Prelude.{◌≡◌, ℕ, zero, suc, ◌+◌, ◌<◌, ◌≤◌, List, Contains}
use Rattle.std.proofs.Common.{arith, subst, inl, inr}
use Rattle.std.proofs.lemmas.Bool.{cases_lt}
use Rattle.p21_spec_basics.proofs.Members.{Contains-first, Contains-later, Contains-flat_map}
use Rattle.p21_spec_schema.specs.Order.{order, places, own_places}
use Rattle.p21_spec_schema.specs.Schema.{Schema, Place}
use Rattle.p21_spec_schema.specs.Supertype.{IsA}
use Rattle.p21_express_graph.specs.Lookups.{places_from}
use Rattle.p21_express_graph.specs.Resolved.{HoldsTogether, IsPlace}
use Rattle.p21_express_graph.proofs.Lookups.{own-places-are}
use Rattle.p21_express_graph.proofs.OrderTables.{order-tells}

-- the places of an entity by their numbers
places_from-has : (e k n i : ℕ) → k ≤ i → i < k + n → Contains (places_from e k n) (record { entity = e; index = i })
places_from-has e k zero i from below = absurd (omega (arith, from, below))
places_from-has e k (suc n) i from below = elim (cases_lt k i) [
  | inl h ↦ Contains-later (record { entity = e; index = k }) (places_from e (k + 1) n) (record { entity = e; index = i })
      (places_from-has e (k + 1) n i (omega (arith, h)) (omega (arith, below)))
  | inr h ↦
      let same : k ≡ i = omega (arith, from, h) in
      let P : ℕ → Type 0 = λ j. Contains (places_from e k (suc n)) (record { entity = e; index = j }) in
      subst P same (Contains-first (record { entity = e; index = k }) (places_from e (k + 1) n))
]

-- a place stands in an own set where the entity that declares it does
pub place-among : (s : Schema) → HoldsTogether s → (e : ℕ) (place : Place) → IsPlace s place → IsA s e place.entity
    → Contains (places s e) place
place-among s holds e place is up =
    let P : List Place → Type 0 = λ ps. Contains ps place in
    Contains-flat_map (own_places s) (order s e) place.entity place ((order-tells s holds e place.entity).1 up)
    (subst P (own-places-are s place.entity) (places_from-has place.entity 0 _ place.index (omega arith) (omega (arith, is))))
