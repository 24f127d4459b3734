-- The set that an entity and its supertypes make.
use Rattle.std.specs.Prelude.{◌≡◌, ℕ, ◌<◌, List, length, Contains}
use Rattle.std.proofs.Common.{ap, sym}
use Rattle.p21_spec_basics.proofs.Members.{Contains-flat_map, Contains-one_of}
use Rattle.p21_spec_schema.specs.Order.{order, own_places}
use Rattle.p21_spec_schema.specs.PlaceType.{TypeAt, two_redeclarations}
use Rattle.p21_spec_schema.specs.Schema.{Schema, Place, attributes_of}
use Rattle.p21_spec_schema.proofs.OwnPlaces.{own_places-within}
use Rattle.p21_schema.specs.Decisions.{IsDecision}
use Rattle.p21_schema.specs.OwnSets.{LeavesOpen}
use Rattle.p21_schema.specs.declared.place_types.Decision.{Decision}
use Rattle.p21_schema.specs.declared.place_types.Decision.TheVariants.{Two}
use Rattle.p21_schema.proofs.Decisions.{open-decided}

-- a place that an entity declares, by its number
pub own-place-at : (s : Schema) (owner : ℕ) (place : Place) → Contains (own_places s owner) place
    → (i : ℕ) × (i < length (attributes_of s owner)) × (place ≡ record { entity = owner; index = i })
own-place-at s owner place among = let (same, below) = own_places-within s owner place among in
    (place.index, below, ap (λ e. record { entity = e; index = place.index }) (sym same))

-- one decision says that a place is left open
pub two-only : (s : Schema) (entities : List ℕ) (place : Place) (found : Decision) → IsDecision s entities place found
    → TypeAt s entities place two_redeclarations → found ≡ Two
two-only s entities place found is open_ = open-decided s entities place open_ found is

-- an entity of the own set leaves a place open, and one that does
module _ (s : Schema) (e : ℕ) where
  abbrev pub OpensOf : ℕ → Type 0
  OpensOf owner = (p : Place) × Contains (own_places s owner) p × TypeAt s (order s e) p two_redeclarations

  pub opens : (owner : ℕ) → Contains (order s e) owner → OpensOf owner → LeavesOpen s e
  opens owner in_order (p, own, open_) = (p, (Contains-flat_map (own_places s) (order s e) owner p in_order own, open_))

  pub opened : LeavesOpen s e → (owner : ℕ) × Contains (order s e) owner × OpensOf owner
  opened (p, (among, open_)) = let (owner, in_order, own) = Contains-one_of (own_places s) (order s e) p among in
      (owner, in_order, (p, own, open_))
