-- Maps by places, and where the places of a list stand in it.
use Rattle.std.specs.Prelude.{◌≡◌, ℕ, List, Option, Some, None, slice_get, Contains}
use Rattle.std.specs.BTreeMap.{BTreeMap, get}
use Rattle.std.specs.Ordering.{nat_cmp, ordering_then}
use Rattle.std.specs.declared.cmp.Ordering.{Ordering}
use Rattle.p21_spec_schema.specs.Schema.{Place}
use Rattle.p21_schema.specs.declared.place_positions.PlacePositions.{PlacePositions}

-- by the first number, then by the second
abbrev pub pair_cmp : ℕ × ℕ → ℕ × ℕ → Ordering
pair_cmp x y = ordering_then (nat_cmp x.0 y.0) (nat_cmp x.1 y.1)

-- what a map has at a place
abbrev pub at_place : {X : Type 0} → BTreeMap (ℕ × ℕ) X → Place → Option X
at_place places p = get pair_cmp places (p.entity, p.index)

-- the map has a position of each place of the list
pub record FindsPlaces (found : BTreeMap (ℕ × ℕ) ℕ) (places : List Place) : Type 0 where
  pub right : (p : Place) (at : ℕ) → at_place found p ≡ Some at → slice_get places at ≡ Some p
  pub all : (p : Place) → at_place found p ≡ None → Contains places p → ⊥

abbrev pub HavePositions : PlacePositions → List Place → Type 0
HavePositions positions places = FindsPlaces positions.found places
