-- Memberships of instances, each with its number.
use Rattle.std.specs.Prelude.{◌≡◌, ◌<◌, ℕ, List, [], Some, map, slice_get, slice_index_or}
use Rattle.std.specs.BTreeMap.{BTreeMap}
use Rattle.std.specs.List.{AllByRecursion as Each}
use Rattle.std.specs.Ordering.{nat_cmp, ordering_then}
use Rattle.std.specs.declared.cmp.Ordering.{Ordering}
use Rattle.p21_express_graph.specs.declared.number.EntityId.{EntityId}
use Rattle.p21_mapping_values.specs.TypedView.{ids_view}
use Rattle.p21_stream_store.specs.Numbering.{AreNumbered}

-- the number of the section that an instance stands in, and its set of entities
pub record Membership : Type 0 where
  pub section : ℕ
  pub entities : List ℕ

abbrev pub membership_of : ℕ → List EntityId → Membership
membership_of section entities = record { section = section; entities = ids_view entities }

-- a membership by the number of its section and that of its set among these
abbrev pub membership_in : List (List ℕ) → ℕ × ℕ → Membership
membership_in sets row = record { section = row.0; entities = slice_index_or sets row.1 [] }

abbrev pub memberships_in : List (List ℕ) → List (ℕ × ℕ) → List Membership
memberships_in sets rows = map (membership_in sets) rows

-- by the section first
abbrev pub by_pair : ℕ × ℕ → ℕ × ℕ → Ordering
by_pair a b = ordering_then (nat_cmp a.0 b.0) (nat_cmp a.1 b.1)

abbrev pub AreNumberedRows : List (ℕ × ℕ) → BTreeMap (ℕ × ℕ) ℕ → Type 0
AreNumberedRows rows numbers = AreNumbered (λ (row : ℕ × ℕ). row) by_pair rows numbers

-- each is of one of so many sets
abbrev pub HaveSets : ℕ → List (ℕ × ℕ) → Type 0
HaveSets many rows = Each (λ (row : ℕ × ℕ). row.1 < many) rows

-- the memberships of two numbers have the same entities
abbrev pub HaveOneSet : List Membership → ℕ → ℕ → Type 0
HaveOneSet all number other = (own : Membership) × (its : Membership) × (slice_get all number ≡ Some own) × (slice_get all other ≡ Some its)
    × (own.entities ≡ its.entities)
