-- The positions of instances by their sections.
use Rattle.std.specs.List.{range_with_len, AllByRecursion as Each}
use Rattle.std.specs.List.Sorted.{IsNonDecreasingBy}
use Rattle.std.specs.Prelude.{◌≡◌, ◌<◌, ℕ, zero, suc, List, [], ◌∷◌, ◌++◌, length, map, slice_get, Some, None, IsPermutation}
use Rattle.p21_stream_output.specs.declared.named_sections.NamedSection.{NamedSection}
use Rattle.p21_stream_store.specs.Memberships.{Membership}
use Rattle.p21_stream_store.specs.StoredInstance.{StoredInstance, name_at}

-- each instance has the number of a membership
abbrev pub HaveMemberships : List Membership → List StoredInstance → Type 0
HaveMemberships memberships kept = Each (λ (x : StoredInstance). x.membership < length memberships) kept

-- each membership is of one of so many sections
abbrev pub AreOfSections : ℕ → List Membership → Type 0
AreOfSections many memberships = Each (λ (x : Membership). x.section < many) memberships

-- the number of the section of the membership of this number
abbrev pub section_of_membership : List Membership → ℕ → ℕ
section_of_membership memberships number = elim (slice_get memberships number) [ Some membership ↦ membership.section | None ↦ 0 ]

-- the number of the section of the instance at a position
abbrev pub section_at : List Membership → List StoredInstance → ℕ → ℕ
section_at memberships kept place = elim (slice_get kept place) [ Some x ↦ section_of_membership memberships x.membership | None ↦ 0 ]

-- the positions of each section
abbrev pub section_positions : List NamedSection → List (List ℕ)
section_positions parts = map (λ (x : NamedSection). x.instance_positions) parts

-- the name and the line of each section
abbrev pub heads_of : List NamedSection → List (List ℕ × List ℕ)
heads_of parts = map (λ (x : NamedSection). (x.name.items, x.line.items)) parts

-- a position behind those of the row of this number, if there is one
abbrev pub with_position : ℕ → ℕ → List (List ℕ) → List (List ℕ)
with_position section place [] = []
with_position zero place (row ∷ rows) = (row ++ place ∷ []) ∷ rows
with_position (suc section) place (row ∷ rows) = row ∷ with_position section place rows

-- positions one by one behind those of their rows
abbrev pub filed_rows : (ℕ → ℕ) → List ℕ → List (List ℕ) → List (List ℕ)
filed_rows section_of [] rows = rows
filed_rows section_of (place ∷ more) rows = filed_rows section_of more (with_position (section_of place) place rows)

-- the rows get all positions, each in the row of its section, put there by rising names
pub record IsFiling (memberships : List Membership) (kept : List StoredInstance) (old new : List (List ℕ)) : Type 0 where
  pub order : List ℕ
  pub instance_positions : IsPermutation (range_with_len 0 (length kept)) order
  pub rises : IsNonDecreasingBy (name_at kept) order
  pub filed_ : new ≡ filed_rows (section_at memberships kept) order old
