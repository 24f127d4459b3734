-- New names of instances, one by one.
use Rattle.std.specs.BTreeSet.{BTreeSet, contains}
use Rattle.std.specs.Ordering.{nat_cmp}
use Rattle.std.specs.Prelude.{◌≡◌, ◌≤◌, ◌<◌, ℕ, true, List, Option, Some, None, length, slice_index_or, Contains}
use Rattle.p21_numbering.specs.Instances.{Instance, instance_at, names_of}
use Rattle.p21_pairing.specs.Pairs.{partner_at}

-- the set has these names
abbrev pub HasNames : BTreeSet ℕ → List ℕ → Type 0
HasNames taken names = (n : ℕ) → Contains names n → contains nat_cmp taken n ≡ true

-- the name at a position
abbrev pub name_at : List ℕ → ℕ → ℕ
name_at names k = slice_index_or names k 0

-- the new name of an instance with this partner, where the least name that is free was this one before, and is that one then
abbrev pub GivesName : List Instance → Option ℕ → ℕ → ℕ → ℕ → Type 0
GivesName second (Some j) before after name = (name ≡ (instance_at second j).name) × (after ≡ before)
GivesName second None before after name = ¬ Contains (names_of second) name × (before ≤ name) × (name < after)

-- new names of the first instances: that of the partner, or else one that no instance of the second file has
pub record AreNewNames (partners : List (Option ℕ)) (second : List Instance) (news : List ℕ) : Type 0 where
  pub with_partner : (i j : ℕ) → i < length news → partner_at partners i ≡ Some j → name_at news i ≡ (instance_at second j).name
  pub without : (i : ℕ) → i < length news → partner_at partners i ≡ None → ¬ Contains (names_of second) (name_at news i)
  pub apart : (i k : ℕ) → i < length news → k < length news → partner_at partners i ≡ None → partner_at partners k ≡ None
      → name_at news i ≡ name_at news k → i ≡ k
