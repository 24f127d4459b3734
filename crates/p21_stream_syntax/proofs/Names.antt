-- The names that are kept, with one more.
use Rattle.std.proofs.Common.{◌≡◌, ◌⊎◌, ◌↔◌, ◌+◌, ℕ, List, ◌∷◌, Contains, length, arith, inl, inr, subst}
use Rattle.std.proofs.lemmas.List.{length-map}
use Rattle.std.proofs.lemmas.List.Sorted.{Contains-permutation, IsPermutation-map, IsPermutation-sym, length_permutation}
use Rattle.std.specs.List.Sorted.{IsPermutation}
use Rattle.p21_spec_basics.proofs.Members.{Contains-cases, Contains-first, Contains-later}
use Rattle.p21_stream_store.specs.StoredInstance.{StoredInstance, instance_names}

abbrev name_of : StoredInstance → ℕ
name_of x = x.name

pub name-added : (x : StoredInstance) (old new : List StoredInstance) → IsPermutation (x ∷ old) new → (m : ℕ)
    → Contains (instance_names new) m ↔ ((x.name ≡ m) ⊎ Contains (instance_names old) m)
name-added x old new is m =
    let names : IsPermutation (x.name ∷ instance_names old) (instance_names new) = IsPermutation-map name_of (x ∷ old) new is in (
      λ among. Contains-cases x.name (instance_names old) m
          (Contains-permutation (instance_names new) (x.name ∷ instance_names old) m
          (IsPermutation-sym (x.name ∷ instance_names old) (instance_names new) names) among),
      λ either. Contains-permutation (x.name ∷ instance_names old) (instance_names new) m names (elim either [
        | inl same ↦ subst (Contains (x.name ∷ instance_names old)) same (Contains-first x.name (instance_names old))
        | inr among ↦ Contains-later x.name (instance_names old) m among
      ]),
    )

pub name-counted : (x : StoredInstance) (old new : List StoredInstance) → IsPermutation (x ∷ old) new
    → length (instance_names new) ≡ length (instance_names old) + 1
name-counted x old new is =
    let one = length-map new name_of in
    let two = length-map old name_of in
    let three = length_permutation (x ∷ old) new is in
    omega (arith, one, two, three)
