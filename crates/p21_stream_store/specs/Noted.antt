-- What is noted of the memberships of names.
use Rattle.std.specs.Prelude.{◌≡◌, ◌⊎◌, ℕ, List, Option, None, Some, Contains}
use Rattle.p21_stream_store.specs.StoredInstance.{StoredInstance, instance_names}

-- an instance of this name and this membership is stored
abbrev pub IsStoredWith : List StoredInstance → ℕ → ℕ → Type 0
IsStoredWith stored name membership = (text : List ℕ) × Contains stored (record { name = name; membership = membership; text = text })

-- what is noted of each name is the membership of the instance of this name
abbrev pub AreNoted : (ℕ → Option ℕ) → List StoredInstance → Type 0
AreNoted noted stored = (name membership : ℕ) → noted name ≡ Some membership → IsStoredWith stored name membership

-- of the name of each instance something is noted
abbrev pub AreAllNoted : (ℕ → Option ℕ) → List StoredInstance → Type 0
AreAllNoted noted stored = (name : ℕ) → Contains (instance_names stored) name → noted name ≡ None → ⊥

-- what is noted now was noted before, or is the membership of this name
abbrev pub NotesAtMost : (ℕ → Option ℕ) → ℕ → ℕ → (ℕ → Option ℕ) → Type 0
NotesAtMost old name membership new =
    (other number : ℕ) → new other ≡ Some number → (old other ≡ Some number) ⊎ ((other ≡ name) × (number ≡ membership))
