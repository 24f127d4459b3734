-- Instances as they are stored.
use Rattle.std.specs.Prelude.{ℕ, List, [], ◌∷◌, map, slice_get, Some, None}

-- the name of an instance, the number of its membership, and its canonical text
pub record StoredInstance : Type 0 where
  pub name : ℕ
  pub membership : ℕ
  pub text : List ℕ

-- the instance of a name, and of a membership with a text
abbrev pub stored_instance : ℕ → ℕ × List ℕ → StoredInstance
stored_instance name line = record { name = name; membership = line.0; text = line.1 }

-- names side by side with memberships and texts
abbrev pub stored_instances : List ℕ → List (ℕ × List ℕ) → List StoredInstance
stored_instances [] lines = []
stored_instances (name ∷ names) [] = []
stored_instances (name ∷ names) (line ∷ lines) = stored_instance name line ∷ stored_instances names lines

-- the names of the instances
abbrev pub instance_names : List StoredInstance → List ℕ
instance_names kept = map (λ (x : StoredInstance). x.name) kept

-- the name of the instance at a position
abbrev pub name_at : List StoredInstance → ℕ → ℕ
name_at kept place = elim (slice_get kept place) [ None ↦ 0 | Some x ↦ x.name ]

-- the text of the instance at a position
abbrev pub text_at : List StoredInstance → ℕ → List ℕ
text_at kept place = elim (slice_get kept place) [ Some x ↦ x.text | None ↦ [] ]
