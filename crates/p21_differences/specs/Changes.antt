-- Two files by the names of their instances.
use Rattle.std.specs.Prelude.{◌≡◌, ◌↔◌, ◌<◌, ◌≤◌, ℕ, List, Option, None, Some, Contains}
use Rattle.p21_differences.specs.declared.change.Change.{Change}
use Rattle.p21_differences.specs.declared.change.Change.TheVariants as change
use Rattle.p21_model.specs.Kept.{IsKeptLine}
use Rattle.p21_spec_differences.specs.Difference.{AreMeant, Differs, instance_came, instance_went, set_changed}
use Rattle.p21_spec_file.specs.File.{FileMeaning}
use Rattle.p21_spec_file.specs.Meaning.{Typed}
use Rattle.p21_spec_file.specs.SameFile.{SameTyped}
use Rattle.p21_spec_numbering.specs.Renamed.{names}
use Rattle.p21_stream_store.specs.StoredInstance.{StoredInstance}

-- of a name both files say the same but for its section: both have an instance of it or neither has, and where they have, it means the same
pub record MeanSame (a b : FileMeaning) (name : ℕ) : Type 0 where
  pub both : Contains (names a) name ↔ Contains (names b) name
  pub same : (first second : Typed) → Contains a.instances (name, first) → Contains b.instances (name, second) → SameTyped first second

-- the name that a change is about
abbrev pub changed_name : Change → ℕ
changed_name (change.Came name second) = name
changed_name (change.Went name first) = name
changed_name (change.Set name first second) = name
changed_name (change.Values name first second) = name

-- this is what differs about it
abbrev pub IsChange : FileMeaning → FileMeaning → Change → Type 0
IsChange a b (change.Came name second) = Differs a b (instance_came name)
IsChange a b (change.Went name first) = Differs a b (instance_went name)
IsChange a b (change.Set name first second) = Differs a b (set_changed name)
IsChange a b (change.Values name first second) = (x y : Typed) × AreMeant a b name x y × (x.entities ≡ y.entities) × ¬ SameTyped x y

-- its lines are those of the name in the files
abbrev pub IsOfFiles : List StoredInstance → List StoredInstance → Change → Type 0
IsOfFiles kept others (change.Came name second) = IsKeptLine others name second.now
IsOfFiles kept others (change.Went name first) = IsKeptLine kept name first.now
IsOfFiles kept others (change.Set name first second) = IsKeptLine kept name first.now × IsKeptLine others name second.now
IsOfFiles kept others (change.Values name first second) = IsKeptLine kept name first.now × IsKeptLine others name second.now

-- what changed about the first name, from this one on, about which something did; or of all of these both files say the same
abbrev pub FindsChange : FileMeaning → FileMeaning → ℕ → Option Change → Type 0
FindsChange a b least None = (name : ℕ) → least ≤ name → MeanSame a b name
FindsChange a b least (Some found) =
    IsChange a b found × (least ≤ changed_name found) × ((name : ℕ) → least ≤ name → name < changed_name found → MeanSame a b name)
