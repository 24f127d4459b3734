-- A name in two files, on the way to what changed about it.
use Rattle.std.specs.Prelude.{◌≡◌, ◌≢◌, ◌⊎◌, ◌<◌, ◌≤◌, ◌^◌, ℕ, List, Option, None, Some, Contains}
use Rattle.p21_differences.specs.declared.change.Change.{Change}
use Rattle.p21_differences.specs.declared.change.Change.TheVariants as change
use Rattle.p21_differences.specs.Lines.{IsLineOf}
use Rattle.p21_model.specs.Kept.{IsKeptLine}
use Rattle.p21_spec_file.specs.Meaning.{Typed}
use Rattle.p21_spec_file.specs.SameFile.{SameTyped}
use Rattle.p21_spec_schema.specs.Schema.{Schema}
use Rattle.p21_stream_store.specs.StoredInstance.{StoredInstance, instance_names}

-- no instance has the name
abbrev pub LacksName : List StoredInstance → ℕ → Type 0
LacksName kept name = Contains (instance_names kept) name → ⊥

-- ---- the next name

-- the first name of a file from this one on
abbrev pub FindsName : List StoredInstance → ℕ → Option ℕ → Type 0
FindsName kept least None = (name : ℕ) → least ≤ name → LacksName kept name
FindsName kept least (Some found) = (least ≤ found) × ((name : ℕ) → least ≤ name → name < found → LacksName kept name)

-- the lesser of two names, if there is one
abbrev pub IsLesser : Option ℕ → Option ℕ → Option ℕ → Type 0
IsLesser None None None = Unit {0}
IsLesser None (Some other) (Some found) = found ≡ other
IsLesser (Some one) None (Some found) = found ≡ one
IsLesser (Some one) (Some other) (Some found) = (found ≤ one) × (found ≤ other) × ((found ≡ one) ⊎ (found ≡ other))
IsLesser first second result = ⊥

-- neither file has a name from the one on and below the other
abbrev pub NoneBetween : List StoredInstance → List StoredInstance → ℕ → ℕ → Type 0
NoneBetween kept others least bound = (name : ℕ) → least ≤ name → name < bound → LacksName kept name × LacksName others name

-- the next name of both files
abbrev pub FindsNext : List StoredInstance → List StoredInstance → ℕ → Option ℕ → Type 0
FindsNext kept others least None = NoneBetween kept others least (2 ^ 64)
FindsNext kept others least (Some found) = (least ≤ found) × NoneBetween kept others least found

-- ---- what changed about it

-- between two lines of one name
abbrev pub LinesTell : Schema → ℕ → List ℕ → List ℕ → (Typed → Typed → Type 0) → Type 0
LinesTell s name line text Tell = (x y : Typed) → IsLineOf s name line x → IsLineOf s name text y → Tell x y

abbrev pub HaveOtherSet : Typed → Typed → Type 0
HaveOtherSet x y = x.entities ≢ y.entities

abbrev pub HaveOtherValues : Typed → Typed → Type 0
HaveOtherValues x y = (x.entities ≡ y.entities) × ¬ SameTyped x y

abbrev pub TellsLines : Schema → ℕ → List ℕ → List ℕ → Option Change → Type 0
TellsLines s name line text None = LinesTell s name line text SameTyped
TellsLines s name line text (Some (change.Set found first second)) =
    (found ≡ name) × (first.now ≡ line) × (second.now ≡ text) × LinesTell s name line text HaveOtherSet
TellsLines s name line text (Some (change.Values found first second)) =
    (found ≡ name) × (first.now ≡ line) × (second.now ≡ text) × LinesTell s name line text HaveOtherValues
TellsLines s name line text (Some other) = ⊥

-- both files have lines of the name, which mean the same
pub record HaveSameLines (s : Schema) (kept others : List StoredInstance) (name : ℕ) : Type 0 where
  pub line : List ℕ
  pub text : List ℕ
  pub is_line : IsKeptLine kept name line
  pub is_text : IsKeptLine others name text
  pub same : LinesTell s name line text SameTyped

-- in two files
abbrev pub TellsAbout : Schema → List StoredInstance → List StoredInstance → ℕ → Option Change → Type 0
TellsAbout s kept others name None = (LacksName kept name × LacksName others name) ⊎ HaveSameLines s kept others name
TellsAbout s kept others name (Some (change.Came found second)) = (found ≡ name) × IsKeptLine others name second.now × LacksName kept name
TellsAbout s kept others name (Some (change.Went found first)) = (found ≡ name) × IsKeptLine kept name first.now × LacksName others name
TellsAbout s kept others name (Some (change.Set found first second)) =
    (found ≡ name) × IsKeptLine kept name first.now × IsKeptLine others name second.now × LinesTell s name first.now second.now HaveOtherSet
TellsAbout s kept others name (Some (change.Values found first second)) =
    (found ≡ name) × IsKeptLine kept name first.now × IsKeptLine others name second.now
    × LinesTell s name first.now second.now HaveOtherValues
