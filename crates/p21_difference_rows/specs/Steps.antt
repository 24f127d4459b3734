-- Rows that are put behind others.
use Rattle.std.specs.Prelude.{◌≡◌, ◌↔◌, ℕ, Bool, List, [], ◌∷◌, ◌++◌, Contains}
use Rattle.p21_difference_rows.specs.Asked.{left_out_of}
use Rattle.p21_difference_rows.specs.Listed.{AllMayStand, AreLines, HoldsNoFeed, IsFirstLine, IsOfInstance, Row, all_told, rows_text}
use Rattle.p21_difference_rows.specs.RealNames.{real_name}
use Rattle.p21_difference_rows.specs.declared.row.RowForm.{RowForm}
use Rattle.p21_difference_rows.specs.declared.row.Style.{Style}
use Rattle.p21_spec_differences.specs.Difference.{Difference, HasOtherValue, instance_came, instance_went, set_changed, value_changed}
use Rattle.p21_spec_differences.specs.LeftOut.{IsIgnored, IsToList, LeftOut}
use Rattle.p21_spec_differences.specs.Near.{IsNearAt}
use Rattle.p21_spec_file.specs.File.{FileMeaning}
use Rattle.p21_spec_file.specs.Meaning.{Typed}
use Rattle.p21_spec_schema.specs.Schema.{Place, Schema}

-- a text without line feeds
pub record AddsText (old new : List ℕ) : Type 0 where
  pub rest : List ℕ
  pub holds_none : HoldsNoFeed rest
  pub new_is : new ≡ old ++ rest

-- a text without line feeds, and a line feed
pub record AddsRest (old new : List ℕ) : Type 0 where
  pub rest : List ℕ
  pub holds_none : HoldsNoFeed rest
  pub new_is : new ≡ old ++ (rest ++ (10 ∷ []))

-- the first line, if there is one
pub record AddsFirst (form : RowForm) (asked : Bool) (old new : List ℕ) : Type 0 where
  pub first : List ℕ
  pub is_line : IsFirstLine form asked first
  pub new_is : new ≡ old ++ first

-- rows are put behind a text, none about a header that is left out, and what they tell is so
pub record AddsRows (form : RowForm) (s : Schema) (real : ℕ → ℕ) (left : LeftOut) (IsTold : List Difference → Type 0) (old new : List ℕ) :
    Type 0 where
  pub rows : List Row
  pub are_lines : AreLines rows
  pub may_stand : AllMayStand left rows
  pub new_is : new ≡ old ++ rows_text form s real rows
  pub is_told : IsTold (all_told rows)

-- the same in a style
abbrev pub Puts : Style → (List Difference → Type 0) → List ℕ → List ℕ → Type 0
Puts style IsTold old new = AddsRows style.form style.schema.now (real_name style.names) (left_out_of style.left_out) IsTold old new

-- nothing of instances is told
abbrev pub TellsNone : List Difference → Type 0
TellsNone list = list ≡ []

-- this alone is told
abbrev pub TellsAlone : List Difference → List Difference → Type 0
TellsAlone wanted list = list ≡ wanted

-- the name of the instance that a difference is about
abbrev pub name_of : Difference → ℕ
name_of (instance_came name) = name
name_of (instance_went name) = name
name_of (set_changed name) = name
name_of (value_changed name place) = name
name_of other = 0

-- exactly what differs in the instances of such names, and isn't left out, is told
abbrev pub TellsOf : (ℕ → Type 0) → Schema → LeftOut → FileMeaning → FileMeaning → List Difference → Type 0
TellsOf IsName s left a b list = (d : Difference) → Contains list d ↔ (IsOfInstance d × IsName (name_of d) × IsToList s left a b d)

-- the attribute at the place of two instances isn't left out, by the entities of the first, and their values there aren't near
abbrev pub Stays : Schema → LeftOut → Typed → Typed → Place → Type 0
Stays s left x y place = (¬ IsIgnored s left.attributes x.entities place) × ¬ IsNearAt s left.tolerance x y place

-- the attribute of this name is told, if it stays
abbrev pub TellsIfStays : Schema → LeftOut → Typed → Typed → ℕ → Place → List Difference → Type 0
TellsIfStays s left x y name place list = (d : Difference) → Contains list d
    ↔ ((d ≡ value_changed name place) × Stays s left x y place)

-- exactly the attributes of this name are told at which the values differ, but for those that are left out
abbrev pub TellsValues : Schema → LeftOut → Typed → Typed → ℕ → List Difference → Type 0
TellsValues s left x y name list = (d : Difference) → Contains list d
    ↔ ((place : Place) × (d ≡ value_changed name place) × HasOtherValue x y place × Stays s left x y place)
