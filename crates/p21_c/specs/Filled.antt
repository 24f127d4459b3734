-- What is told of a list in the room that there is for it.
use Rattle.std.specs.Prelude.{◌≡◌, ◌⊎◌, ◌++◌, ℕ, List, [], length, take}
use Rattle.std.specs.List.{AllZip}
use Rattle.p21_c.specs.Spans.{IsSpanOf}
use Rattle.p21_c.specs.declared.model_instances.AttributeValue.{AttributeValue}
use Rattle.p21_c.specs.declared.model_users.UseOf.{UseOf}
use Rattle.p21_model.specs.Rows.{Row}
use Rattle.p21_model_uses.specs.UseRows.{UseRow}
use Rattle.p21_model_values.specs.Written.{IsTextOf}

-- the first of these are told, so many, and none but where no room is left is left out
pub record AreFirst {X Y : Type 0} (IsTold : X → Y → Type 0) (xs : List X) (room : List Y) (count : ℕ) : Type 0 where
  pub front : List X
  pub rest : List X
  pub parts : xs ≡ front ++ rest
  pub told : AllZip IsTold front (take count room)
  pub all : (rest ≡ []) ⊎ (count ≡ length room)

-- a number
abbrev pub IsToldNumber : ℕ → ℕ → Type 0
IsToldNumber n told = told ≡ n

-- the parameter at a place: the place, and its text
abbrev pub IsToldRow : Row → AttributeValue → Type 0
IsToldRow row told = (told.entity ≡ row.0.entity) × (told.index ≡ row.0.index) × IsSpanOf (λ text. IsTextOf text row.1) told.value

-- a use: who uses, and at which attribute
abbrev pub IsToldUse : UseRow → UseOf → Type 0
IsToldUse u told = (told.user ≡ u.1) × (told.entity ≡ u.2) × (told.index ≡ u.3)
