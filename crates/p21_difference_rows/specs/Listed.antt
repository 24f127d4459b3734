-- What is listed of two files.
use Rattle.std.specs.Prelude.{◌≡◌, ◌≢◌, ◌↔◌, ℕ, Bool, true, false, IsTrue, List, [], ◌∷◌, ◌++◌, Contains}
use Rattle.std.specs.List.{flat_map, AllByRecursion as Each}
use Rattle.p21_difference_rows.specs.Fronts.{end_front, first_front, front, same_line}
use Rattle.p21_difference_rows.specs.declared.row.RowForm.{RowForm}
use Rattle.p21_difference_rows.specs.declared.row.Subject.{Subject}
use Rattle.p21_difference_rows.specs.declared.row.Subject.TheVariants.{Header, Section, Moved, Came, Went, Set, Value}
use Rattle.p21_express_graph.specs.Meaning.{place as place_of}
use Rattle.p21_express_graph.specs.Resolved.{IsPlace}
use Rattle.p21_spec_differences.specs.Difference.{Difference, instance_came, instance_went, set_changed, value_changed}
use Rattle.p21_spec_differences.specs.LeftOut.{IsToList, LeftOut, leaves_out}
use Rattle.p21_spec_file.specs.File.{FileMeaning}
use Rattle.p21_spec_schema.specs.Schema.{Schema}

-- ---- rows

-- what a row is about, and what stands behind its beginning
pub record Row : Type 0 where
  pub subject : Subject
  pub rest : List ℕ

-- no byte is a line feed
abbrev pub HoldsNoFeed : List ℕ → Type 0
HoldsNoFeed text = Each (λ (byte : ℕ). byte ≢ 10) text

-- its line, by the names that the instances of the first file really have
abbrev pub row_line : RowForm → Schema → (ℕ → ℕ) → Row → List ℕ
row_line form s real row = front form s real row.subject ++ (row.rest ++ (10 ∷ []))

abbrev pub rows_text : RowForm → Schema → (ℕ → ℕ) → List Row → List ℕ
rows_text form s real rows = flat_map (row_line form s real) rows

abbrev pub AreLines : List Row → Type 0
AreLines rows = Each (λ (row : Row). HoldsNoFeed row.rest) rows

-- the attribute, if the row is about one, is one of the schema
abbrev pub IsOfSchema : Schema → Subject → Type 0
IsOfSchema s (Value name place) = IsPlace s (place_of place)
IsOfSchema s subject = Unit {0}

-- a row about the header stands only where this isn't left out
abbrev pub MayStand : LeftOut → Subject → Type 0
MayStand left (Header happening) = left.header ≡ false
MayStand left subject = Unit {0}

abbrev pub AllMayStand : LeftOut → List Row → Type 0
AllMayStand left rows = Each (λ (row : Row). MayStand left row.subject) rows

-- ---- what is told of instances

-- the difference that a row tells; none where it isn't about what instances mean
abbrev pub told : Subject → List Difference
told (Header happening) = []
told (Section happening) = []
told (Moved name) = []
told (Came name) = instance_came name ∷ []
told (Went name) = instance_went name ∷ []
told (Set name) = set_changed name ∷ []
told (Value name place) = value_changed name (place_of place) ∷ []

abbrev pub all_told : List Row → List Difference
all_told rows = flat_map (λ (row : Row). told row.subject) rows

-- it is about what an instance means
abbrev pub IsOfInstance : Difference → Type 0
IsOfInstance (instance_came name) = Unit {0}
IsOfInstance (instance_went name) = Unit {0}
IsOfInstance (set_changed name) = Unit {0}
IsOfInstance (value_changed name place) = Unit {0}
IsOfInstance other = ⊥

-- exactly what differs in instances, and isn't left out, is told
abbrev pub TellsInstances : Schema → LeftOut → FileMeaning → FileMeaning → List Difference → Type 0
TellsInstances s left a b list = (d : Difference) → Contains list d ↔ (IsOfInstance d × IsToList s left a b d)

-- ---- the list

-- where something is left out a line says so, and else there is none
abbrev pub IsFirstLine : RowForm → Bool → List ℕ → Type 0
IsFirstLine form true line = (rest : List ℕ) × HoldsNoFeed rest × (line ≡ first_front form ++ (rest ++ (10 ∷ [])))
IsFirstLine form false line = line ≡ []

-- behind a first line, rows, each a line, which tell exactly what differs in instances and isn't left out, and a last line that says that
-- the files differ; there is no row although something is left out exactly if the answer is that the list is empty
pub record IsListOfOthers (form : RowForm) (s : Schema) (real : ℕ → ℕ) (left : LeftOut) (a b : FileMeaning) (empty : Bool) (text : List ℕ) :
    Type 0 where
  pub first : List ℕ
  pub first_is_line : IsFirstLine form (leaves_out left) first
  pub rows : List Row
  pub are_lines : AreLines rows
  pub may_stand : AllMayStand left rows
  pub end : List ℕ
  pub end_is_line : HoldsNoFeed end
  pub text_is : text ≡ first ++ (rows_text form s real rows ++ (end_front form ++ (end ++ (10 ∷ []))))
  pub tells : TellsInstances s left a b (all_told rows)
  pub if_empty : IsTrue empty ↔ (IsTrue (leaves_out left) × (rows ≡ []))

-- that of files that mean the same: behind a first line, one that says so
pub record IsListOfSame (form : RowForm) (left : LeftOut) (empty : Bool) (text : List ℕ) : Type 0 where
  pub first : List ℕ
  pub first_is_line : IsFirstLine form (leaves_out left) first
  pub text_is : text ≡ first ++ same_line form
  pub is_empty : IsTrue empty

-- the list of two files, by whether they mean the same, and by whether it has a row
abbrev pub IsList : RowForm → Schema → (ℕ → ℕ) → LeftOut → FileMeaning → FileMeaning → Bool → Bool → List ℕ → Type 0
IsList form s real left a b true empty text = IsListOfSame form left empty text
IsList form s real left a b false empty text = IsListOfOthers form s real left a b empty text
