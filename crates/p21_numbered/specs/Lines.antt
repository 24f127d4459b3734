-- The lines of instances under other names.
use Rattle.std.specs.Global.{Vec}
use Rattle.std.specs.List.{AllZip, AllByRecursion as Each}
use Rattle.std.specs.Prelude.{◌≡◌, ℕ, List, map, Result, Ok, Err}
use Rattle.p21_spec_file.specs.File.{FileMeaning, Reads}
use Rattle.p21_spec_laws.specs.CompleteFile.{Line}
use Rattle.p21_spec_numbering.specs.Copies.{IsAligned, IsDecided}
use Rattle.p21_spec_numbering.specs.Laws.{ranking_of}
use Rattle.p21_spec_numbering.specs.Ordered.{number_in}
use Rattle.p21_spec_numbering.specs.Renamed.{renamed_typed}
use Rattle.p21_spec_schema.specs.Schema.{Schema}
use Rattle.p21_canon.specs.Meant.{IsMeant}
use Rattle.p21_canon.specs.Statement.{IsCanonicalStatement}
use Rattle.p21_numbering.specs.declared.orders.Unordered.{Unordered}
use Rattle.p21_numbering.specs.Instances.{AreInstancesOf, Instance}
use Rattle.p21_numbering.specs.Ordering.{Orders}
use Rattle.p21_numbered.specs.declared.numbered_line.NumberedLine.{NumberedLine}

-- without addresses
abbrev pub held_line : NumberedLine → Line
held_line l = (l.number, l.text.items)

abbrev pub held_lines : List NumberedLine → List Line
held_lines lines = map held_line lines

-- the instance has this new name, and under it this canonical statement, where each reference leads to the new name
abbrev pub IsLineUnder : Schema → (ℕ → ℕ) → Instance → Line → Type 0
IsLineUnder s f i l = (l.0 ≡ f i.name) × IsCanonicalStatement s (f i.name) (renamed_typed f i.typed) l.1

-- each instance is meant under its new name
abbrev pub AreMeantUnder : Schema → (ℕ → ℕ) → List Instance → Type 0
AreMeantUnder s f all = Each (λ (i : Instance). IsMeant s (renamed_typed f i.typed)) all

-- the lines of instances, in the same order
abbrev pub AreLinesUnder : Schema → (ℕ → ℕ) → List Instance → List NumberedLine → Type 0
AreLinesUnder s f all lines = AllZip (IsLineUnder s f) all (held_lines lines)

-- the instances are those of a file that reads
pub record AreOfFile (s : Schema) (all : List Instance) : Type 0 where
  pub bytes : List ℕ
  pub meaning : FileMeaning
  pub reads : Reads s bytes meaning
  pub are : AreInstancesOf meaning all

-- the file is decided, and each of its instances has its number in an order that counts copies in one sequence, and its line under
-- these numbers
pub record AreNumbered (s : Schema) (m : FileMeaning) (all : List Instance) (lines : List Line) : Type 0 where
  pub decided : IsDecided (ranking_of s) m
  pub order : List ℕ
  pub aligned : IsAligned (ranking_of s) m order
  pub lines_are : AllZip (IsLineUnder s (number_in order)) all lines

-- the lines of a file, or why it has no numbers
abbrev pub Numbers : Schema → FileMeaning → List Instance → Result (Vec NumberedLine) Unordered → Type 0
Numbers s m all (Ok lines) = AreNumbered s m all (held_lines lines.items)
Numbers s m all (Err fault) = Orders (ranking_of s) m (Err fault)

-- of whatever file that reads as the instances say
abbrev pub NumbersFile : Schema → List Instance → Result (Vec NumberedLine) Unordered → Type 0
NumbersFile s all result = (bytes : List ℕ) (m : FileMeaning) → Reads s bytes m → AreInstancesOf m all → Numbers s m all result
