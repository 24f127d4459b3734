-- Whether two accepted texts are the same but for the names of instances.
use Rattle.std.specs.Prelude.{◌↔◌, ℕ, Bool, false, IsTrue, List, Result, Ok, Err}
use Rattle.p21_spec_basics.specs.Limits.{Limits}
use Rattle.p21_spec_file.specs.Accepted.{Means}
use Rattle.p21_spec_file.specs.File.{FileMeaning}
use Rattle.p21_spec_numbering.specs.Renamed.{SameButForNames}
use Rattle.p21_spec_schema.specs.Schema.{Schema}
use Rattle.p21_numbered_file.specs.Numbering.{IsAlike, IsTooLong}
use Rattle.p21_numbered_file.specs.declared.numbering.Unnumbered.{Unnumbered}
use Rattle.p21_numbered_file.specs.declared.numbering.Unnumbered.TheVariants.{Alike, NoMemory, TooLong}

-- whether they are the same; or neither has a numbered file, for one reason, which is that of the first. Want of memory says nothing
abbrev pub TellsTexts : Schema → Limits → List ℕ → List ℕ → Result Bool Unnumbered → Type 0
TellsTexts s limits one other (Ok same) = (m n : FileMeaning) → Means s limits one m → Means s limits other n → IsTrue same
    ↔ SameButForNames m n
TellsTexts s limits one other (Err (Alike j k)) = IsAlike s limits one j k × ((i : ℕ) × (l : ℕ) × IsAlike s limits other i l)
TellsTexts s limits one other (Err TooLong) = IsTooLong s limits one × IsTooLong s limits other
TellsTexts s limits one other (Err NoMemory) = Unit {0}

-- what is told where one has a numbered file, and the other none
abbrev pub told_apart : Unnumbered → Result Bool Unnumbered
told_apart (Alike j k) = Ok false
told_apart TooLong = Ok false
told_apart NoMemory = Err NoMemory

-- and where neither has
abbrev pub told_of_none : Unnumbered → Unnumbered → Result Bool Unnumbered
told_of_none NoMemory its = Err NoMemory
told_of_none (Alike j k) (Alike i l) = Err (Alike j k)
told_of_none (Alike j k) TooLong = Ok false
told_of_none (Alike j k) NoMemory = Err NoMemory
told_of_none TooLong (Alike i l) = Ok false
told_of_none TooLong TooLong = Err TooLong
told_of_none TooLong NoMemory = Err NoMemory
