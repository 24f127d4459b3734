-- What is answered of an accepted text.
use Rattle.std.specs.Prelude.{◌≤◌, ℕ, List, length, Result, Ok, Err}
use Rattle.std.specs.List.{AllByRecursion as Each}
use Rattle.p21_spec_basics.specs.Limits.{Limits}
use Rattle.p21_spec_file.specs.Accepted.{IsAccepted, Means}
use Rattle.p21_spec_file.specs.File.{FileMeaning}
use Rattle.p21_spec_laws.specs.CompleteFile.{Line}
use Rattle.p21_spec_numbering.specs.Claim.{IsNumberedFile}
use Rattle.p21_spec_numbering.specs.Copies.{IsDecided}
use Rattle.p21_spec_numbering.specs.Laws.{ranking_of}
use Rattle.p21_spec_schema.specs.Schema.{Schema}
use Rattle.p21_numbering.specs.Ordering.{AreAlike}
use Rattle.p21_numbering.specs.declared.orders.Unordered.{Unordered}
use Rattle.p21_numbering.specs.declared.orders.Unordered.TheVariants as unordered
use Rattle.p21_stream_output.specs.Output.{Output, output_text}
use Rattle.p21_numbered_file.specs.Reading.{IsReadOf}
use Rattle.p21_numbered_file.specs.declared.numbering.Unnumbered.{Unnumbered}
use Rattle.p21_numbered_file.specs.declared.numbering.Unnumbered.TheVariants.{Alike, NoMemory, TooLong}
use Rattle.p21_numbered_file.specs.declared.read_file.ReadFile.{ReadFile}

-- the bytes mean a file whose instances of these two names have one rank, and that isn't decided
pub record IsAlike (s : Schema) (limits : Limits) (bytes : List ℕ) (j k : ℕ) : Type 0 where
  pub meaning : FileMeaning
  pub means : Means s limits bytes meaning
  pub alike : AreAlike (ranking_of s) meaning j k

-- the bytes mean a file that is decided, and has no numbered file within the limits
pub record IsTooLong (s : Schema) (limits : Limits) (bytes : List ℕ) : Type 0 where
  pub meaning : FileMeaning
  pub means : Means s limits bytes meaning
  pub decided : IsDecided (ranking_of s) meaning
  pub none : (numbered : List ℕ) → ¬ IsNumberedFile s limits (ranking_of s) bytes numbered

-- why bytes have no numbered file; want of memory says nothing
abbrev pub HasNone : Schema → Limits → List ℕ → Unnumbered → Type 0
HasNone s limits bytes (Alike j k) = IsAlike s limits bytes j k
HasNone s limits bytes TooLong = IsTooLong s limits bytes
HasNone s limits bytes NoMemory = Unit {0}

-- the numbered file, or why there is none
abbrev pub NumbersText : Schema → Limits → List ℕ → Result Output Unnumbered → Type 0
NumbersText s limits bytes (Ok file) = IsNumberedFile s limits (ranking_of s) bytes (output_text file)
NumbersText s limits bytes (Err fault) = HasNone s limits bytes fault

-- why a file whose instances have no order has none
abbrev pub unnumbered_of : Unordered → Unnumbered
unnumbered_of (unordered.Alike j k) = Alike j k
unnumbered_of unordered.NoMemory = NoMemory

-- this is what is read of an accepted text
abbrev pub IsReadOfAccepted : Schema → Limits → ReadFile → Type 0
IsReadOfAccepted s limits read = (text : List ℕ) × IsAccepted s limits text × IsReadOf s text read

-- the answer for the text of which this is read, whichever it is
abbrev pub NumbersRead : Schema → Limits → ReadFile → Result Output Unnumbered → Type 0
NumbersRead s limits read result = (text : List ℕ) → IsAccepted s limits text → IsReadOf s text read → NumbersText s limits text result

-- the text and each line are within the limits of canonical files and statements
abbrev pub IsWithin : Limits → List ℕ → List Line → Type 0
IsWithin limits text lines = (length text ≤ limits.file_canonical) × Each (λ (l : Line). length l.1 ≤ limits.record_canonical) lines
