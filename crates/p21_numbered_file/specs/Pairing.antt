-- What is answered of two accepted texts whose instances are paired.
use Rattle.std.specs.BTreeMap.{BTreeMap, get}
use Rattle.std.specs.Ordering.{nat_cmp}
use Rattle.std.specs.Prelude.{◌≡◌, ◌↔◌, ℕ, List, Some, Result, Ok, Err, Contains}
use Rattle.p21_spec_basics.specs.Limits.{Limits}
use Rattle.p21_spec_file.specs.Accepted.{IsAccepted, IsCanonicalOf, Means}
use Rattle.p21_spec_file.specs.File.{FileMeaning, Reads}
use Rattle.p21_spec_file.specs.Meaning.{Typed}
use Rattle.p21_spec_numbering.specs.Laws.{ranking_of}
use Rattle.p21_spec_numbering.specs.Renamed.{IsInjectiveOn, names, renamed, renamed_typed}
use Rattle.p21_spec_pairing.specs.Pairing.{IsPairing, NothingDiffers}
use Rattle.p21_spec_schema.specs.Schema.{Schema}
use Rattle.p21_canon.specs.Statement.{IsCanonicalStatement}
use Rattle.p21_numbering.specs.Instances.{AreInstancesOf, Instance}
use Rattle.p21_stream_output.specs.Output.{Output, output_text}
use Rattle.p21_stream_store.specs.StoredInstance.{StoredInstance}
use Rattle.p21_numbered_file.specs.Reading.{IsReadOf}
use Rattle.p21_numbered_file.specs.declared.pairing.Paired.{Paired}
use Rattle.p21_numbered_file.specs.declared.pairing.Unpaired.{Unpaired}
use Rattle.p21_numbered_file.specs.declared.pairing.Unpaired.TheVariants.{NoMemory, TooLong}
use Rattle.p21_numbered_file.specs.declared.read_file.ReadFile.{ReadFile}

-- the new names pair the instances of the file that the first text means with those of the one that the second means
pub record ArePairedBy (s : Schema) (limits : Limits) (one other : List ℕ) (new : ℕ → ℕ) : Type 0 where
  pub first : FileMeaning
  pub second : FileMeaning
  pub means : Means s limits one first
  pub other_means : Means s limits other second
  pub pairing : IsPairing (ranking_of s) first second new

-- the line is the canonical statement of an instance of this name and meaning under its new name
abbrev pub IsLineOfRenamed : Schema → (ℕ → ℕ) → ℕ × Typed → StoredInstance → Type 0
IsLineOfRenamed s f i line = (line.name ≡ f i.0) × IsCanonicalStatement s (f i.0) (renamed_typed f i.1) line.text

-- each instance has such a line, and each line is of an instance
pub record AreLinesOfRenamed (s : Schema) (f : ℕ → ℕ) (m : FileMeaning) (kept : List StoredInstance) : Type 0 where
  pub onto : (i : ℕ × Typed) → Contains m.instances i → (line : StoredInstance) × Contains kept line × IsLineOfRenamed s f i line
  pub back : (line : StoredInstance) → Contains kept line → (i : ℕ × Typed) × Contains m.instances i × IsLineOfRenamed s f i line

-- the file is the canonical one of what the first text means under new names that pair it with the second, and has the lines of its
-- instances; the map gives back the old names; and where the second text is a canonical file, the two are equal exactly if nothing
-- differs by the pairs
pub record IsPairedFile (s : Schema) (limits : Limits) (one other : List ℕ) (file : Output) (old_names : BTreeMap ℕ ℕ) : Type 0 where
  pub new : ℕ → ℕ
  pub paired : ArePairedBy s limits one other new
  pub canonical : IsCanonicalOf s limits (renamed new paired.first) (output_text file)
  pub lines : AreLinesOfRenamed s new paired.first file.kept
  pub gives_back : (n : ℕ) → Contains (names paired.first) n → get nat_cmp old_names (new n) ≡ Some n
  pub equal : IsCanonicalOf s limits paired.second other
      → (output_text file ≡ other) ↔ NothingDiffers new paired.first paired.second

-- under new names that pair the two, what the first text means has no canonical file within the limits
pub record HasNoPairedFile (s : Schema) (limits : Limits) (one other : List ℕ) : Type 0 where
  pub new : ℕ → ℕ
  pub paired : ArePairedBy s limits one other new
  pub none : (bytes : List ℕ) → ¬ IsCanonicalOf s limits (renamed new paired.first) bytes

-- the file of the first text under new names, or why there is none; want of memory says nothing
abbrev pub PairsFiles : Schema → Limits → List ℕ → List ℕ → Result Paired Unpaired → Type 0
PairsFiles s limits one other (Ok paired) = IsPairedFile s limits one other paired.file paired.old_names
PairsFiles s limits one other (Err TooLong) = HasNoPairedFile s limits one other
PairsFiles s limits one other (Err NoMemory) = Unit {0}

-- the answer for the texts of which these are read, whichever they are
abbrev pub PairsRead : Schema → Limits → ReadFile → ReadFile → Result Paired Unpaired → Type 0
PairsRead s limits read other result =
    (one two : List ℕ) → IsAccepted s limits one → IsReadOf s one read → IsAccepted s limits two → IsReadOf s two other
    → PairsFiles s limits one two result

-- ---- names

-- this is what is read of some text
abbrev pub IsReadOfText : Schema → ReadFile → Type 0
IsReadOfText s read = (text : List ℕ) × IsReadOf s text read

-- the names pair whatever file has these instances with the one of which this is read
abbrev pub PairsInstances : Schema → List Instance → ReadFile → (ℕ → ℕ) → Type 0
PairsInstances s all other f =
    (bytes : List ℕ) (a : FileMeaning) → Reads s bytes a → AreInstancesOf a all
    → (text : List ℕ) (is : IsReadOf s text other) → IsPairing (ranking_of s) a is.meaning f

-- the map gives back each name for its new one, where these differ
abbrev pub GivesBack : BTreeMap ℕ ℕ → (ℕ → ℕ) → List ℕ → Type 0
GivesBack old f ns = IsInjectiveOn ns f → (n : ℕ) → Contains ns n → get nat_cmp old (f n) ≡ Some n
