-- What differs in two files whose instances are paired.
use Rattle.std.specs.Prelude.{◌≡◌, ◌⊎◌, ◌↔◌, ℕ, Bool, false, IsTrue, List, ◌++◌, Option, Contains, codes}
use Rattle.p21_spec_basics.specs.Limits.{Limits}
use Rattle.p21_spec_differences.specs.LeftOut.{LeftOut}
use Rattle.p21_difference_rows.specs.Listed.{IsList}
use Rattle.p21_difference_rows.specs.Pairs.{Rise, pair_lines}
use Rattle.p21_difference_rows.specs.declared.row.RowForm.{RowForm}
use Rattle.p21_difference_rows.specs.declared.row.RowForm.TheVariants.{Text, Json}
use Rattle.p21_numbered_file.specs.Pairing.{HasNoPairedFile}
use Rattle.p21_numbered_file.specs.declared.pairing.Unpaired.{Unpaired}
use Rattle.p21_numbered_file.specs.declared.pairing.Unpaired.TheVariants as unpaired
use Rattle.p21_paired_differences.specs.declared.by_pairs.PairRows.{PairRows}
use Rattle.p21_paired_differences.specs.declared.by_pairs.PairRows.TheVariants.{Hidden, Shown}
use Rattle.p21_spec_file.specs.Accepted.{Means}
use Rattle.p21_spec_file.specs.File.{FileMeaning}
use Rattle.p21_spec_numbering.specs.Laws.{ranking_of}
use Rattle.p21_spec_numbering.specs.Renamed.{SameButForNames, names, renamed}
use Rattle.p21_spec_pairing.specs.Laws.{IsOneToOne}
use Rattle.p21_spec_pairing.specs.Pairing.{ArePartners, AreToldApart, IsPairing, NothingDiffers}
use Rattle.p21_spec_schema.specs.Schema.{Schema}
use Rattle.p21_stream.specs.Answers.{FailsToCompare, IsCanonicalOfRead}
use Rattle.p21_stream.specs.Canonical.{IsCanonicalOutput}
use Rattle.p21_stream.specs.declared.comparing.Which.{Which}
use Rattle.p21_stream.specs.declared.comparing.Which.TheVariants.{First, Second}
use Rattle.p21_stream_output.specs.Output.{Output, output_text}
use Rattle.p21_stream_statements.specs.declared.fault.Fault.{Fault}
use Rattle.p21_stream_statements.specs.declared.fault.Fault.TheVariants.{CanonicalTooLong, NoMemory}

-- ---- what is listed

-- what is said of files that differ by pairs of which too many were chosen
abbrev pub undecided_line : RowForm → List ℕ
undecided_line Text = codes "not decided\n"
undecided_line Json = codes "{\"kind\":\"verdict\",\"verdict\":\"undecided\"}\n"

-- a line for each instance of the second file that has a partner, by rising names: the real name of the partner, and its own
pub record ArePairs (form : RowForm) (new real : ℕ → ℕ) (a b : FileMeaning) (text : List ℕ) : Type 0 where
  pub seconds : List ℕ
  pub all : (m : ℕ) → Contains seconds m ↔ ((n : ℕ) × ArePartners new a b n m)
  pub rise : Rise seconds
  pub text_is : text ≡ pair_lines form real seconds

-- the list as it is, or behind the lines of all pairs
abbrev pub IsBehindPairs : PairRows → RowForm → (ℕ → ℕ) → (ℕ → ℕ) → FileMeaning → FileMeaning → List ℕ → List ℕ → Type 0
IsBehindPairs Hidden form new real a b list text = text ≡ list
IsBehindPairs Shown form new real a b list text = (lines : List ℕ) × ArePairs form new real a b lines × (text ≡ lines ++ list)

-- the list of what differs in the first file under its new names and the second, and isn't left out, maybe behind the pairs
pub record IsListWithPairs (form : RowForm) (left : LeftOut) (pairs : PairRows) (s : Schema) (new real : ℕ → ℕ) (a b : FileMeaning)
    (same empty : Bool) (text : List ℕ) : Type 0 where
  pub list : List ℕ
  pub is_list : IsList form s real left (renamed new a) b same empty list
  pub behind : IsBehindPairs pairs form new real a b list text

-- the same; or, of files that differ, that it isn't decided
abbrev pub IsListOrUndecided : RowForm → LeftOut → PairRows → Schema → (ℕ → ℕ) → (ℕ → ℕ) → FileMeaning → FileMeaning → Bool → Bool
    → List ℕ → Type 0
IsListOrUndecided form left pairs s new real a b same empty text =
    IsListWithPairs form left pairs s new real a b same empty text
    ⊎ ((same ≡ false) × (empty ≡ false) × (text ≡ undecided_line form))

-- the instances of both are paired by new names for the first; what differs in the first under these and the second, and isn't left out,
-- is listed, with both names in each row. Nothing differs exactly if the answer is that they are the same: then they are so but for names,
-- and where ranks tell instances apart, files that are so have this answer
pub record ListsByPairs (form : RowForm) (left : LeftOut) (pairs : PairRows) (s : Schema) (a b : FileMeaning) (same empty : Bool)
    (text : List ℕ) : Type 0 where
  pub new : ℕ → ℕ
  pub pairing : IsPairing (ranking_of s) a b new
  pub one_to_one : IsOneToOne new a b
  pub real : ℕ → ℕ
  pub gives_back : (n : ℕ) → Contains (names a) n → real (new n) ≡ n
  pub list : IsListOrUndecided form left pairs s new real a b same empty text
  pub if_same : IsTrue same ↔ NothingDiffers new a b
  pub same_but_for_names : IsTrue same → SameButForNames a b
  pub told_apart : AreToldApart (ranking_of s) a b → SameButForNames a b → IsTrue same

-- ---- of two files

-- a session accepted it
abbrev pub IsAcceptedFile : Schema → Limits → Output → Type 0
IsAcceptedFile s limits output = (bytes : List ℕ) × IsCanonicalOutput s limits bytes output

-- what the texts of both mean is listed so
pub record ListsOfTexts (form : RowForm) (left : LeftOut) (pairs : PairRows) (s : Schema) (limits : Limits) (first second : List ℕ)
    (same empty : Bool) (text : List ℕ) : Type 0 where
  pub a : FileMeaning
  pub first_means : Means s limits first a
  pub b : FileMeaning
  pub second_means : Means s limits second b
  pub lists : ListsByPairs form left pairs s a b same empty text

abbrev pub ListsOfFiles : RowForm → LeftOut → PairRows → Schema → Limits → Output → Output → Bool → Bool → List ℕ → Type 0
ListsOfFiles form left pairs s limits first second same empty text =
    ListsOfTexts form left pairs s limits (output_text first) (output_text second) same empty text

-- why there is no list; want of memory says nothing
abbrev pub HasNoList : Schema → Limits → List ℕ → List ℕ → Unpaired → Type 0
HasNoList s limits first second unpaired.TooLong = HasNoPairedFile s limits first second
HasNoList s limits first second unpaired.NoMemory = Unit {0}

-- ---- of two readers

-- both were read to their ends, and what differs is listed in their canonical files, which mean what they mean
pub record ListsOfRead (form : RowForm) (left : LeftOut) (pairs : PairRows) (s : Schema) (limits : Limits)
    (first_old first_new second_old second_new : Option (List ℕ)) (same empty : Bool) (text : List ℕ) : Type 0 where
  pub first_text : List ℕ
  pub first : IsCanonicalOfRead s limits first_old first_new first_text
  pub second_text : List ℕ
  pub second : IsCanonicalOfRead s limits second_old second_new second_text
  pub lists : ListsOfTexts form left pairs s limits first_text second_text same empty text

-- both were read to their ends, and the first is too long under the names of its partners
pub record IsTooLongByPairs (s : Schema) (limits : Limits) (first_old first_new second_old second_new : Option (List ℕ)) : Type 0 where
  pub first_text : List ℕ
  pub first : IsCanonicalOfRead s limits first_old first_new first_text
  pub second_text : List ℕ
  pub second : IsCanonicalOfRead s limits second_old second_new second_text
  pub none : HasNoPairedFile s limits first_text second_text

-- a file is refused as where names count; or the first is too long so
abbrev pub FailsToPair : Schema → Limits → Option (List ℕ) → Option (List ℕ) → Option (List ℕ) → Option (List ℕ) → Which → Fault → Type 0
FailsToPair s limits first_old first_new second_old second_new which fault =
    FailsToCompare s limits first_old first_new second_old second_new which fault
    ⊎ ((which ≡ First) × (fault ≡ CanonicalTooLong) × IsTooLongByPairs s limits first_old first_new second_old second_new)

-- of which file it is told that there is no list, and why
abbrev pub IsFaultOfPairs : Unpaired → Which → Fault → Type 0
IsFaultOfPairs unpaired.TooLong which fault = (which ≡ First) × (fault ≡ CanonicalTooLong)
IsFaultOfPairs unpaired.NoMemory which fault = (which ≡ Second) × (fault ≡ NoMemory)
