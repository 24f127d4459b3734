-- What is said of the canonical text of a file is said of the file.
use Rattle.std.specs.Prelude.{◌≡◌, ℕ, Bool, List, length, Option, Ok, Err}
use Rattle.std.proofs.Common.{inl, inr, refl, sym, subst}
use Rattle.p21_spec_basics.specs.Limits.{AreLimits, Limits}
use Rattle.p21_spec_file.specs.Accepted.{IsAccepted, Means}
use Rattle.p21_spec_file.specs.File.{FileMeaning}
use Rattle.p21_spec_file.specs.SameFile.{SameFileMeaning}
use Rattle.p21_spec_laws.proofs.FileTheorems.{one-meaning}
use Rattle.p21_spec_schema.specs.Schema.{Schema}
use Rattle.p21_spec_schema.specs.WellFormed.{IsWellFormed}
use Rattle.p21_spec_numbering.proofs.Claim.{ranking-claim}
use Rattle.p21_spec_numbering.proofs.OwnOrders.{proper-means}
use Rattle.p21_spec_numbering.proofs.Theorems.{is-equivalence, ranks-are_invariant}
use Rattle.p21_spec_numbering.specs.Claim.{IsNumberedFile, NumberingClaim}
use Rattle.p21_spec_numbering.specs.Laws.{ranking_of}
use Rattle.p21_spec_numbering.specs.Renamed.{SameButForNames}
use Rattle.p21_numbered_file.proofs.Alike.{alike-on, long-on, numbered-on}
use Rattle.p21_numbered_file.specs.Comparing.{TellsTexts}
use Rattle.p21_numbered_file.specs.Numbering.{HasNone, IsAlike, IsTooLong}
use Rattle.p21_numbered_file.specs.declared.numbering.Unnumbered.{Unnumbered}
use Rattle.p21_numbered_file.specs.declared.numbering.Unnumbered.TheVariants as unnumbered
use Rattle.p21_stream.proofs.Canonicals.{only-canonical}
use Rattle.p21_stream.specs.Answers.{FailsToCompare, IsCanonicalOfRead, IsOnlyCanonicalFile}
use Rattle.p21_stream.specs.ReaderInput.{IsAcceptedInput, RefusesRead, read_failures}
use Rattle.p21_stream.specs.declared.comparing.Which.{Which}
use Rattle.p21_stream.specs.declared.comparing.Which.TheVariants.{First, Second}
use Rattle.p21_stream.specs.declared.counting.Counted.{Counted}
use Rattle.p21_stream_output.specs.Output.{Output, output_text}
use Rattle.p21_stream_statements.specs.declared.fault.Fault.{Fault}
use Rattle.p21_stream_numbered.specs.Compared.{ComparesButForNames, FailsToTell, IsFileOf, first_numbering_failures, second_numbering_failures}
use Rattle.p21_stream_numbered.specs.Numbered.{IsAlikeInput, IsCountedApart, IsLongInput, IsNumberedInput, IsRefusalOf, RefusesNumbers, numbering_failures}
use Rattle.p21_stream_numbered.specs.declared.refusal.NumberingRefusal.{NumberingRefusal}
use Rattle.p21_stream_numbered.specs.declared.refusal.NumberingRefusal.TheVariants.{Alike, Refused}

-- the claim of each well-formed schema
pub claimed : (s : Schema) → IsWellFormed s → (limits : Limits) → AreLimits limits → NumberingClaim s limits (ranking_of s)
claimed s formed limits are = ranking-claim s formed limits are (ranking_of s) (ranks-are_invariant s)

-- what a file and its canonical text mean
record Both (s : Schema) (limits : Limits) (bytes text : List ℕ) : Type 0 where
  own : FileMeaning
  own_means : Means s limits bytes own
  its : FileMeaning
  its_means : Means s limits text its
  same : SameFileMeaning its own

module _ (s : Schema) (formed : IsWellFormed s) (limits : Limits) where
  both : (bytes text : List ℕ) → IsOnlyCanonicalFile s limits bytes text → Both s limits bytes text
  both bytes text only =
      let (own, own_means, canonical) = only.is_canonical in
      let (its, its_means) = only.is_accepted in
      let one : canonical.canonical.meaning ≡ its = one-meaning s formed text canonical.canonical.meaning its canonical.canonical.reads
      its_means.reads in
      let P : FileMeaning → Type 0 = λ m. SameFileMeaning m own in
      record { own = own; own_means = own_means; its = its; its_means = its_means; same = subst P one canonical.same }

  alike : (bytes text : List ℕ) (b : Both s limits bytes text) → SameButForNames b.its b.own
  alike bytes text b = is-equivalence.coarser b.its b.own b.same

  pub text-accepted : (old new : Option (List ℕ)) (text : List ℕ) → IsCanonicalOfRead s limits old new text → IsAccepted s limits text
  text-accepted old new text read = read.canonical.is_accepted

  -- ---- one file

  pub file-numbered : (old new : Option (List ℕ)) (text : List ℕ) (output : Output) → IsCanonicalOfRead s limits old new text
      → IsNumberedFile s limits (ranking_of s) text (output_text output) → IsNumberedInput s limits old new output
  file-numbered old new text output read numbered =
      let b = both read.bytes text read.canonical in
      record {
        bytes = read.bytes;
        read = read.read;
        numbered =
            numbered-on s formed limits text read.bytes b.its b.own b.its_means b.own_means (alike read.bytes text b) (output_text output)
            numbered;
      }

  pub file-long : (old new : Option (List ℕ)) (text : List ℕ) → IsCanonicalOfRead s limits old new text → IsTooLong s limits text
      → IsLongInput s limits old new
  file-long old new text read long =
      let b = both read.bytes text read.canonical in
      record {
        bytes = read.bytes;
        read = read.read;
        too_long =
            long-on s formed limits text read.bytes b.its b.own b.its_means b.own_means (alike read.bytes text b) long;
      }

  pub file-alike : (old new : Option (List ℕ)) (text : List ℕ) (j k : ℕ) → IsCanonicalOfRead s limits old new text
      → IsAlike s limits text j k → IsAlikeInput s limits old new j k
  file-alike old new text j k read is =
      let b = both read.bytes text read.canonical in
      record {
        bytes = read.bytes;
        read = read.read;
        alike =
            alike-on s formed limits text read.bytes b.its b.own b.its_means b.own_means (alike read.bytes text b) b.same j k is;
      }

  pub none-numbered : (old new : Option (List ℕ)) (text : List ℕ) (fault : Unnumbered) (refusal : NumberingRefusal)
      → IsCanonicalOfRead s limits old new text → HasNone s limits text fault → IsRefusalOf fault refusal
      → RefusesNumbers s limits old new refusal
  none-numbered old new text (unnumbered.Alike j k) refusal read none is = let P : NumberingRefusal
      → Type 0 = λ r. RefusesNumbers s limits old new r in subst P (sym is) (file-alike old new text j k read none)
  none-numbered old new text unnumbered.TooLong (Refused refusal) read none is = inr (is, file-long old new text read none)
  none-numbered old new text unnumbered.TooLong (Alike j k) read none is = absurd is
  none-numbered old new text unnumbered.NoMemory (Refused refusal) read none is =
      inl (let P : Fault → Type 0 = λ f. RefusesRead s limits old new f in subst P (sym is) tt)
  none-numbered old new text unnumbered.NoMemory (Alike j k) read none is = absurd is

  -- ---- two files

  module _ (first_old first_new second_old second_new : Option (List ℕ)) (one other : List ℕ)
      (first : IsCanonicalOfRead s limits first_old first_new one) (second : IsCanonicalOfRead s limits second_old second_new other) where
    pub files-told : (same : Bool) → TellsTexts s limits one other (Ok same)
        → ComparesButForNames s limits first_old first_new second_old second_new same
    files-told same tells =
        let a = both first.bytes one first.canonical in
        let b = both second.bytes other second.canonical in
        let law = is-equivalence in
        let told = tells a.its b.its a.its_means b.its_means in
        let proper = proper-means s formed limits first.bytes a.own a.own_means in
        let proper_ = proper-means s formed limits second.bytes b.own b.own_means in
        let its = proper-means s formed limits one a.its a.its_means in
        let its_ = proper-means s formed limits other b.its b.its_means in
        record {
          first = record { bytes = first.bytes; read = first.read; meaning = a.own; means = a.own_means };
          second = record { bytes = second.bytes; read = second.read; meaning = b.own; means = b.own_means };
          if_same = (
            λ yes. law.transitive a.own a.its b.own proper (law.symmetric a.its a.own its (alike first.bytes one a))
                (law.transitive a.its b.its b.own its (told.0 yes) (alike second.bytes other b)),
            λ same_. told.1 (law.transitive a.its a.own b.its its (alike first.bytes one a)
                (law.transitive a.own b.own b.its proper same_ (law.symmetric b.its b.own its_ (alike second.bytes other b)))),
          );
        }

    pub files-untold : (fault : Unnumbered) (which : Which) (refusal : NumberingRefusal) → TellsTexts s limits one other (Err fault)
        → IsFileOf fault which → IsRefusalOf fault refusal → FailsToTell s limits first_old first_new second_old second_new which refusal
    files-untold (unnumbered.Alike j k) which refusal (x, (i, l, y)) of is =
        let P : NumberingRefusal → Type 0 = λ r. FailsToTell s limits first_old first_new second_old second_new which r in
        subst P (sym is) (of, file-alike first_old first_new one j k first x, (i, l, file-alike second_old second_new other i l second y))
    files-untold unnumbered.TooLong which (Refused refusal) (x, y) of is =
        inr (of, is, file-long first_old first_new one first x, file-long second_old second_new other second y)
    files-untold unnumbered.TooLong which (Alike j k) (x, y) of is = absurd is
    files-untold unnumbered.NoMemory which (Refused refusal) tells of is =
        let P : Fault → Type 0 = λ f. FailsToCompare s limits first_old first_new second_old second_new Second f in
        let Q : Which → Type 0 = λ w. FailsToCompare s limits first_old first_new second_old second_new w refusal.fault in
        inl (subst Q (sym of) (subst P (sym is) ((one, first), tt)))
    files-untold unnumbered.NoMemory which (Alike j k) tells of is = absurd is

-- ---- counted

pub counted-apart : (s : Schema) → IsWellFormed s → (limits : Limits) → AreLimits limits
    → (old new : Option (List ℕ)) (accepted : Output) (counted : Counted) (file : Output) → IsAcceptedInput s limits old new accepted
    → counted.instances ≡ length accepted.kept → counted.bytes ≡ length (output_text accepted)
    → IsNumberedFile s limits (ranking_of s) (output_text accepted) (output_text file) → IsCountedApart s limits old new counted
counted-apart s formed limits are old new accepted counted file is instances bytes numbered =
    let b = both s formed limits is.bytes (output_text accepted)
    (only-canonical s formed limits are is.bytes (output_text accepted) is.accepted.is_canonical) in
    record {
      counts = record {
        bytes = is.bytes;
        read = is.read;
        is_counted =
            record { output = accepted; accepted = is.accepted; instances_are = instances; bytes_are = bytes };
      };
      file = output_text file;
      numbered = numbered-on s formed limits (output_text accepted) is.bytes b.its b.own b.its_means b.own_means
          (alike s formed limits is.bytes (output_text accepted) b) (output_text file) numbered;
    }

-- ---- failures

pub no-failure : (count : ℕ) (fault : Unnumbered) (refusal : NumberingRefusal) → IsRefusalOf fault refusal
    → numbering_failures count refusal ≡ count
no-failure count (unnumbered.Alike j k) refusal is = let P : NumberingRefusal
    → Type 0 = λ r. numbering_failures count r ≡ count in subst P (sym is) refl
no-failure count unnumbered.TooLong (Refused refusal) is = let P : Fault
    → Type 0 = λ f. read_failures count f ≡ count in subst P (sym is) refl
no-failure count unnumbered.TooLong (Alike j k) is = absurd is
no-failure count unnumbered.NoMemory (Refused refusal) is = let P : Fault
    → Type 0 = λ f. read_failures count f ≡ count in subst P (sym is) refl
no-failure count unnumbered.NoMemory (Alike j k) is = absurd is

pub no-first_failure : (count : ℕ) (which : Which) (fault : Unnumbered) (refusal : NumberingRefusal) → IsRefusalOf fault refusal
    → first_numbering_failures count which refusal ≡ count
no-first_failure count which (unnumbered.Alike j k) refusal is = let P : NumberingRefusal
    → Type 0 = λ r. first_numbering_failures count which r ≡ count in subst P (sym is) refl
no-first_failure count First unnumbered.TooLong (Refused refusal) is = let P : Fault
    → Type 0 = λ f. read_failures count f ≡ count in subst P (sym is) refl
no-first_failure count Second unnumbered.TooLong (Refused refusal) is = refl
no-first_failure count which unnumbered.TooLong (Alike j k) is = absurd is
no-first_failure count First unnumbered.NoMemory (Refused refusal) is = let P : Fault
    → Type 0 = λ f. read_failures count f ≡ count in subst P (sym is) refl
no-first_failure count Second unnumbered.NoMemory (Refused refusal) is = refl
no-first_failure count which unnumbered.NoMemory (Alike j k) is = absurd is

pub no-second_failure : (count : ℕ) (which : Which) (fault : Unnumbered) (refusal : NumberingRefusal) → IsRefusalOf fault refusal
    → second_numbering_failures count which refusal ≡ count
no-second_failure count which (unnumbered.Alike j k) refusal is = let P : NumberingRefusal
    → Type 0 = λ r. second_numbering_failures count which r ≡ count in subst P (sym is) refl
no-second_failure count Second unnumbered.TooLong (Refused refusal) is = let P : Fault
    → Type 0 = λ f. read_failures count f ≡ count in subst P (sym is) refl
no-second_failure count First unnumbered.TooLong (Refused refusal) is = refl
no-second_failure count which unnumbered.TooLong (Alike j k) is = absurd is
no-second_failure count Second unnumbered.NoMemory (Refused refusal) is = let P : Fault
    → Type 0 = λ f. read_failures count f ≡ count in subst P (sym is) refl
no-second_failure count First unnumbered.NoMemory (Refused refusal) is = refl
no-second_failure count which unnumbered.NoMemory (Alike j k) is = absurd is
