-- Files that are read and listed by pairs, or refused.
use Rattle.std.specs.Prelude.{◌≡◌, ℕ, Bool, List, Option}
use Rattle.std.proofs.Common.{inl, inr, subst, sym, refl}
use Rattle.p21_difference_rows.specs.declared.row.RowForm.{RowForm}
use Rattle.p21_numbered_file.specs.declared.pairing.Unpaired.{Unpaired}
use Rattle.p21_numbered_file.specs.declared.pairing.Unpaired.TheVariants as unpaired
use Rattle.p21_spec_basics.specs.Limits.{AreLimits, Limits}
use Rattle.p21_spec_differences.specs.LeftOut.{LeftOut}
use Rattle.p21_spec_schema.specs.Schema.{Schema}
use Rattle.p21_spec_schema.specs.WellFormed.{IsWellFormed}
use Rattle.p21_stream.proofs.Canonicals.{canonical-of_read}
use Rattle.p21_stream.specs.Answers.{FailsToCompare, first_failures, second_failures}
use Rattle.p21_stream.specs.ReaderInput.{IsAcceptedInput, RefusesRead, read_failures}
use Rattle.p21_stream.specs.declared.comparing.Which.{Which}
use Rattle.p21_stream.specs.declared.comparing.Which.TheVariants.{First, Second}
use Rattle.p21_stream_numbered.specs.Compared.{HasCanonical}
use Rattle.p21_stream_output.specs.Output.{Output, output_text}
use Rattle.p21_stream_statements.specs.declared.fault.Fault.{Fault}
use Rattle.p21_stream_statements.specs.declared.fault.Fault.TheVariants.{NoMemory}
use Rattle.p21_paired_differences.specs.declared.by_pairs.PairRows.{PairRows}
use Rattle.p21_paired_differences.specs.ByPairs.{FailsToPair, HasNoList, IsAcceptedFile, IsFaultOfPairs, IsTooLongByPairs, ListsOfFiles, ListsOfRead}

-- a session accepted what was read
pub is-accepted_file : (s : Schema) (limits : Limits) (old new : Option (List ℕ)) (output : Output)
    → IsAcceptedInput s limits old new output → IsAcceptedFile s limits output
is-accepted_file s limits old new output is = (is.bytes, is.accepted)

module _ (s : Schema) (formed : IsWellFormed s) (limits : Limits) (are : AreLimits limits) (first_old first_new : Option (List ℕ)) where
  pub has-canonical : (output : Output) → IsAcceptedInput s limits first_old first_new output → HasCanonical s limits first_old first_new
  has-canonical output is = (output_text output, canonical-of_read s formed limits are first_old first_new output is)

  module _ (second_old second_new : Option (List ℕ)) where
    pub read-listed : (form : RowForm) (left : LeftOut) (pairs : PairRows) (before after : Output) (same empty : Bool) (text : List ℕ)
        → IsAcceptedInput s limits first_old first_new before → IsAcceptedInput s limits second_old second_new after
        → ListsOfFiles form left pairs s limits before after same empty text
        → ListsOfRead form left pairs s limits first_old first_new second_old second_new same empty text
    read-listed form left pairs before after same empty text first second lists = record {
      first_text = output_text before;
      first = canonical-of_read s formed limits are first_old first_new before first;
      second_text = output_text after;
      second = canonical-of_read s formed limits are second_old second_new after second;
      lists = lists;
    }

    -- the second is refused
    pub second-fails : (before : Output) (fault : Fault) → IsAcceptedInput s limits first_old first_new before
        → RefusesRead s limits second_old second_new fault
        → FailsToPair s limits first_old first_new second_old second_new Second fault
    second-fails before fault first refuses = inl (has-canonical before first, refuses)

    -- both are accepted, and there is no list
    pub pairing-fails : (before after : Output) (why : Unpaired) (which : Which) (fault : Fault)
        → IsAcceptedInput s limits first_old first_new before → IsAcceptedInput s limits second_old second_new after
        → HasNoList s limits (output_text before) (output_text after) why → IsFaultOfPairs why which fault
        → FailsToPair s limits first_old first_new second_old second_new which fault
    pairing-fails before after unpaired.TooLong which fault first second none (of_first, too_long) =
        let long : IsTooLongByPairs s limits first_old first_new second_old second_new = record {
          first_text = output_text before;
          first = canonical-of_read s formed limits are first_old first_new before first;
          second_text = output_text after;
          second = canonical-of_read s formed limits are second_old second_new after second;
          none = none;
        } in
        inr (of_first, too_long, long)
    pairing-fails before after unpaired.NoMemory which fault first second none (of_second, no_memory) =
        let P : Which → Type 0 = λ w. FailsToCompare s limits first_old first_new second_old second_new w fault in
        let Q : Fault → Type 0 = λ f. RefusesRead s limits second_old second_new f in
        inl (subst P (sym of_second) (has-canonical before first, subst Q (sym no_memory) tt))

-- then no reader failed
pub no-first_failure : (count : ℕ) (why : Unpaired) (which : Which) (fault : Fault) → IsFaultOfPairs why which fault
    → first_failures count which fault ≡ count
no-first_failure count unpaired.TooLong First fault is = let P : Fault
    → Type 0 = λ f. read_failures count f ≡ count in subst P (sym is.1) refl
no-first_failure count unpaired.TooLong Second fault is = refl
no-first_failure count unpaired.NoMemory First fault is = cc is.0
no-first_failure count unpaired.NoMemory Second fault is = refl

pub no-second_failure : (count : ℕ) (why : Unpaired) (which : Which) (fault : Fault) → IsFaultOfPairs why which fault
    → second_failures count which fault ≡ count
no-second_failure count unpaired.TooLong First fault is = refl
no-second_failure count unpaired.TooLong Second fault is = cc is.0
no-second_failure count unpaired.NoMemory First fault is = refl
no-second_failure count unpaired.NoMemory Second fault is = let P : Fault
    → Type 0 = λ f. read_failures count f ≡ count in subst P (sym is.1) refl
