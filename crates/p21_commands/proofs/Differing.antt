-- What `p21 diff` lists of two files.
use Rattle.std.specs.Prelude.{◌≡◌, ◌↔◌, ℕ, Bool, List, Option, IsTrue}
use Rattle.std.proofs.Common.{subst, sym}
use Rattle.std.proofs.KnownBytes.{Keeps-refl}
use Rattle.p21_spec_basics.specs.Limits.{Limits, usual}
use Rattle.p21_commands.specs.Diff.{IsDifferenceList, Lists}
use Rattle.p21_commands.specs.Load.{DeclaresRead}
use Rattle.p21_commands.specs.Same.{IsFirstAccepted, Read, read_of}
use Rattle.p21_difference_rows.specs.Listed.{IsList}
use Rattle.p21_difference_rows.specs.RealNames.{as_they_stand}
use Rattle.p21_difference_rows.specs.declared.row.RowForm.{RowForm}
use Rattle.p21_differences.specs.Laws.{AreKept, LinesAreOfMeaning}
use Rattle.p21_differences.specs.Lines.{AreLinesOf}
use Rattle.p21_spec_differences.specs.LeftOut.{LeftOut}
use Rattle.p21_spec_file.specs.Accepted.{Means}
use Rattle.p21_spec_file.specs.File.{FileMeaning}
use Rattle.p21_spec_schema.specs.Schema.{Schema}
use Rattle.p21_spec_schema.specs.WellFormed.{IsWellFormed}
use Rattle.p21_stream.specs.Answers.{Compares, FailsToCompare, IsCanonicalOfRead}
use Rattle.p21_stream.specs.Canonical.{AreInstancesOf, IsCanonicalOutput}
use Rattle.p21_stream.specs.Claim.{Claim}
use Rattle.p21_stream.specs.ReaderInput.{IsAcceptedInput, RefusesRead}
use Rattle.p21_stream.specs.declared.comparing.Which.TheVariants.{First, Second}
use Rattle.p21_stream_statements.specs.declared.fault.Fault.{Fault}
use Rattle.p21_stream_statements.specs.declared.fault.Fault.TheVariants.{NoMemory}
use Rattle.p21_stream_output.specs.Output.{Output, output_text}

-- the instances of accepted bytes are kept as such
kept-are : (s : Schema) (limits : Limits) (bytes : List ℕ) (output : Output) → IsCanonicalOutput s limits bytes output
    → AreKept s bytes output.kept
kept-are s limits bytes output is =
    let are = is.instances_are in
    record {
      structure = are.structure;
      schema_text = are.schema_text;
      in_grammar = are.in_grammar;
      names_are = are.names_are;
      texts_are =
          are.texts_are;
    }

-- what is accepted is the canonical file of what was read
abbrev pub canonical-read : (s : Schema) → Claim s usual → (old new : Option (List ℕ)) (output : Output)
    → IsAcceptedInput s usual old new output → IsCanonicalOfRead s usual old new (output_text output)
canonical-read s claim old new output is = record {
  bytes = is.bytes;
  read = is.read;
  canonical = claim.of_session is.bytes output is.accepted;
  in_one_way = claim.in_one_way is.bytes;
}

module _ (form : RowForm) (left : LeftOut) (s : Schema) (formed : IsWellFormed s) (law : LinesAreOfMeaning) (claim : Claim s usual)
    (schema first_old first_new second_old second_new : Option (List ℕ)) (before after : Output)
    (first : IsAcceptedInput s usual first_old first_new before) (second : IsAcceptedInput s usual second_old second_new after) where
  pub lists : (same empty : Bool) (text : List ℕ) → IsTrue same ↔ (output_text before ≡ output_text after)
      → ((a b : FileMeaning) → AreLinesOf s a before.kept → AreLinesOf s b after.kept
      → IsList form s as_they_stand left a b same empty text)
      → Lists form left s (read_of schema first_old first_new second_old second_new) same empty text
  lists same empty text if_equal list =
      let one = canonical-read s claim first_old first_new before first in
      let two = canonical-read s claim second_old second_new after second in
      let exactly = claim.same_exactly_if_equal one.bytes two.bytes (output_text before) (output_text after) one.canonical two.canonical in
      let compares : Compares s usual first_old first_new second_old second_new same = record {
        first_text = output_text before;
        second_text = output_text after;
        first = one;
        second = two;
        if_same = (λ is. exactly.1 (if_equal.0 is), λ mean. if_equal.1 (exactly.0 mean));
        if_equal = if_equal;
      } in record {
        compares = compares;
        list = λ a b means means_.
            list a b (law s formed first.bytes a means.reads before.kept (kept-are s usual first.bytes before first.accepted))
            (law s formed second.bytes b means_.reads after.kept (kept-are s usual second.bytes after second.accepted));
      }

module _ (form : RowForm) (left : LeftOut) (s : Schema) (formed : IsWellFormed s) (law : LinesAreOfMeaning) (limits : Limits)
    (is_usual : limits ≡ usual) (claim : Claim s limits) (schema first_old first_new second_old second_new : Option (List ℕ)) where
  -- both files are accepted
  pub both-listed : (before after : Output) → IsAcceptedInput s limits first_old first_new before
      → IsAcceptedInput s limits second_old second_new after
      → (same empty : Bool) (text : List ℕ) → IsTrue same ↔ (output_text before ≡ output_text after)
      → ((a b : FileMeaning) → AreLinesOf s a before.kept → AreLinesOf s b after.kept
      → IsList form s as_they_stand left a b same empty text)
      → Lists form left s (read_of schema first_old first_new second_old second_new) same empty text
  both-listed before after first second same empty text if_equal list =
      lists form left s formed law (subst (Claim s) is_usual claim) schema first_old first_new second_old second_new before after
      (subst (λ (l : Limits). IsAcceptedInput s l first_old first_new before) is_usual first)
      (subst (λ (l : Limits). IsAcceptedInput s l second_old second_new after) is_usual second) same empty text if_equal list

  -- the first is refused
  pub first-fails : (fault : Fault) → RefusesRead s limits first_old first_new fault
      → FailsToCompare s usual first_old first_new second_old second_old First fault
  first-fails fault refuses = (subst (λ (l : Limits). RefusesRead s l first_old first_new fault) is_usual refuses, Keeps-refl second_old)

  -- the second is, or memory is wanted behind both
  pub second-fails : (before : Output) (fault : Fault) → IsAcceptedInput s limits first_old first_new before
      → RefusesRead s limits second_old second_new fault
      → FailsToCompare s usual first_old first_new second_old second_new Second fault
  second-fails before fault first refuses = (
    (
      output_text before,
      canonical-read s (subst (Claim s) is_usual claim) first_old first_new before
          (subst (λ (l : Limits). IsAcceptedInput s l first_old first_new before) is_usual first),
    ),
    subst (λ (l : Limits). RefusesRead s l second_old second_new fault) is_usual refuses,
  )

  pub memory-fails : (before : Output) (fault : Fault) → IsAcceptedInput s limits first_old first_new before → fault ≡ NoMemory
      → FailsToCompare s usual first_old first_new second_old second_new Second fault
  memory-fails before fault first is = second-fails before fault first (subst (RefusesRead s limits second_old second_new) (sym is) tt)

-- where the list is made, the first file is accepted
pub first-listed : (form : RowForm) (left : LeftOut) (schema first_old first_new second_old second_new : Option (List ℕ)) (s : Schema)
    (same empty : Bool) (text : List ℕ) → DeclaresRead schema s
    → Lists form left s (read_of schema first_old first_new second_old second_new) same empty text
    → IsFirstAccepted (read_of schema first_old first_new second_old second_new)
first-listed form left schema first_old first_new second_old second_new s same empty text declares is =
    record { declared = s; declares = declares; text = is.compares.first_text; canonical = is.compares.first }
