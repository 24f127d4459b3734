-- What commands say of two files whose instances are paired, and where there is no list.
use Rattle.std.proofs.Common.{◌≡◌, ◌∙◌, ℕ, Bool, List, [], ◌∷◌, Option, inl, inr, ap, refl, subst, string_bytes}
use Rattle.std.proofs.KnownBytes.{Keeps-refl}
use Rattle.p21_spec_basics.specs.Limits.{Limits, usual}
use Rattle.p21_spec_schema.specs.Schema.{Schema}
use Rattle.p21_commands.proofs.Comparing.{comparing-fails}
use Rattle.p21_commands.proofs.Counting.{comparing-failed, reader-failed}
use Rattle.p21_commands.proofs.Failing.{before_reading}
use Rattle.p21_commands.proofs.Numbering.{fails-weaker, unwritten}
use Rattle.p21_commands.specs.Command.{FailsBy}
use Rattle.p21_commands.specs.DiffByPairs.{IsListByPairs, IsLongByPairs, IsUnpaired}
use Rattle.p21_commands.specs.Failures.{Failures, FailedBy}
use Rattle.p21_commands.specs.Load.{DeclaresRead, RefusesRead}
use Rattle.p21_commands.specs.Refusals.{IsFaultOf}
use Rattle.p21_commands.specs.Same.{IsRefused, Read, read_of, word_of}
use Rattle.p21_commands.specs.declared.fault.CommandFault.{CommandFault}
use Rattle.p21_commands.specs.Unlisted.{MayAllBeMeant}
use Rattle.p21_commands.specs.declared.fault.CommandFault.TheVariants as command
use Rattle.p21_difference_rows.specs.declared.row.RowForm.{RowForm}
use Rattle.p21_paired_differences.specs.declared.by_pairs.PairRows.{PairRows}
use Rattle.p21_paired_differences.specs.ByPairs.{FailsToPair, IsTooLongByPairs, ListsOfRead}
use Rattle.p21_spec_differences.specs.LeftOut.{LeftOut}
use Rattle.p21_stream.specs.Answers.{first_failures, second_failures}
use Rattle.p21_stream.specs.declared.comparing.Which.{Which}
use Rattle.p21_stream.specs.declared.comparing.Which.TheVariants.{First, Second}
use Rattle.p21_stream_statements.specs.declared.fault.Fault.TheVariants as file
use Rattle.p21_stream_statements.specs.declared.refusal.Refusal.{Refusal}

module _ (schema first_old first_new second_old second_new : Option (List ℕ)) (s : Schema) (declares : DeclaresRead schema s) where
  abbrev read : Read
  read = read_of schema first_old first_new second_old second_new

  -- the list
  pub listed-by_pairs : (form : RowForm) (left : LeftOut) (pairs : PairRows) (limits : Limits) (same empty : Bool) (text : List ℕ)
      → MayAllBeMeant s left → limits ≡ usual → ListsOfRead form left pairs s limits first_old first_new second_old second_new same empty text
      → IsListByPairs form left pairs read empty text
  listed-by_pairs form left pairs limits same empty text meant is_usual lists = record {
    declared = s;
    declares = declares;
    meant = meant;
    same = same;
    lists = subst (λ (l : Limits). ListsOfRead form left pairs s l first_old first_new second_old second_new same empty text) is_usual
        lists;
  }

  module _ (IsAnswer : List ℕ → Type 0) (output : Option (List ℕ)) where
    long-fails : (refusal : Refusal) (fault : CommandFault) → IsFaultOf (word_of First) refusal fault → refusal.fault
        ≡ file.CanonicalTooLong → IsTooLongByPairs s usual first_old first_new second_old second_new
        → FailsBy IsAnswer (IsUnpaired read) output output fault
    long-fails refusal (command.Refused line) is too_long long =
        let refused : IsLongByPairs read (string_bytes line) = record {
          declared = s;
          declares = declares;
          long = long;
          refusal = refusal;
          fault_is = too_long;
          line_is = is.1;
        } in
        (inr refused, Keeps-refl output)
    long-fails refusal command.NoMemory is too_long long = Keeps-refl output
    long-fails refusal command.Read is too_long long = Keeps-refl output
    long-fails refusal command.Write is too_long long = absurd (unwritten refusal.fault too_long is)

    unpaired : (which : Which) (refusal : Refusal) (fault : CommandFault) (word : List ℕ) → word ≡ word_of which
        → IsFaultOf word refusal fault
        → FailsToPair s usual first_old first_new second_old second_new which refusal.fault
        → FailsBy IsAnswer (IsUnpaired read) output output fault
    unpaired which refusal fault word named is (inl fails) =
        fails-weaker IsAnswer (IsRefused read) (IsUnpaired read) (λ line refused. inl refused) output output fault
        (comparing-fails IsAnswer schema first_old first_new second_old second_new output s usual which refusal fault word refl declares
        named is fails)
    unpaired which refusal fault word named is (inr (of_first, too_long, long)) =
        long-fails refusal fault (subst (λ (w : List ℕ). IsFaultOf w refusal fault) (named ∙ ap word_of of_first) is) too_long long

    pub pairing-fails : (limits : Limits) (which : Which) (refusal : Refusal) (fault : CommandFault) (word : List ℕ) → limits ≡ usual → word
        ≡ word_of which → IsFaultOf word refusal fault
        → FailsToPair s limits first_old first_new second_old second_new which refusal.fault
        → FailsBy IsAnswer (IsUnpaired read) output output fault
    pairing-fails limits which refusal fault word is_usual named is fails =
        unpaired which refusal fault word named is (subst (λ (l : Limits). FailsToPair s l first_old first_new second_old second_new which
        refusal.fault) is_usual fails)

-- the schema is refused, and no file is read
pub unread_fails : (IsAnswer : List ℕ → Type 0) (schema first second output : Option (List ℕ)) (fault : CommandFault)
    → RefusesRead schema fault → FailsBy IsAnswer (IsUnpaired (read_of schema first first second second)) output output fault
unread_fails IsAnswer schema first second output (command.Refused line) is =
    (inl (inl (is, Keeps-refl first, Keeps-refl second)), Keeps-refl output)
unread_fails IsAnswer schema first second output command.NoMemory is = Keeps-refl output
unread_fails IsAnswer schema first second output command.Read is = Keeps-refl output
unread_fails IsAnswer schema first second output command.Write is = absurd is

-- which calls failed
pub pairing-failed : (s : Schema) (limits : Limits) (first_old first_new second_old second_new : Option (List ℕ)) (word : List ℕ)
    (first second : Failures) (which : Which) (refusal : Refusal) (fault : CommandFault)
    → IsFaultOf word refusal fault → FailsToPair s limits first_old first_new second_old second_new which refusal.fault
    → first.after ≡ first_failures first.before which refusal.fault → second.after ≡ second_failures second.before which refusal.fault
    → FailedBy (first ∷ second ∷ []) [] fault
pairing-failed s limits first_old first_new second_old second_new word first second which refusal fault is (inl fails) a b =
    comparing-failed s limits first_old first_new second_old second_new word first second which refusal fault is fails a b
pairing-failed s limits first_old first_new second_old second_new word first second First refusal fault is
    (inr (of_first, too_long, long)) a b =
    before_reading first (second ∷ []) [] fault (reader-failed word first refusal fault is (unwritten refusal.fault too_long) a) (b, tt)
pairing-failed s limits first_old first_new second_old second_new word first second Second refusal fault is
    (inr (of_first, too_long, long)) a b = cc of_first
