-- What commands say of files by their numbers, and where there are none.
use Rattle.std.proofs.Common.{◌≡◌, ◌≢◌, ◌⊎◌, ◌∙◌, ℕ, Bool, List, [], ◌∷◌, Option, inl, inr, ap, refl, subst, length, string_bytes}
use Rattle.std.proofs.KnownBytes.{Keeps-refl}
use Rattle.p21_spec_basics.specs.Limits.{Limits, usual}
use Rattle.p21_spec_numbering.specs.Claim.{NumberingClaim}
use Rattle.p21_spec_numbering.specs.Laws.{ranking_of}
use Rattle.p21_spec_schema.specs.Schema.{Schema}
use Rattle.p21_commands.proofs.Comparing.{comparing-fails}
use Rattle.p21_commands.proofs.Counting.{comparing-failed, reader-failed, reading-failed}
use Rattle.p21_commands.proofs.Failing.{before_reading}
use Rattle.p21_commands.proofs.FileFailing.{file-refused, not-written}
use Rattle.p21_commands.specs.Check.{check_answer_line}
use Rattle.p21_commands.specs.Command.{FailsBy}
use Rattle.p21_commands.specs.Failures.{Failures, FailedBy, NoneFailed}
use Rattle.p21_commands.specs.Load.{DeclaresRead}
use Rattle.p21_commands.specs.Numbered.{IsAlikeUnder, IsCheckedApart, IsFaultOfNames, IsLongUnder, IsNumberedUnder, IsUnnumberedUnder}
use Rattle.p21_commands.specs.Refusals.{IsFaultOf}
use Rattle.p21_commands.specs.Refusing.{RefusesWith}
use Rattle.p21_commands.specs.Same.{IsFirstAccepted, IsRefused, Read, read_of, same_answer_line, word_of}
use Rattle.p21_commands.specs.SameButForNames.{AreUnnumbered, IsComparedButForNames}
use Rattle.p21_commands.specs.declared.fault.CommandFault.{CommandFault}
use Rattle.p21_commands.specs.declared.fault.CommandFault.TheVariants as command
use Rattle.p21_stream.specs.Answers.{IsCanonicalOfRead}
use Rattle.p21_stream.specs.declared.comparing.Which.{Which}
use Rattle.p21_stream.specs.declared.comparing.Which.TheVariants.{First, Second}
use Rattle.p21_stream.specs.declared.counting.Counted.{Counted}
use Rattle.p21_stream_numbered.specs.Compared.{ComparesButForNames, FailsToTell, HasCanonical, first_numbering_failures, second_numbering_failures}
use Rattle.p21_stream_numbered.specs.Numbered.{IsAlikeInput, IsCountedApart, IsLongInput, IsNumberedInput, RefusesNumbers, numbering_failures}
use Rattle.p21_stream_numbered.specs.declared.refusal.NumberingRefusal.{NumberingRefusal}
use Rattle.p21_stream_numbered.specs.declared.refusal.NumberingRefusal.TheVariants.{Alike, Refused}
use Rattle.p21_stream_output.specs.Output.{Output, output_text}
use Rattle.p21_stream_statements.specs.declared.fault.Fault.{Fault}
use Rattle.p21_stream_statements.specs.declared.fault.Fault.TheVariants as file
use Rattle.p21_stream_statements.specs.declared.refusal.Refusal.{Refusal}

-- a file that is too long is no failure of a writer
pub unwritten : (fault : Fault) → fault ≡ file.CanonicalTooLong → fault ≢ file.Write
unwritten fault too_long is = cc (too_long, is)

-- ---- one file

module _ (schema old new : Option (List ℕ)) (s : Schema) (declares : DeclaresRead schema s) where
  unnumbered : (refusal : NumberingRefusal) (fault : CommandFault) → IsFaultOfNames [] refusal fault
      → RefusesNumbers s usual old new refusal → RefusesWith (IsUnnumberedUnder schema old new) fault
  unnumbered (Refused refusal) (command.Refused line) is (inl refuses) =
      inl (inr (file-refused [] schema old new s refusal (string_bytes line) declares is refuses))
  unnumbered (Refused refusal) (command.Refused line) is (inr (too_long, long)) =
      inr (inl (record { declared = s; declares = declares; refusal = refusal; fault_is = too_long; long = long; line_is = is.1 }))
  unnumbered (Refused refusal) command.NoMemory is refuses = tt
  unnumbered (Refused refusal) command.Read is refuses = tt
  unnumbered (Refused refusal) command.Write is (inl refuses) = not-written s usual old new refusal.fault is refuses
  unnumbered (Refused refusal) command.Write is (inr (too_long, long)) = unwritten refusal.fault too_long is
  unnumbered (Alike j k) (command.Refused line) is alike =
      inr (inr (record { declared = s; declares = declares; one = j; other = k; alike = alike; line_is = is }))
  unnumbered (Alike j k) command.NoMemory is alike = tt
  unnumbered (Alike j k) command.Read is alike = absurd is
  unnumbered (Alike j k) command.Write is alike = absurd is

  pub names-refused : (limits : Limits) (refusal : NumberingRefusal) (fault : CommandFault) → limits ≡ usual
      → IsFaultOfNames [] refusal fault → RefusesNumbers s limits old new refusal → RefusesWith (IsUnnumberedUnder schema old new) fault
  names-refused limits refusal fault is_usual is refuses =
      unnumbered refusal fault is (subst (λ (l : Limits). RefusesNumbers s l old new refusal) is_usual refuses)

  -- the numbered file
  pub numbered-under : (limits : Limits) (output : Output) → limits ≡ usual → IsNumberedInput s limits old new output
      → IsNumberedUnder schema old new (output_text output)
  numbered-under limits output is_usual is =
      let usually : IsNumberedInput s usual old new output = subst (λ (l : Limits). IsNumberedInput s l old new output) is_usual is in
      record { declared = s; declares = declares; bytes = usually.bytes; read = usually.read; numbered = usually.numbered }

  -- what is counted of a file that has one
  pub checked-apart : (limits : Limits) (counted : Counted) (line : List ℕ) → limits ≡ usual → IsCountedApart s limits old new counted
      → line ≡ check_answer_line counted.instances counted.bytes → IsCheckedApart schema old new line
  checked-apart limits counted line is_usual is line_is =
      let usually : IsCountedApart s usual old new counted = subst (λ (l : Limits). IsCountedApart s l old new counted) is_usual is in
      let own = usually.counts.is_counted in
      record {
        output = own.output;
        accepted = record {
          declared = s;
          declares = declares;
          accepted =
              record { bytes = usually.counts.bytes; read = usually.counts.read; accepted = own.accepted };
        };
        line_is = line_is ∙ ap (λ (n : ℕ). check_answer_line n counted.bytes) own.instances_are
            ∙ ap (λ (m : ℕ). check_answer_line (length own.output.kept) m) own.bytes_are;
        file = usually.file;
        numbered = usually.numbered;
      }

-- which calls failed
alike-failed : (word : List ℕ) (j k : ℕ) (readers : List Failures) (fault : CommandFault) → IsFaultOfNames word (Alike j k) fault
    → NoneFailed readers → FailedBy readers [] fault
alike-failed word j k readers (command.Refused line) is none = (none, tt)
alike-failed word j k readers command.NoMemory is none = (none, tt)
alike-failed word j k readers command.Read is none = absurd is
alike-failed word j k readers command.Write is none = absurd is

pub numbering-failed : (s : Schema) (limits : Limits) (old new : Option (List ℕ)) (word : List ℕ) (reader : Failures)
    (refusal : NumberingRefusal) (fault : CommandFault) → IsFaultOfNames word refusal fault → RefusesNumbers s limits old new refusal
    → reader.after ≡ numbering_failures reader.before refusal → FailedBy (reader ∷ []) [] fault
numbering-failed s limits old new word reader (Refused refusal) fault is (inl refuses) r =
    reading-failed s limits old new word reader refusal fault is refuses r
numbering-failed s limits old new word reader (Refused refusal) fault is (inr (too_long, long)) r =
    reader-failed word reader refusal fault is (unwritten refusal.fault too_long) r
numbering-failed s limits old new word reader (Alike j k) fault is alike r = alike-failed word j k (reader ∷ []) fault is (r, tt)

-- ---- two files

-- a weaker line of a refusal
pub fails-weaker : (IsAnswer IsLine IsOther : List ℕ → Type 0) → ((line : List ℕ) → IsLine line → IsOther line)
    → (old new : Option (List ℕ)) (fault : CommandFault) → FailsBy IsAnswer IsLine old new fault → FailsBy IsAnswer IsOther old new fault
fails-weaker IsAnswer IsLine IsOther weaker old new (command.Refused line) is = (weaker (string_bytes line) is.0, is.1)
fails-weaker IsAnswer IsLine IsOther weaker old new command.NoMemory is = is
fails-weaker IsAnswer IsLine IsOther weaker old new command.Read is = is
fails-weaker IsAnswer IsLine IsOther weaker old new command.Write is = is

module _ (schema first_old first_new second_old second_new : Option (List ℕ)) (s : Schema) (declares : DeclaresRead schema s) where
  abbrev read : Read
  read = read_of schema first_old first_new second_old second_new

  module _ (IsAnswer : List ℕ → Type 0) (output : Option (List ℕ)) where
    long-fails : (refusal : Refusal) (fault : CommandFault) → IsFaultOf (word_of First) refusal fault
        → refusal.fault ≡ file.CanonicalTooLong → IsLongInput s usual first_old first_new → IsLongInput s usual second_old second_new
        → FailsBy IsAnswer (AreUnnumbered read) output output fault
    long-fails refusal (command.Refused line) is too_long first second =
        let refused : IsLongUnder (word_of First) schema first_old first_new (string_bytes line) =
        record { declared = s; declares = declares; refusal = refusal; fault_is = too_long; long = first; line_is = is.1 } in
        (inr (inl (record { first = refused; second = second })), Keeps-refl output)
    long-fails refusal command.NoMemory is too_long first second = Keeps-refl output
    long-fails refusal command.Read is too_long first second = Keeps-refl output
    long-fails refusal command.Write is too_long first second = absurd (unwritten refusal.fault too_long is)

    alike-fails : (j k i l : ℕ) (fault : CommandFault) → IsFaultOfNames (word_of First) (Alike j k) fault
        → IsAlikeInput s usual first_old first_new j k → IsAlikeInput s usual second_old second_new i l
        → FailsBy IsAnswer (AreUnnumbered read) output output fault
    alike-fails j k i l (command.Refused line) is first second =
        let refused : IsAlikeUnder (word_of First) schema first_old first_new (string_bytes line) =
        record { declared = s; declares = declares; one = j; other = k; alike = first; line_is = is } in
        (inr (inr (record { first = refused; one = i; other = l; second = second })), Keeps-refl output)
    alike-fails j k i l command.NoMemory is first second = Keeps-refl output
    alike-fails j k i l command.Read is first second = absurd is
    alike-fails j k i l command.Write is first second = absurd is

    untold : (which : Which) (refusal : NumberingRefusal) (fault : CommandFault) (word : List ℕ) → word ≡ word_of which
        → IsFaultOfNames word refusal fault
        → FailsToTell s usual first_old first_new second_old second_new which refusal
        → FailsBy IsAnswer (AreUnnumbered read) output output fault
    untold which (Refused refusal) fault word named is (inl fails) =
        fails-weaker IsAnswer (IsRefused read) (AreUnnumbered read) (λ line refused. inl refused) output output fault
        (comparing-fails IsAnswer schema first_old first_new second_old second_new output s usual which refusal fault word refl declares
        named is fails)
    untold which (Refused refusal) fault word named is (inr (of_first, too_long, first, second)) =
        long-fails refusal fault (subst (λ (w : List ℕ). IsFaultOf w refusal fault) (named ∙ ap word_of of_first) is) too_long first second
    untold which (Alike j k) fault word named is (of_first, first, (i, l, second)) =
        alike-fails j k i l fault (subst (λ (w : List ℕ). IsFaultOfNames w (Alike j k) fault) (named ∙ ap word_of of_first) is) first second

    pub telling-fails : (limits : Limits) (which : Which) (refusal : NumberingRefusal) (fault : CommandFault) (word : List ℕ)
        → limits ≡ usual → word ≡ word_of which → IsFaultOfNames word refusal fault
        → FailsToTell s limits first_old first_new second_old second_new which refusal
        → FailsBy IsAnswer (AreUnnumbered read) output output fault
    telling-fails limits which refusal fault word is_usual named is fails =
        untold which refusal fault word named is (subst (λ (l : Limits). FailsToTell s l first_old first_new second_old second_new which
        refusal) is_usual fails)

  -- the answer
  pub compared-but_for_names : (limits : Limits) (same : Bool) (line : List ℕ) → limits ≡ usual → NumberingClaim s limits (ranking_of s)
      → ComparesButForNames s limits first_old first_new second_old second_new same → line ≡ same_answer_line same
      → IsComparedButForNames read same line
  compared-but_for_names limits same line is_usual claim compares is = record {
    declared = s;
    declares = declares;
    claim = subst (λ (l : Limits). NumberingClaim s l (ranking_of s)) is_usual claim;
    compares = subst (λ (l : Limits). ComparesButForNames s l first_old first_new second_old second_new same) is_usual compares;
    line_is = is;
  }

  -- the second isn't read, or the first is accepted
  pub read-in_order : (Unread : Type 0) (limits : Limits) → limits ≡ usual → Unread ⊎ HasCanonical s limits first_old first_new → Unread
      ⊎ IsFirstAccepted read
  read-in_order Unread limits is_usual (inl unread) = inl unread
  read-in_order Unread limits is_usual (inr (text, canonical)) =
      inr (record {
        declared = s;
        declares = declares;
        text = text;
        canonical =
            subst (λ (l : Limits). IsCanonicalOfRead s l first_old first_new text) is_usual canonical;
      })

-- which calls failed
pub telling-failed : (s : Schema) (limits : Limits) (first_old first_new second_old second_new : Option (List ℕ)) (word : List ℕ)
    (first second : Failures) (which : Which) (refusal : NumberingRefusal) (fault : CommandFault)
    → IsFaultOfNames word refusal fault → FailsToTell s limits first_old first_new second_old second_new which refusal
    → first.after ≡ first_numbering_failures first.before which refusal
    → second.after ≡ second_numbering_failures second.before which refusal → FailedBy (first ∷ second ∷ []) [] fault
telling-failed s limits first_old first_new second_old second_new word first second which (Refused refusal) fault is (inl fails) a b =
    comparing-failed s limits first_old first_new second_old second_new word first second which refusal fault is fails a b
telling-failed s limits first_old first_new second_old second_new word first second First (Refused refusal) fault is
    (inr (of_first, too_long, one, other)) a b =
    before_reading first (second ∷ []) [] fault (reader-failed word first refusal fault is (unwritten refusal.fault too_long) a) (b, tt)
telling-failed s limits first_old first_new second_old second_new word first second Second (Refused refusal) fault is
    (inr (of_first, too_long, one, other)) a b = cc of_first
telling-failed s limits first_old first_new second_old second_new word first second which (Alike j k) fault is alike a b =
    alike-failed word j k (first ∷ second ∷ []) fault is (a, (b, tt))
