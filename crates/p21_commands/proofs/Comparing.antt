-- What `p21 same` says of two files.
use Rattle.std.specs.Io.KnownBytes.{Keeps}
use Rattle.std.proofs.Common.{◌≡◌, ◌⊎◌, ◌++◌, ℕ, Bool, true, false, List, [], ◌∷◌, Option, inl, inr, refl, subst, sym, string_bytes}
use Rattle.std.proofs.KnownBytes.{Keeps-refl}
use Rattle.p21_spec_basics.specs.Limits.{Limits, usual}
use Rattle.p21_stream_io.specs.Transfer.{AppendsPartOf}
use Rattle.p21_commands.specs.declared.fault.CommandFault.{CommandFault}
use Rattle.p21_commands.specs.declared.fault.CommandFault.TheVariants.{Refused, NoMemory, Read, Write}
use Rattle.p21_commands.specs.Files.{IsFileRefused}
use Rattle.p21_commands.specs.Refusals.{IsFaultOf}
use Rattle.p21_commands.specs.Same.{EndsBy, IsCompared, IsEither, IsFirstAccepted, IsRefused, read_in, read_of, same_answer_line, word_of}
use Rattle.p21_commands.specs.Failures.{Failures, FailedBy, NoneFailed}
use Rattle.p21_commands.specs.Fault.{Reports}
use Rattle.p21_commands.specs.Status.{done, refused}
use Rattle.p21_commands.specs.Streams.{PairStreams}
use Rattle.p21_commands.specs.Transfer.{Writes}
use Rattle.p21_commands.proofs.Reporting.{failure_reported, not_done, refusal-kept, refusal_written, reported_status, unfailed}
use Rattle.p21_commands.proofs.FileFailing.{file-refused, not-written, refused-of}
use Rattle.p21_commands.specs.Command.{FailsBy}
use Rattle.p21_commands.specs.Load.{DeclaresRead}
use Rattle.p21_spec_schema.specs.Schema.{Schema}
use Rattle.p21_stream.specs.Answers.{Compares, FailsToCompare, IfFirst, IsCanonicalOfRead}
use Rattle.p21_stream.specs.declared.comparing.Which.{Which}
use Rattle.p21_stream.specs.declared.comparing.Which.TheVariants.{First, Second}
use Rattle.p21_stream_statements.specs.declared.fault.Fault.{Fault}
use Rattle.p21_stream_statements.specs.declared.refusal.Refusal.{Refusal}

which-fails : (IsAnswer : List ℕ → Type 0) (schema first_old first_new second_old second_new output : Option (List ℕ)) (s : Schema)
    (which : Which) (refusal : Refusal) (fault : CommandFault) (word : List ℕ)
    → DeclaresRead schema s → word ≡ word_of which → IsFaultOf word refusal fault
    → FailsToCompare s usual first_old first_new second_old second_new which refusal.fault
    → FailsBy IsAnswer (IsRefused (read_of schema first_old first_new second_old second_new)) output output fault
which-fails IsAnswer schema first_old first_new second_old second_new output s First refusal (Refused line) word declares named is fails =
    let of_first : IsFaultOf (word_of First) refusal (Refused line) = subst (λ w. IsFaultOf w refusal (Refused line)) named is in (
      inr (inl (file-refused (word_of First) schema first_old first_new s refusal (string_bytes line) declares of_first fails.0, fails.1)),
      Keeps-refl output,
    )
which-fails IsAnswer schema first_old first_new second_old second_new output s Second refusal (Refused line) word declares named is fails =
    let of_second : IsFaultOf (word_of Second) refusal (Refused line) = subst (λ w. IsFaultOf w refusal (Refused line)) named is in
    let second : IsFileRefused (word_of Second) schema second_old second_new (string_bytes line) = record {
      declared = s;
      declares = declares;
      refusal = refusal;
      of_file = of_second.0;
      refused = refused-of s second_old second_new refusal.fault of_second.0 fails.1;
      refuses = fails.1;
      line_is = of_second.1;
    } in
    (inr (inr (record { second = second; first_text = fails.0.0; first = fails.0.1 })), Keeps-refl output)
which-fails IsAnswer schema first_old first_new second_old second_new output s which refusal NoMemory word declares named is fails =
    Keeps-refl output
which-fails IsAnswer schema first_old first_new second_old second_new output s which refusal Read word declares named is fails =
    Keeps-refl output
which-fails IsAnswer schema first_old first_new second_old second_new output s First refusal Write word declares named is fails =
    absurd (not-written s usual first_old first_new refusal.fault is fails.0)
which-fails IsAnswer schema first_old first_new second_old second_new output s Second refusal Write word declares named is fails =
    absurd (not-written s usual second_old second_new refusal.fault is fails.1)

pub comparing-fails : (IsAnswer : List ℕ → Type 0) (schema first_old first_new second_old second_new output : Option (List ℕ)) (s : Schema)
    (limits : Limits) (which : Which) (refusal : Refusal) (fault : CommandFault) (word : List ℕ)
    → limits ≡ usual → DeclaresRead schema s → word ≡ word_of which → IsFaultOf word refusal fault
    → FailsToCompare s limits first_old first_new second_old second_new which refusal.fault
    → FailsBy IsAnswer (IsRefused (read_of schema first_old first_new second_old second_new)) output output fault
comparing-fails IsAnswer schema first_old first_new second_old second_new output s limits which refusal fault word is_usual declares named
    is fails =
    which-fails IsAnswer schema first_old first_new second_old second_new output s which refusal fault word declares named is
    (subst (λ l. FailsToCompare s l first_old first_new second_old second_new which refusal.fault) is_usual fails)

-- the answer is written, or only its beginning
pub compared : (schema first_old first_new second_old second_new : Option (List ℕ)) (s : Schema) (limits : Limits) (same : Bool)
    (line : List ℕ)
    → limits ≡ usual → DeclaresRead schema s → Compares s limits first_old first_new second_old second_new same
    → line ≡ same_answer_line same → IsCompared (read_of schema first_old first_new second_old second_new) same line
compared schema first_old first_new second_old second_new s limits same line is_usual declares compares is =
    record {
      declared = s;
      declares = declares;
      compares =
          subst (λ l. Compares s l first_old first_new second_old second_new same) is_usual compares;
      line_is = is;
    }

-- where files are compared, the first is accepted
pub first-accepted : (schema first_old first_new second_old second_new : Option (List ℕ)) (s : Schema) (limits : Limits) (same : Bool)
    → limits ≡ usual → DeclaresRead schema s → Compares s limits first_old first_new second_old second_new same
    → IsFirstAccepted (read_of schema first_old first_new second_old second_new)
first-accepted schema first_old first_new second_old second_new s limits same is_usual declares compares =
    record {
      declared = s;
      declares = declares;
      text = compares.first_text;
      canonical =
          subst (λ l. IsCanonicalOfRead s l first_old first_new compares.first_text) is_usual compares.first;
    }

-- where they aren't, the first is accepted, or what holds where it is refused
pub first-or_accepted : (Unread : Type 0) (schema first_old first_new second_old second_new : Option (List ℕ)) (s : Schema)
    (limits : Limits) (which : Which) (fault : Fault)
    → limits ≡ usual → DeclaresRead schema s → FailsToCompare s limits first_old first_new second_old second_new which fault
    → IfFirst which Unread → Unread ⊎ IsFirstAccepted (read_of schema first_old first_new second_old second_new)
first-or_accepted Unread schema first_old first_new second_old second_new s limits First fault is_usual declares fails unread = inl unread
first-or_accepted Unread schema first_old first_new second_old second_new s limits Second fault is_usual declares fails unread =
    inr (record {
      declared = s;
      declares = declares;
      text = fails.0.0;
      canonical =
          subst (λ l. IsCanonicalOfRead s l first_old first_new fails.0.0) is_usual fails.0.1;
    })

-- a write fault leaves a part of the answer
pub answer-fails : (IsAnswer IsRefusal : List ℕ → Type 0) (old new : Option (List ℕ)) (line : List ℕ) (fault : CommandFault) → IsAnswer line
    → AppendsPartOf old new line → fault ≡ Write → FailsBy IsAnswer IsRefusal old new fault
answer-fails IsAnswer IsRefusal old new line fault is part same =
    subst (FailsBy IsAnswer IsRefusal old new) (sym same) (record { line = line; is_line = is; part = part })

-- ---- how the command ends

module _ (IsAnswer : Bool → List ℕ → Type 0) (IsRefusal : List ℕ → Type 0) (streams : PairStreams) where
  abbrev readers : List Failures
  readers = streams.schema.failures ∷ streams.first.failures ∷ streams.second.failures ∷ []

  pub comparing-reported : (fault : CommandFault) (status : ℕ)
      → FailsBy (IsEither IsAnswer) IsRefusal streams.output.before streams.output.behind fault
      → FailedBy readers (streams.output.failures ∷ []) fault → Reports fault status streams.faults
      → EndsBy IsAnswer IsRefusal streams status
  comparing-reported fault status f b r =
      let IsOne = IsEither IsAnswer in record {
        status = inr (reported_status streams.faults fault status r);
        answered = λ e. absurd (not_done streams.faults fault status r e);
        silent = λ e. absurd (not_done streams.faults fault status r e);
        refused = λ e. inr (
          refusal_written streams.faults IsOne IsRefusal streams.output fault status f r e,
          refusal-kept IsOne IsRefusal
              streams.output.before streams.output.behind streams.faults fault status f r e,
        );
        failed = failure_reported streams.faults IsOne IsRefusal streams.output readers fault status f b r;
        unfailed = unfailed streams.faults readers streams.output.failures fault status b r;
      }

  module _ (same : Bool) (writes : Writes (IsAnswer same) streams.output.before streams.output.behind)
      (keeps : Keeps streams.faults.before streams.faults.behind)
      (none : NoneFailed (readers ++ streams.output.failures ∷ streams.faults.failures ∷ [])) where
    pub comparing-same : same ≡ true → EndsBy IsAnswer IsRefusal streams done
    comparing-same is = record {
      status = inl refl;
      answered = λ e. subst (λ (b : Bool). Writes (IsAnswer b) streams.output.before streams.output.behind) is writes;
      silent = λ e. keeps;
      refused = λ e. cc e;
      failed = λ e. cc e;
      unfailed = λ e. none;
    }

    pub comparing-different : same ≡ false → EndsBy IsAnswer IsRefusal streams refused
    comparing-different is = record {
      status = inr (inl refl);
      answered = λ e. cc e;
      silent = λ e. cc e;
      refused = λ e. inl (subst (λ (b : Bool). Writes (IsAnswer b) streams.output.before streams.output.behind) is writes, keeps);
      failed = λ e. cc e;
      unfailed = λ e. none;
    }
