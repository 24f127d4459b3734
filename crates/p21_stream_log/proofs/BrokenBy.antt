-- By which bytes a statement is broken that is to be passed over, and where the reading ends.
use Rattle.std.proofs.Common.{◌≡◌, ◌≢◌, inl, inr, ℕ, suc, List, [], ◌∷◌, ◌++◌, refl, sym, ap, subst, ◌∙◌, append_assoc, append-nil, arith}
use Rattle.std.proofs.lemmas.List.{append_cancel_left}
use Rattle.p21_spec_exchange.specs.Pending.{open_comment}
use Rattle.p21_spec_exchange.specs.Statement.{instance}
use Rattle.p21_spec_survey.specs.Landmark as landmarks
use Rattle.p21_spec_survey.specs.Landmark.{BeginsNoSignpost, Signpost, StandsAt, file_begin, file_end, landmark, signpost_bytes}
use Rattle.p21_spec_survey.specs.Resuming.{EndsInRemark, GoesBy, HasNoneInside, further_on, within_text}
use Rattle.p21_spec_survey.specs.Survey.{IsToBePassed, at_statement, no_landmark, too_long, wrong_record}
use Rattle.p21_spec_survey.specs.Whole.{BeginsNoneAlike}
use Rattle.p21_stream_log.proofs.Breaking.{is-broken}
use Rattle.p21_stream_log.proofs.GoingOn.{passed-front}
use Rattle.p21_stream_log.proofs.Taking as taking
use Rattle.p21_stream_log.proofs.Taking.{has-ended}
use Rattle.p21_stream_log.specs.Laws.{RefusedIsBroken, SoughtEnds, TooFarEnds, WrongIsBroken}
use Rattle.p21_stream_log.specs.Log.{IsFileOf}
use Rattle.p21_stream_log.specs.Passage.{IsNextIn}
use Rattle.p21_stream_resume.proofs.Finding.{none-whole}
use Rattle.p21_stream_resume.proofs.Lexed.{none-laid}
use Rattle.p21_stream_resume.proofs.Statements.{laid-lexed, not-in_remark}
use Rattle.p21_stream_statements.specs.Fault.{fault_number}

-- ---- a front

no-remark : (front rest : List ℕ) → (front ≢ [] → rest ≢ []) → rest ≡ [] → (inside : List ℕ) → EndsInRemark front inside → ⊥
no-remark [] rest some none inside (lexemes, laid) = none-laid lexemes (open_comment inside) (λ same. cc) laid
no-remark (b ∷ front) rest some none inside ends = some (λ same. cc) none

pub refused-broken : BeginsNoneAlike → RefusedIsBroken
refused-broken alike s limits known point held piece front behind more fault begins refused ended ahead_is gone in_data parts is opens at =
    record {
      stood = record { before = refused.before; logs = refused.logs; stays = refused.stays; of_instance = inl ended };
      state = is.is_front.state;
      lexed = is.is_front.lexed;
      to_end = λ none inside ends. absurd (no-remark front is.rest is.some
          (append_cancel_left front is.rest behind (sym is.bytes_are ∙ parts) ∙ none) inside ends);
      next_in = next;
    }
  where
    next : (file : List ℕ) → IsFileOf known file → IsNextIn s limits file point.read front behind more (fault_number fault)
        (at_statement (suc point.read.count)) begins
    next file of =
        let (rest, file_is) = refused.logs.file_is file of in
        let bytes : List ℕ = held.buffer ++ piece in
        let here : file ≡ point.read.bytes ++ (bytes ++ (more ++ rest)) =
        file_is ∙ ap (λ (l : List ℕ). point.read.bytes ++ l)
        (ap (λ (l : List ℕ). held.buffer ++ (l ++ rest)) ahead_is
        ∙ (ap (λ (l : List ℕ). held.buffer ++ l) (append_assoc piece more rest)
        ∙ sym (append_assoc held.buffer piece (more ++ rest)))) in
        let (passes, statement_is) =
        is-broken alike s limits known point held piece more fault refused ahead_is gone in_data front is file of (bytes ++ (more ++ rest))
        here (opens.1 (more ++ rest)) in
        let own : passes.statement ++ passes.behind ≡ front ++ (behind ++ (more ++ rest)) =
        append_cancel_left point.read.bytes (passes.statement ++ passes.behind) (front ++ (behind ++ (more ++ rest)))
        (sym passes.next_are ∙ (here ∙ ap (λ (l : List ℕ). point.read.bytes ++ l)
        (ap (λ (l : List ℕ). l ++ (more ++ rest)) parts ∙ append_assoc front behind (more ++ rest)))) in
        record {
          to_pass = passes;
          statement_is = statement_is;
          rest = rest;
          behind_are = append_cancel_left front passes.behind (behind ++ (more ++ rest))
              (ap (λ (l : List ℕ). l ++ passes.behind) (sym statement_is) ∙ own);
          begins_at = at file of;
        }

-- ---- an instance

pub wrong-broken : WrongIsBroken
wrong-broken s limits known point held n record_ number begins logs ended last wrong inside in_data opens at =
    let own = has-ended s limits known held point (instance n record_) logs ended last in
    let (state, lexed) = laid-lexed held.buffer own.more own.whole.laid in
    record {
      stood = record { before = held.reader; logs = logs; stays = λ earlier began. began; of_instance = inr (n, record_, ended) };
      state = state;
      lexed = lexed;
      to_end = λ none within ends. absurd (not-in_remark held.buffer within own.more own.whole ends);
      next_in = λ file of.
          let (rest, file_is) = logs.file_is file of in
          record {
            to_pass = record {
              statement = held.buffer;
              behind = point.ahead ++ rest;
              next_are = file_is;
              in_data = in_data;
              no_end = opens.1 (point.ahead ++ rest);
              why = wrong_record n record_ number own.statement_is (taking.begins s limits known held point (instance n record_) logs ended)
                  wrong (inside (point.ahead ++ rest));
            };
            statement_is = refl;
            rest = rest;
            behind_are = refl;
            begins_at = at file of;
          };
    }

-- ---- the end of the file

some-first : (signpost : Signpost) (rest : List ℕ) → (byte : ℕ) × (back : List ℕ) × (signpost_bytes signpost ++ rest ≡ byte ∷ back)
some-first (landmark (landmarks.instance digits blanks)) rest = (35, (digits ++ (blanks ++ 61 ∷ [])) ++ rest, refl)
some-first (landmark (landmarks.section_end blanks)) rest = (69, (78 ∷ 68 ∷ 83 ∷ 69 ∷ 67 ∷ (blanks ++ 59 ∷ [])) ++ rest, refl)
some-first file_begin rest = (73, (83 ∷ 79 ∷ 45 ∷ 49 ∷ 48 ∷ 51 ∷ 48 ∷ 51 ∷ 45 ∷ 50 ∷ 49 ∷ []) ++ rest, refl)
some-first file_end rest = (69, (78 ∷ 68 ∷ 45 ∷ 73 ∷ 83 ∷ 79 ∷ 45 ∷ 49 ∷ 48 ∷ 51 ∷ 48 ∷ 51 ∷ 45 ∷ 50 ∷ 49 ∷ []) ++ rest, refl)

-- the reading goes by no signpost where none stands inside and none behind
none-by : (before statement behind passed rest : List ℕ) (signpost : Signpost) → HasNoneInside statement behind
    → BeginsNoSignpost (before ++ statement) behind [] → GoesBy before statement behind passed signpost rest → ⊥
none-by before statement behind passed _ signpost none none_behind (within_text _ _ left is first) = none passed signpost left is
none-by before statement behind passed rest signpost none none_behind (further_on skipped _ _ none_inside first) =
    let (byte, back, same) = some-first signpost rest in
    none_behind skipped back byte signpost (first.bytes_are ∙ ap (λ (l : List ℕ). skipped ++ l) same)
    (subst (λ (l : List ℕ). StandsAt ((before ++ statement) ++ skipped) l signpost)
    (same ∙ ap (λ (l : List ℕ). byte ∷ l) (sym (append-nil back))) first.stands)

pub sought-ends : SoughtEnds
sought-ends s limits known point held statement behind number subject begins seeker broken sought file of file_is =
    let next = broken.next_in file of in
    let passes : IsToBePassed s limits file point.read number subject = next.to_pass in
    let own : passes.statement ++ passes.behind ≡ statement ++ behind =
    append_cancel_left point.read.bytes (passes.statement ++ passes.behind) (statement ++ behind) (sym passes.next_are ∙ file_is) in
    let behind_is : passes.behind ≡ behind = append_cancel_left statement passes.behind behind
    (ap (λ (l : List ℕ). l ++ passes.behind) (sym next.statement_is) ∙ own) in
    no_landmark number subject passes
    (λ passed rest signpost goes. absurd
    (none-by point.read.bytes statement behind passed rest signpost
    (subst (λ (l : List ℕ). HasNoneInside statement l) (append-nil behind) (sought.1 []))
    (none-whole (point.read.bytes ++ statement) behind seeker sought.0)
    (subst (λ (l : List ℕ). GoesBy point.read.bytes statement l passed signpost rest) behind_is
    (subst (λ (l : List ℕ). GoesBy point.read.bytes l passes.behind passed signpost rest) next.statement_is goes))))

-- ---- a file that is too long

pub too-far_ends : TooFarEnds
too-far_ends s limits file read number subject within far =
    let over = far.over in
    let rest : List ℕ = signpost_bytes (landmark far.found) ++ far.rest in
    let front = passed-front read.bytes over.passes.statement over.passes.behind far.passed far.rest (landmark far.found) over.goes_by in
    too_long far.passed rest (over.passes.next_are ∙ ap (λ (l : List ℕ). read.bytes ++ l) front)
    (elim far.too_many [ inl low ↦ low | inr many ↦ omega (arith, within, many) ])
