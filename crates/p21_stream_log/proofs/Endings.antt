-- Where the file ends inside a statement, and what ends the reading.
use Rattle.std.proofs.Common.{◌+◌, get_or, ◌≡◌, ◌≢◌, ◌⊎◌, ◌<◌, inl, inr, ℕ, suc, Bool, true, false, List, [], ◌∷◌, ◌++◌, length, length-append, take, drop, None, Ok, Err, refl, sym, ap, subst, ◌∙◌, append_assoc, append-nil, arith}
use Rattle.std.proofs.lemmas.List.{drop_more, nil_from_length, take-append-drop, take_more}
use Rattle.std.specs.Prelude.{codes}
use Rattle.p21_grammar.specs.Stage.{after, is_in_data, walk}
use Rattle.p21_grammar.specs.declared.stage.Stage.{Stage}
use Rattle.p21_grammar.specs.declared.stage.Stage.TheVariants as stage
use Rattle.p21_spec_exchange.specs.Laying.{Lexeme, tokens_in}
use Rattle.p21_spec_exchange.specs.Pending.{BeginsWithNoSeparator, LaidUpTo, Tail, nothing, open_comment, slash, unfinished}
use Rattle.p21_spec_exchange.specs.Record.{Record}
use Rattle.p21_spec_exchange.specs.Statement.{Statement, instance}
use Rattle.p21_spec_file.specs.Accepted.{IsDead}
use Rattle.p21_spec_survey.specs.Survey.{BeginsWithEnd, EndsReading, at_statement, ends_early, ends_within, no_file, offends, too_long}
use Rattle.p21_spec_survey.specs.Whole.{AreWhole, BehindIsLaid, BeginsNoneWithin, BeginsNoneWithinAlike}
use Rattle.p21_spec_syntax.specs.FileWithin.{IsNoFile}
use Rattle.p21_stream_log.proofs.Between.{place-live}
use Rattle.p21_stream_log.proofs.GoingOn.{last-leads, reader-leads}
use Rattle.p21_stream_log.proofs.Taking as taking
use Rattle.p21_stream_log.proofs.Taking.{has-ended, next-is}
use Rattle.p21_stream_log.specs.Ending.{EndsWithin, IsAllOf}
use Rattle.p21_stream_log.specs.Front.{HasTaken}
use Rattle.p21_stream_log.specs.Laws.{AllIsPassed, AllIsTaken, EarlyEnds, EndedIsBroken, InstanceIsInData, OffendingEnds, RefusedByteStands, RefusedEnds}
use Rattle.p21_stream_log.specs.Log.{IsFileOf, Known}
use Rattle.p21_stream_resume.proofs.Lexed.{laid-run, tail-of, text-in}
use Rattle.p21_stream_resume.proofs.OpenRemarks.{in-remark, remark-in}
use Rattle.p21_stream_resume.specs.Lexing.{IsInRemark, LeadsTo}
use Rattle.p21_stream_statements.specs.Fault.{fault_number}
use Rattle.p21_stream_statements.specs.Laws.{StandsInData}
use Rattle.p21_stream_statements.specs.Place.{place_behind}
use Rattle.p21_stream_statements.specs.StatementReader.{BeginsNoneBy, limits_of}
use Rattle.p21_stream_statements.specs.declared.fault.Fault.{Fault}
use Rattle.p21_stream_statements.specs.declared.fault.Fault.TheVariants as fault
use Rattle.p21_tokens.specs.Fault as tokens
use Rattle.p21_tokens.specs.Fault.{end_fault}
use Rattle.p21_tokens.specs.Held as tokens_held
use Rattle.p21_tokens.specs.Histories.{EndsInMode, EndsWithFault, FinishGives, FinishNamesFault, IsUnlaid, Stands, TokenHistory}
use Rattle.p21_tokens.specs.declared.fault.TokenFault.{TokenFault}
use Rattle.p21_tokens.specs.declared.fault.TokenFault.TheVariants as token_fault
use Rattle.p21_tokens_automaton.specs.Reading.{Answer, State, after as behind_tokens, open_at, start}
use Rattle.p21_tokens_automaton.specs.declared.mode.Mode.{Mode}
use Rattle.p21_tokens_automaton.specs.declared.mode.Mode.TheVariants.{Between, Comment, Number, Slash, Star, Text}
use Rattle.p21_tokens_automaton.specs.declared.mode.NumberMode.TheVariants as number_mode
use Rattle.p21_tokens_automaton.specs.declared.mode.TextMode.{TextMode}

-- ---- in which mode a statement ends

some-bytes : (u : List ℕ) → BeginsWithNoSeparator u → u ≢ []
some-bytes [] begins same = begins
some-bytes (b ∷ u) begins same = cc

-- a lexer that takes the bytes stands in a string or a remark where their tail ends in one
end-mode : (bytes : List ℕ) (e : State) (ls : List Lexeme) (tail : Tail) (mode : Mode) → LeadsTo start bytes e → LaidUpTo bytes ls tail
    → EndsInMode tail mode
    → (IsInRemark mode → IsInRemark e.mode) × ((m : TextMode) → mode ≡ Text m → e.mode ≡ Text m)
end-mode bytes e ls nothing mode leads laid is = (
  λ in_remark. absurd (subst IsInRemark is in_remark),
  λ m same. absurd
      (let clash : Between ≡ Text m = sym is ∙ same in cc),
)
end-mode bytes e ls slash mode leads laid is = (
  λ in_remark. absurd (subst IsInRemark is in_remark),
  λ m same. absurd
      (let clash : Slash ≡ Text m = sym is ∙ same in cc),
)
end-mode bytes e ls (open_comment inside) mode leads laid is = (
  λ in_remark. remark-in bytes inside e leads (ls, laid),
  λ m same. absurd (elim is [
    | inl q ↦ (let clash : Comment ≡ Text m = sym q ∙ same in cc)
    | inr q ↦
        (let clash : Star ≡ Text m = sym q ∙ same in cc)
  ]),
)
end-mode bytes e ls (unfinished u) mode leads laid (state, run, mode_is) =
    let own = tail-of ls bytes (unfinished u) laid in
    let (founds, runs) = laid-run ls bytes (unfinished u) (some-bytes u own.first) laid in
    let same : open_at state ≡ open_at e = ap (λ (a : Answer). a.ending) (sym (runs ∙ ap (λ (a : Answer). behind_tokens founds a) run))
    ∙ leads in
    let states : state ≡ e = cc in (
      λ in_remark. subst (λ (s : State). IsInRemark s.mode) states (subst IsInRemark mode_is in_remark),
      λ m q. ap (λ (s : State). s.mode) (sym states) ∙ (sym mode_is ∙ q),
    )

two-mode : (mode : Mode) → tokens.fault_number (end_fault mode) ≡ 2 → (m : TextMode) × (mode ≡ Text m)
two-mode (Text m) is = (m, refl)
two-mode (Number number_mode.Fraction) is = absurd (omega (arith, is))
two-mode (Number number_mode.ExponentDigits) is = absurd (omega (arith, is))
two-mode _ is = absurd (omega (arith, is))

three-mode : (mode : Mode) → tokens.fault_number (end_fault mode) ≡ 3 → IsInRemark mode
three-mode Comment is = tt
three-mode Star is = tt
three-mode (Number number_mode.Fraction) is = omega (arith, is)
three-mode (Number number_mode.ExponentDigits) is = omega (arith, is)
three-mode _ is = omega (arith, is)

-- ---- the refusal of a file that ends inside a statement

unlaid-by : (held : tokens_held.Held) (wrong : TokenFault) → wrong ≢ token_fault.NoMemory → FinishGives held (Err wrong)
    → (history : TokenHistory) → Stands held history → history.seen ≡ None → history.refusal ≡ None → IsUnlaid history.taken
unlaid-by held token_fault.NoMemory other gives history stands unseen alive = absurd (other refl)
unlaid-by held _ other gives history stands unseen alive = (gives history stands unseen alive).1

named-by : (held : tokens_held.Held) (wrong : TokenFault) → wrong ≢ token_fault.NoMemory → FinishNamesFault held (Err wrong)
    → (history : TokenHistory) → Stands held history → history.seen ≡ None → history.refusal ≡ None → EndsWithFault history wrong
named-by held token_fault.NoMemory other names history stands unseen alive = absurd (other refl)
named-by held _ other names history stands unseen alive = names history stands unseen alive

pub within-by : (bytes : List ℕ) (held : tokens_held.Held) (wrong : TokenFault) → wrong ≢ token_fault.NoMemory → HasTaken bytes held
    → FinishGives held (Err wrong) → FinishNamesFault held (Err wrong) → EndsWithin bytes (fault_number (fault.Token wrong))
within-by bytes held wrong other has gives names =
    let unlaid : IsUnlaid bytes = subst IsUnlaid has.taken_are
    (unlaid-by held wrong other gives has.history has.stands has.unseen has.alive) in
    let named = named-by held wrong other names has.history has.stands has.unseen has.alive in
    let laid : LaidUpTo bytes named.lexemes named.tail =
    subst (λ (l : List ℕ). LaidUpTo l named.lexemes named.tail) has.taken_are named.laid in
    let lexed = has.is_front.lexed in
    let e = has.is_front.state in
    let modes = end-mode bytes e named.lexemes named.tail named.names.mode lexed.leads laid named.names.ends_in in
    let number_is : tokens.fault_number wrong ≡ tokens.fault_number (end_fault named.names.mode) =
    ap tokens.fault_number named.names.fault_is in
    record {
      unlaid = unlaid;
      in_string = λ two.
          let (m, is) = two-mode named.names.mode (sym number_is ∙ two) in
          text-in bytes e m lexed (modes.1 m is) (λ ls own. unlaid (tokens_in ls) (record { lexemes = ls; tokens_are = refl; laid = own }));
      in_remark = λ three. in-remark bytes e lexed (modes.0 (three-mode named.names.mode (sym number_is ∙ three)));
      state = e;
      lexed = lexed;
    }

-- where bytes behind whole statements aren't laid, all are no file
pub unlaid-no_file : BehindIsLaid → (kept bytes : List ℕ) (lexemes : List Lexeme) → AreWhole kept lexemes → IsUnlaid bytes
    → IsNoFile (kept ++ bytes)
unlaid-no_file behind kept bytes lexemes whole unlaid structure text in_grammar =
    let (more, are, laid) = behind kept bytes lexemes in_grammar.laid.lexemes whole in_grammar.laid.laid in
    unlaid (tokens_in more) (record { lexemes = more; tokens_are = refl; laid = laid })

pub ended-broken : BehindIsLaid → EndedIsBroken
ended-broken behind s limits known point held number begins logs ended to_end within gone in_data no_end at = record {
  stood = record { before = held.reader; logs = logs; stays = λ earlier began. began; of_instance = inl ended };
  state = within.state;
  lexed = within.lexed;
  to_end = λ none inside ends. to_end;
  next_in = λ file of. record {
    to_pass = record {
      statement = held.buffer;
      behind = [];
      next_are = to_end file of ∙ ap (λ (l : List ℕ). point.read.bytes ++ l) (sym (append-nil held.buffer));
      in_data = in_data;
      no_end = subst (λ (l : List ℕ). ¬ BeginsWithEnd l) (sym (append-nil held.buffer)) no_end;
      why = ends_within number refl (unlaid-no_file behind point.read.kept held.buffer logs.lexemes logs.kept_whole within.unlaid) gone
          within.in_string within.in_remark;
    };
    statement_is = refl;
    rest = [];
    behind_are = refl;
    begins_at = at file of;
  };
}

-- ---- all of a file

no-rest : (bytes rest : List ℕ) → length (bytes ++ rest) ≡ length bytes → rest ≡ []
no-rest bytes rest same = nil_from_length rest (let sum = length-append bytes rest in omega (arith, same, sum))

-- a file that is known has so many bytes
all-size : (known : Known) (size : ℕ) (file : List ℕ) → IsAllOf known size → IsFileOf known file → length file ≡ size
all-size known size file (is_all, own) of = ap length (by known.is_all is_all of) ∙ own
  where
    by : (all : Bool) → all ≡ true → IsFileOf (record { bytes = known.bytes; is_all = all }) file → file ≡ known.bytes
    by true is same = same.1
    by false is other = absurd cc

pub all-taken : AllIsTaken
all-taken s limits known point held logs all file of =
    let (rest, is) = logs.file_is file of in
    let own : file ≡ (point.read.bytes ++ held.buffer) ++ (point.ahead ++ rest) = is
    ∙ sym (append_assoc point.read.bytes held.buffer (point.ahead ++ rest)) in
    let size = all-size known (place_behind held.reader) file all of in
    let place : place_behind held.reader ≡ length logs.history.taken = place-live held.reader logs.history logs.live in
    let taken = ap length logs.taken_are in
    let sum = length-append logs.gapped held.buffer in
    let sum_ = length-append point.read.bytes held.buffer in
    let gapped = logs.size in
    let own_size = ap length own in
    own ∙ (ap (λ (l : List ℕ). (point.read.bytes ++ held.buffer) ++ l)
    (no-rest (point.read.bytes ++ held.buffer) (point.ahead ++ rest) (omega (arith, own_size, size, place, taken, sum, sum_, gapped)))
    ∙ append-nil (point.read.bytes ++ held.buffer))

pub all-passed : AllIsPassed
all-passed s limits known point held statement behind more number subject begins broken all file of =
    let next = broken.next_in file of in
    let bytes : List ℕ = statement ++ behind in
    let left : List ℕ = more ++ next.rest in
    let parts : next.to_pass.statement ++ next.to_pass.behind ≡ bytes ++ left =
    ap (λ (l : List ℕ). l ++ next.to_pass.behind) next.statement_is
    ∙ (ap (λ (l : List ℕ). statement ++ l) next.behind_are ∙ sym (append_assoc statement behind left)) in
    let own : file ≡ (point.read.bytes ++ bytes) ++ left = next.to_pass.next_are
    ∙ (ap (λ (l : List ℕ). point.read.bytes ++ l) parts ∙ sym (append_assoc point.read.bytes bytes left)) in
    let size = all-size known (held.start + length bytes) file all of in
    let start = broken.stood.logs.start_is in
    let sum = length-append point.read.bytes bytes in
    let own_size = ap length own in
    own ∙ (ap (λ (l : List ℕ). (point.read.bytes ++ bytes) ++ l)
    (no-rest (point.read.bytes ++ bytes) left (omega (arith, own_size, size, start, sum))) ∙ append-nil (point.read.bytes ++ bytes))

-- ---- a refusal that isn't gone on behind

-- the file is too long, or none begins with the bytes
by-refusal : (wrong : Fault) (most : ℕ × ℕ) (bytes : List ℕ) → BeginsNoneBy wrong most bytes
    → ((fault_number wrong ≡ 23) × (most.1 < length bytes)) ⊎ BeginsNoneWithin most.0 bytes
by-refusal (fault.Token token_fault.RecordTooLong) most bytes none = inr none
by-refusal (fault.Token token_fault.FileTooLong) most bytes none = inl (refl, none)
by-refusal _ most bytes none = inr (λ limits same more are structure schema is. none more are structure schema is.in_grammar)

end-further : (bytes more : List ℕ) → BeginsWithEnd bytes → BeginsWithEnd (bytes ++ more)
end-further bytes more (gap, rest, separates, is) =
    (gap, rest ++ more, separates, ap (λ (l : List ℕ). l ++ more) is ∙ append_assoc gap (codes "ENDSEC" ++ rest) more)

pub refused-ends : BeginsNoneWithinAlike → RefusedEnds
refused-ends alike s limits known point held piece more wrong refused ahead_is last file of =
    let count = refused.refuses.count in
    let logs = refused.logs in
    let (rest, file_is) = logs.file_is file of in
    let front : List ℕ = held.buffer ++ take count piece in
    let behind : List ℕ = drop count piece ++ (more ++ rest) in
    let whole : held.buffer ++ (point.ahead ++ rest) ≡ held.buffer ++ (piece ++ (more ++ rest)) =
    ap (λ (l : List ℕ). held.buffer ++ l) (ap (λ (l : List ℕ). l ++ rest) ahead_is ∙ append_assoc piece more rest) in
    let parts : held.buffer ++ (piece ++ (more ++ rest)) ≡ front ++ behind =
    ap (λ (l : List ℕ). held.buffer ++ l) (ap (λ (l : List ℕ). l ++ (more ++ rest)) (sym (take-append-drop count piece))
    ∙ append_assoc (take count piece) (drop count piece) (more ++ rest))
    ∙ sym (append_assoc held.buffer (take count piece) behind) in
    let here : file ≡ point.read.bytes ++ (front ++ behind) = file_is ∙ ap (λ (l : List ℕ). point.read.bytes ++ l) (whole ∙ parts) in
    let taken : logs.history.taken ++ take count piece ≡ logs.gapped ++ front = ap (λ (l : List ℕ). l ++ take count piece) logs.taken_are
    ∙ append_assoc logs.gapped held.buffer (take count piece) in
    elim (by-refusal wrong (limits_of refused.before) (logs.history.taken ++ take count piece) refused.refuses.begins_none) [
      | inl (number_is, long) ↦ (
          let most : (limits_of refused.before).1 ≡ limits.file_source = ap (λ (l : ℕ × ℕ). l.1) logs.limits_are in
          let taken_ = ap length taken in
          let sum = length-append logs.gapped front in
          let all = length-append point.read.bytes front in
          let size = logs.size in
          subst (λ (n : ℕ). EndsReading s limits file point.read n (at_statement (suc point.read.count))) (sym number_is)
          (too_long front behind here (omega (arith, long, most, taken_, sum, all, size))))
      | inr none ↦ (
          let own : BeginsNoneWithin limits.record_source (logs.gapped ++ front) =
          subst (λ (l : List ℕ). BeginsNoneWithin limits.record_source l) taken
          (subst (λ (l : ℕ × ℕ). BeginsNoneWithin l.0 (logs.history.taken ++ take count piece)) logs.limits_are none) in
          no_file front behind (fault_number wrong) here (alike limits.record_source logs.gapped point.read.kept front
          (logs.lexemes, logs.gapped_whole, logs.kept_whole) own)
          (λ gone in_data. subst BeginsWithEnd (append_assoc held.buffer piece (more ++ rest) ∙ parts)
          (end-further (held.buffer ++ piece) (more ++ rest) (last gone in_data))))
    ]

pub refused-byte : RefusedByteStands
refused-byte s limits known point held piece wrong refused of_byte =
    let logs = refused.logs in
    let at = refused.place of_byte in
    let count = at.count in
    let byte : ℕ = get_or piece count 0 in
    let front : List ℕ = held.buffer ++ take count piece in
    let whole : piece ≡ take count piece ++ byte ∷ drop (count + 1) piece = sym (take-append-drop count piece)
    ∙ ap (λ (l : List ℕ). take count piece ++ l) (drop_more piece count 0 at.within) in
    let taken : logs.history.taken ++ take count piece ≡ logs.gapped ++ front = ap (λ (l : List ℕ). l ++ take count piece) logs.taken_are
    ∙ append_assoc logs.gapped held.buffer (take count piece) in
    record {
      front = front;
      byte = byte;
      rest = drop (count + 1) piece;
      bytes_are = ap (λ (l : List ℕ). held.buffer ++ l) whole
          ∙ sym (append_assoc held.buffer (take count piece) (byte ∷ drop (count + 1) piece));
      place_is =
          let taken_ = ap length taken in
          let sum = length-append logs.gapped front in
          let all = length-append point.read.bytes front in
          let size = logs.size in
          let place = at.place_is in
          omega (arith, taken_, sum, all, size, place);
      gapped = logs.gapped;
      same = (logs.lexemes, logs.gapped_whole, logs.kept_whole);
      dead = λ any all record_ file_.
          subst (λ (l : List ℕ). IsDead any all l)
          (ap (λ (l : List ℕ). logs.history.taken ++ l) (take_more piece count 0 at.within)
          ∙ (sym (append_assoc logs.history.taken (take count piece) (byte ∷ []))
          ∙ (ap (λ (l : List ℕ). l ++ byte ∷ []) taken ∙ append_assoc logs.gapped front (byte ∷ []))))
          (at.dead any all (record_ ∙ sym (ap (λ (l : ℕ × ℕ). l.0) logs.limits_are))
          (file_ ∙ sym (ap (λ (l : ℕ × ℕ). l.1) logs.limits_are)));
    }

-- ---- a statement that a session refuses, and an early end

pub offending-ends : OffendingEnds
offending-ends s limits known point held statement size number logs ended last has_size refuses of_length file of =
    let (rest, is) = next-is s limits known held point statement logs ended file of in
    offends held.buffer rest statement size number is (has-ended s limits known held point statement logs ended last).statement_is
    (taking.begins s limits known held point statement logs ended) has_size refuses of_length

pub early-ends : EarlyEnds
early-ends s limits known point held wrong number gives other logs ended unseen to_end why file of =
    ends_early held.buffer number (to_end file of) (gives other s limits known point logs ended unseen) why

-- ---- an instance

in-data : (p q : Stage) (n : ℕ) (record_ : Record) → after p (instance n record_) ≡ Ok q → is_in_data p ≡ true
in-data stage.Unnamed q n record_ is = refl
in-data stage.Named q n record_ is = refl
in-data _ q n record_ is = absurd cc

pub instance-in_data : StandsInData → InstanceIsInData
instance-in_data stands s limits known point held n record_ logs ended =
    let began = logs.began in
    let here : walk point.read.given stage.Start ≡ Ok began.earlier.parser.stage = reader-leads began.earlier _ began.was_live in
    let all : walk (point.read.given ++ instance n record_ ∷ []) stage.Start ≡ Ok held.reader.parser.stage =
    subst (λ (sts : List Statement). walk sts stage.Start ≡ Ok held.reader.parser.stage)
    (logs.given_are ∙ ap (λ (sts : List Statement). point.read.given ++ sts) ended) (reader-leads held.reader logs.history logs.live) in
    stands began.earlier _ began.was_live
    (in-data began.earlier.parser.stage held.reader.parser.stage n record_
    (last-leads point.read.given (instance n record_) stage.Start began.earlier.parser.stage held.reader.parser.stage here all))
