-- A log takes a token, or the rest of a piece; and it begins.
use Rattle.std.proofs.Common.{◌≡◌, ◌≢◌, ◌≤◌, ◌+◌, ℕ, Bool, true, false, IsTrue, List, [], ◌++◌, length, take, drop, Option, Some, None, Ok, Err, refl, sym, ap, subst, ◌∙◌, append_assoc, append-nil}
use Rattle.std.proofs.Math.Seq.{drop-append_seam}
use Rattle.std.proofs.lemmas.List.{nil_from_length, take-append-drop, take-append-le}
use Rattle.p21_grammar.specs.Statements.{statement_of, statements_of}
use Rattle.p21_grammar.specs.declared.event.Event.{Event}
use Rattle.p21_spec_basics.specs.Limits.{Limits}
use Rattle.p21_spec_exchange.specs.Statement.{Statement}
use Rattle.p21_spec_survey.specs.Rules.{Rules}
use Rattle.p21_spec_survey.specs.Landmark.{IsOpened}
use Rattle.p21_spec_survey.specs.Survey as survey
use Rattle.p21_spec_survey.specs.Whole.{JoinedIsLaid}
use Rattle.p21_stream_log.proofs.Moving.{seen-now, unseen-between}
use Rattle.p21_stream_log.proofs.Offered.{offered-seen, place-further, refuses-further, seen-further, step-ends}
use Rattle.p21_stream_log.specs.Log.{BeganBehind, BeginSo, EndsWith, Held, IsFileOf, IsOffered, Known, Logs, Point, StepGives, TakesToken, at_start}
use Rattle.p21_stream_resume.proofs.Standing.{not-opened}
use Rattle.p21_stream_statements.proofs.Begun.{lexer-live}
use Rattle.p21_stream_statements.specs.Place.{StepPlaces, place_behind}
use Rattle.p21_stream_statements.specs.Reopening.{IsBetweenStatements, StepBegins}
use Rattle.p21_stream_statements.specs.StatementReader as statements
use Rattle.p21_stream_statements.specs.StatementReader.{IsSeenAt, StatementHistory, TakesOneToken, limits_of, nothing_read}
use Rattle.p21_stream_statements.specs.declared.fault.Fault.{Fault}
use Rattle.p21_stream_statements.specs.declared.fault.Fault.TheVariants.{NoMemory}

-- nothing is read
pub at-start : (s : Rules) (limits : Limits) (known : Known) (new : Held) (ahead : List ℕ) → statements.IsLive new.reader nothing_read
    → IsBetweenStatements new.reader → limits_of new.reader ≡ (limits.record_source, limits.file_source) → new.start ≡ 0 → new.buffer ≡ []
    → new.opened ≡ false → BeginSo known ahead → Logs s limits known new (at_start ahead)
at-start s limits known new ahead live between limits_are start_is buffer_is opened_is begin = record {
  is_read = λ file of. survey.at_start;
  file_is = λ file of. let (rest, is) = begin file of in (rest, is ∙ ap (λ (l : List ℕ). l ++ (ahead ++ rest)) (sym buffer_is));
  start_is = start_is;
  opens = (λ opened. (let clash : false ≡ true = sym opened_is ∙ opened in cc), λ opened. absurd (not-opened opened));
  history = nothing_read;
  live = live;
  limits_are = limits_are;
  seen_is = refl;
  given_are = refl;
  between = λ some. absurd (some refl);
  gapped = [];
  taken_are = sym buffer_is;
  size = refl;
  lexemes = [];
  gapped_whole = record { laid = ([], tt, refl); ends = tt };
  kept_whole = record { laid = ([], tt, refl); ends = tt };
  tokens_are = refl;
  began = record { earlier = new.reader; between_statements = between; same_limits = refl; seen = None; was_live = live };
}

none-ended : (event : Option Event) → (statements_of event ≢ [] → ⊥) → statements_of event ≡ []
none-ended None other = refl
none-ended (Some event) other = absurd (other (λ same. cc))

-- where the open statement began the same was held
pub began-on : (held next : statements.Held) (taken : List ℕ) (given : List Statement) → limits_of next ≡ limits_of held
    → BeganBehind held taken given → BeganBehind next taken given
began-on held next taken given same began = record {
  earlier = began.earlier;
  between_statements = began.between_statements;
  same_limits = began.same_limits ∙ sym same;
  seen = began.seen;
  was_live = began.was_live;
}

module _ (s : Rules) (limits : Limits) (known : Known) (old new : Held) (point : Point) (more : List ℕ)
    (logs : Logs s limits known old point) (none : point.ended ≡ []) (start_is : new.start ≡ old.start)
    (opened_is : new.opened ≡ old.opened)
    (limits_are : limits_of new.reader ≡ limits_of old.reader) where
  -- the buffer has these bytes more, and they stood ahead
  pub file-on : (bytes rest : List ℕ) → new.buffer ≡ old.buffer ++ bytes → point.ahead ≡ bytes ++ rest → (file : List ℕ)
      → IsFileOf known file → (further : List ℕ) × (file ≡ point.read.bytes ++ (new.buffer ++ (rest ++ further)))
  file-on bytes rest buffer_is ahead_is file of =
      let (further, is) = logs.file_is file of in (
        further,
        is ∙ ap (λ (l : List ℕ). point.read.bytes ++ l)
            (ap (λ (l : List ℕ). old.buffer ++ (l ++ further)) ahead_is
            ∙ (ap (λ (l : List ℕ). old.buffer ++ l) (append_assoc bytes rest further)
            ∙ (sym (append_assoc old.buffer bytes (rest ++ further)) ∙ ap (λ (l : List ℕ). l ++ (rest ++ further)) (sym buffer_is)))),
      )

  pub taken-on : (bytes : List ℕ) → new.buffer ≡ old.buffer ++ bytes → logs.history.taken ++ bytes ≡ logs.gapped ++ new.buffer
  taken-on bytes buffer_is = ap (λ (l : List ℕ). l ++ bytes) logs.taken_are
      ∙ (append_assoc logs.gapped old.buffer bytes ∙ ap (λ (l : List ℕ). logs.gapped ++ l) (sym buffer_is))

  pub given-before : logs.history.given ≡ point.read.given
  given-before = logs.given_are ∙ (ap (λ (sts : List Statement). point.read.given ++ sts) none ∙ append-nil point.read.given)

  -- what is held behind some bytes that stood ahead, with which these statements have ended
  took : (bytes behind : List ℕ) (ended : List Statement) (reading : StatementHistory) → statements.IsLive new.reader reading
      → reading.taken ≡ logs.history.taken ++ bytes → reading.given ≡ logs.history.given ++ ended
      → (ended ≢ [] → IsBetweenStatements new.reader) → new.buffer ≡ old.buffer ++ bytes → point.ahead ≡ bytes ++ behind
      → Logs s limits known new (record point { ended = ended; seen = reading.seen; ahead = behind })
  took bytes behind ended reading live taken_are given_are between buffer_is ahead_is = record {
    is_read = logs.is_read;
    file_is = file-on bytes behind buffer_is ahead_is;
    start_is = start_is ∙ logs.start_is;
    opens = subst (λ (b : Bool). (IsTrue b → IsOpened point.read.bytes) × (IsOpened point.read.bytes → IsTrue b)) (sym opened_is)
        logs.opens;
    history = reading;
    live = live;
    limits_are = limits_are ∙ logs.limits_are;
    seen_is = refl;
    given_are = given_are ∙ ap (λ (sts : List Statement). sts ++ ended) given-before;
    between = between;
    gapped = logs.gapped;
    taken_are = taken_are ∙ taken-on bytes buffer_is;
    size = logs.size;
    lexemes = logs.lexemes;
    gapped_whole = logs.gapped_whole;
    kept_whole = logs.kept_whole;
    tokens_are = logs.tokens_are;
    began = began-on old.reader new.reader logs.gapped point.read.given limits_are logs.began;
  }

  -- the bytes that the reader is offered, and those of the piece behind them
  module _ (piece bytes : List ℕ) (of : IsOffered piece bytes) (ahead_is : point.ahead ≡ piece ++ more)
      (at : IsSeenAt point.seen piece 0) where
    seen-at : IsSeenAt logs.history.seen bytes 0
    seen-at = subst (λ (seen : Option ℕ). IsSeenAt seen bytes 0) (sym logs.seen_is) (offered-seen piece bytes of point.seen at)

    -- all of them are taken, and no token is whole
    pub bytes-taken : statements.StepGives old.reader bytes (Ok None) new.reader → new.buffer ≡ old.buffer ++ bytes
        → TakesToken s limits known point piece more (length bytes) None new
    bytes-taken gives buffer_is =
        let reading : StatementHistory = record { taken = logs.history.taken ++ bytes; seen = None; given = logs.history.given } in
        let behind : drop (length bytes) piece ≡ of.rest = ap (λ (l : List ℕ). drop (length bytes) l) of.piece_is
        ∙ drop-append_seam bytes of.rest in
        record {
          seen = None;
          seen_at = tt;
          logs = took bytes (drop (length bytes) piece ++ more) [] reading (gives logs.history logs.live seen-at) refl
              (sym (append-nil logs.history.given)) (λ some. absurd (some refl)) buffer_is
              (ahead_is ∙ (ap (λ (l : List ℕ). l ++ more) of.piece_is
              ∙ (append_assoc bytes of.rest more ∙ ap (λ (l : List ℕ). bytes ++ (l ++ more)) (sym behind))));
          ends = λ some. absurd (some refl);
          moves = λ some none. absurd (of.some some (nil_from_length bytes none));
        }

    between-on : (count : ℕ) (event : Option Event) → StepBegins old.reader (Ok (Some (count, event))) new.reader → statements_of event ≢ []
        → IsBetweenStatements new.reader
    between-on count None begins some = absurd (some refl)
    between-on count (Some event) begins some = begins

    -- those up to the end of a token are taken
    pub token-taken : JoinedIsLaid → (count : ℕ) (event : Option Event) → count ≤ length bytes
        → statements.StepGives old.reader bytes (Ok (Some (count, event))) new.reader
        → StepBegins old.reader (Ok (Some (count, event))) new.reader
        → new.buffer ≡ old.buffer ++ take count bytes → TakesToken s limits known point piece more count event new
    token-taken joined count event within gives begins buffer_is =
        let one = gives logs.history logs.live seen-at in
        let same : take count piece ≡ take count bytes = ap (λ (l : List ℕ). take count l) of.piece_is
        ∙ take-append-le count bytes of.rest within in
        let parts : point.ahead ≡ take count bytes ++ (drop count piece ++ more) =
        ahead_is
        ∙ (ap (λ (l : List ℕ). l ++ more) (sym (take-append-drop count piece))
        ∙ (append_assoc (take count piece) (drop count piece) more ∙ ap (λ (l : List ℕ). l ++ (drop count piece ++ more)) same)) in
        let behind = took (take count bytes) (drop count piece ++ more) (statements_of event) one.reading one.live one.taken_are
        one.given_are (between-on count event begins) buffer_is parts in
        record {
          seen = one.reading.seen;
          seen_at = seen-further piece bytes of.rest of.piece_is count one.reading.seen one.seen_at;
          logs = behind;
          ends = ends-by event one behind (between-on count event begins);
          moves = λ _ none. moves-by none event one (between-on count event begins);
        }
      where
        ends-by : (event_ : Option Event) → (one : TakesOneToken logs.history (length logs.live.history.given) bytes count
            (statements_of event_) new.reader)
            → Logs s limits known new (record point {
              ended = statements_of event_;
              seen = one.reading.seen;
              ahead = drop count piece
                  ++ more;
            }) → (statements_of event_ ≢ [] → IsBetweenStatements new.reader) → statements_of event_ ≢ []
            → EndsWith 59 new.buffer
        ends-by None one behind between some = absurd (some refl)
        ends-by (Some found) one behind between some =
            step-ends joined s limits known old point logs none (statement_of found) new.reader one.reading one.live (between some)
            one.given_are one.one_more new piece bytes of count _ behind refl buffer_is

        moves-by : count ≡ 0 → (event_ : Option Event) → (one : TakesOneToken logs.history (length logs.live.history.given) bytes count
            (statements_of event_) new.reader) → (statements_of event_ ≢ [] → IsBetweenStatements new.reader)
            → (statements_of event_ ≡ []) × (point.seen ≡ None) × (one.reading.seen ≢ None)
        moves-by zero_ event_ one between =
            let own = logs.live in
            let now = one.live in
            let same : now.history.taken ≡ own.history.taken =
            now.taken_are ∙ (one.taken_are ∙ (ap (λ (n : ℕ). logs.history.taken ++ take n bytes) zero_
            ∙ (append-nil logs.history.taken ∙ sym own.taken_are))) in
            let (before, after) = seen-now old.reader.lexer new.reader.lexer own.history now.history
            (lexer-live old.reader.lexer own.history own.lexer own.lexer_open)
            (lexer-live new.reader.lexer now.history now.lexer now.lexer_open) same one.one_more in
            let seen : one.reading.seen ≢ None = λ none_. after (now.seen_is ∙ none_) in (
              none-ended event_ (λ some. seen (unseen-between new.reader one.reading (between some) now)),
              sym logs.seen_is
                  ∙ (sym own.seen_is ∙ before),
              seen,
            )

-- ---- what a step gives

-- a refusal of the bytes that are offered is one of the piece
pub step-refused : (old : Held) (reader : statements.Held) (piece bytes : List ℕ) (fault : Fault) → IsOffered piece bytes
    → statements.StepGives old.reader bytes (Err fault) reader → StepPlaces old.reader bytes (Err fault) reader
    → StepBegins old.reader (Err fault) reader → StepGives old piece (Err fault) (record old { reader = reader })
step-refused old reader piece bytes fault of gives places stays other s limits known point more logs none ahead_is at =
    let seen : IsSeenAt logs.history.seen bytes 0 = subst (λ (seen : Option ℕ). IsSeenAt seen bytes 0) (sym logs.seen_is)
    (offered-seen piece bytes of point.seen at) in
    record {
      before = old.reader;
      logs = logs;
      refuses = refuses-further (limits_of old.reader) fault logs.history bytes piece of.rest of.piece_is
          (gives other logs.history logs.live seen);
      place = place-further (limits_of old.reader) logs.history.taken bytes piece of.rest of.piece_is fault (place_behind reader)
          (places logs.history logs.live seen);
      stays = stays;
    }

pub step-bytes : (old : Held) (reader : statements.Held) (piece bytes buffer : List ℕ) → IsOffered piece bytes
    → statements.StepGives old.reader bytes (Ok None) reader → limits_of reader ≡ limits_of old.reader → buffer ≡ old.buffer ++ bytes
    → StepGives old piece (Ok (length bytes, None)) (record { reader = reader; start = old.start; buffer = buffer; opened = old.opened })
step-bytes old reader piece bytes buffer of gives limits_are buffer_is s limits known point more logs none ahead_is at =
    bytes-taken s limits known old (record { reader = reader; start = old.start; buffer = buffer; opened = old.opened }) point more logs
    none refl refl limits_are piece bytes of ahead_is at gives buffer_is

pub step-token : JoinedIsLaid → (old : Held) (reader : statements.Held) (piece bytes buffer : List ℕ) (count : ℕ) (event : Option Event)
    → IsOffered piece bytes → count ≤ length bytes → statements.StepGives old.reader bytes (Ok (Some (count, event))) reader
    → StepBegins old.reader (Ok (Some (count, event))) reader → limits_of reader ≡ limits_of old.reader
    → buffer ≡ old.buffer ++ take count bytes → StepGives old piece (Ok (count, event))
    (record { reader = reader; start = old.start; buffer = buffer; opened = old.opened })
step-token joined old reader piece bytes buffer count event of within gives begins limits_are buffer_is s limits known point more logs none
    ahead_is at =
    token-taken s limits known old (record { reader = reader; start = old.start; buffer = buffer; opened = old.opened }) point more logs
    none refl refl limits_are piece bytes of ahead_is at joined count event within gives begins buffer_is

pub no-memory : (old new : Held) (piece : List ℕ) → StepGives old piece (Err NoMemory) new
no-memory old new piece other = absurd (other refl)
