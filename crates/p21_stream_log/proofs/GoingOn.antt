-- A log goes on at a landmark behind the statement that is passed over.
use Rattle.std.proofs.Common.{◌≡◌, ◌+◌, ◌<◌, ◌≤◌, inl, inr, ℕ, suc, true, false, IsTrue, List, [], ◌∷◌, ◌++◌, length, length-append, None, Result, Ok, Err, refl, sym, ap, subst, ◌∙◌, append_assoc, append-nil, arith}
use Rattle.p21_grammar.specs.Held as grammar_held
use Rattle.p21_grammar.specs.Histories as grammar
use Rattle.p21_grammar.specs.Histories.{GrammarHistory}
use Rattle.std.specs.List.{AllByRecursion as Each}
use Rattle.p21_grammar.specs.Sound.{IsSound}
use Rattle.p21_grammar.specs.Stage.{after, then_walk, walk}
use Rattle.p21_grammar.specs.declared.fault.GrammarFault.{GrammarFault}
use Rattle.p21_grammar.specs.declared.stage.Stage.{Stage}
use Rattle.p21_grammar.specs.declared.stage.Stage.TheVariants as stage
use Rattle.p21_spec_basics.specs.Limits.{Limits}
use Rattle.p21_spec_exchange.specs.Record.{Record}
use Rattle.p21_spec_exchange.specs.Separator.{IsSeparatorText, blank}
use Rattle.p21_spec_exchange.specs.Statement.{Statement, instance}
use Rattle.p21_spec_survey.specs.Rules.{Rules}
use Rattle.p21_spec_survey.specs.Landmark.{IsOpened, Signpost, landmark, signpost_bytes}
use Rattle.p21_spec_survey.specs.Resuming.{GoesBy, further_on, within_text}
use Rattle.p21_spec_survey.specs.Survey.{Subject, passes_over}
use Rattle.p21_spec_survey.specs.Whole.{GapIsNoToken}
use Rattle.p21_stream_log.proofs.Between.{place-live}
use Rattle.p21_stream_log.specs.Going.{GoOnGives, GoesOnBehind, IsOfInstance, StoodFor, behind_stretch}
use Rattle.p21_stream_log.specs.Log.{Held, IsFileOf, Known, Logs, Point}
use Rattle.p21_stream_statements.specs.Place.{place_behind}
use Rattle.p21_stream_statements.specs.Reopening.{BeganAt, GivesReopened, IsBetweenStatements}
use Rattle.p21_stream_statements.specs.StatementReader as statements
use Rattle.p21_stream_statements.specs.StatementReader.{StatementHistory, limits_of}

-- ---- the stage of the file

-- the statements given lead to it
leads : (held : grammar_held.Held) (parsing : GrammarHistory) → grammar.Stands held parsing → parsing.refusal ≡ None
    → walk parsing.given stage.Start ≡ Ok held.stage
unfolding grammar.Stands
leads held parsing stands alive = (stands.2 alive).leads

pub reader-leads : (held : statements.Held) (reading : StatementHistory) → statements.IsLive held reading
    → walk reading.given stage.Start ≡ Ok held.parser.stage
reader-leads held reading live = subst (λ (sts : List Statement). walk sts stage.Start ≡ Ok held.parser.stage) live.given_are
    (leads held.parser live.parsing live.parser live.parser_open)

sound : (held : grammar_held.Held) (parsing : GrammarHistory) → grammar.Stands held parsing → parsing.refusal ≡ None
    → Each IsSound parsing.given
unfolding grammar.Stands
sound held parsing stands alive = (stands.2 alive).sound

pub reader-sound : (held : statements.Held) (reading : StatementHistory) → statements.IsLive held reading → Each IsSound reading.given
reader-sound held reading live = subst (λ (sts : List Statement). Each IsSound sts) live.given_are
    (sound held.parser live.parsing live.parser live.parser_open)

pub same-stage : (p q : Stage) → (let found : Result Stage GrammarFault = Ok p in found) ≡ Ok q → p ≡ q
same-stage p q same = cc

then-none : (found : Result Stage GrammarFault) → then_walk (walk []) found ≡ found
then-none (Ok p) = refl
then-none (Err fault) = refl

-- behind some statements and one more the stage is the one behind this one
pub last-leads : (sts : List Statement) (st : Statement) (p q r : Stage) → walk sts p ≡ Ok q → walk (sts ++ st ∷ []) p ≡ Ok r
    → after q st ≡ Ok r
last-leads [] st p q r first all = let same : p ≡ q = same-stage p q first in
    subst (λ (x : Stage). after x st ≡ Ok r) same (sym (then-none (after p st)) ∙ all)
last-leads (one ∷ sts) st p q r first all = by (λ next. last-leads sts st next q r) (after p one) first all
  where
    by : ((next : Stage) → walk sts next ≡ Ok q → walk (sts ++ st ∷ []) next ≡ Ok r → after q st ≡ Ok r)
        → (found : Result Stage GrammarFault) → then_walk (walk sts) found ≡ Ok q → then_walk (walk (sts ++ st ∷ [])) found ≡ Ok r
        → after q st ≡ Ok r
    by deeper (Ok next) first_ all_ = deeper next first_ all_
    by deeper (Err fault) first_ all_ = absurd cc

-- an instance leaves it as it is
instance-stays : (q r : Stage) (n : ℕ) (record_ : Record) → after q (instance n record_) ≡ Ok r → q ≡ r
instance-stays stage.Unnamed r n record_ is = same-stage stage.Unnamed r is
instance-stays stage.Named r n record_ is = same-stage stage.Named r is
instance-stays _ r n record_ is = absurd cc

stage-stays : (given ended : List Statement) (q r : Stage) → IsOfInstance ended → walk given stage.Start ≡ Ok q
    → walk (given ++ ended) stage.Start ≡ Ok r → q ≡ r
stage-stays given ended q r (inl none) first all =
    same-stage q r (sym first ∙ (ap (λ (sts : List Statement). walk sts stage.Start)
    (sym (append-nil given) ∙ ap (λ (sts : List Statement). given ++ sts) (sym none)) ∙ all))
stage-stays given ended q r (inr (n, record_, one)) first all =
    instance-stays q r n record_ (last-leads given (instance n record_) stage.Start q r first
    (ap (λ (sts : List Statement). walk (given ++ sts) stage.Start) (sym one) ∙ all))

-- ---- separators in the place of bytes that are passed over

abbrev blanks : List ℕ → List ℕ
blanks [] = []
blanks (byte ∷ bytes) = 32 ∷ blanks bytes

blanks-separate : (bytes : List ℕ) → IsSeparatorText (blanks bytes)
blanks-separate [] = ([], tt, refl)
blanks-separate (byte ∷ bytes) = let (separators, are, is) = blanks-separate bytes in
    (blank 32 ∷ separators, (inl (omega arith), are), ap (λ (l : List ℕ). 32 ∷ l) is)

blanks-size : (bytes : List ℕ) → length (blanks bytes) ≡ length bytes
blanks-size [] = refl
blanks-size (byte ∷ bytes) = ap (λ (n : ℕ). suc n) (blanks-size bytes)

-- ---- the bytes passed

pub passed-front : (before statement behind passed rest : List ℕ) (signpost : Signpost)
    → GoesBy before statement behind passed signpost rest → statement ++ behind ≡ passed ++ (signpost_bytes signpost ++ rest)
passed-front before statement behind passed _ signpost (within_text _ _ left is first) =
    ap (λ (bs : List ℕ). bs ++ behind) is.bytes_are
    ∙ (append_assoc passed (signpost_bytes signpost ++ left) behind
    ∙ ap (λ (bs : List ℕ). passed ++ bs) (append_assoc (signpost_bytes signpost) left behind))
passed-front before statement behind passed rest signpost (further_on skipped _ _ none first) =
    ap (λ (bs : List ℕ). statement ++ bs) first.bytes_are ∙ sym (append_assoc statement skipped (signpost_bytes signpost ++ rest))

-- ---- the log

module _ (s : Rules) (limits : Limits) (known : Known) (point : Point) (old : Held) (stood : StoodFor s limits known point old) where
  -- what was held where the statement began
  began-at : BeganAt stood.before stood.logs.began.earlier
  began-at =
      let began = stood.logs.began in
      record {
        between = began.between_statements;
        limits = began.same_limits;
        stage = stage-stays point.read.given point.ended began.earlier.parser.stage stood.before.parser.stage stood.of_instance
            (reader-leads began.earlier _ began.was_live)
            (subst (λ (sts : List Statement). walk sts stage.Start ≡ Ok stood.before.parser.stage) stood.logs.given_are
            (reader-leads stood.before stood.logs.history stood.logs.live));
      }

  pub stage-is : stood.logs.began.earlier.parser.stage ≡ old.reader.parser.stage
  stage-is = (stood.stays stood.logs.began.earlier began-at).stage

  limits-held : limits_of old.reader ≡ (limits.record_source, limits.file_source)
  limits-held = sym (stood.stays stood.logs.began.earlier began-at).limits ∙ (stood.logs.began.same_limits ∙ stood.logs.limits_are)

  pub too-long : (place : ℕ) → ¬ (place ≤ (limits_of old.reader).1) → limits.file_source < place
  too-long place none = let is : (limits_of old.reader).1 ≡ limits.file_source = ap (λ (l : ℕ × ℕ). l.1) limits-held in
      omega (arith, none, is)

  module _ (gap : GapIsNoToken) (passed ahead : List ℕ) (number : ℕ) (subject : Subject) (begins place : ℕ)
      (place_is : place ≡ length (point.read.bytes ++ passed)) (opened : IsOpened (point.read.bytes ++ passed))
      (goes : (file : List ℕ) → IsFileOf known file → GoesOnBehind s limits file point.read passed ahead number subject begins) where
    abbrev gapped : List ℕ
    gapped = stood.logs.gapped ++ blanks passed

    size-is : length gapped ≡ length (point.read.bytes ++ passed)
    size-is =
        let sum = length-append stood.logs.gapped (blanks passed) in
        let own = blanks-size passed in
        let before = stood.logs.size in
        let all = length-append point.read.bytes passed in
        omega (arith, sum, own, before, all)

    abbrev reading : StatementHistory
    reading = record { taken = gapped; seen = None; given = point.read.given }

    reopened-live : (reader : statements.Held) → GivesReopened old.reader place reader → statements.IsLive reader reading
    reopened-live reader gives =
        let began = stood.logs.began in
        let here : place_behind began.earlier ≡ length stood.logs.gapped = place-live began.earlier _ began.was_live in
        let there : place ≡ place_behind began.earlier + length (blanks passed) =
        (let sum = length-append stood.logs.gapped (blanks passed) in let all = size-is in omega (arith, here, sum, all, place_is)) in
        gives began.earlier _ (blanks passed) (stood.stays began.earlier began-at) began.was_live (blanks-separate passed) there

    file-parts : (file : List ℕ) → IsFileOf known file → (further : List ℕ) × (file ≡ (point.read.bytes ++ passed) ++ (ahead ++ further))
    file-parts file of =
        let g = goes file of in
        let over = g.over in
        let front = passed-front point.read.bytes over.passes.statement over.passes.behind passed g.rest (landmark g.found) over.goes_by in (
          g.further,
          over.passes.next_are
              ∙ (ap (λ (l : List ℕ). point.read.bytes ++ l) (front ∙ ap (λ (l : List ℕ). passed ++ l) g.ahead_are)
              ∙ sym (append_assoc point.read.bytes passed (ahead ++ g.further))),
        )

    pub gone-on : (new : Held) → GivesReopened old.reader place new.reader → IsBetweenStatements new.reader
        → limits_of new.reader ≡ limits_of old.reader → new.start ≡ place → new.buffer ≡ [] → new.opened ≡ true
        → Logs s limits known new (behind_stretch point passed number subject begins ahead)
    gone-on new gives between same_limits start_is buffer_is opened_is =
        let live = reopened-live new.reader gives in
        record {
          is_read = λ file of. let g = goes file of in passes_over point.read passed g.rest g.found number subject begins
              (stood.logs.is_read file of) g.over g.begins_at;
          file_is = λ file of. let (further, is) = file-parts file of in
              (further, is ∙ ap (λ (l : List ℕ). (point.read.bytes ++ passed) ++ (l ++ (ahead ++ further))) (sym buffer_is));
          start_is = start_is ∙ place_is;
          opens = (λ _. opened, λ _. subst IsTrue (sym opened_is) refl);
          history = reading;
          live = live;
          limits_are = same_limits ∙ limits-held;
          seen_is = refl;
          given_are = sym (append-nil point.read.given);
          between = λ some. absurd (some refl);
          gapped = gapped;
          taken_are = sym (append-nil gapped) ∙ ap (λ (l : List ℕ). gapped ++ l) (sym buffer_is);
          size = size-is;
          lexemes = stood.logs.lexemes;
          gapped_whole = gap stood.logs.gapped (blanks passed) stood.logs.lexemes stood.logs.gapped_whole (blanks-separate passed);
          kept_whole = stood.logs.kept_whole;
          tokens_are = stood.logs.tokens_are;
          began = record { earlier = new.reader; between_statements = between; same_limits = refl; seen = None; was_live = live };
        }

pub goes-on : GapIsNoToken → (old : Held) (place : ℕ) (new : Held) → GivesReopened old.reader place new.reader
    → IsBetweenStatements new.reader → limits_of new.reader ≡ limits_of old.reader → new.start ≡ place → new.buffer ≡ [] → new.opened ≡ true
    → GoOnGives old place true new
goes-on gap old place new gives between same_limits start_is buffer_is opened_is s limits known point passed ahead number subject begins
    stood place_is opened goes =
    gone-on s limits known point old stood gap passed ahead number subject begins place place_is opened goes new gives between same_limits
    start_is buffer_is opened_is

pub stays-there : (old : Held) (place : ℕ) (new : Held) → new ≡ old → ¬ (place ≤ (limits_of old.reader).1) → GoOnGives old place false new
stays-there old place new same none = (same, λ s limits known point stood. too-long s limits known point old stood place none)
