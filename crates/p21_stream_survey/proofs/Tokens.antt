-- The walk behind a token.
use Rattle.std.proofs.Common.{◌≡◌, ◌≢◌, ◌≤◌, ◌<◌, ◌^◌, ℕ, List, [], ◌∷◌, ◌++◌, length, drop, Option, Some, None, Result, Ok, Err, IfOk}
use Rattle.std.proofs.Common.{OnOk, inl, inr, refl, sym, ap, subst, ◌∙◌, append_assoc, length-append, arith}
use Rattle.std.specs.List.{flat_map}
use Rattle.p21_grammar.specs.Statements.{statement_of}
use Rattle.p21_grammar.specs.declared.event.Event.{Event}
use Rattle.p21_spec_exchange.specs.Statement.{Statement, statement_tokens}
use Rattle.p21_spec_exchange.specs.Structure.{AreFirstStatements}
use Rattle.p21_spec_exchange.specs.Token.{Token}
use Rattle.p21_spec_survey.specs.Survey.{Reading}
use Rattle.p21_stream_log.specs.Log as log
use Rattle.p21_stream_log.specs.Log.{Known, StepKeeps, behind_token}
use Rattle.p21_stream_statements.specs.Source.{IsOfBytes}
use Rattle.p21_stream_statements.specs.StatementReader as statements
use Rattle.p21_stream_statements.specs.StatementReader.{StatementHistory}
use Rattle.p21_stream_statements.specs.declared.fault.Fault.{Fault}
use Rattle.p21_stream_statements.specs.declared.fault.Fault.TheVariants.{NoMemory}
use Rattle.p21_stream_survey.proofs.Ahead.{behind-front, counts-on, fewer-ahead, none-left, seen-front, seen-next}
use Rattle.p21_stream_survey.proofs.Behind.{still-reading}
use Rattle.p21_stream_survey.proofs.Numbers.{bytes-number}
use Rattle.p21_stream_survey.specs.Course.{Course, GoesFurther, GoesTo, IsInStage, IsUnderWay}
use Rattle.p21_stream_survey.specs.Judging.{Follows, JudgeGives}
use Rattle.p21_stream_survey.specs.Reading.{HasRead}
use Rattle.p21_stream_survey.specs.Token.{IsWindowOf, TokenGives}
use Rattle.p21_stream_survey.specs.Walking.{FollowsJudged, Goes, GoesBehind, GoesBehindRefused, HasRefused, HasStatement, IsJudged}
use Rattle.p21_stream_survey.specs.declared.keeper.Keeper.{Keeper}
use Rattle.p21_stream_survey.specs.declared.judging.Judgement.{Judgement}
use Rattle.p21_stream_survey.specs.declared.stage.Stage.{Stage}
use Rattle.p21_stream_survey.specs.declared.stage.Stage.TheVariants as stage
use Rattle.p21_stream_survey.specs.declared.survey.Next.{Next}
use Rattle.p21_stream_survey.specs.declared.survey.Survey.{Survey}
use Rattle.p21_tokens.specs.Histories.{TokenHistory}
use Rattle.p21_stream_survey.specs.Keeping.{rules_by, kept_by, sifted_of, StaysBy}
use Rattle.p21_spec_survey.specs.Rules.{Rules}
use Rattle.p21_stream_survey.specs.Following.{Stands}

nonempty : (l : List ℕ) → 0 < length l → l ≢ []
nonempty l some none = let size = ap length none in omega (arith, some, size)

-- ---- behind a token, and a statement that has ended

module _ (known : Known) (old : Survey) (held : log.Held) (window more : List ℕ) (count : ℕ) (some : 0 < length window)
    (reading : old.stage ≡ stage.Reading) (at : IsInStage known old stage.Reading (window ++ more)) where
  abbrev new : Survey
  new = record old { log = held }

  pub token-read : TokenGives old.log window (Ok (count, None)) held → StepKeeps old.log window (Ok (count, None)) held
      → (0 < count) × IsInStage known new stage.Reading (drop count window ++ more)
  token-read gives keeps =
      let r = at.is_at in
      let takes = gives (rules_by old) old.limits known r.point more r.stands.logs r.between r.ahead_are
      (seen-front r.point.seen window more some r.seen_at) in (
        takes.some (nonempty window some),
        record {
          sound = record { few = at.sound.few; limited = at.sound.limited; keeper = at.sound.keeper };
          within = at.within;
          is_at = record {
            point = behind_token r.point takes.seen window count more None;
            stands = record { logs = takes.logs; has = r.stands.has };
            between = refl;
            ahead_are = refl;
            seen_at = seen-next takes.seen count window more takes.seen_at;
            counted = counts-on old.log.start held.start (length known.bytes) count old.log.buffer held.buffer window more keeps.start
                keeps.buffer r.counted;
          };
        },
      )

  pub statement-ended : (event : Event) → TokenGives old.log window (Ok (count, Some event)) held
      → StepKeeps old.log window (Ok (count, Some event)) held
      → (0 < count) × HasStatement known new (kept_by new) (statement_of event) (drop count window ++ more)
  statement-ended event gives keeps =
      let r = at.is_at in
      let takes = gives (rules_by old) old.limits known r.point more r.stands.logs r.between r.ahead_are
      (seen-front r.point.seen window more some r.seen_at) in (
        takes.some (nonempty window some),
        record {
          sound = record { few = at.sound.few; limited = at.sound.limited; keeper = at.sound.keeper };
          reading = reading;
          fewer = at.within;
          point = behind_token r.point takes.seen window count more (Some event);
          stands = record { logs = takes.logs; has = r.stands.has };
          ended = record { ended = refl; ends = takes.ends (λ none. (let clash : statement_of event ∷ [] ≡ [] = none in cc)) };
          ahead_are = refl;
          seen_at = seen-next takes.seen count window more takes.seen_at;
          counted = counts-on old.log.start held.start (length known.bytes) count old.log.buffer held.buffer window more keeps.start
              keeps.buffer r.counted;
        },
      )

  pub token-refused : (fault : Fault) → fault ≢ NoMemory → IsOfBytes fault → TokenGives old.log window (Err fault) held
      → StepKeeps old.log window (Err fault) held → HasRefused known new window more fault
  token-refused fault other kind gives keeps =
      let r = at.is_at in
      let refuses = gives other (rules_by old) old.limits known r.point more r.stands.logs r.between r.ahead_are
      (seen-front r.point.seen window more some r.seen_at) in
      let (start, buffer) = keeps other in
      let counted = r.counted in
      let size = ap length buffer in
      record {
        sound = record { few = at.sound.few; limited = at.sound.limited; keeper = at.sound.keeper };
        reading = reading;
        fewer = at.within;
        point = refuses.there;
        refused = refuses.refused;
        between = refuses.between;
        ahead_are = refuses.ahead_are;
        has = subst (λ (read : Reading). HasRead (rules_by old) old.limits read (kept_by old) old.listing) (sym refuses.read_is)
            r.stands.has;
        of_file = bytes-number fault kind other;
        counted = omega (arith, counted, start, size);
      }

-- ---- a statement is judged

given-few : (held : statements.Held) (reading : StatementHistory) (live : statements.IsLive held reading)
    → length live.history.given ≤ length reading.taken
given-few held reading live = elim live.answered [
  | inl none ↦ (let size : length live.history.given ≡ 0 = ap (λ (h : TokenHistory). length h.given) none in omega (arith, size))
  | inr answers ↦ (let few = answers.given_few in let same : length live.history.taken ≡ length reading.taken = ap length live.taken_are in
      omega (arith, few, same))
]

statements-few : (held : statements.Held) (reading : StatementHistory) → statements.IsLive held reading
    → length (flat_map statement_tokens reading.given) ≤ length reading.taken
statements-few held reading live =
    let few = given-few held reading live in
    let given : live.history.given ≡ flat_map statement_tokens reading.given ++ live.ended_by.depth_is.opened =
    sym live.tokens_are ∙ live.ended_by.depth_is.open_statement.given_are
    ∙ ap (λ (ts : List Token). ts ++ live.ended_by.depth_is.opened) live.ended_by.ended_are in
    let sizes = ap length given in
    let sum = length-append (flat_map statement_tokens reading.given) live.ended_by.depth_is.opened in
    omega (arith, few, sizes, sum)

-- it follows those that were given
pub statement-follows : (known : Known) (survey : Survey) (statement : Statement) (ahead : List ℕ)
    → HasStatement known survey (kept_by survey) statement ahead → Follows (rules_by survey) survey.limits (kept_by survey) statement
statement-follows known survey statement ahead has =
    let logs = has.stands.logs in
    let live = logs.live in
    let given : logs.history.given ≡ has.point.read.given ++ statement ∷ [] = logs.given_are
    ∙ ap (λ (sts : List Statement). has.point.read.given ++ sts) has.ended.ended in
    let few = statements-few survey.log.reader logs.history live in
    let taken = ap length logs.taken_are in
    let sum = length-append logs.gapped survey.log.buffer in
    let size = logs.size in
    let start = logs.start_is in
    let counted = has.counted in
    let known_few = has.sound.few in
    record {
      given = has.point.read.given;
      taken = has.point.read.taken;
      sifts = has.stands.has.sifts;
      structure = live.of_file.structure;
      are_first = subst (λ (sts : List Statement). AreFirstStatements sts live.of_file.structure) given live.of_file.are_first;
      few = subst (λ (sts : List Statement). length (flat_map statement_tokens sts) < 2 ^ 64) given
          (omega (arith, few, taken, sum, size, start, counted, known_few));
    }

pub statement-judged : (known : Known) (old : Survey) (keeper : Keeper) (statement : Statement) (judgement : Result Judgement Fault)
    (ahead : List ℕ) → HasStatement known old (kept_by old) statement ahead
    → JudgeGives (rules_by old) old.limits (kept_by old) statement judgement (sifted_of keeper) → StaysBy old.keeper keeper
    → IsJudged known (record old { keeper = keeper }) judgement ahead
statement-judged known old keeper statement judgement ahead has gives stays = record {
  statement = statement;
  before = kept_by old;
  has = record {
    sound = record { few = has.sound.few; limited = has.sound.limited; keeper = stays.sound has.sound.keeper };
    reading = has.reading;
    fewer = has.fewer;
    point = has.point;
    stands = subst (λ (s : Rules). Stands s old.limits known old.log (kept_by old) old.listing has.point) (sym stays.rules) has.stands;
    ended = has.ended;
    ahead_are = has.ahead_are;
    seen_at = has.seen_at;
    counted = has.counted;
  };
  gives = subst (λ (s : Rules). JudgeGives s old.limits (kept_by old) statement judgement (sifted_of keeper)) (sym stays.rules) gives;
}

-- ---- what it does

-- behind so many bytes of some, with which a statement has ended
pub behind-goes : (known : Known) (old new : Survey) (bytes more : List ℕ) (count : ℕ) (again : List ℕ) (next : Next) → 0 < count
    → count ≤ length bytes → next.count ≡ count → next.again.items ≡ again
    → GoesBehind known old new again (drop count bytes ++ more)
    → GoesFurther known old new (bytes ++ more) (next.again.items ++ (drop next.count bytes ++ more))
behind-goes known old new bytes more count again next taken within count_is again_is behind =
    let ahead : again ++ (drop count bytes ++ more) ≡ next.again.items ++ (drop next.count bytes ++ more) =
    ap (λ (l : List ℕ). l ++ (drop count bytes ++ more)) (sym again_is)
    ∙ ap (λ (n : ℕ). next.again.items ++ (drop n bytes ++ more)) (sym count_is) in
    let fewer = fewer-ahead count bytes more taken within in
    let size = ap length ahead in
    record {
      goes = subst (λ (l : List ℕ). GoesTo known old new l) ahead behind.goes;
      further = elim behind.once [
        | inl none ↦ (let bare = ap (λ (l : List ℕ). length (l ++ (drop count bytes ++ more))) none in
            inr (omega (arith, fewer, size, bare)))
        | inr listed ↦ inl listed
      ];
    }

module _ (old : Survey) (held : log.Held) (window : List ℕ) (some : 0 < length window) (reading : old.stage ≡ stage.Reading) where
  -- a token is taken, or some bytes of one
  pub token-goes : (count : ℕ) (event : Option Event) (next : Next) → event ≡ None → TokenGives old.log window (Ok (count, event)) held
      → StepKeeps old.log window (Ok (count, event)) held → count ≤ length window → next.count ≡ count → next.again.items ≡ []
      → Goes old stage.Reading window next (record old { log = held })
  token-goes count event next none gives keeps within count_is again_is known more at =
      let (taken, on) = token-read known old held window more count some reading at
      (subst (λ (e : Option Event). TokenGives old.log window (Ok (count, e)) held) none gives)
      (subst (λ (e : Option Event). StepKeeps old.log window (Ok (count, e)) held) none keeps) in
      let ahead : drop count window ++ more ≡ next.again.items ++ (drop next.count window ++ more) =
      ap (λ (n : ℕ). drop n window ++ more) (sym count_is) ∙ ap (λ (l : List ℕ). l ++ (drop next.count window ++ more)) (sym again_is) in
      let fewer = fewer-ahead count window more taken within in
      let size = ap length ahead in
      record {
        goes = record {
          course = subst (λ (l : List ℕ). Course known (record old { log = held }) l) ahead
              (still-reading known (record old { log = held }) (drop count window ++ more) reading on);
          same = record { rules = refl; limits = refl; most = refl };
          no_fewer = omega arith;
        };
        further = inr (omega (arith, fewer, size));
      }

  -- a step is refused
  pub refused-goes : {E : Type 0} (fault : Fault) (new : Survey) (result : Result Next E) → IsOfBytes fault
      → TokenGives old.log window (Err fault) held → StepKeeps old.log window (Err fault) held → OnOk result (fault ≢ NoMemory)
      → IfOk result (λ next. GoesBehindRefused (record old { log = held }) window fault next new)
      → IfOk result (λ next. Goes old stage.Reading window next new)
  refused-goes fault new (Err none) kind gives keeps other goes = tt
  refused-goes fault new (Ok next) kind gives keeps other goes = λ known more at.
      let behind = goes known more (token-refused known old held window more 0 some reading at fault other kind gives keeps) in
      record {
        goes = record {
          course = behind.goes.course;
          same =
              record { rules = behind.goes.same.rules; limits = behind.goes.same.limits; most = behind.goes.same.most };
          no_fewer =
              behind.goes.no_fewer;
        };
        further = elim behind.once [
          | inl (none, whole) ↦ (let size = ap length (none-left next.again.items window more next.count none whole) in let sum =
              length-append window more in inr (omega (arith, size, sum, some)))
          | inr listed ↦ inl listed
        ];
      }

  -- a statement has ended
  pub ended-follows : (count : ℕ) (event : Option Event) (found : Event) → event ≡ Some found
      → TokenGives old.log window (Ok (count, event)) held → StepKeeps old.log window (Ok (count, event)) held
      → IsUnderWay old stage.Reading window
      → (known : Known) × (ahead : List ℕ) × HasStatement known (record old { log = held }) (kept_by old) (statement_of found) ahead
  ended-follows count event found is gives keeps (known, more, at) = (
    known,
    drop count window ++ more,
    (statement-ended known old held window more count some reading at found
        (subst (λ (e : Option Event). TokenGives old.log window (Ok (count, e)) held) is gives)
        (subst (λ (e : Option Event). StepKeeps old.log window (Ok (count, e)) held) is keeps)).1,
  )

  pub judged-goes : (keeper : Keeper) (count : ℕ) (event : Option Event) (found : Event) (judgement : Result Judgement Fault) (again : List ℕ)
      (next : Next) (new : Survey) → event ≡ Some found → TokenGives old.log window (Ok (count, event)) held
      → StepKeeps old.log window (Ok (count, event)) held
      → count ≤ length window → JudgeGives (rules_by old) old.limits (kept_by old) (statement_of found) judgement (sifted_of keeper)
      → StaysBy old.keeper keeper → FollowsJudged (record old { log = held; keeper = keeper }) judgement again new
      → next.count ≡ count → next.again.items ≡ again
      → Goes old stage.Reading window next new
  judged-goes keeper count event found judgement again next new is gives keeps within judges stays follows count_is again_is known more at =
      let (taken, has) = statement-ended known old held window more count some reading at found
      (subst (λ (e : Option Event). TokenGives old.log window (Ok (count, e)) held) is gives)
      (subst (λ (e : Option Event). StepKeeps old.log window (Ok (count, e)) held) is keeps) in
      let behind = follows known (drop count window ++ more)
      (statement-judged known (record old { log = held }) keeper (statement_of found) judgement (drop count window ++ more) has judges
      stays) in
      behind-goes known old new window more count again next taken within count_is again_is
      (record {
        goes = record {
          course = behind.goes.course;
          same =
              record { rules = behind.goes.same.rules ∙ stays.rules; limits = behind.goes.same.limits; most = behind.goes.same.most };
          no_fewer =
              behind.goes.no_fewer;
        };
        once = behind.once;
      })

-- ---- of a window, and of all the bytes that come next

pub window-goes : {E : Type 0} (old new : Survey) (stage_ : Stage) (rest window : List ℕ) (result : Result Next E) → IsWindowOf rest window
    → IfOk result (λ next. next.count ≤ length window) → IfOk result (λ next. Goes old stage_ window next new)
    → IfOk result (λ next. Goes old stage_ rest next new)
window-goes old new stage_ rest window (Err none) is within goes = tt
window-goes old new stage_ rest window (Ok next) is within goes = λ known more at.
    let behind : List ℕ = is.behind in
    let front : rest ++ more ≡ window ++ (behind ++ more) = ap (λ (l : List ℕ). l ++ more) is.rest_is ∙ append_assoc window behind more in
    let left : drop next.count window ++ (behind ++ more) ≡ drop next.count rest ++ more = behind-front next.count window behind more within
    ∙ ap (λ (l : List ℕ). drop next.count l ++ more) (sym is.rest_is) in
    subst (λ (l : List ℕ). GoesFurther known old new (rest ++ more) (next.again.items ++ l)) left
    (subst (λ (l : List ℕ). GoesFurther known old new l (next.again.items ++ (drop next.count window ++ (behind ++ more)))) (sym front)
    (goes known (behind ++ more) (subst (λ (l : List ℕ). IsInStage known old stage_ l) front at)))
