-- Instances that are taken straight from their bytes.
use Rattle.std.proofs.Common.{◌≡◌, ◌<◌, ◌≤◌, ◌+◌, ℕ, List, [], ◌∷◌, ◌++◌, length, take, drop, Result, Ok, Err, IfOk, true, inl, inr, refl}
use Rattle.std.proofs.Common.{sym, ap, subst, ◌∙◌, append_assoc, arith}
use Rattle.std.proofs.lemmas.List.{drop-drop, take-append-drop}
use Rattle.p21_spec_exchange.specs.Statement.{Statement, instance}
use Rattle.p21_stream_log.specs.Log as log
use Rattle.p21_stream_log.specs.Log.{Keeps, Known, PassGives, behind_passed}
use Rattle.p21_stream_statements.specs.declared.fault.Fault.{Fault}
use Rattle.p21_stream_survey.proofs.Ahead.{counts-on}
use Rattle.p21_stream_survey.proofs.Feeding.{goes-on}
use Rattle.p21_stream_survey.proofs.Onward.{goes-through}
use Rattle.p21_stream_survey.proofs.Tokens.{behind-goes, statement-follows, statement-judged}
use Rattle.p21_stream_survey.specs.Course.{GoesFurther, IsAt, GoesTo, IsInStage, IsUnderWay, listed_of}
use Rattle.p21_stream_survey.specs.Judging.{Follows, JudgeGives}
use Rattle.p21_stream_survey.specs.Taking.{OnlyPrepares, FollowsInstances, IsFirstInstance}
use Rattle.p21_stream_survey.specs.Walking.{FollowsJudged, Goes, HasStatement, IsJudged}
use Rattle.p21_stream_survey.specs.declared.judging.Judgement.{Judgement}
use Rattle.p21_stream_survey.specs.declared.stage.Stage.{Stage}
use Rattle.p21_stream_survey.specs.declared.stage.Stage.TheVariants as stage
use Rattle.p21_stream_survey.specs.declared.survey.Next.{Next}
use Rattle.p21_stream_survey.specs.declared.survey.Survey.{Survey}
use Rattle.p21_spec_exchange.specs.Record.{Record}
use Rattle.p21_stream_survey.specs.declared.keeper.Keeper.{Keeper}
use Rattle.p21_spec_survey.specs.Rules.{Rules}
use Rattle.p21_stream_survey.specs.Keeping.{kept_by, rules_by, sifted_of, StaysBy}
use Rattle.p21_stream_survey.specs.Sifted.{Sifted}

-- ---- an instance that is taken

module _ (old : Survey) (held : log.Held) (rest : List ℕ) (count n : ℕ) (record_ : Record) (reading : old.stage ≡ stage.Reading)
    (first : IsFirstInstance rest count n record_) (gives : PassGives old.log (take count rest) true held)
    (keeps : Keeps old.log (take count rest) held) where
  abbrev passed : Survey
  passed = record old { log = held }

  abbrev one : Statement
  one = instance n record_

  -- it has ended behind its bytes
  instance-ended : (known : Known) (more : List ℕ) → IsInStage known old stage.Reading (rest ++ more)
      → HasStatement known passed (kept_by old) one (drop count rest ++ more)
  instance-ended known more at =
      let r = at.is_at in
      let front : List ℕ = old.log.buffer in
      let behind : List ℕ = drop count rest ++ more in
      let whole : rest ++ more ≡ take count rest ++ behind =
      ap (λ (l : List ℕ). l ++ more) (sym (take-append-drop count rest)) ∙ append_assoc (take count rest) (drop count rest) more in
      let logs = gives (rules_by old) old.limits known r.point behind n record_ r.stands.logs r.between (r.ahead_are ∙ whole) first.are in
      let last = ap (λ (l : List ℕ). front ++ l) first.ends ∙ sym (append_assoc front first.front (59 ∷ [])) in
      let size = length known.bytes in
      record {
        sound = record { few = at.sound.few; limited = at.sound.limited; keeper = at.sound.keeper };
        reading = reading;
        fewer = at.within;
        point = behind_passed r.point n record_ behind;
        stands = record { logs = logs; has = r.stands.has };
        ended = record { ended = refl; ends = (front ++ first.front, keeps.buffer ∙ last) };
        ahead_are = refl;
        seen_at = tt;
        counted = counts-on old.log.start held.start size count front held.buffer rest more keeps.start keeps.buffer r.counted;
      }

  instance-follows : IsUnderWay old stage.Reading rest → Follows (rules_by old) old.limits (kept_by old) one
  instance-follows (known, more, at) = statement-follows known passed one (drop count rest ++ more) (instance-ended known more at)

  module _ (keeper : Keeper) (judgement : Result Judgement Fault)
      (judges : JudgeGives (rules_by old) old.limits (kept_by old) one judgement (sifted_of keeper)) (stays : StaysBy old.keeper keeper) where
    abbrev judged : Survey
    judged = record passed { keeper = keeper }

    instance-judged : (known : Known) (more : List ℕ) → IsInStage known old stage.Reading (rest ++ more)
        → IsJudged known judged judgement (drop count rest ++ more)
    instance-judged known more at =
        statement-judged known passed keeper one judgement (drop count rest ++ more) (instance-ended known more at) judges stays

    pub judged-follows : IsUnderWay old stage.Reading rest → (known : Known) × (ahead : List ℕ) × IsJudged known judged judgement ahead
    judged-follows (known, more, at) = (known, drop count rest ++ more, instance-judged known more at)

    -- what is done with it is done behind its bytes
    pub taken-goes : (again : List ℕ) (next : Next) (new : Survey) → 0 < count → count ≤ length rest
        → FollowsJudged judged judgement again new → next.count ≡ count → next.again.items ≡ again → Goes old stage.Reading rest next new
    taken-goes again next new some within follows count_is again_is known more at =
        let ahead : List ℕ = drop count rest ++ more in
        let behind = follows known ahead (instance-judged known more at) in
        behind-goes known old new rest more count again next some within count_is again_is
        (record {
          goes = goes-through known old judged new (again ++ ahead) stays.rules refl refl (omega arith) behind.goes;
          once = behind.once;
        })

-- whichever it is
pub instances-follow : (old : Survey) (rest : List ℕ) → old.stage ≡ stage.Reading → IsUnderWay old stage.Reading rest
    → FollowsInstances old.keeper old.limits old.log rest
instances-follow old rest reading way next count n record_ first gives keeps =
    instance-follows old next rest count n record_ reading first gives keeps way

-- ---- where none is taken

pub prepares : (old : Survey) (keeper : Keeper) (held : log.Held) → held ≡ old.log → StaysBy old.keeper keeper
    → sifted_of keeper ≡ kept_by old → OnlyPrepares old (record old { keeper = keeper; log = held })
prepares old keeper held same stays kept = record {
  same = ap (λ (h : log.Held). record old { keeper = keeper; log = h }) same;
  stays = stays;
  kept = kept;
}

module _ (old new : Survey) (only : OnlyPrepares old new) where
  abbrev prepared : Survey
  prepared = record old { keeper = new.keeper }

  pub prepared-stage : (stage_ : Stage) → old.stage ≡ stage_ → new.stage ≡ stage_
  prepared-stage stage_ is = ap (λ (survey : Survey). survey.stage) only.same ∙ is

  -- a survey is as far as before
  prepared-at : (known : Known) (stage_ : Stage) (ahead : List ℕ) → IsInStage known old stage_ ahead → IsInStage known new stage_ ahead
  prepared-at known stage_ ahead at =
      let sound = at.sound in
      subst (λ (survey : Survey). IsInStage known survey stage_ ahead) (sym only.same)
      (record {
        sound = record { few = sound.few; limited = sound.limited; keeper = only.stays.sound sound.keeper };
        within = at.within;
        is_at = subst (λ (s : Rules). IsAt s old.limits known old.log (kept_by new) old.listing stage_ ahead) (sym only.stays.rules)
            (subst (λ (k : Sifted). IsAt (rules_by old) old.limits known old.log k old.listing stage_ ahead) (sym only.kept) at.is_at);
      })

  pub prepared-way : (stage_ : Stage) (rest : List ℕ) → IsUnderWay old stage_ rest → IsUnderWay new stage_ rest
  prepared-way stage_ rest (known, more, at) = (known, more, prepared-at known stage_ (rest ++ more) at)

  -- and goes on as from there
  pub prepared-goes : {E : Type 0} (last : Survey) (stage_ : Stage) (rest : List ℕ) (result : Result Next E)
      → IfOk result (λ next. Goes new stage_ rest next last) → IfOk result (λ next. Goes old stage_ rest next last)
  prepared-goes last stage_ rest (Err want) goes = tt
  prepared-goes last stage_ rest (Ok next) goes = λ known more at.
      let ahead : List ℕ = next.again.items ++ (drop next.count rest ++ more) in
      let on : GoesFurther known prepared last (rest ++ more) ahead =
      subst (λ (survey : Survey). GoesFurther known survey last (rest ++ more) ahead) only.same
      (goes known more (prepared-at known stage_ (rest ++ more) at)) in
      record { goes = goes-through known old prepared last ahead only.stays.rules refl refl (omega arith) on.goes; further = on.further }

  -- so it is behind some bytes
  pub prepared-behind : (first : Survey) (rest : List ℕ) (next : Next) → Goes first stage.Reading rest next old
      → Goes first stage.Reading rest next new
  prepared-behind first rest next goes known more at =
      let on = goes known more at in
      let ahead : List ℕ = next.again.items ++ (drop next.count rest ++ more) in
      let there : IsInStage known new old.stage ahead = prepared-at known old.stage ahead on.goes.course in
      let listed : listed_of new ≡ listed_of old = ap (λ (survey : Survey). listed_of survey) only.same in
      let fewer = on.goes.no_fewer in
      record {
        goes = record {
          course = subst (λ (st : Stage). IsInStage known new st ahead) (sym (prepared-stage old.stage refl)) there;
          same = record {
            rules = only.stays.rules ∙ on.goes.same.rules;
            limits = ap (λ (survey : Survey). survey.limits) only.same ∙ on.goes.same.limits;
            most = ap (λ (survey : Survey). survey.most) only.same ∙ on.goes.same.most;
          };
          no_fewer = omega (arith, fewer, listed);
        };
        further = elim on.further [
          | inl more_listed ↦ inl (omega (arith, more_listed, listed))
          | inr shorter ↦ inr shorter
        ];
      }

-- ---- one behind the other

-- instances are taken of so many bytes
pub record AreTaken (first : Survey) (rest : List ℕ) (now : Survey) (next : Next) : Type 0 where
  pub within : next.count ≤ length rest
  pub goes : Goes first stage.Reading rest next now

module _ (first now : Survey) (rest : List ℕ) (next : Next) (goes : Goes first stage.Reading rest next now)
    (reading : now.stage ≡ stage.Reading) (none : next.again.items ≡ []) where
  -- what comes behind these is read
  behind-these : (known : Known) (more : List ℕ) → IsInStage known first stage.Reading (rest ++ more)
      → IsInStage known now stage.Reading (drop next.count rest ++ more)
  behind-these known more at =
      let behind : List ℕ = drop next.count rest ++ more in
      subst (λ (st : Stage). IsInStage known now st behind) reading
      (subst (λ (l : List ℕ). IsInStage known now now.stage (l ++ behind)) none (goes known more at).goes.course)

  pub behind-way : IsUnderWay first stage.Reading rest → IsUnderWay now stage.Reading (drop next.count rest)
  behind-way (known, more, at) = (known, more, behind-these known more at)

  -- and one that is taken there is taken with them
  pub taken-further : (new : Survey) (behind both : Next) → Goes now stage.Reading (drop next.count rest) behind new
      → both.count ≡ next.count + behind.count → both.again.items ≡ behind.again.items → Goes first stage.Reading rest both new
  taken-further new behind both further count_is again_is known more at =
      let one = goes known more at in
      let two = further known more (behind-these known more at) in
      let between : List ℕ = drop next.count rest ++ more in
      let left : List ℕ = drop behind.count (drop next.count rest) in
      let left_is : left ≡ drop both.count rest = drop-drop behind.count next.count rest ∙ ap (λ (k : ℕ). drop k rest) (sym count_is) in
      let ahead : behind.again.items ++ (left ++ more) ≡ both.again.items ++ (drop both.count rest ++ more) =
      ap (λ (l : List ℕ). l ++ (left ++ more)) (sym again_is) ∙ ap (λ (l : List ℕ). both.again.items ++ (l ++ more)) left_is in
      let here : GoesTo known first now between = subst (λ (l : List ℕ). GoesTo known first now (l ++ between)) none one.goes in
      let size : length (next.again.items ++ between) ≡ length between = ap (λ (l : List ℕ). length (l ++ between)) none in
      let no_fewer = one.goes.no_fewer in
      let no_fewer_behind = two.goes.no_fewer in
      subst (λ (l : List ℕ). GoesFurther known first new (rest ++ more) l) ahead
      (record {
        goes = goes-on known first now new between (behind.again.items ++ (left ++ more)) here two.goes;
        further = elim one.further [
          | inl listed ↦ inl (omega (arith, listed, no_fewer_behind))
          | inr shorter ↦ elim two.further [
            | inl listed ↦ inl (omega (arith, listed, no_fewer))
            | inr less ↦ inr (omega (arith, shorter, size, less))
          ]
        ];
      })
