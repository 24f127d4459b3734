-- The loops of the walk.
use Rattle.std.proofs.Common.{◌≡◌, ◌⊎◌, ◌≤◌, ◌<◌, ◌+◌, ◌-◌, ◌*◌, ◌^◌, ℕ, suc, List, [], ◌++◌, Bool, true, false, length, length-append}
use Rattle.std.proofs.Common.{drop, inl, inr, refl, sym, ap, subst, ◌∙◌, append_assoc, append-nil, arith}
use Rattle.p21_spec_survey.specs.Rules.{Rules}
use Rattle.p21_spec_survey.specs.Survey.{nothing_read}
use Rattle.p21_stream_log.specs.Going.{BeginsAnew}
use Rattle.p21_stream_log.specs.Log.{BeginSo, Known, Logs, at_start}
use Rattle.p21_stream_survey.specs.Course.{Course, Feeds, GoesFurther, GoesTo, IsInStage, IsUnderWay, HasListEnded, ListsWithin, listed_of}
use Rattle.p21_stream_survey.specs.Reading.{HasRead}
use Rattle.p21_stream_survey.specs.Walking.{Goes}
use Rattle.p21_stream_survey.specs.declared.stage.Stage.{Stage}
use Rattle.p21_stream_survey.specs.declared.stage.Stage.TheVariants as stage
use Rattle.p21_stream_survey.specs.declared.survey.Next.{Next}
use Rattle.p21_stream_survey.specs.declared.survey.Survey.{Survey}
use Rattle.p21_stream_survey.specs.Keeping.{rules_by, kept_by, IsSoundKeeper}

-- ---- the beginning

abbrev IsAllOrFront : Bool → List ℕ → List ℕ → Type 0
IsAllOrFront is_all bytes file = elim is_all [ true ↦ file ≡ bytes | false ↦ (rest : List ℕ) × (file ≡ bytes ++ rest) ]

front-of : (is_all : Bool) (bytes file : List ℕ) → IsAllOrFront is_all bytes file → (rest : List ℕ) × (file ≡ bytes ++ rest)
front-of true bytes file is = ([], is ∙ sym (append-nil bytes))
front-of false bytes file is = is

begins-so : (known : Known) → BeginSo known known.bytes
begins-so known file of = front-of known.is_all known.bytes file of.1

pub begins-course : (known : Known) (survey : Survey)
    → ((s : Rules) (k : Known) (ahead : List ℕ) → BeginSo k ahead → Logs s survey.limits k survey.log (at_start ahead))
    → BeginsAnew 0 survey.log → HasRead (rules_by survey) survey.limits nothing_read (kept_by survey) survey.listing
    → length survey.listing.list.items ≡ 0 → 0 < survey.most → survey.limits.file_source < 2 ^ 64 → IsSoundKeeper survey.keeper
    → length known.bytes < 2 ^ 64 → IsInStage known survey stage.Reading known.bytes
begins-course known survey logs anew has none some limited keeper few =
    let start = anew.start in
    let size = ap length anew.buffer in
    record {
      sound = record { few = few; limited = limited; keeper = keeper };
      within = omega (arith, none, some);
      is_at = record {
        point = at_start known.bytes;
        stands = record { logs = logs (rules_by survey) known known.bytes (begins-so known); has = has };
        between = refl;
        ahead_are = refl;
        seen_at = tt;
        counted = omega (arith, start, size);
      };
    }

-- ---- one call behind another

pub goes-on : (known : Known) (old middle new : Survey) (between ahead : List ℕ) → GoesTo known old middle between
    → GoesTo known middle new ahead → GoesTo known old new ahead
goes-on known old middle new between ahead first second =
    let one = first.no_fewer in
    let two = second.no_fewer in
    record {
      course = second.course;
      same = record {
        rules = second.same.rules ∙ first.same.rules;
        limits = second.same.limits
            ∙ first.same.limits;
        most = second.same.most ∙ first.same.most;
      };
      no_fewer = omega (arith, one, two);
    }

pub stays-there : (known : Known) (survey : Survey) (ahead : List ℕ) → Course known survey ahead → GoesTo known survey survey ahead
stays-there known survey ahead course = record {
  course = course;
  same = record { rules = refl; limits = refl; most = refl };
  no_fewer =
      omega arith;
}

-- what is left to do: refusals that may be listed, and bytes
abbrev pub left_in : Stage → ℕ → ℕ
left_in stage.Reading left = suc left
left_in (stage.Seeking sought) left = suc left
left_in (stage.Waiting unlisted) left = suc left
left_in (stage.Ended extent) left = 0

abbrev pub left_to_do : Survey → ℕ → ℕ
left_to_do survey size = left_in survey.stage ((survey.most - listed_of survey) * 2 ^ 64 + size)

left-open : (st : Stage) (left : ℕ) → ¬ HasListEnded st → left_in st left ≡ suc left
left-open stage.Reading left open_ = refl
left-open (stage.Seeking sought) left open_ = refl
left-open (stage.Waiting unlisted) left open_ = refl
left-open (stage.Ended extent) left open_ = absurd (open_ tt)

left-most : (st : Stage) (left : ℕ) → left_in st left ≤ suc left
left-most stage.Reading left = omega arith
left-most (stage.Seeking sought) left = omega arith
left-most (stage.Waiting unlisted) left = omega arith
left-most (stage.Ended extent) left = omega arith

-- the list has ended, or the bytes that come next are among those that are known
ahead-few : (known : Known) (survey : Survey) (st : Stage) (ahead : List ℕ) → IsInStage known survey st ahead → HasListEnded st
    ⊎ (length ahead < 2 ^ 64)
ahead-few known survey stage.Reading ahead at = inr
    (let few = at.sound.few in let counted = at.is_at.counted in omega (arith, few, counted))
ahead-few known survey (stage.Seeking sought) ahead at =
    inr (let few = at.sound.few in let counted = at.is_at.counted in omega (arith, few, counted))
ahead-few known survey (stage.Waiting unlisted) ahead at =
    inr (let few = at.sound.few in let counted = at.is_at.counted in omega (arith, few, counted))
ahead-few known survey (stage.Ended extent) ahead at = inl tt

left-none : (st : Stage) (left : ℕ) → HasListEnded st → left_in st left ≡ 0
left-none stage.Reading left over = absurd over
left-none (stage.Seeking sought) left over = absurd over
left-none (stage.Waiting unlisted) left over = absurd over
left-none (stage.Ended extent) left over = refl

lists-within : (most listed : ℕ) (stage_ : Stage) → ListsWithin most listed stage_ → listed ≤ most
lists-within most listed stage.Reading within = omega (arith, within)
lists-within most listed (stage.Seeking sought) within = omega (arith, within)
lists-within most listed (stage.Waiting unlisted) within = omega (arith, within)
lists-within most listed (stage.Ended extent) within = within.1

-- it gets less with each call
pub less-left : (known : Known) (old new : Survey) (before ahead : List ℕ) (size left more : ℕ) → ¬ HasListEnded old.stage
    → Course known old before → GoesFurther known old new before ahead → length before ≡ size + more → length ahead ≡ left + more
    → left_to_do new left < left_to_do old size
less-left known old new before ahead size left more open_ course goes before_is ahead_is =
    let most = goes.goes.same.most in
    let fewer = goes.goes.no_fewer in
    let one = lists-within old.most (listed_of old) old.stage course.within in
    let two = lists-within new.most (listed_of new) new.stage goes.goes.course.within in
    let here = left-open old.stage ((old.most - listed_of old) * 2 ^ 64 + size) open_ in
    let there = left-most new.stage ((new.most - listed_of new) * 2 ^ 64 + left) in
    by goes.further (ahead-few known new new.stage ahead goes.goes.course) most fewer one two here there
  where
    by : (listed_of old < listed_of new) ⊎ (length ahead < length before) → HasListEnded new.stage ⊎ (length ahead < 2 ^ 64)
        → new.most ≡ old.most → listed_of old ≤ listed_of new → listed_of old ≤ old.most → listed_of new ≤ new.most
        → left_to_do old size ≡ suc ((old.most - listed_of old) * 2 ^ 64 + size)
        → left_to_do new left ≤ suc ((new.most - listed_of new) * 2 ^ 64 + left) → left_to_do new left < left_to_do old size
    by which (inl over) most fewer one two here there = let none = left-none new.stage ((new.most - listed_of new) * 2 ^ 64 + left) over in
        omega (arith, none, here)
    by (inl listed) (inr low) most fewer one two here there = omega (arith, listed, most, one, two, low, ahead_is, here, there)
    by (inr shorter) (inr low) most fewer one two here there =
        omega (arith, shorter, most, fewer, one, two, before_is, ahead_is, here, there)

-- what is read again is read
pub further-on : (known : Known) (old middle new : Survey) (before again ahead : List ℕ)
    → GoesFurther known old middle before (again ++ ahead) → Feeds middle again new → GoesFurther known old new before ahead
further-on known old middle new before again ahead goes feeds =
    let second = feeds known ahead goes.goes.course in
    let fewer = second.no_fewer in
    let sum = length-append again ahead in
    record {
      goes = goes-on known old middle new (again ++ ahead) ahead goes.goes second;
      further = elim goes.further [
        | inl listed ↦ inl (omega (arith, listed, fewer))
        | inr shorter ↦ inr (omega (arith, shorter, sum))
      ];
    }

-- ---- on the way through some bytes

-- what a survey gives behind the rest it gives behind all of them
pub record IsOnWay (first : Survey) (bytes : List ℕ) (survey : Survey) (rest : List ℕ) : Type 0 where
  pub under_way : IsUnderWay survey survey.stage rest
  pub goes : (known : Known) (more : List ℕ) → Course known first (bytes ++ more) → GoesTo known first survey (rest ++ more)

pub way-first : (first : Survey) (bytes : List ℕ) → IsUnderWay first first.stage bytes → IsOnWay first bytes first bytes
way-first first bytes way = record { under_way = way; goes = λ known more course. stays-there known first (bytes ++ more) course }

-- behind a call that reads some again
pub way-again : (first now new : Survey) (bytes rest : List ℕ) (next : Next) → IsOnWay first bytes now rest
    → Goes now now.stage rest next new → IsOnWay first bytes new (next.again.items ++ drop next.count rest)
way-again first now new bytes rest next way goes =
    let (known, more, at) = way.under_way in
    let again : List ℕ = next.again.items in
    let left : List ℕ = drop next.count rest in
    record {
      under_way = (
        known,
        more,
        subst (λ (l : List ℕ). Course known new l) (sym (append_assoc again left more))
            (goes known more at).goes.course,
      );
      goes = λ k m course.
          let before = way.goes k m course in
          let behind = (goes k m before.course).goes in
          subst (λ (l : List ℕ). GoesTo k first new l) (sym (append_assoc again left m))
          (goes-on k first now new (rest ++ m) (again ++ (left ++ m)) before behind);
    }

pub less-again : (first now new : Survey) (bytes rest : List ℕ) (next : Next) (size : ℕ) → ¬ HasListEnded now.stage
    → IsOnWay first bytes now rest → Goes now now.stage rest next new → size ≡ length (next.again.items ++ drop next.count rest)
    → left_to_do new size < left_to_do now (length rest)
less-again first now new bytes rest next size open_ way goes size_is =
    let (known, more, at) = way.under_way in
    let one = length-append rest more in
    let two = length-append next.again.items (drop next.count rest ++ more) in
    let three = length-append (drop next.count rest) more in
    let four = length-append next.again.items (drop next.count rest) in
    less-left known now new (rest ++ more) (next.again.items ++ (drop next.count rest ++ more)) (length rest) size (length more) open_ at
    (goes known more at) one (omega (arith, two, three, four, size_is))

-- and behind one that read them
pub way-read : (first now middle new : Survey) (bytes rest : List ℕ) (next : Next) → IsOnWay first bytes now rest
    → Goes now now.stage rest next middle → Feeds middle next.again.items new → IsOnWay first bytes new (drop next.count rest)
way-read first now middle new bytes rest next way goes feeds =
    let (known, more, at) = way.under_way in
    let left : List ℕ = drop next.count rest in
    record {
      under_way = (known, more, (feeds known (left ++ more) (goes known more at).goes.course).course);
      goes = λ k m course.
          let before = way.goes k m course in
          let behind = (goes k m before.course).goes in
          goes-on k first now new (rest ++ m) (left ++ m) before
          (goes-on k now middle new (next.again.items ++ (left ++ m)) (left ++ m) behind (feeds k (left ++ m) behind.course));
    }

pub less-read : (first now middle new : Survey) (bytes rest : List ℕ) (next : Next) → ¬ HasListEnded now.stage
    → IsOnWay first bytes now rest → Goes now now.stage rest next middle → Feeds middle next.again.items new
    → left_to_do new (length (drop next.count rest)) < left_to_do now (length rest)
less-read first now middle new bytes rest next open_ way goes feeds =
    let (known, more, at) = way.under_way in
    let left : List ℕ = drop next.count rest in
    let further = further-on known now middle new (rest ++ more) next.again.items (left ++ more) (goes known more at) feeds in
    less-left known now new (rest ++ more) (left ++ more) (length rest) (length left) (length more) open_ at further
    (length-append rest more) (length-append left more)

-- ---- the end of the bytes, or of the list

pub way-empty : (first now : Survey) (bytes rest : List ℕ) → IsOnWay first bytes now rest → rest ≡ [] → Feeds first bytes now
way-empty first now bytes rest way none known more course =
    subst (λ (l : List ℕ). GoesTo known first now (l ++ more)) none (way.goes known more course)

pub ended-anywhere : (known : Known) (survey : Survey) (stage_ : Stage) (ahead other : List ℕ) → HasListEnded stage_
    → IsInStage known survey stage_ ahead → IsInStage known survey stage_ other
ended-anywhere known survey stage.Reading ahead other over at = absurd over
ended-anywhere known survey (stage.Seeking sought) ahead other over at = absurd over
ended-anywhere known survey (stage.Waiting unlisted) ahead other over at = absurd over
ended-anywhere known survey (stage.Ended extent) ahead other over at = record { sound = at.sound; within = at.within; is_at = at.is_at }

pub way-ended : (first now : Survey) (bytes rest : List ℕ) → IsOnWay first bytes now rest → HasListEnded now.stage → Feeds first bytes now
way-ended first now bytes rest way over known more course =
    let goes = way.goes known more course in
    record { course = ended-anywhere known now now.stage (rest ++ more) more over goes.course; same = goes.same; no_fewer = goes.no_fewer }
