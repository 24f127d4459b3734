-- The bytes in which a file ends, where no remark ends in them.
use Rattle.std.proofs.Common.{true, Option, Result, IfOk, ◌≡◌, ◌≤◌, ◌<◌, ◌+◌, ◌-◌, ℕ, List, [], ◌++◌, length, take, drop, min, inl, inr}
use Rattle.std.proofs.Common.{refl, sym, ap, subst, ◌∙◌, append_assoc, append-nil, length-append, arith}
use Rattle.std.proofs.lemmas.List.{drop-drop, drop_at, drop_min, take-append-drop}
use Rattle.std.proofs.lemmas.Result.{IfOk-weaker}
use Rattle.p21_spec_basics.proofs.Members.{rest_is}
use Rattle.p21_spec_basics.specs.Limits.{Limits}
use Rattle.p21_spec_survey.specs.Rules.{Rules}
use Rattle.p21_stream_log.specs.Log as log
use Rattle.p21_stream_log.specs.Log.{IsFileOf, Known}
use Rattle.p21_stream_resume.proofs.EndlessRemarks.{none-behind}
use Rattle.p21_stream_resume.specs.Standing.{EndsNoRemark}
use Rattle.p21_stream_survey.specs.Sifted.{Sifted}
use Rattle.p21_stream_statements.specs.StatementReader.{IsSeenAt}
use Rattle.p21_stream_survey.proofs.Feeding.{ended-anywhere, further-on, goes-on, left_to_do, less-left, stays-there}
use Rattle.p21_stream_survey.proofs.LastStage.{goes-ended, goes-reading, none-left}
use Rattle.p21_stream_survey.proofs.Numbers.{reads-of_file}
use Rattle.p21_stream_survey.specs.Course.{AsksTheSame, Course, Feeds, GoesFurther, GoesTo, HasListEnded, IsInStage, IsUnderWay}
use Rattle.p21_stream_survey.specs.Course.{ListsWithin, Reads, listed_of}
use Rattle.p21_stream_survey.specs.Finishing.{CountsEnd}
use Rattle.p21_stream_survey.specs.Kinds.{AreOfFile}
use Rattle.p21_stream_survey.specs.Unended.{EndsUnended, FeedsLast, GoesLast, IsAtLast, IsLast, IsStatementIn, PassesOpen}
use Rattle.p21_stream_survey.specs.Walking.{Goes}
use Rattle.p21_stream_survey.specs.declared.finishing.Ended.TheVariants as at_end
use Rattle.p21_stream_survey.specs.declared.listed.Extent.{Extent}
use Rattle.p21_stream_survey.specs.declared.listing.Listing.{Listing}
use Rattle.p21_stream_survey.specs.declared.stage.Stage.{Stage}
use Rattle.p21_stream_survey.specs.declared.stage.Stage.TheVariants as stage
use Rattle.p21_stream_survey.specs.declared.survey.Next.{Next}
use Rattle.p21_stream_survey.specs.declared.survey.Survey.{Survey}
use Rattle.p21_stream_survey.specs.Keeping.{kept_by, rules_by}

-- ---- the open statement

-- the files end with what is taken of it and what comes next
at-last : (s : Rules) (limits : Limits) (known : Known) (held : log.Held) (sieve : Sifted) (listing : Listing) (ahead statement : List ℕ)
    → known.is_all ≡ true → statement ≡ held.buffer ++ ahead → (reads : Reads s limits known held sieve listing ahead)
    → IsAtLast s limits known held sieve listing reads.point statement
at-last s limits known held sieve listing ahead statement all is reads = record {
  stands = reads.stands;
  between = reads.between;
  to_end = λ file of.
      let front : List ℕ = reads.point.read.bytes in
      let (rest, here) = reads.stands.logs.file_is file of in
      let there : file ≡ front ++ (held.buffer ++ (ahead ++ rest)) =
      subst (λ (l : List ℕ). file ≡ front ++ (held.buffer ++ (l ++ rest))) reads.ahead_are here in
      let whole : file ≡ front ++ (statement ++ rest) =
      there ∙ ap (λ (l : List ℕ). front ++ l) (sym (append_assoc held.buffer ahead rest) ∙ ap (λ (l : List ℕ). l ++ rest) (sym is)) in
      let start = reads.stands.logs.start_is in
      let counted = reads.counted in
      let size = ap length is in
      let sum = length-append held.buffer ahead in
      let none = none-left known file front statement rest all of whole (omega (arith, start, counted, size, sum)) in
      whole ∙ ap (λ (l : List ℕ). front ++ l) (ap (λ (l : List ℕ). statement ++ l) none ∙ append-nil statement);
}

-- it is passed over
pub open-passes : (old new : Survey) (front statement bytes left : List ℕ) (count : ℕ) → front ≡ old.log.buffer
    → statement ≡ front ++ bytes → old.stage ≡ stage.Reading → new.stage ≡ stage.Reading → AsksTheSame old new
    → new.keeper ≡ old.keeper
    → EndsUnended old.limits old.log old.listing front statement (at_end.PassedOver count) new.log new.listing
    → (listed_of old < old.most → CountsEnd old.most (listed_of old) (at_end.PassedOver count) (listed_of new))
    → left ≡ drop count statement → PassesOpen old bytes left new
open-passes old new front statement bytes left count are is reading still same keeper ends counts left_is known all course =
    let in_stage = subst (λ (g : Stage). IsInStage known old g bytes) reading course in
    let reads = in_stage.is_at in
    let whole : statement ≡ old.log.buffer ++ bytes = is ∙ ap (λ (l : List ℕ). l ++ bytes) are in
    let last = at-last (rules_by old) old.limits known old.log (kept_by old) old.listing bytes statement all whole reads in
    let passed = ends (rules_by old) known reads.point (kept_by old) are last in
    let (further, fewer) = counts in_stage.within in
    let size = passed.counted in
    let counted = reads.counted in
    let none = ap length passed.none_open in
    let items = ap length left_is in
    let all_of = ap length whole in
    let sum = length-append old.log.buffer bytes in
    let into = goes-reading known old new left in_stage.sound same keeper fewer (record {
      point = passed.point;
      stands = passed.stands;
      between = passed.between;
      ahead_are = passed.ahead ∙ sym left_is;
      seen_at = subst (λ (o : Option ℕ). IsSeenAt o left 0) (sym passed.unseen) tt;
      counted = omega (arith, size, counted, none, items, all_of, sum);
    }) in (
      record {
        course = subst (λ (g : Stage). IsInStage known new g left) (sym still) into.in_stage;
        same = into.same;
        no_fewer = omega (arith, further);
      },
      inl further,
    )

-- the list ends with it
pub open-ends : (old new : Survey) (front statement bytes : List ℕ) (extent : Extent) → front ≡ old.log.buffer
    → statement ≡ front ++ bytes → old.stage ≡ stage.Reading → new.stage ≡ stage.Ended extent → AsksTheSame old new
    → new.keeper ≡ old.keeper
    → EndsUnended old.limits old.log old.listing front statement (at_end.Listed extent) new.log new.listing
    → (listed_of old < old.most → CountsEnd old.most (listed_of old) (at_end.Listed extent) (listed_of new))
    → listed_of old ≤ listed_of new
    → (AreOfFile old.listing.list.items → AreOfFile new.listing.list.items) → PassesOpen old bytes bytes new
open-ends old new front statement bytes extent are is reading over same keeper ends counts more of_file known all course =
    let in_stage = subst (λ (g : Stage). IsInStage known old g bytes) reading course in
    let reads = in_stage.is_at in
    let whole : statement ≡ old.log.buffer ++ bytes = is ∙ ap (λ (l : List ℕ). l ++ bytes) are in
    let last = at-last (rules_by old) old.limits known old.log (kept_by old) old.listing bytes statement all whole reads in
    let into = goes-ended known old new extent in_stage.sound same keeper
    (subst (λ (most : ℕ). ListsWithin most (listed_of new) (stage.Ended extent)) (sym same.most) (counts in_stage.within))
    (ends (rules_by old) known reads.point (kept_by old) are last)
    (of_file (reads-of_file (rules_by old) old.limits reads.point.read (kept_by old) old.listing reads.stands.has)) in (
      record {
        course = subst (λ (g : Stage). IsInStage known new g bytes) (sym over)
            (ended-anywhere known new (stage.Ended extent) [] bytes tt into.in_stage);
        same = into.same;
        no_fewer = more;
      },
      inr refl,
    )

-- nothing has changed
pub open-stays : (old new : Survey) (bytes : List ℕ) → new ≡ old → PassesOpen old bytes bytes new
open-stays old new bytes same known all course =
    (subst (λ (n : Survey). GoesTo known old n bytes) (sym same) (stays-there known old bytes course), inr refl)

-- ---- a round

-- some are read, and what is to be read again
pub some-read : (old middle new : Survey) (rest : List ℕ) (next : Next) → Goes old old.stage rest next middle
    → Feeds middle next.again.items new → GoesLast old rest (drop next.count rest) new
some-read old middle new rest next goes feeds known all course =
    let left : List ℕ = drop next.count rest in
    let before = subst (λ (l : List ℕ). Course known old l) (sym (append-nil rest)) course in
    let further = further-on known old middle new (rest ++ []) next.again.items (left ++ []) (goes known [] before) feeds in
    subst (λ (l : List ℕ). GoesFurther known old new l left) (append-nil rest)
    (subst (λ (l : List ℕ). GoesFurther known old new (rest ++ []) l) (append-nil left) further)

-- what is to be read again comes next of some file
pub again-next : (old middle : Survey) (rest : List ℕ) (next : Next) → IsLast old rest → Goes old old.stage rest next middle
    → (known : Known) × (more : List ℕ) × Course known middle (next.again.items ++ more)
again-next old middle rest next (known, all, course) goes =
    let before = subst (λ (l : List ℕ). Course known old l) (sym (append-nil rest)) course in
    (known, drop next.count rest ++ [], (goes known [] before).goes.course)

pub under-way : (survey : Survey) (rest : List ℕ) → IsLast survey rest → IsUnderWay survey survey.stage rest
under-way survey rest (known, all, course) = (known, [], subst (λ (l : List ℕ). Course known survey l) (sym (append-nil rest)) course)

-- then the open statement may be passed over
pub open-behind : (old middle new : Survey) (before bytes left : List ℕ) → GoesLast old before bytes middle
    → PassesOpen middle bytes left new → GoesLast old before left new
open-behind old middle new before bytes left goes passes known all course =
    let first = goes known all course in
    let (second, which) = passes known all first.goes.course in
    let fewer = second.no_fewer in
    let one = first.goes.no_fewer in
    record {
      goes = goes-on known old middle new bytes left first.goes second;
      further = elim which [
        | inl listed ↦ inl (omega (arith, listed, one))
        | inr same ↦ elim first.further [
          | inl listed ↦ inl (omega (arith, listed, fewer))
          | inr shorter ↦ inr (subst (λ (l : List ℕ). length l < length before) (sym same) shorter)
        ]
      ];
    }

-- the same of what is behind so many
pub read-on : (old new : Survey) (bytes : List ℕ) (at count : ℕ)
    → GoesLast old (take (length bytes - at) (drop at bytes)) (drop count (take (length bytes - at) (drop at bytes))) new
    → GoesLast old (drop at bytes) (drop (at + count) bytes) new
read-on old new bytes at count goes =
    subst (λ (l : List ℕ). GoesLast old (drop at bytes) l new) (drop-drop count at bytes)
    (subst (λ (l : List ℕ). GoesLast old l (drop count l) new) (rest_is bytes at) goes)

pub open-on : {E : Type 0} (old middle new : Survey) (before ahead bytes : List ℕ) (result : Result ℕ E) → GoesLast old before ahead middle
    → IfOk result (λ behind. PassesOpen middle ahead (drop behind bytes) new)
    → IfOk result (λ behind. GoesLast old before (drop behind bytes) new)
open-on old middle new before ahead bytes result goes passes =
    IfOk-weaker result (λ (behind : ℕ). PassesOpen middle ahead (drop behind bytes) new)
    (λ (behind : ℕ). GoesLast old before (drop behind bytes) new)
    (λ behind own. open-behind old middle new before ahead (drop behind bytes) goes own) passes

-- ---- the rounds

-- so far these are left
pub record IsAlongLast (first : Survey) (bytes : List ℕ) (survey : Survey) (rest : List ℕ) : Type 0 where
  pub last : IsLast survey rest
  pub goes : (known : Known) → known.is_all ≡ true → Course known first bytes → GoesTo known first survey rest

pub along-first : (first : Survey) (bytes : List ℕ) → IsLast first bytes → IsAlongLast first bytes first bytes
along-first first bytes last = record { last = last; goes = λ known all course. stays-there known first bytes course }

pub along-on : (first now new : Survey) (bytes rest left : List ℕ) → IsAlongLast first bytes now rest → GoesLast now rest left new
    → IsAlongLast first bytes new left
along-on first now new bytes rest left along goes =
    let (known, all, course) = along.last in
    record {
      last = (known, all, (goes known all course).goes.course);
      goes = λ k is_all before.
          let here = along.goes k is_all before in
          goes-on k first now new rest left here (goes k is_all here.course).goes;
    }

pub along-less : (first now new : Survey) (bytes rest left : List ℕ) → ¬ HasListEnded now.stage → IsAlongLast first bytes now rest
    → GoesLast now rest left new → left_to_do new (length left) < left_to_do now (length rest)
along-less first now new bytes rest left open_ along goes =
    let (known, all, course) = along.last in
    less-left known now new rest left (length rest) (length left) 0 open_ course (goes known all course) (omega arith) (omega arith)

pub along-all : (first now : Survey) (bytes rest : List ℕ) → IsAlongLast first bytes now rest → rest ≡ [] → FeedsLast first bytes now
along-all first now bytes rest along none known all course =
    subst (λ (l : List ℕ). GoesTo known first now l) none (along.goes known all course)

pub along-ended : (first now : Survey) (bytes rest : List ℕ) → IsAlongLast first bytes now rest → HasListEnded now.stage
    → FeedsLast first bytes now
along-ended first now bytes rest along over known all course =
    let goes = along.goes known all course in
    record { course = ended-anywhere known now now.stage rest [] over goes.course; same = goes.same; no_fewer = goes.no_fewer }

-- those that are fed as others are
pub fed-again : (old new : Survey) (bytes : List ℕ) → Feeds old bytes new → FeedsLast old bytes new
fed-again old new bytes feeds known all course =
    feeds known [] (subst (λ (l : List ℕ). Course known old l) (sym (append-nil bytes)) course)

pub last-next : (survey : Survey) (bytes : List ℕ) → IsLast survey bytes
    → (known : Known) × (more : List ℕ) × Course known survey (bytes ++ more)
last-next survey bytes (known, all, course) = (known, [], subst (λ (l : List ℕ). Course known survey l) (sym (append-nil bytes)) course)

-- ---- places

-- behind so many of the last bytes
pub place-of : (bytes front last : List ℕ) (count : ℕ) → bytes ≡ front ++ last
    → drop (length bytes - length last + min count (length last)) bytes ≡ drop count last
place-of bytes front last count is =
    let sizes = ap length is in
    let sum = length-append front last in
    let at : ℕ = length bytes - length last in
    sym (drop-drop (min count (length last)) at bytes)
    ∙ ap (drop (min count (length last))) (ap (drop at) is ∙ drop_at front last at (omega (arith, sizes, sum))) ∙ drop_min count last

-- the bytes of a statement that are taken stand in front of the others
pub statement-in : (bytes front rest : List ℕ) (at : ℕ) → length front ≤ at → at ≤ length bytes
    → drop (at - length front) bytes ≡ front ++ rest → IsStatementIn bytes at front (drop (at - length front) bytes)
statement-in bytes front rest at low within is =
    let size : ℕ = length front in
    let from : ℕ = at - size in
    let rest_is : rest ≡ drop (from + size) bytes =
    sym (drop_at front rest size refl) ∙ ap (drop size) (sym is) ∙ drop-drop size from bytes in
    let place : from + size ≡ at = omega (arith, low) in
    record {
      before = take from bytes;
      bytes_are = sym (take-append-drop from bytes);
      statement_is = is ∙ ap (λ (l : List ℕ). front ++ l) (rest_is ∙ ap (λ (n : ℕ). drop n bytes) place);
    }

pub none-in : (bytes front statement : List ℕ) (at : ℕ) → EndsNoRemark bytes → IsStatementIn bytes at front statement
    → EndsNoRemark statement
none-in bytes front statement at none is = none-behind is.before statement (subst EndsNoRemark is.bytes_are none)
