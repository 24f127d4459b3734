-- A survey at the end of what is known of its file.
use Rattle.std.proofs.Common.{Bool, true, false, Option, Some, None, ◌≡◌, ◌<◌, ◌+◌, ◌^◌, ℕ, suc, List, [], ◌∷◌, ◌++◌, length, drop, inl}
use Rattle.std.proofs.Common.{inr, refl, sym, ap, subst, ◌∙◌, append-nil, length-append, arith}
use Rattle.std.proofs.lemmas.List.{nil_from_length}
use Rattle.p21_spec_basics.specs.Limits.{Limits}
use Rattle.p21_spec_survey.specs.Rules.{Rules}
use Rattle.p21_spec_survey.specs.Survey.{EndsReading, Reading, at_statement, read_failed}
use Rattle.p21_stream_log.proofs.Endings.{all-passed}
use Rattle.p21_stream_log.specs.Broken.{BeginsIn}
use Rattle.p21_stream_log.specs.Log as log
use Rattle.p21_stream_log.specs.Log.{IsFileOf, Known}
use Rattle.p21_stream_survey.specs.Sifted.{Sifted}
use Rattle.p21_stream_statements.specs.Fault.{fault_number}
use Rattle.p21_stream_statements.specs.StatementReader.{IsSeenAt}
use Rattle.p21_stream_statements.specs.declared.fault.Fault.{Fault}
use Rattle.p21_stream_statements.specs.declared.fault.Fault.TheVariants.{Read}
use Rattle.p21_stream_statements.specs.declared.refusal.At.TheVariants.{Statement}
use Rattle.p21_stream_survey.proofs.AtEnd.{ended-found}
use Rattle.p21_stream_survey.proofs.Numbers.{reads-of_file, reads-with}
use Rattle.p21_stream_survey.specs.Course.{AsksTheSame, Course, GoesTo, IsInStage, IsSound, ListsWithin, Reads, SurveysEach, listed_of}
use Rattle.p21_stream_survey.specs.Ending as ending
use Rattle.p21_stream_survey.specs.Ending.{ListsRead}
use Rattle.p21_stream_survey.specs.Finishing.{CountsEnd, EndsSought, EndsStatement, EndsUnread, FindsAtEnd, InterruptsSought, IsAtEnd}
use Rattle.p21_stream_survey.specs.Finishing.{IsEnded, IsFoundIn, StandsAtEnd}
use Rattle.p21_stream_survey.specs.Found.{FindsAtMost, IsFound}
use Rattle.p21_stream_survey.specs.Kinds.{AreOfFile, AreOfReading, IsOfFile}
use Rattle.p21_stream_survey.specs.ReadOut.{AddsRead, EndsBy, EndsIn, EndsReadOut, EndsStage, FindsAll, FindsIn, GoesInto, Interrupts}
use Rattle.p21_stream_survey.specs.ReadOut.{IsAgain, IsInterrupted, IsReadOut, ListsInterrupted, ReadsAgain, SomeIsReadOut, last_stage}
use Rattle.p21_stream_survey.specs.Unended.{FeedsLast, IsLast}
use Rattle.p21_stream_survey.specs.declared.at_end.AtEnd.{AtEnd}
use Rattle.p21_stream_survey.specs.declared.at_end.AtEnd.TheVariants.{Again, FileEnd, Listed}
use Rattle.p21_stream_survey.specs.declared.finishing.Ended.TheVariants as at_end
use Rattle.p21_stream_survey.specs.declared.listed.Extent.{Extent}
use Rattle.p21_stream_survey.specs.declared.listed.Extent.TheVariants.{Most, ReadTo}
use Rattle.p21_stream_survey.specs.declared.listed.Found.{Found}
use Rattle.p21_stream_survey.specs.declared.listed.Listed as code
use Rattle.p21_stream_survey.specs.declared.listing.Listing.{Listing}
use Rattle.p21_stream_survey.specs.declared.seeking.Sought.{Sought}
use Rattle.p21_stream_survey.specs.declared.stage.Stage.{Stage}
use Rattle.p21_stream_survey.specs.declared.stage.Stage.TheVariants as stage
use Rattle.p21_stream_survey.specs.declared.stage.Unlisted.{Unlisted}
use Rattle.p21_stream_survey.specs.declared.survey.Survey.{Survey}
use Rattle.p21_stream_survey.specs.Keeping.{rules_by, IsSoundKeeper, kept_by, sifted_of}

-- ---- where all is known

-- no byte is looked at where none is ahead
unseen : (o : Option ℕ) → IsSeenAt o [] 0 → o ≡ None
unseen None seen = refl
unseen (Some byte) seen = absurd cc

all-is : (known : Known) (file : List ℕ) → known.is_all ≡ true → IsFileOf known file → file ≡ known.bytes
all-is known file all of = by known.is_all all of
  where
    by : (is_all : Bool) → is_all ≡ true → IsFileOf (record { bytes = known.bytes; is_all = is_all }) file → file ≡ known.bytes
    by true is same = same.1
    by false is other = absurd cc

-- behind as many bytes as are known nothing stands
pub none-left : (known : Known) (file front bytes rest : List ℕ) → known.is_all ≡ true → IsFileOf known file → file ≡ front ++ (bytes ++ rest)
    → length front + length bytes ≡ length known.bytes → rest ≡ []
none-left known file front bytes rest all of is counted =
    let size = ap length (all-is known file all of) in
    let own = ap length is in
    let sum = length-append front (bytes ++ rest) in
    let behind = length-append bytes rest in
    nil_from_length rest (omega (arith, size, own, sum, behind, counted))

-- a survey that reads statements has read all of the files
pub at-end : (s : Rules) (limits : Limits) (known : Known) (held : log.Held) (sieve : Sifted) (listing : Listing) → known.is_all ≡ true
    → (reads : Reads s limits known held sieve listing []) → IsAtEnd s limits known held sieve listing reads.point
at-end s limits known held sieve listing all reads = record {
  stands = reads.stands;
  between = reads.between;
  unseen = unseen reads.point.seen reads.seen_at;
  to_end = λ file of.
      let front : List ℕ = reads.point.read.bytes in
      let (rest, here) = reads.stands.logs.file_is file of in
      let is : file ≡ front ++ (held.buffer ++ rest) = subst (λ (l : List ℕ). file ≡ front ++ (held.buffer ++ (l ++ rest))) reads.ahead_are
      here in
      let start = reads.stands.logs.start_is in
      let counted = reads.counted in
      let none = none-left known file front held.buffer rest all of is (omega (arith, start, counted)) in
      is ∙ ap (λ (l : List ℕ). front ++ l) (ap (λ (l : List ℕ). held.buffer ++ l) none ∙ append-nil held.buffer);
}

-- ---- the list has ended

own-surveys : (known : Known) (old new : Survey) (extent : Extent) → AsksTheSame old new
    → SurveysEach (rules_by old) old.limits known new.listing extent
    → SurveysEach (rules_by new) new.limits known new.listing extent
own-surveys known old new extent same surveys =
    subst (λ (s : Rules). SurveysEach s new.limits known new.listing extent) (sym same.rules)
    (subst (λ (l : Limits). SurveysEach (rules_by old) l known new.listing extent) (sym same.limits) surveys)

-- whatever is listed
ends-in : (known : Known) (old new : Survey) (extent : Extent) → AsksTheSame old new
    → ListsWithin new.most (listed_of new) (stage.Ended extent)
    → SurveysEach (rules_by old) old.limits known new.listing extent → EndsIn known old new extent
ends-in known old new extent same within surveys =
    record { same = same; within = within; surveys = own-surveys known old new extent same surveys }

pub goes-ended : (known : Known) (old new : Survey) (extent : Extent) → IsSound known old → AsksTheSame old new
    → new.keeper ≡ old.keeper → ListsWithin new.most (listed_of new) (stage.Ended extent)
    → SurveysEach (rules_by old) old.limits known new.listing extent → AreOfFile new.listing.list.items
    → GoesInto known old new (stage.Ended extent) []
goes-ended known old new extent sound same keeper within surveys of_file = record {
  in_stage = record {
    sound = record {
      few = sound.few;
      limited = subst (λ (l : Limits). l.file_source < 2 ^ 64) (sym same.limits) sound.limited;
      keeper = subst IsSoundKeeper (sym keeper) sound.keeper;
    };
    within = within;
    is_at = record { surveys = own-surveys known old new extent same surveys; of_file = of_file };
  };
  same = same;
}

-- with one refusal more, behind which nothing is read
counted-end : (most before behind begins : ℕ) (extent : Extent) → before < most → behind ≡ suc before → extent ≡ ReadTo begins
    → ListsWithin most behind (stage.Ended extent)
counted-end most before behind begins extent fewer one read =
    (omega (arith, one), omega (arith, one, fewer), λ is. absurd (let clash : Most ≡ ReadTo begins = sym is ∙ read in cc))

own-most : (old new : Survey) (listed : ℕ) (extent : Extent) → AsksTheSame old new → ListsWithin old.most listed (stage.Ended extent)
    → ListsWithin new.most listed (stage.Ended extent)
own-most old new listed extent same within = subst (λ (most : ℕ). ListsWithin most listed (stage.Ended extent)) (sym same.most) within

-- with the statement in which a read failed
pub unread-ends : (old new : Survey) (bytes : List ℕ) (extent : Extent) → bytes ≡ old.log.buffer → AsksTheSame old new
    → EndsUnread old.limits old.log old.listing bytes extent new.listing → (begins : ℕ) × (extent ≡ ReadTo begins)
    → listed_of new ≡ suc (listed_of old) → Interrupts old stage.Reading extent new
unread-ends old new bytes extent are same ends (begins, read) one known out =
    let reads = out.in_stage.is_at in
    let end = at-end (rules_by old) old.limits known old.log (kept_by old) old.listing out.all reads in
    ends-in known old new extent same (own-most old new (listed_of new) extent same
    (counted-end old.most (listed_of old) (listed_of new) begins extent out.in_stage.within one read))
    (ends (rules_by old) known reads.point (kept_by old) are reads.stands end.to_end)

-- with a stretch behind which no landmark came
pub sought-ends : (old new : Survey) (sought : Sought) (extent : Extent) → AsksTheSame old new → new.keeper ≡ old.keeper → EndsSought old.listing sought.stretch.fault sought.stretch.begins extent new.listing
    → extent ≡ ReadTo sought.stretch.begins
    → listed_of new ≡ suc (listed_of old) → new.listing.list.items ≡ old.listing.list.items
    ++ record { fault = sought.stretch.fault; at = Statement old.listing.statement; begins = sought.stretch.begins } ∷ []
    → EndsBy old (stage.Seeking sought) extent new
sought-ends old new sought extent same keeper ends read one list known out =
    let seeks = out.in_stage.is_at in
    let within = out.in_stage.within in
    let taken = seeks.is_sought.taken_is in
    let counted = seeks.counted in
    let to_end = all-passed (rules_by old) old.limits known seeks.point old.log seeks.statement seeks.behind []
    (fault_number sought.stretch.fault) (at_statement (suc seeks.point.read.count)) sought.stretch.begins seeks.is_sought.broken
    (out.all, omega (arith, taken, counted)) in
    goes-ended known old new extent out.in_stage.sound same keeper
    (own-most old new (listed_of new) extent same (counted-end old.most (listed_of old) (listed_of new) sought.stretch.begins extent
    (omega (arith, within)) one read))
    (ends (rules_by old) old.limits known seeks.point old.log seeks.statement seeks.behind sought.stretch.taken sought.seeker
    (kept_by old) seeks.is_sought to_end seeks.has)
    (subst AreOfFile (sym list) (reads-with (rules_by old) old.limits seeks.point.read (kept_by old) old.listing seeks.has
    (record { fault = sought.stretch.fault; at = Statement old.listing.statement; begins = sought.stretch.begins })
    seeks.is_sought.of_file))

-- with a stretch and a read that failed
pub interrupted-ends : (old new : Survey) (sought : Sought) (extent : Extent) → AsksTheSame old new
    → InterruptsSought old.listing sought.stretch.fault sought.stretch.begins extent new.listing → extent ≡ ReadTo sought.stretch.begins
    → listed_of new ≡ suc (suc (listed_of old)) → Interrupts old (stage.Seeking sought) extent new
interrupted-ends old new sought extent same ends read two known out =
    let seeks = out.in_stage.is_at in
    ends-in known old new extent same (own-most old new (listed_of new) extent same
    (counted-end old.most (suc (listed_of old)) (listed_of new) sought.stretch.begins extent out.in_stage.within two read))
    (ends (rules_by old) old.limits known seeks.point old.log seeks.statement seeks.behind [] sought.stretch.taken sought.seeker
    (kept_by old) seeks.is_sought seeks.has)

-- with a refusal of a statement that wasn't listed yet, which ends the reading where the other one does
waiting-surveys : (known : Known) (old new : Survey) (unlisted : Unlisted) (fault : Fault) (begins : ℕ) (extent : Extent)
    → ((s : Rules) (limits : Limits) (file : List ℕ) (read : Reading)
    → EndsReading s limits file read (fault_number unlisted.fault) (at_statement (suc read.count))
    → EndsReading s limits file read (fault_number fault) (at_statement (suc read.count)))
    → BeginsIn old.log unlisted.bytes.items begins
    → ending.EndsBy old.listing fault (Statement old.listing.statement) begins extent new.listing
    → IsReadOut known old (stage.Waiting unlisted)
    → SurveysEach (rules_by old) old.limits known new.listing extent
waiting-surveys known old new unlisted fault begins extent by begins_in ends out file of =
    let waits = out.in_stage.is_at in
    let few = out.in_stage.sound.few in
    let counted = waits.counted in
    let start = waits.start_is in
    let sum = length-append waits.read.bytes unlisted.bytes.items in
    let (rest, here) = waits.file_is file of in
    let none = none-left known file waits.read.bytes unlisted.bytes.items rest out.all of here (omega (arith, start, counted)) in
    ends (rules_by old) old.limits file waits.read waits.sieve
    (record {
      is_read = waits.is_read file of;
      has = waits.has;
      begins_at =
          begins_in file rest waits.read start (omega (arith, few, counted, start, sum)) here (inr none);
    })
    (subst (λ (n : ℕ). EndsReading (rules_by old) old.limits file waits.read (fault_number fault) (at_statement n)) (sym waits.has.counted)
    (by (rules_by old) old.limits file waits.read (waits.ends file of)))

-- with that refusal
pub unlisted-ends : (old new : Survey) (unlisted : Unlisted) (begins : ℕ) (extent : Extent) → AsksTheSame old new
    → new.keeper ≡ old.keeper → BeginsIn old.log unlisted.bytes.items begins
    → ending.EndsBy old.listing unlisted.fault (Statement old.listing.statement) begins extent new.listing → extent ≡ ReadTo begins
    → listed_of new ≡ suc (listed_of old)
    → new.listing.list.items ≡ old.listing.list.items ++ record {
      fault = unlisted.fault;
      at = Statement old.listing.statement;
      begins =
          begins;
    } ∷ []
    → EndsBy old (stage.Waiting unlisted) extent new
unlisted-ends old new unlisted begins extent same keeper begins_in ends read one list known out =
    let waits = out.in_stage.is_at in
    goes-ended known old new extent out.in_stage.sound same keeper
    (own-most old new (listed_of new) extent same (counted-end old.most (listed_of old) (listed_of new) begins extent out.in_stage.within
    one read))
    (waiting-surveys known old new unlisted unlisted.fault begins extent (λ s limits file read_ so. so) begins_in ends out)
    (subst AreOfFile (sym list) (reads-with (rules_by old) old.limits waits.read waits.sieve old.listing waits.has
    (record { fault = unlisted.fault; at = Statement old.listing.statement; begins = begins }) waits.of_file))

-- with a read that failed in place of it
pub unread-behind-ends : (old new : Survey) (unlisted : Unlisted) (begins : ℕ) (extent : Extent) → AsksTheSame old new
    → BeginsIn old.log unlisted.bytes.items begins
    → ending.EndsBy old.listing Read (Statement old.listing.statement) begins extent new.listing → extent ≡ ReadTo begins
    → listed_of new ≡ suc (listed_of old) → Interrupts old (stage.Waiting unlisted) extent new
unread-behind-ends old new unlisted begins extent same begins_in ends read one known out =
    ends-in known old new extent same
    (own-most old new (listed_of new) extent same (counted-end old.most (listed_of old) (listed_of new) begins extent out.in_stage.within
    one read))
    (waiting-surveys known old new unlisted Read begins extent (λ s limits file read_ so. read_failed) begins_in ends out)

-- it has by now
pub ended-ends : (old new : Survey) (extent : Extent) → AsksTheSame old new → new.keeper ≡ old.keeper
    → new.listing ≡ old.listing → EndsBy old (stage.Ended extent) extent new
ended-ends old new extent same keeper listing known out =
    goes-ended known old new extent out.in_stage.sound same keeper
    (own-most old new (listed_of new) extent same (subst
    (λ (l : Listing). ListsWithin old.most (length l.list.items) (stage.Ended extent)) (sym listing) out.in_stage.within))
    (subst (λ (l : Listing). SurveysEach (rules_by old) old.limits known l extent) (sym listing) out.in_stage.is_at.surveys)
    (subst (λ (l : Listing). AreOfFile l.list.items) (sym listing) out.in_stage.is_at.of_file)

-- the same where a read failed
pub ended-interrupts : (old : Survey) (other : Stage) (extent : Extent)
    → Interrupts (record old { stage = other }) (stage.Ended extent) extent (record old { stage = other })
ended-interrupts old other extent known out = record {
  same = record { rules = refl; limits = refl; most = refl };
  within = out.in_stage.within;
  surveys = out.in_stage.is_at.surveys;
}

-- ---- the statement in which the file ends

pub statement-ends : (old new : Survey) (bytes : List ℕ) (extent : Extent) → bytes ≡ old.log.buffer → AsksTheSame old new
    → new.keeper ≡ old.keeper
    → EndsStatement old.limits old.log old.listing bytes (at_end.Listed extent) new.log new.listing
    → (listed_of old < old.most → CountsEnd old.most (listed_of old) (at_end.Listed extent) (listed_of new))
    → (AreOfFile old.listing.list.items → AreOfFile new.listing.list.items) → EndsBy old stage.Reading extent new
statement-ends old new bytes extent are same keeper ends counts of_file known out =
    let reads = out.in_stage.is_at in
    let end = at-end (rules_by old) old.limits known old.log (kept_by old) old.listing out.all reads in
    goes-ended known old new extent out.in_stage.sound same keeper
    (own-most old new (listed_of new) extent same (counts out.in_stage.within))
    (ends (rules_by old) known reads.point (kept_by old) are end)
    (of_file (reads-of_file (rules_by old) old.limits reads.point.read (kept_by old) old.listing reads.stands.has))

-- statements are read
pub goes-reading : (known : Known) (old new : Survey) (ahead : List ℕ) → IsSound known old → AsksTheSame old new
    → new.keeper ≡ old.keeper → listed_of new < old.most
    → Reads (rules_by old) old.limits known new.log (kept_by old) new.listing ahead → GoesInto known old new stage.Reading ahead
goes-reading known old new ahead sound same keeper fewer reads = record {
  in_stage = record {
    sound = record {
      few = sound.few;
      limited = subst (λ (l : Limits). l.file_source < 2 ^ 64) (sym same.limits) sound.limited;
      keeper = subst IsSoundKeeper (sym keeper) sound.keeper;
    };
    within = subst (λ (most : ℕ). listed_of new < most) (sym same.most) fewer;
    is_at = subst (λ (s : Rules). Reads s new.limits known new.log (kept_by new) new.listing ahead) (sym same.rules)
        (subst (λ (l : Limits). Reads (rules_by old) l known new.log (kept_by new) new.listing ahead) (sym same.limits)
        (subst (λ (v : Sifted). Reads (rules_by old) old.limits known new.log v new.listing ahead) (sym (ap sifted_of keeper)) reads));
  };
  same = same;
}

pub statement-passes : (old new : Survey) (bytes : List ℕ) (count : ℕ) (ended : AtEnd) → bytes ≡ old.log.buffer → AsksTheSame old new
    → new.keeper ≡ old.keeper
    → EndsStatement old.limits old.log old.listing bytes (at_end.PassedOver count) new.log new.listing
    → (listed_of old < old.most → CountsEnd old.most (listed_of old) (at_end.PassedOver count) (listed_of new))
    → IsAgain (drop count bytes) ended
    → EndsStage old stage.Reading ended new
statement-passes old new bytes count (Again again) are same keeper ends counts behind = λ known out.
    let reads = out.in_stage.is_at in
    let end = at-end (rules_by old) old.limits known old.log (kept_by old) old.listing out.all reads in
    let passed = ends (rules_by old) known reads.point (kept_by old) are end in
    let (further, fewer) = counts out.in_stage.within in
    let size = passed.counted in
    let own = ap length are in
    let counted = reads.counted in
    let none = ap length passed.none_open in
    let items = ap length behind in
    record {
      goes = goes-reading known old new again.items out.in_stage.sound same keeper fewer (record {
        point = passed.point;
        stands = passed.stands;
        between = passed.between;
        ahead_are = passed.ahead ∙ sym behind;
        seen_at = subst (λ (o : Option ℕ). IsSeenAt o again.items 0) (sym passed.unseen) tt;
        counted = omega (arith, size, own, counted, none, items);
      });
      further = further;
    }
statement-passes old new bytes count (Listed extent) are same keeper ends counts behind = absurd behind
statement-passes old new bytes count FileEnd are same keeper ends counts behind = absurd behind

pub statement-stays : (old new : Survey) (bytes : List ℕ) → AsksTheSame old new → new.keeper ≡ old.keeper → EndsStatement old.limits old.log old.listing bytes at_end.AtFileEnd new.log new.listing
    → EndsStage old stage.Reading FileEnd new
statement-stays old new bytes same keeper (log_is, listing_is) known out =
    goes-reading known old new [] out.in_stage.sound same keeper
    (subst (λ (l : Listing). length l.list.items < old.most) (sym listing_is) out.in_stage.within)
    (subst (λ (h : log.Held). Reads (rules_by old) old.limits known h (kept_by old) new.listing []) (sym log_is)
    (subst (λ (l : Listing). Reads (rules_by old) old.limits known old.log (kept_by old) l []) (sym listing_is) out.in_stage.is_at))

-- ---- what is found

pub ended-finds : (survey : Survey) (extent : Extent) (found : Found) → IsEnded survey.listing extent found
    → FindsIn survey (stage.Ended extent) found
ended-finds survey extent found ended known out file of =
    ended-found (rules_by survey) survey.limits file survey.listing extent found out.in_stage.within.0 (out.in_stage.is_at.surveys file of)
    ended

pub ended-counts : (survey : Survey) (extent : Extent) (found : Found) → SomeIsReadOut survey (stage.Ended extent)
    → IsEnded survey.listing extent found → FindsAtMost survey.most found
ended-counts survey extent found (known, out) ended =
    let (some, few, last) = out.in_stage.within in
    let list = ap length ended.list in
    let references = ap length ended.references in
    (omega (arith, few, list, references), λ is. let all = last (sym ended.extent_is ∙ is) in omega (arith, all, list, references))

pub ended-of_file : (survey : Survey) (extent : Extent) (found : Found) → SomeIsReadOut survey (stage.Ended extent)
    → IsEnded survey.listing extent found
    → AreOfFile found.list.items
ended-of_file survey extent found (known, out) ended = subst AreOfFile (sym ended.list) out.in_stage.is_at.of_file

pub reading-of_file : (survey : Survey) → SomeIsReadOut survey stage.Reading → AreOfFile survey.listing.list.items
reading-of_file survey (known, out) =
    let reads = out.in_stage.is_at in
    reads-of_file (rules_by survey) survey.limits reads.point.read (kept_by survey) survey.listing reads.stands.has

-- ---- where a read failed

pub interrupted-finds : (old new : Survey) (extent : Extent) (found : Found) → Interrupts old old.stage extent new
    → IsEnded new.listing extent found
    → FindsAll old found
interrupted-finds old new extent found ends ended known out file of =
    let there = ends known out in
    subst (λ (s : Rules). IsFound s old.limits file found) there.same.rules
    (subst (λ (l : Limits). IsFound (rules_by new) l file found) there.same.limits
    (ended-found (rules_by new) new.limits file new.listing extent found there.within.0 (there.surveys file of) ended))

pub interrupted-counts : (old new : Survey) (extent : Extent) (found : Found) → SomeIsReadOut old old.stage
    → Interrupts old old.stage extent new
    → IsEnded new.listing extent found → FindsAtMost old.most found
interrupted-counts old new extent found (known, out) ends ended =
    let there = ends known out in
    let (some, few, last) = there.within in
    let most = there.same.most in
    let list = ap length ended.list in
    let references = ap length ended.references in (
      omega (arith, few, list, references, most),
      λ is. let all = last (sym ended.extent_is ∙ is) in
          omega (arith, all, list, references, most),
    )

adds-read : (before : List code.Listed) (extent : Extent) (listing : Listing) (found : Found) → ListsRead before extent listing.list.items
    → IsEnded listing extent found → AddsRead before found
adds-read before extent listing found reads ended = record {
  refusal = reads.refusal;
  list_is = ended.list ∙ reads.list_is;
  fault_is = reads.fault_is;
  extent_is = ended.extent_is ∙ reads.extent_is;
  no_references = ended.references;
}

pub is-interrupted : (old : Survey) (in_stage : Stage) (extent : Extent) (listing : Listing) (found : Found)
    → ListsInterrupted old in_stage extent listing → IsEnded listing extent found → IsInterrupted old in_stage found
is-interrupted old stage.Reading extent listing found reads ended = adds-read old.listing.list.items extent listing found reads ended
is-interrupted old (stage.Seeking sought) extent listing found (stretch, same, reads) ended =
    (stretch, adds-read (old.listing.list.items ++ stretch ∷ []) extent listing found reads ended)
is-interrupted old (stage.Waiting unlisted) extent listing found reads ended =
    adds-read old.listing.list.items extent listing found reads ended
is-interrupted old (stage.Ended last) extent listing found same ended = tt

-- the last of some
last-of : (list : List code.Listed) → 0 < length list → AreOfFile list → AreOfReading true list
last-of [] some are = absurd (omega (arith, some))
last-of (x ∷ []) some are = ([], x, refl, tt, inl are.0)
last-of (x ∷ (y ∷ ys)) some are =
    let (before, last, is, of_file, kind) = last-of (y ∷ ys) (omega arith) are.1 in
    (x ∷ before, last, ap (λ (l : List code.Listed). x ∷ l) is, (are.0, of_file), kind)

pub interrupted-kinds : (old : Survey) (in_stage : Stage) (extent : Extent) (listing : Listing) (found : Found) → SomeIsReadOut old in_stage
    → ListsInterrupted old in_stage extent listing → IsEnded listing extent found → AreOfReading true found.list.items
interrupted-kinds old stage.Reading extent listing found (known, out) reads ended =
    let at = out.in_stage.is_at in
    let of_file = reads-of_file (rules_by old) old.limits at.point.read (kept_by old) old.listing at.stands.has in
    (old.listing.list.items, reads.refusal, ended.list ∙ reads.list_is, of_file, inr reads.fault_is)
interrupted-kinds old (stage.Seeking sought) extent listing found (known, out) (stretch, same, reads) ended =
    let at = out.in_stage.is_at in
    let kind : IsOfFile (fault_number stretch.fault) =
    subst (λ (fault : Fault). IsOfFile (fault_number fault)) (sym same) at.is_sought.of_file in
    let of_file = reads-with (rules_by old) old.limits at.point.read (kept_by old) old.listing at.has stretch kind in
    (old.listing.list.items ++ stretch ∷ [], reads.refusal, ended.list ∙ reads.list_is, of_file, inr reads.fault_is)
interrupted-kinds old (stage.Waiting unlisted) extent listing found (known, out) reads ended =
    let at = out.in_stage.is_at in
    let of_file = reads-of_file (rules_by old) old.limits at.read at.sieve old.listing at.has in
    (old.listing.list.items, reads.refusal, ended.list ∙ reads.list_is, of_file, inr reads.fault_is)
interrupted-kinds old (stage.Ended last) extent listing found (known, out) same ended =
    let list : found.list.items ≡ old.listing.list.items = ended.list ∙ ap (λ (l : Listing). l.list.items) same in
    subst (AreOfReading true) (sym list) (last-of old.listing.list.items out.in_stage.within.0 out.in_stage.is_at.of_file)

pub reading-stands : (survey : Survey) → SomeIsReadOut survey stage.Reading
    → StandsAtEnd (rules_by survey) survey.log (kept_by survey) survey.listing
reading-stands survey (known, out) = record {
  limits = survey.limits;
  known = known;
  point = out.in_stage.is_at.point;
  at_end = at-end (rules_by survey) survey.limits known survey.log (kept_by survey) survey.listing out.all out.in_stage.is_at;
}

pub reading-finds : (survey : Survey) (found : Found)
    → FindsAtEnd (rules_by survey) survey.limits survey.log (kept_by survey) survey.listing found → FindsIn survey stage.Reading found
reading-finds survey found finds known out =
    finds known out.in_stage.is_at.point (at-end (rules_by survey) survey.limits known survey.log (kept_by survey) survey.listing out.all
    out.in_stage.is_at)

-- ---- a survey that says another stage of itself

out-restaged : (known : Known) (survey : Survey) (other in_stage : Stage) → IsReadOut known survey in_stage
    → IsReadOut known (record survey { stage = other }) in_stage
out-restaged known survey other in_stage out = record {
  all = out.all;
  in_stage = record {
    sound = record {
      few = out.in_stage.sound.few;
      limited = out.in_stage.sound.limited;
      keeper = out.in_stage.sound.keeper;
    };
    within = out.in_stage.within;
    is_at = out.in_stage.is_at;
  };
}

goes-restaged : (known : Known) (old new : Survey) (other in_stage : Stage) (ahead : List ℕ)
    → GoesInto known (record old { stage = other }) new in_stage ahead → GoesInto known old new in_stage ahead
goes-restaged known old new other in_stage ahead goes =
    record { in_stage = goes.in_stage; same = record { rules = goes.same.rules; limits = goes.same.limits; most = goes.same.most } }

pub ends-restaged : (old new : Survey) (other in_stage : Stage) (extent : Extent)
    → EndsBy (record old { stage = other }) in_stage extent new → old.stage ≡ in_stage → EndsBy old old.stage extent new
ends-restaged old new other in_stage extent ends is known out =
    goes-restaged known old new other (stage.Ended extent) []
    (ends known (out-restaged known old other in_stage (subst (λ (g : Stage). IsReadOut known old g) is out)))

pub interrupts-restaged : (old new : Survey) (other in_stage : Stage) (extent : Extent)
    → Interrupts (record old { stage = other }) in_stage extent new
    → old.stage ≡ in_stage → Interrupts old old.stage extent new
interrupts-restaged old new other in_stage extent ends is known out =
    let there = ends known (out-restaged known old other in_stage (subst (λ (g : Stage). IsReadOut known old g) is out)) in
    record {
      same = record { rules = there.same.rules; limits = there.same.limits; most = there.same.most };
      within = there.within;
      surveys = there.surveys;
    }

pub stage-restaged : (old new : Survey) (other in_stage : Stage) (ended : AtEnd)
    → EndsStage (record old { stage = other }) in_stage ended new → old.stage ≡ in_stage → EndsStage old old.stage ended new
stage-restaged old new other in_stage (Listed extent) ends is = ends-restaged old new other in_stage extent ends is
stage-restaged old new other in_stage (Again bytes) ends is = λ known out.
    let again = ends known (out-restaged known old other in_stage (subst (λ (g : Stage). IsReadOut known old g) is out)) in
    record { goes = goes-restaged known old new other stage.Reading bytes.items again.goes; further = again.further }
stage-restaged old new other in_stage FileEnd ends is = λ known out.
    goes-restaged known old new other stage.Reading []
    (ends known (out-restaged known old other in_stage (subst (λ (g : Stage). IsReadOut known old g) is out)))

-- ---- from one statement that is passed over to the next

pub record InLoop (first now : Survey) : Type 0 where
  pub some : SomeIsReadOut now now.stage
  pub along : (known : Known) → IsReadOut known first first.stage → IsReadOut known now now.stage × AsksTheSame first now

pub loop-begins : (survey : Survey) → SomeIsReadOut survey survey.stage → InLoop survey survey
loop-begins survey some = record { some = some; along = λ known out. (out, record { rules = refl; limits = refl; most = refl }) }

both-same : (first now new : Survey) → AsksTheSame first now → AsksTheSame now new → AsksTheSame first new
both-same first now new one two = record { rules = two.rules ∙ one.rules; limits = two.limits ∙ one.limits; most = two.most ∙ one.most }

again-course : (known : Known) (now middle : Survey) (bytes : List ℕ) → ReadsAgain known now middle bytes → middle.stage ≡ stage.Reading
    → Course known middle bytes
again-course known now middle bytes again is = subst (λ (g : Stage). IsInStage known middle g bytes) (sym is) again.goes.in_stage

pub again-needs : (first now middle : Survey) (bytes : List ℕ) → InLoop first now
    → ((known : Known) → IsReadOut known now now.stage → ReadsAgain known now middle bytes) → middle.stage ≡ stage.Reading
    → IsLast middle bytes
again-needs first now middle bytes loop again is =
    (loop.some.0, loop.some.1.all, again-course loop.some.0 now middle bytes (again loop.some.0 loop.some.1) is)

pub loop-goes : (first now middle new : Survey) (bytes : List ℕ) → InLoop first now
    → ((known : Known) → IsReadOut known now now.stage → ReadsAgain known now middle bytes) → middle.stage ≡ stage.Reading
    → FeedsLast middle bytes new → InLoop first new
loop-goes first now middle new bytes loop again is feeds =
    let next : (known : Known) → IsReadOut known now now.stage
    → GoesTo known middle new [] = λ known out. feeds known out.all (again-course known now middle bytes (again known out) is) in
    record {
      some = (loop.some.0, record { all = loop.some.1.all; in_stage = (next loop.some.0 loop.some.1).course });
      along = λ known out.
          let (here, same) = loop.along known out in
          let goes = next known here in (
            record { all = out.all; in_stage = goes.course },
            both-same first now new same
                (both-same now middle new (again known here).goes.same goes.same),
          );
    }

pub loop-ends : (first now new : Survey) (extent : Option Extent) → InLoop first now
    → ((known : Known) → IsReadOut known now now.stage → GoesInto known now new (last_stage extent) []) → EndsReadOut first extent new
loop-ends first now new extent loop ends known out =
    let (here, same) = loop.along known out in
    let goes = ends known here in
    record { in_stage = goes.in_stage; same = both-same first now new same goes.same }

-- each round lists one refusal more
pub loop-further : (first now middle new : Survey) (bytes : List ℕ) → InLoop first now
    → ((known : Known) → IsReadOut known now now.stage → ReadsAgain known now middle bytes) → middle.stage ≡ stage.Reading
    → FeedsLast middle bytes new
    → (listed_of now < listed_of new) × (listed_of now < now.most) × (new.most ≡ now.most)
loop-further first now middle new bytes loop again is feeds =
    let known = loop.some.0 in
    let there = again known loop.some.1 in
    let goes = feeds known loop.some.1.all (again-course known now middle bytes there is) in
    let one = there.further in
    let more = goes.no_fewer in
    let within = there.goes.in_stage.within in
    let most = there.goes.same.most in
    (omega (arith, one, more), omega (arith, one, within, most), goes.same.most ∙ most)

-- what is found behind it
pub finds-behind : (old new : Survey) (in_stage : Stage) (found : Found)
    → ((known : Known) → IsReadOut known old old.stage → GoesInto known old new in_stage []) → FindsIn new in_stage found
    → FindsAll old found
finds-behind old new in_stage found goes finds known out =
    let there = goes known out in
    let own = finds known (record { all = out.all; in_stage = there.in_stage }) in
    subst (λ (s : Rules). IsFoundIn s old.limits known found) there.same.rules
    (subst (λ (l : Limits). IsFoundIn (rules_by new) l known found) there.same.limits own)
