-- The walk where a statement is refused that may be passed over.
use Rattle.std.proofs.Common.{◌≡◌, ◌≤◌, ◌<◌, ◌+◌, ℕ, suc, Bool, true, false, List, [], ◌++◌, length, length-append, take, drop, Result, Ok}
use Rattle.std.proofs.Common.{Err, IfOk, OnOk, inl, inr, refl, sym, ap, subst, ◌∙◌, append_assoc, append-nil, arith}
use Rattle.std.proofs.lemmas.List.{drop_all}
use Rattle.p21_spec_basics.specs.Limits.{Limits}
use Rattle.p21_spec_exchange.specs.Record.{Record}
use Rattle.p21_spec_exchange.specs.Statement.{Statement, instance}
use Rattle.p21_spec_survey.specs.Resuming.{HasNoneInside}
use Rattle.p21_spec_survey.specs.Rules.{Rules}
use Rattle.p21_spec_survey.specs.Survey.{BeginsAt, EndsReading, IsGoneOnBehind, IsInData, IsToBePassed, at_statement, in_instance}
use Rattle.p21_stream_log.proofs.Breaking.{empty-front}
use Rattle.p21_stream_log.proofs.Taking.{has-ended}
use Rattle.p21_stream_log.specs.Broken.{BeginsIn}
use Rattle.p21_stream_log.specs.Going.{StoodFor, behind_stretch}
use Rattle.p21_stream_log.specs.Laws.{BeginsInEach, InstanceIsInData, RefusedEnds, RefusedIsBroken, RefusedIsTold, TooFarEnds}
use Rattle.p21_stream_log.specs.Laws.{WrongIsBroken}
use Rattle.p21_stream_log.specs.Log as log
use Rattle.p21_stream_log.specs.Log.{IsFileOf, Known, Point}
use Rattle.p21_stream_log.specs.Opening.{OpensAs}
use Rattle.p21_stream_log.specs.Passage.{GoesOnAt, IsBrokenBy, StaysAt}
use Rattle.p21_stream_log.specs.declared.opening.Opening.TheVariants as opening
use Rattle.p21_stream_log.specs.declared.passage.Passage.{Passage}
use Rattle.p21_stream_log.specs.declared.passage.Passage.TheVariants.{AtFileMark, GoesOn, Sought, TooLong}
use Rattle.p21_stream_statements.specs.Fault.{fault_number}
use Rattle.p21_stream_statements.specs.declared.fault.Fault.{Fault}
use Rattle.p21_stream_statements.specs.declared.fault.Fault.TheVariants.{Token}
use Rattle.p21_stream_statements.specs.declared.refusal.At.TheVariants as at
use Rattle.p21_stream_survey.proofs.Ahead.{none-left}
use Rattle.p21_stream_survey.proofs.Begun.{begins-each, instance-opens}
use Rattle.p21_stream_survey.proofs.Followed.{refused-number}
use Rattle.p21_stream_survey.proofs.Numbers.{far-number, reads-with, refuses-number}
use Rattle.p21_stream_survey.proofs.Onward.{goes-through, passed-over}
use Rattle.p21_stream_survey.specs.Breaking.{IsRefusedAt, MayBePassed, MayNotBePassed}
use Rattle.p21_stream_survey.specs.Course.{GoesTo, listed_of}
use Rattle.p21_stream_survey.specs.Following.{HasEnded, LeavesOut, Stands}
use Rattle.p21_stream_survey.specs.Keeping.{kept_by, rules_by, sifted_of}
use Rattle.p21_stream_survey.specs.Kinds.{IsOfFile}
use Rattle.p21_stream_survey.specs.Passing.{GoesOnBroken}
use Rattle.p21_stream_survey.specs.Reading.{HasRead, subject_of}
use Rattle.p21_stream_survey.specs.Sifted.{Sifted}
use Rattle.p21_stream_survey.specs.Walking.{EndsAt, EndsList, EndsSo, EndsWithStretch, EndsWithin, FollowsJudged, FollowsWrong}
use Rattle.p21_stream_survey.specs.Walking.{GoesBehindRefused, GoesByPassage, HasRefused, IsJudged, PassesBy, PassesRefused, too_long}
use Rattle.p21_stream_survey.specs.Wrong.{IsWrongAt, PassesWrong}
use Rattle.p21_stream_survey.specs.declared.judging.Judgement.TheVariants.{Wrong}
use Rattle.p21_stream_survey.specs.declared.keeper.Keeper.{Keeper}
use Rattle.p21_stream_survey.specs.declared.listed.Listed as code
use Rattle.p21_stream_survey.specs.declared.listing.Listing.{Listing}
use Rattle.p21_stream_survey.specs.declared.survey.Next.{Next}
use Rattle.p21_stream_survey.specs.declared.survey.Survey.{Survey}
use Rattle.p21_tokens.specs.declared.fault.TokenFault.TheVariants.{FileTooLong}

-- ---- a step refused some of a piece

module _ (known : Known) (old : Survey) (piece more : List ℕ) (fault : Fault) (has : HasRefused known old piece more fault) where
  abbrev s : Rules
  s = rules_by old

  abbrev own_bytes : List ℕ
  own_bytes = old.log.buffer ++ piece

  start-is : old.log.start ≡ length has.point.read.bytes
  start-is = has.refused.logs.start_is

  file-is : (file : List ℕ) → IsFileOf known file → (rest : List ℕ) × (file ≡ has.point.read.bytes ++ (own_bytes ++ (more ++ rest)))
  file-is file of =
      let (rest, is) = has.refused.logs.file_is file of in
      let front : List ℕ = old.log.buffer in (
        rest,
        is ∙ ap (λ (l : List ℕ). has.point.read.bytes ++ l)
            (ap (λ (l : List ℕ). front ++ (l ++ rest)) has.ahead_are ∙ ap (λ (l : List ℕ). front ++ l) (append_assoc piece more rest)
            ∙ sym (append_assoc front piece (more ++ rest))),
      )

  counted-all : old.log.start + (length own_bytes + length more) ≡ length known.bytes
  counted-all =
      let counted = has.counted in
      let one = length-append old.log.buffer piece in
      let two = length-append piece more in
      omega (arith, counted, one, two)

  stood : StoodFor s old.limits known has.point old.log
  stood = record { before = has.refused.before; logs = has.refused.logs; stays = has.refused.stays; of_instance = inl has.between }

  -- where it begins
  begins-here : (begins : ℕ) → BeginsIn old.log own_bytes begins → OpensAs own_bytes opening.Statement → BeginsInEach known has.point begins
  begins-here begins in_ opens =
      let counted = counted-all in
      let few = has.sound.few in
      begins-each known old.log has.point.read own_bytes begins in_ start-is (omega (arith, counted, few))
      (λ file of. (let (rest, is) = file-is file of in (more ++ rest, is))) opens.0

  -- the reading ends, where it may not be passed over
  pub refused-end : RefusedEnds → RefusedIsTold → MayNotBePassed old.log fault own_bytes → EndsWithin known old fault own_bytes more
  refused-end ends told not = record {
    sound = record { few = has.sound.few; limited = has.sound.limited; keeper = has.sound.keeper };
    fewer = has.fewer;
    waits = record {
      read = has.point.read;
      is_read = has.refused.logs.is_read;
      sieve = (kept_by old);
      has = has.has;
      start_is = start-is;
      file_is = file-is;
      ends = λ file of. ends s old.limits known has.point old.log piece more fault has.refused has.ahead_are (opens file of) file of;
      of_file = has.of_file;
      counted = counted-all;
    };
  }
    where
      opens : (file : List ℕ) → IsFileOf known file → IsGoneOnBehind (fault_number fault) → IsInData has.point.read.given
          → OpensAs own_bytes opening.SectionEnd
      opens file of gone in_data = elim not [
        | inl other ↦ absurd (other gone)
        | inr (inl nowhere) ↦ (let no : false ≡ true = (nowhere s old.limits known has.point stood).1 in_data in absurd cc)
        | inr (inr (inl end)) ↦ end
        | inr (inr (inr untold)) ↦ absurd (told s old.limits known has.point old.log piece more fault file has.refused has.between
            has.ahead_are gone in_data of untold)
      ]

  module _ (passes : MayBePassed old.log fault own_bytes) (begins : ℕ) (in_ : BeginsIn old.log own_bytes begins) where
    refused-at : IsRefusedAt s old.limits known has.point old.log piece more fault begins
    refused-at = record {
      refused = has.refused;
      between = has.between;
      ahead = has.ahead_are;
      begins_in =
          begins-here begins in_ passes.opens;
      passed = passes;
    }

    -- it is the last one that is asked for
    pub refused-last : RefusedIsBroken → old.most ≤ suc (listed_of old)
        → EndsWithStretch known old (record { fault = fault; at = at.Statement old.listing.statement; begins = begins })
    refused-last broken full =
        let number : ℕ = fault_number fault in
        let in_data : IsInData has.point.read.given = (passes.in_data s old.limits known has.point stood).0 refl in
        let each = begins-here begins in_ passes.opens in
        let by = broken s old.limits known has.point old.log piece [] own_bytes more fault begins has.refused has.between has.ahead_are
        passes.gone_on in_data refl (empty-front own_bytes) passes.opens each in
        let fewer = has.fewer in
        record {
          sound = record { few = has.sound.few; limited = has.sound.limited; keeper = has.sound.keeper };
          last = omega (arith, full, fewer);
          read = has.point.read;
          sieve = (kept_by old);
          so = λ file of. record { is_read = has.refused.logs.is_read file of; has = has.has; begins_at = each file of };
          passes = λ file of. subst (λ (k : ℕ). IsToBePassed s old.limits file has.point.read number (at_statement k)) (sym has.has.counted)
              (by.next_in file of).to_pass;
          of_file = reads-with s old.limits has.point.read (kept_by old) old.listing has.has
              (record { fault = fault; at = at.Statement old.listing.statement; begins = begins }) has.of_file;
        }

    module _ (held : log.Held) (listing : Listing) (room : suc (listed_of old) < old.most) where
      abbrev middle : Survey
      middle = record old { log = held; listing = listing }

      ends-so : (other : Fault) → IsOfFile (fault_number other) → listing ≡ old.listing
          → ((file : List ℕ) → IsFileOf known file → EndsReading s old.limits file has.point.read (fault_number other)
          (at_statement (suc has.point.read.count))) → (k : ℕ) → k ≡ suc has.point.read.count
          → EndsSo known middle (record { fault = other; at = at.Statement k; begins = begins })
      ends-so other of_file same ends k counted =
          let size = ap (λ (l : Listing). length l.list.items) same in
          let fewer = has.fewer in
          record {
            sound = record {
              few = has.sound.few;
              limited = has.sound.limited;
              keeper = has.sound.keeper;
            };
            fewer = omega (arith, size, fewer);
            read = has.point.read;
            sieve = (kept_by old);
            so = λ file of. record {
              is_read = has.refused.logs.is_read file of;
              has =
                  subst (λ (l : Listing). HasRead s old.limits has.point.read (kept_by old) l) (sym same) has.has;
              begins_at =
                  begins-here begins in_ passes.opens file of;
            };
            ends = λ file of. subst (λ (n : ℕ). EndsReading s old.limits file has.point.read (fault_number other) (at_statement n))
                (sym counted) (ends file of);
            of_file = reads-with s old.limits has.point.read (kept_by old) listing
                (subst (λ (l : Listing). HasRead s old.limits has.point.read (kept_by old) l) (sym same) has.has)
                (record { fault = other; at = at.Statement k; begins = begins }) of_file;
          }

      pub refused-passage : TooFarEnds → (passage : Passage) → GoesOnBroken old.log old.listing fault begins own_bytes passage held listing
          → StaysAt passage old.log held → GoesOnAt old.log passage held
          → PassesBy known middle (listed_of old) (record { fault = fault; at = at.Statement old.listing.statement; begins = begins })
          own_bytes more passage × (listed_of old ≤ listed_of middle)
      refused-passage far (GoesOn count) goes stays anew =
          let stands = goes s old.limits known has.point piece more (kept_by old) refl refused-at has.has in
          let (listed, reads) = passed-over known old held listing has.point own_bytes more (drop count own_bytes ++ more) count
          (fault_number fault) begins (at_statement (suc has.point.read.count)) has.sound room start-is has.has anew.buffer stands refl
          counted-all in
          ((omega (arith, listed), has.reading, reads), omega (arith, listed))
      refused-passage far AtFileMark (same, goes) stays anew =
          let by = goes s old.limits known has.point piece more begins refl refused-at in
          let size = ap (λ (l : Listing). length l.list.items) same in
          (ends-so fault has.of_file same by.gives old.listing.statement has.has.counted, omega (arith, size))
      refused-passage far TooLong (same, goes) stays anew =
          let by = goes s old.limits known has.point piece more begins refl refused-at in
          let size = ap (λ (l : Listing). length l.list.items) same in
          let number : ℕ = fault_number fault in
          let counted : listing.statement ≡ suc has.point.read.count = ap (λ (l : Listing). l.statement) same ∙ has.has.counted in (
            ends-so (Token FileTooLong) far-number same (λ file of. far s old.limits file has.point.read number
                (at_statement (suc has.point.read.count)) has.sound.limited (by.gives file of)) listing.statement counted,
            omega
                (arith, size),
          )
      refused-passage far (Sought seeker) (same, goes) stays anew =
          let by = goes s old.limits known has.point piece more begins refl refused-at in
          let size = ap (λ (l : Listing). length l.list.items) same in
          let start = ap (λ (h : log.Held). h.start) stays in
          let counted = counted-all in (
            record {
              sound = record {
                few = has.sound.few;
                limited = has.sound.limited;
                keeper = has.sound.keeper;
              };
              within = omega (arith, size, room);
              is_at = record {
                point = has.point;
                statement = by.front;
                behind = by.behind;
                is_sought = record {
                  broken = subst (λ (h : log.Held). IsBrokenBy s old.limits known has.point h by.front by.behind more (fault_number fault)
                      (at_statement (suc has.point.read.count)) begins) (sym stays) by.broken;
                  by = by.gives;
                  taken_is = ap length by.apart;
                  of_file = has.of_file;
                };
                has = subst (λ (l : Listing). HasRead s old.limits has.point.read (kept_by old) l) (sym same) has.has;
                counted = omega (arith, start, counted);
              };
            },
            omega (arith, size),
          )

-- ---- the same by what is called

-- the last one that is asked for
pub passes-last : RefusedIsBroken → (old new : Survey) (fault : Fault) (bytes : List ℕ) (count begins : ℕ) (next : Next)
    → BeginsIn old.log bytes begins → old.most ≤ suc (listed_of old)
    → EndsList (λ known. EndsWithStretch known old (record { fault = fault; at = at.Statement old.listing.statement; begins = begins })) old
    new → PassesRefused old fault bytes count next new
passes-last broken old new fault bytes count begins next in_ full ends known piece more are size has passes =
    let (goes, over) = ends known (next.again.items ++ (drop next.count piece ++ more))
    (refused-last known old piece more fault has (subst (λ (l : List ℕ). MayBePassed old.log fault l) are passes) begins
    (subst (λ (l : List ℕ). BeginsIn old.log l begins) are in_) broken full) in
    record { goes = goes; once = inr over }

pub passes-by : {E : Type 0} → TooFarEnds → (old : Survey) (held : log.Held) (listing : Listing) (new : Survey) (fault : Fault)
    (bytes : List ℕ) (count begins : ℕ) (passage : Passage) (result : Result Next E) → BeginsIn old.log bytes begins
    → suc (listed_of old) < old.most
    → GoesOnBroken old.log old.listing fault begins bytes passage held listing → StaysAt passage old.log held
    → GoesOnAt old.log passage held
    → IfOk result (λ next. GoesByPassage (record old { log = held; listing = listing })
    (record { fault = fault; at = at.Statement old.listing.statement; begins = begins }) bytes count passage next new)
    → IfOk result (λ next. PassesRefused old fault bytes count next new)
passes-by far old held listing new fault bytes count begins passage (Err none) in_ room goes stays anew by = tt
passes-by far old held listing new fault bytes count begins passage (Ok next) in_ room goes stays anew by =
    λ known piece more are size has passes.
    let middle : Survey = record old { log = held; listing = listing } in
    let refusal : code.Listed = record { fault = fault; at = at.Statement old.listing.statement; begins = begins } in
    let (passed, fewer) = refused-passage known old piece more fault has (subst (λ (l : List ℕ). MayBePassed old.log fault l) are passes)
    begins (subst (λ (l : List ℕ). BeginsIn old.log l begins) are in_) held listing room far passage
    (subst (λ (l : List ℕ). GoesOnBroken old.log old.listing fault begins l passage held listing) are goes) stays anew in
    let behind = by known (listed_of old) old.log.buffer piece more fewer are size
    (subst (λ (l : List ℕ). PassesBy known middle (listed_of old) refusal l more passage) (sym are) passed) in
    record {
      goes = goes-through known old middle new (next.again.items ++ (drop next.count piece ++ more)) refl refl refl fewer
          behind.goes;
      once = behind.once;
    }

pub refused-passed : {E : Type 0} (old new : Survey) (fault : Fault) (bytes piece : List ℕ) (count : ℕ) (result : Result Next E)
    → bytes ≡ old.log.buffer ++ piece → length piece ≡ count → MayBePassed old.log fault bytes
    → IfOk result (λ next. PassesRefused old fault bytes count next new) → IfOk result (λ next. GoesBehindRefused old piece fault next new)
refused-passed old new fault bytes piece count (Err none) are size may passes = tt
refused-passed old new fault bytes piece count (Ok next) are size may passes = λ known more has. passes known piece more are size has may

pub refused-ended : RefusedEnds → RefusedIsTold → (old new : Survey) (fault : Fault) (bytes piece : List ℕ) (next : Next)
    → bytes ≡ old.log.buffer ++ piece → MayNotBePassed old.log fault bytes → next.count ≡ length piece → next.again.items ≡ []
    → EndsAt old fault bytes new
    → GoesBehindRefused old piece fault next new
refused-ended ends told old new fault bytes piece next are not whole none at_end known more has =
    let within = refused-end known old piece more fault has ends told (subst (λ (l : List ℕ). MayNotBePassed old.log fault l) are not) in
    record {
      goes = subst (λ (l : List ℕ). GoesTo known old new l) (none-left next.again.items piece more next.count none whole)
          (at_end known more (subst (λ (l : List ℕ). EndsWithin known old fault l more) (sym are) within));
      once = inl (none, whole);
    }

-- ---- an instance has ended that is refused, with a signpost in a string of it

module _ (known : Known) (old : Survey) (n : ℕ) (fault : Fault) (ahead : List ℕ) (j : IsJudged known old (Ok (Wrong n fault)) ahead) where
  abbrev point : Point
  point = j.has.point

  abbrev record_ : Record
  record_ = j.gives.record_

  own : Stands (rules_by old) old.limits known old.log (kept_by old) old.listing point
  own = subst (λ (k : Sifted). Stands (rules_by old) old.limits known old.log k old.listing point) (sym j.gives.same) j.has.stands

  ended : HasEnded old.log point (instance n record_)
  ended = subst (λ (st : Statement). HasEnded old.log point st) j.gives.statement_is j.has.ended

  -- where no signpost stands so
  pub not-inside : ((st : Rules) (limits : Limits) (k : Known) (p : Point) (statement : Statement) (behind : List ℕ)
      → Stands st limits k old.log (kept_by old) old.listing p → HasEnded old.log p statement → ¬ HasNoneInside old.log.buffer behind)
      → (behind : List ℕ) → ¬ HasNoneInside old.log.buffer behind
  not-inside none behind = none (rules_by old) old.limits known point (instance n record_) behind own ended

  module _ (inside : (behind : List ℕ) → ¬ HasNoneInside old.log.buffer behind) (laws : InstanceIsInData) (begins : ℕ)
      (in_ : BeginsIn old.log old.log.buffer begins) where
    opens : OpensAs old.log.buffer opening.Statement
    opens = instance-opens old.log.buffer n record_ (has-ended (rules_by old) old.limits known old.log point (instance n record_) own.logs
        ended.ended ended.ends).statement_is

    each : BeginsInEach known point begins
    each =
        let counted = j.has.counted in
        let few = j.has.sound.few in
        begins-each known old.log point.read old.log.buffer begins in_ own.logs.start_is (omega (arith, counted, few))
        (λ file of. (let (rest, is) = own.logs.file_is file of in (point.ahead ++ rest, is))) opens.0

    wrong-at : IsWrongAt (rules_by old) old.limits known point old.log n record_ fault begins
    wrong-at = record {
      logs = own.logs;
      ended = ended;
      refused = j.gives.refused point.read.given point.read.taken j.has.stands.has.sifts;
      inside = inside;
      in_data = laws (rules_by old) old.limits known point old.log n record_ own.logs ended.ended;
      opens = opens;
      begins_in = each;
    }

    wrong-number : IsOfFile (fault_number fault)
    wrong-number = refuses-number (rules_by old) point.read.given n record_ fault wrong-at.refused

    pub wrong-last : WrongIsBroken → old.most ≤ suc (listed_of old)
        → EndsWithStretch known old (record { fault = fault; at = at.Instance n; begins = begins })
    wrong-last broken full =
        let fewer = j.has.fewer in
        let by = broken (rules_by old) old.limits known point old.log n record_ (fault_number fault) begins own.logs ended.ended ended.ends
        (refused-number (rules_by old) point.read.given n record_ fault wrong-at.refused) inside wrong-at.in_data opens each in
        record {
          sound = record {
            few = j.has.sound.few;
            limited = j.has.sound.limited;
            keeper = j.has.sound.keeper;
          };
          last = omega (arith, full, fewer);
          read = point.read;
          sieve = (kept_by old);
          so = λ file of. record { is_read = own.logs.is_read file of; has = own.has; begins_at = each file of };
          passes = λ file of. (by.next_in file of).to_pass;
          of_file = reads-with (rules_by old) old.limits point.read (kept_by old) old.listing own.has
              (record { fault = fault; at = at.Instance n; begins = begins }) wrong-number;
        }

    module _ (held : log.Held) (listing : Listing) (room : suc (listed_of old) < old.most) where
      abbrev middle_ : Survey
      middle_ = record old { log = held; listing = listing }

      ends-wrong : (refusal : code.Listed) → IsOfFile (fault_number refusal.fault) → refusal.begins ≡ begins → listing ≡ old.listing
          → ((file : List ℕ) → IsFileOf known file → EndsReading (rules_by old) old.limits file point.read (fault_number refusal.fault)
          (subject_of refusal.at)) → EndsSo known middle_ refusal
      ends-wrong refusal of_file begins_is same ends =
          let size = ap (λ (l : Listing). length l.list.items) same in
          let fewer = j.has.fewer in
          record {
            sound = record {
              few = j.has.sound.few;
              limited = j.has.sound.limited;
              keeper = j.has.sound.keeper;
            };
            fewer = omega (arith, size, fewer);
            read = point.read;
            sieve = (kept_by old);
            so = λ file of. record {
              is_read = own.logs.is_read file of;
              has = subst (λ (l : Listing). HasRead (rules_by old) old.limits point.read (kept_by old) l) (sym same) own.has;
              begins_at = subst (λ (b : ℕ). BeginsAt file point.read b) (sym begins_is) (each file of);
            };
            ends = ends;
            of_file = reads-with (rules_by old) old.limits point.read (kept_by old) listing
                (subst (λ (l : Listing). HasRead (rules_by old) old.limits point.read (kept_by old) l) (sym same) own.has) refusal
                of_file;
          }

      pub wrong-passage : TooFarEnds → (passage : Passage)
          → PassesWrong old.log old.listing n fault begins old.log.buffer passage held listing → GoesOnAt old.log passage held
          → PassesBy known middle_ (listed_of old) (record { fault = fault; at = at.Instance n; begins = begins }) old.log.buffer ahead
          passage × (listed_of old ≤ listed_of middle_)
      wrong-passage far (GoesOn count) goes anew =
          let bytes : List ℕ = old.log.buffer in
          let number : ℕ = fault_number fault in
          let stands = goes (rules_by old) old.limits known point record_ (kept_by old) refl wrong-at own.has in
          let there : Stands (rules_by old) old.limits known held (kept_by old) listing
          (behind_stretch point (take count bytes) number (in_instance n) begins (drop count bytes ++ ahead)) =
          subst (λ (l : List ℕ). Stands (rules_by old) old.limits known held (kept_by old) listing
          (behind_stretch point (take count bytes) number (in_instance n) begins (drop count bytes ++ l))) j.has.ahead_are stands in
          let (listed, reads) = passed-over known old held listing point bytes ahead (drop count bytes ++ ahead) count number begins
          (in_instance n) (record {
            few = j.has.sound.few;
            limited = j.has.sound.limited;
            keeper = j.has.sound.keeper;
          }) room own.logs.start_is own.has anew.buffer there refl j.has.counted in
          ((omega (arith, listed), j.has.reading, reads), omega (arith, listed))
      wrong-passage far AtFileMark (same, goes) anew =
          let size = ap (λ (l : Listing). length l.list.items) same in (
            ends-wrong (record { fault = fault; at = at.Instance n; begins = begins }) wrong-number refl same
                (goes (rules_by old) old.limits known point record_ refl wrong-at),
            omega (arith, size),
          )
      wrong-passage far TooLong (same, goes) anew =
          let size = ap (λ (l : Listing). length l.list.items) same in
          let number : ℕ = fault_number fault in
          let counted : listing.statement ≡ suc point.read.count = ap (λ (l : Listing). l.statement) same ∙ own.has.counted in
          let passed = goes (rules_by old) old.limits known point record_ refl wrong-at in (
            ends-wrong (too_long middle_ begins) far-number refl same
                (λ file of. subst (λ (k : ℕ). EndsReading (rules_by old) old.limits file point.read 23 (at_statement k)) (sym counted)
                (far (rules_by old) old.limits file point.read number (in_instance n) j.has.sound.limited (passed file of))),
            omega (arith, size),
          )
      wrong-passage far (Sought seeker) (same, goes) anew =
          absurd (inside [] ((goes (rules_by old) old.limits known point record_ refl wrong-at).1 []))

-- ---- the same by what is called

pub wrong-ends : WrongIsBroken → InstanceIsInData → (old new : Survey) (n : ℕ) (fault : Fault) (bytes again : List ℕ) (begins : ℕ)
    → bytes ≡ old.log.buffer → again ≡ [] → BeginsIn old.log bytes begins → old.most ≤ suc (listed_of old)
    → EndsList (λ known. EndsWithStretch known old (record { fault = fault; at = at.Instance n; begins = begins })) old new
    → FollowsWrong old n fault again new
wrong-ends broken laws old new n fault bytes again begins are none in_ full ends known ahead j inside =
    let (goes, over) = ends known (again ++ ahead) (wrong-last known old n fault ahead j inside laws begins
    (subst (λ (l : List ℕ). BeginsIn old.log l begins) are in_) broken full) in
    record { goes = goes; once = inl none }

-- whatever the call that ends it answers
pub wrong-ends_where : {V E : Type 0} (items : V → List ℕ) → WrongIsBroken → InstanceIsInData
    → (old new : Survey) (n : ℕ) (fault : Fault) (bytes : List ℕ) (begins : ℕ) (result : Result V E) → bytes ≡ old.log.buffer
    → IfOk result (λ again. items again ≡ []) → BeginsIn old.log bytes begins
    → old.most ≤ suc (listed_of old) → OnOk result (EndsList
    (λ known. EndsWithStretch known old (record { fault = fault; at = at.Instance n; begins = begins })) old new)
    → IfOk result (λ again. FollowsWrong old n fault (items again) new)
wrong-ends_where items broken laws old new n fault bytes begins (Ok again) are none in_ full ends =
    wrong-ends broken laws old new n fault bytes (items again) begins are none in_ full ends
wrong-ends_where items broken laws old new n fault bytes begins (Err want) are none in_ full ends = tt

pub wrong-by : TooFarEnds → InstanceIsInData → (old : Survey) (held : log.Held) (listing : Listing) (new : Survey) (n : ℕ) (fault : Fault)
    (bytes : List ℕ) (begins : ℕ) (passage : Passage) (next : Next) → bytes ≡ old.log.buffer → BeginsIn old.log bytes begins
    → suc (listed_of old) < old.most
    → PassesWrong old.log old.listing n fault begins bytes passage held listing → GoesOnAt old.log passage held
    → GoesByPassage (record old { log = held; listing = listing }) (record { fault = fault; at = at.Instance n; begins = begins }) bytes 0
    passage next new → FollowsWrong old n fault next.again.items new
wrong-by far laws old held listing new n fault bytes begins passage next are in_ room passes anew by known ahead j inside =
    let middle : Survey = record old { log = held; listing = listing } in
    let refusal : code.Listed = record { fault = fault; at = at.Instance n; begins = begins } in
    let (passed, fewer) = wrong-passage known old n fault ahead j inside laws begins
    (subst (λ (l : List ℕ). BeginsIn old.log l begins) are in_) held listing room far passage
    (subst (λ (l : List ℕ). PassesWrong old.log old.listing n fault begins l passage held listing) are passes) anew in
    let behind = by known (listed_of old) bytes [] ahead fewer (sym (append-nil bytes)) refl
    (subst (λ (l : List ℕ). PassesBy known middle (listed_of old) refusal l ahead passage) (sym are) passed) in
    let none : drop next.count [] ≡ [] = drop_all next.count [] (omega arith) in
    let goes = subst (λ (l : List ℕ). GoesTo known middle new (next.again.items ++ (l ++ ahead))) none behind.goes in
    record {
      goes = goes-through known old middle new (next.again.items ++ ahead) refl refl refl fewer goes;
      once = elim behind.once [
        | inl (nothing, whole) ↦ inl nothing
        | inr which ↦ inr which
      ];
    }

-- nothing has changed where it isn't left out
pub not-left : {V E : Type 0} (items : V → List ℕ) (old : Survey) (held : log.Held) (keeper : Keeper) (listing : Listing) (n : ℕ)
    (fault : Fault) (new : Survey) (left : Bool) (result : Result V E) → left ≡ false
    → LeavesOut old.log (kept_by old) old.listing n fault left held (sifted_of keeper) listing → keeper ≡ old.keeper
    → IfOk result (λ again. FollowsWrong (record old { log = held; keeper = keeper; listing = listing }) n fault
    (items again) new) → IfOk result (λ again. FollowsJudged old (Ok (Wrong n fault)) (items again) new)
not-left items old held keeper listing n fault new left (Err none) is leaves same follows = tt
not-left items old held keeper listing n fault new left (Ok again) is leaves same follows = λ known ahead j.
    let (same_log, same_sieve, same_listing, none) = subst
    (λ (b : Bool). LeavesOut old.log (kept_by old) old.listing n fault b held (sifted_of keeper) listing) is leaves in
    let one = subst (λ (h : log.Held). FollowsWrong (record old { log = h; keeper = keeper; listing = listing })
    n fault (items again) new) same_log follows in
    let two = subst (λ (k : Keeper). FollowsWrong (record old { keeper = k; listing = listing }) n fault
    (items again) new) same one in
    let three : FollowsWrong old n fault (items again) new =
    subst (λ (l : Listing). FollowsWrong (record old { listing = l }) n fault (items again) new) same_listing two in
    three known ahead j (not-inside known old n fault ahead j
    (λ st limits k p statement behind stands ended. none st limits k p statement behind stands ended))
