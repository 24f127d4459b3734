-- How the walk ends the list.
use Rattle.std.proofs.Common.{◌≡◌, ◌≢◌, ◌<◌, ◌+◌, ◌^◌, ℕ, suc, List, [], ◌∷◌, ◌++◌, length, length-append, Result, Ok, Err, OnOk, refl, sym}
use Rattle.std.proofs.Common.{ap, subst, ◌∙◌, arith}
use Rattle.std.proofs.lemmas.List.{length-map}
use Rattle.p21_spec_basics.specs.Limits.{Limits}
use Rattle.p21_spec_laws.proofs.Keeps.{keeps-size}
use Rattle.p21_spec_survey.specs.Rules.{Rules, HasSize, of_schema, by_itself}
use Rattle.p21_spec_survey.specs.Survey as survey
use Rattle.p21_spec_survey.specs.Survey.{EndsReading, IsRead, Reading, at_statement}
use Rattle.p21_stream_log.specs.Laws.{OffendingEnds}
use Rattle.p21_stream_log.specs.Log.{Known}
use Rattle.p21_stream_log.specs.Broken.{BeginsIn}
use Rattle.p21_stream_log.specs.Opening.{IsBegun}
use Rattle.p21_stream_survey.specs.Sifted.{Sifted, size_kept, sieved, alone}
use Rattle.p21_stream_statements.specs.Fault.{fault_number}
use Rattle.p21_stream_statements.specs.declared.fault.Fault.{Fault}
use Rattle.p21_stream_statements.specs.declared.fault.Fault.TheVariants.{NoMemory}
use Rattle.p21_stream_statements.specs.declared.refusal.At.TheVariants.{Statement}
use Rattle.p21_stream_survey.proofs.Begun.{begins-each}
use Rattle.p21_stream_survey.proofs.Numbers.{offends-number, reads-with}
use Rattle.p21_stream_survey.specs.Course.{listed_of}
use Rattle.p21_stream_survey.specs.Ending.{EndsAtStretch, EndsBy}
use Rattle.p21_stream_survey.specs.Kinds.{AreOfFile}
use Rattle.p21_stream_survey.specs.Reading.{HasRead, listed_as}
use Rattle.p21_stream_survey.specs.Walking.{EndsAt, EndsList, EndsSo, EndsWithStretch, EndsWithin, IsJudged}
use Rattle.p21_stream_survey.specs.declared.listed.Extent.{Extent}
use Rattle.p21_stream_survey.specs.declared.listed.Extent.TheVariants.{Most, ReadTo}
use Rattle.p21_stream_survey.specs.declared.listed.Listed as code
use Rattle.p21_stream_survey.specs.declared.listing.Listing.{Listing}
use Rattle.p21_stream_survey.specs.declared.stage.Stage.TheVariants.{Ended, Waiting}
use Rattle.p21_stream_survey.specs.declared.stage.Unlisted.{Unlisted}
use Rattle.p21_stream_survey.specs.declared.survey.Survey.{Survey}
use Rattle.p21_stream_survey.specs.Keeping.{rules_by}
use Rattle.p21_stream_survey.specs.Judging.{SiftsTo}
use Rattle.p21_spec_exchange.specs.Statement as exchange

-- as many are listed as of the reading
pub listed-length : (s : Rules) (limits : Limits) (read : Reading) (sieve : Sifted) (listing : Listing)
    → HasRead s limits read sieve listing → length listing.list.items ≡ length read.listed
listed-length s limits read sieve listing has = sym (length-map listing.list.items listed_as) ∙ ap length has.listed

-- ---- a refusal of the next statement

-- it is known where it begins
pub ends-told : (known : Known) (old : Survey) (fault : Fault) (bytes ahead : List ℕ) (begins : ℕ) → EndsWithin known old fault bytes ahead
    → BeginsIn old.log bytes begins → IsBegun bytes
    → EndsSo known old (record { fault = fault; at = Statement old.listing.statement; begins = begins })
ends-told known old fault bytes ahead begins ends in_ begun =
    let w = ends.waits in
    let number : at_statement (suc w.read.count) ≡ at_statement old.listing.statement = ap at_statement (sym w.has.counted) in
    let counted = w.counted in
    let few = ends.sound.few in
    let low : old.log.start + length bytes < 2 ^ 64 = omega (arith, counted, few) in
    record {
      sound = ends.sound;
      fewer = ends.fewer;
      read = w.read;
      sieve = w.sieve;
      so = λ file of. record {
        is_read = w.is_read file of;
        has = w.has;
        begins_at = begins-each known old.log w.read bytes begins in_ w.start_is low
            (λ f o. (let (rest, is) = w.file_is f o in (ahead ++ rest, is))) begun file of;
      };
      ends = λ file of. subst (λ (s : survey.Subject). EndsReading (rules_by old) old.limits file w.read (fault_number fault) s) number
          (w.ends file of);
      of_file = reads-with (rules_by old) old.limits w.read w.sieve old.listing w.has
          (record { fault = fault; at = Statement old.listing.statement; begins = begins }) w.of_file;
    }

-- whatever the call that lists it answers
pub told-ends : {E : Type 0} (old new : Survey) (fault : Fault) (bytes : List ℕ) (begins : ℕ) (result : Result (Unit {0}) E)
    → BeginsIn old.log bytes begins → IsBegun bytes
    → OnOk result (EndsList (λ known. EndsSo known old (record { fault = fault; at = Statement old.listing.statement; begins = begins }))
    old new) → OnOk result (EndsAt old fault bytes new)
told-ends old new fault bytes begins (Ok done) in_ begun ends =
    λ known ahead within. (ends known ahead (ends-told known old fault bytes ahead begins within in_ begun)).0
told-ends old new fault bytes begins (Err none) in_ begun ends = tt

-- or the survey waits
pub ends-waiting : (old : Survey) (unlisted : Unlisted)
    → EndsAt old unlisted.fault unlisted.bytes.items (record old { stage = Waiting unlisted })
ends-waiting old unlisted known ahead ends = record {
  course = record {
    sound = record { few = ends.sound.few; limited = ends.sound.limited; keeper = ends.sound.keeper };
    within = ends.fewer;
    is_at = ends.waits;
  };
  same = record { rules = refl; limits = refl; most = refl };
  no_fewer = omega arith;
}

-- ---- a statement that has ended, and that a session refuses

kept-size : (s : Rules) (limits : Limits) (given taken : List exchange.Statement) (sieve : Sifted) → SiftsTo s limits given taken sieve
    → HasSize s taken (size_kept sieve)
kept-size (of_schema s) limits given taken (sieved sieve) sifts = (keeps-size s limits taken sieve.kept sifts.keeps).0
kept-size (of_schema s) limits given taken (alone kept names) sifts = absurd sifts
kept-size by_itself limits given taken sieve sifts = tt

pub refused-within : OffendingEnds → (known : Known) (old : Survey) (fault : Fault) (ahead : List ℕ) → fault ≢ NoMemory
    → IsJudged known old (Err fault) ahead → EndsWithin known old fault old.log.buffer ahead
refused-within offends known old fault ahead other j =
    let has = j.has in
    let point = has.point in
    let logs = has.stands.logs in
    let end = j.gives other point.read.given point.read.taken has.stands.has.sifts in
    let size = kept-size (rules_by old) old.limits point.read.given point.read.taken j.before has.stands.has.sifts in
    record {
      sound = record { few = has.sound.few; limited = has.sound.limited; keeper = has.sound.keeper };
      fewer = has.fewer;
      waits = record {
        read = point.read;
        is_read = logs.is_read;
        sieve = j.before;
        has = has.stands.has;
        start_is = logs.start_is;
        file_is = λ file of. subst (λ (l : List ℕ). (rest : List ℕ) × (file ≡ point.read.bytes ++ (old.log.buffer ++ (l ++ rest))))
            has.ahead_are (logs.file_is file of);
        ends = offends (rules_by old) old.limits known point old.log j.statement (size_kept j.before)
            (fault_number fault) logs has.ended.ended has.ended.ends size end.offends end.by_length;
        of_file = offends-number (rules_by old) old.limits point.read.taken (size_kept j.before) j.statement
            (fault_number fault) end.offends;
        counted = has.counted;
      };
    }

-- ---- the list has ended

module _ (old : Survey) (listing : Listing) (refusal : code.Listed) (extent : Extent)
    (list : listing.list.items ≡ old.listing.list.items ++ refusal ∷ []) where
  abbrev closed : Survey
  closed = record old { listing = listing; stage = Ended extent }

  one-more : length listing.list.items ≡ suc (listed_of old)
  one-more =
      let size = ap length list in
      let sum = length-append old.listing.list.items (refusal ∷ []) in
      omega (arith, size, sum)

  -- with a refusal that ends the reading
  pub so-ends : EndsBy old.listing refusal.fault refusal.at refusal.begins extent listing → extent ≡ ReadTo refusal.begins
      → EndsList (λ known. EndsSo known old refusal) old closed
  so-ends ends read known ahead so =
      let fewer = so.fewer in
      let one = one-more in (
        record {
          course = record {
            sound = record { few = so.sound.few; limited = so.sound.limited; keeper = so.sound.keeper };
            within = (
              omega (arith, one),
              omega (arith, one, fewer),
              λ is. absurd
                  (let clash : Most ≡ ReadTo refusal.begins = sym is ∙ read in cc),
            );
            is_at = record {
              surveys = λ file of. ends (rules_by old) old.limits file so.read so.sieve (so.so file of) (so.ends file of);
              of_file = subst AreOfFile (sym list) so.of_file;
            };
          };
          same = record { rules = refl; limits = refl; most = refl };
          no_fewer = omega (arith, one);
        },
        omega (arith, one),
      )

  -- with one of a statement that would be passed over
  pub stretch-ends : EndsAtStretch old.listing refusal.fault refusal.at refusal.begins extent listing
      → EndsList (λ known. EndsWithStretch known old refusal) old closed
  stretch-ends ends known ahead so =
      let last = so.last in
      let one = one-more in (
        record {
          course = record {
            sound = record { few = so.sound.few; limited = so.sound.limited; keeper = so.sound.keeper };
            within = (omega (arith, one), omega (arith, one, last), λ is. omega (arith, one, last));
            is_at = record {
              surveys = λ file of. ends (rules_by old) old.limits file so.read so.sieve (so.so file of) (so.passes file of);
              of_file = subst AreOfFile (sym list) so.of_file;
            };
          };
          same = record { rules = refl; limits = refl; most = refl };
          no_fewer = omega (arith, one);
        },
        omega (arith, one),
      )
