-- The walk behind a statement that has ended and was judged.
use Rattle.std.proofs.Common.{◌≡◌, ◌≢◌, ◌+◌, ℕ, suc, true, List, [], ◌∷◌, ◌++◌, length, length-append, Ok, Err, inl, inr, refl, sym, subst}
use Rattle.std.proofs.Common.{◌∙◌, arith}
use Rattle.p21_spec_exchange.specs.Statement.{Statement, instance}
use Rattle.p21_spec_survey.specs.Rules.{Rules}
use Rattle.p21_spec_survey.specs.Survey.{in_instance}
use Rattle.p21_stream_log.specs.Laws.{OffendingEnds}
use Rattle.p21_stream_log.specs.Log as log
use Rattle.p21_stream_log.specs.Log.{Known, behind_left_out, behind_taken}
use Rattle.p21_stream_statements.specs.Fault.{fault_number}
use Rattle.p21_stream_statements.specs.declared.fault.Fault.{Fault}
use Rattle.p21_stream_statements.specs.declared.fault.Fault.TheVariants.{NoMemory}
use Rattle.p21_stream_survey.proofs.Ahead.{counts-closed}
use Rattle.p21_stream_survey.proofs.Ends.{listed-length, refused-within}
use Rattle.p21_stream_survey.proofs.Numbers.{are-listed}
use Rattle.p21_stream_survey.proofs.Surveyed.{surveyed-most}
use Rattle.p21_stream_survey.specs.Course.{Course, GoesTo, IsInStage}
use Rattle.p21_stream_survey.specs.Following.{HasEnded, LeavesOut, Stands, TakesRight}
use Rattle.p21_stream_survey.specs.Keeping.{StaysBy, kept_by, rules_by, rules_of, sifted_of}
use Rattle.p21_stream_survey.specs.Sifted.{Sifted}
use Rattle.p21_stream_survey.specs.Walking.{EndsAt, EndsWhereFull, EndsWithin, FollowsJudged, GoesBehind}
use Rattle.p21_stream_survey.specs.declared.judging.Judgement.TheVariants.{Right, Wrong}
use Rattle.p21_stream_survey.specs.declared.keeper.Keeper.{Keeper}
use Rattle.p21_stream_survey.specs.declared.listing.Listing.{Listing}
use Rattle.p21_stream_survey.specs.declared.stage.Stage.{Stage}
use Rattle.p21_stream_survey.specs.declared.stage.Stage.TheVariants.{Reading}
use Rattle.p21_stream_survey.specs.declared.survey.Survey.{Survey}

-- a survey that reads is so far
pub still-reading : (known : Known) (survey : Survey) (ahead : List ℕ) → survey.stage ≡ Reading → IsInStage known survey Reading ahead
    → Course known survey ahead
still-reading known survey ahead reading at = subst (λ (stage : Stage). IsInStage known survey stage ahead) (sym reading) at

-- nothing is to be read again
none-again : (known : Known) (old new : Survey) (again ahead : List ℕ) → again ≡ [] → GoesTo known old new ahead
    → GoesBehind known old new again ahead
none-again known old new again ahead none goes = record {
  goes =
      subst (λ (l : List ℕ). GoesTo known old new (l ++ ahead)) (sym none) goes;
  once = inl none;
}

-- ---- it is right

pub right-follows : (old : Survey) (held : log.Held) (listing : Listing) (again : List ℕ) → again ≡ []
    → TakesRight old.log old.listing held listing → held.buffer ≡ []
    → FollowsJudged old (Ok Right) again (record old { log = held; listing = listing })
right-follows old held listing again none takes anew known ahead j =
    let has = j.has in
    let point = has.point in
    let s = rules_by old in
    let new : Survey = record old { log = held; listing = listing } in
    let taken = j.gives point.read.given point.read.taken has.stands.has.sifts in
    let stands = takes s old.limits known point j.statement j.before (kept_by old) has.stands has.ended taken in
    let before = listed-length s old.limits point.read j.before old.listing has.stands.has in
    let behind = listed-length s old.limits (behind_taken point old.log.buffer j.statement).read (kept_by old) listing stands.has in
    let same : length listing.list.items ≡ length old.listing.list.items = behind ∙ sym before in
    let fewer = has.fewer in
    let reads : IsInStage known new Reading ahead = record {
      sound = record { few = has.sound.few; limited = has.sound.limited; keeper = has.sound.keeper };
      within = omega (arith, same, fewer);
      is_at = record {
        point = behind_taken point old.log.buffer j.statement;
        stands = stands;
        between = refl;
        ahead_are = has.ahead_are;
        seen_at = has.seen_at;
        counted = counts-closed old.log.start held.start (length known.bytes) point.read.bytes old.log.buffer held.buffer ahead
            has.stands.logs.start_is stands.logs.start_is anew has.counted;
      };
    } in
    none-again known old new again ahead none
    (record {
      course = still-reading known new ahead has.reading reads;
      same = record { rules = refl; limits = refl; most = refl };
      no_fewer = omega (arith, same);
    })

-- ---- it is wrong, and left out

pub left-follows : (old : Survey) (n : ℕ) (fault : Fault) (held : log.Held) (keeper : Keeper) (listing : Listing) (new : Survey)
    (again : List ℕ) → again ≡ [] → LeavesOut old.log (kept_by old) old.listing n fault true held (sifted_of keeper) listing
    → StaysBy old.keeper keeper → held.buffer ≡ [] → EndsWhereFull (record old { log = held; keeper = keeper; listing = listing }) new
    → FollowsJudged old (Ok (Wrong n fault)) again new
left-follows old n fault held keeper listing new again none leaves stays anew full known ahead j =
    let has = j.has in
    let point = has.point in
    let s = rules_by old in
    let wrong = j.gives in
    let middle : Survey = record old { log = held; keeper = keeper; listing = listing } in
    let ended : HasEnded old.log point (instance n wrong.record_) =
    subst (λ (st : Statement). HasEnded old.log point st) wrong.statement_is has.ended in
    let refused = wrong.refused point.read.given point.read.taken has.stands.has.sifts in
    let own : Stands s old.limits known old.log (kept_by old) old.listing point =
    subst (λ (k : Sifted). Stands s old.limits known old.log k old.listing point) (sym wrong.same) has.stands in
    let (begins, left) = leaves s old.limits known point wrong.record_ own ended refused in
    let next = behind_left_out point old.log.buffer n wrong.record_ (fault_number fault) begins in
    let r = rules_of keeper in
    let stands : Stands r old.limits known held (sifted_of keeper) listing next =
    subst (λ (x : Rules). Stands x old.limits known held (sifted_of keeper) listing next) (sym stays.rules) left in
    let before = listed-length s old.limits point.read (kept_by old) old.listing own.has in
    let behind = listed-length r old.limits next.read (sifted_of keeper) listing stands.has in
    let one : length (point.read.listed ++ record { number = fault_number fault; subject = in_instance n; begins = begins } ∷ []) ≡ length
    point.read.listed + 1 = length-append point.read.listed
    (record { number = fault_number fault; subject = in_instance n; begins = begins } ∷ []) in
    let more : length listing.list.items ≡ suc (length old.listing.list.items) = omega (arith, before, behind, one) in
    let fewer = has.fewer in
    let goes : GoesTo known middle new ahead = elim full [
      | inl (low, same) ↦ subst (λ (survey : Survey). GoesTo known middle survey ahead) (sym same)
          (record {
            course = still-reading known middle ahead has.reading
                (record {
                  sound = record {
                    few = has.sound.few;
                    limited = has.sound.limited;
                    keeper = stays.sound has.sound.keeper;
                  };
                  within = low;
                  is_at = record {
                    point = next;
                    stands = stands;
                    between = refl;
                    ahead_are = has.ahead_are;
                    seen_at = has.seen_at;
                    counted = counts-closed old.log.start held.start (length known.bytes) point.read.bytes old.log.buffer held.buffer ahead
                        own.logs.start_is stands.logs.start_is anew has.counted;
                  };
                });
            same = record { rules = refl; limits = refl; most = refl };
            no_fewer = omega arith;
          })
      | inr (high, same) ↦ subst (λ (survey : Survey). GoesTo known middle survey ahead) (sym same)
          (record {
            course = record {
              sound = record {
                few = has.sound.few;
                limited = has.sound.limited;
                keeper = stays.sound has.sound.keeper;
              };
              within = (omega (arith, more), omega (arith, more, fewer), λ most. omega (arith, more, fewer, high));
              is_at = record {
                surveys = λ file of. surveyed-most r old.limits file next.read (sifted_of keeper) listing (stands.logs.is_read file of) stands.has;
                of_file = are-listed listing.list.items next.read.listed stands.has.listed stands.has.of_file;
              };
            };
            same = record { rules = refl; limits = refl; most = refl };
            no_fewer = omega arith;
          })
    ] in
    let grown = goes.no_fewer in
    none-again known old new again ahead none
    (record {
      course = goes.course;
      same = record { rules = goes.same.rules ∙ stays.rules; limits = goes.same.limits; most = goes.same.most };
      no_fewer = omega (arith, more, grown);
    })

-- ---- it is refused by a session

pub refused-follows : OffendingEnds → (old new : Survey) (fault : Fault) (bytes again : List ℕ) → fault ≢ NoMemory → bytes ≡ old.log.buffer
    → again ≡ [] → EndsAt old fault bytes new → FollowsJudged old (Err fault) again new
refused-follows offends old new fault bytes again other are none ends known ahead j =
    none-again known old new again ahead none (ends known ahead
    (subst (λ (l : List ℕ). EndsWithin known old fault l ahead) (sym are) (refused-within offends known old fault ahead other j)))
