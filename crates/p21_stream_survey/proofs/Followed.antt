-- What is done with a statement that has ended and is judged.
use Rattle.std.proofs.Common.{Result, Ok, Err, OnOk, ◌≡◌, ℕ, true, false, suc, List, [], ◌∷◌, ◌++◌, Some, None, refl, subst, sym}
use Rattle.p21_spec_exchange.specs.Record.{Record}
use Rattle.p21_spec_exchange.specs.Statement.{Statement}
use Rattle.p21_spec_survey.specs.Rules.{Rules, by_itself, of_schema}
use Rattle.p21_spec_survey.specs.Survey as survey
use Rattle.p21_spec_survey.specs.Survey.{IsRefusedInstance, in_instance}
use Rattle.p21_stream_log.specs.Log as log
use Rattle.p21_stream_log.specs.Log.{LeaveOutGives, TakeGives}
use Rattle.p21_stream_sieve.specs.Sifting.{broken, name_again}
use Rattle.p21_stream_survey.specs.Sifted.{Sifted}
use Rattle.p21_stream_statements.specs.Fault.{fault_number}
use Rattle.p21_stream_statements.specs.declared.fault.Fault.{Fault}
use Rattle.p21_stream_survey.proofs.Readings.{reads-left_out, reads-taken}
use Rattle.p21_stream_survey.specs.Following.{LeavesOut, TakesRight}
use Rattle.p21_stream_survey.specs.Judging.{LeavesName, RefusesBy}
use Rattle.p21_stream_survey.specs.Reading.{listed_as}
use Rattle.p21_stream_survey.specs.declared.listed.Listed as code
use Rattle.p21_stream_survey.specs.declared.listing.Listing.{Listing}

pub takes-right : (old new : log.Held) (before behind : Listing) → TakeGives old new → behind.list.items ≡ before.list.items
    → behind.passed ≡ before.passed → behind.is_broken ≡ before.is_broken → behind.statement ≡ suc before.statement
    → TakesRight old before new behind
takes-right old new before behind gives list passed broken_ statement s limits known point st sieve kept stands ended takes =
    let (are, logs) = gives s limits known point st stands.logs ended.ended ended.ends takes.right in
    record {
      logs = logs;
      has = reads-taken s limits point.read old.buffer st sieve kept before behind stands.has takes list passed broken_
          statement;
    }

-- the same, where memory is wanting to no count
pub takes-counted : {E : Type 0} (old new : log.Held) (before behind : Listing) (result : Result (Unit {0}) E) → TakeGives old new
    → behind.list.items ≡ before.list.items → behind.passed ≡ before.passed → behind.is_broken ≡ before.is_broken
    → OnOk result (behind.statement ≡ suc before.statement) → OnOk result (TakesRight old before new behind)
takes-counted old new before behind (Ok done) gives list passed broken_ statement =
    takes-right old new before behind gives list passed broken_ statement
takes-counted old new before behind (Err none) gives list passed broken_ statement = tt

-- an instance is refused by the number of its fault
pub refused-number : (s : Rules) (given : List Statement) (n : ℕ) (r : Record) (fault : Fault) → RefusesBy s given n r fault
    → IsRefusedInstance s given n r (fault_number fault)
refused-number (of_schema s) given n r fault (broken _ of nothing breaks) = survey.broken (fault_number fault) nothing breaks
refused-number (of_schema s) given n r fault (name_again among) = survey.name_again among
refused-number by_itself given n r fault (is, among) =
    subst (λ (f : Fault). IsRefusedInstance by_itself given n r (fault_number f)) (sym is) (survey.name_again among)

pub leaves-out : (old new : log.Held) (sieve after : Sifted) (before behind : Listing) (n begins : ℕ) (fault : Fault) (one : code.Listed)
    → LeaveOutGives old (Some begins) new → LeavesName sieve n fault after
    → listed_as one ≡ record { number = fault_number fault; subject = in_instance n; begins = begins }
    → behind.list.items ≡ before.list.items ++ one ∷ [] → behind.passed ≡ before.passed → behind.is_broken ≡ before.is_broken
    → behind.statement ≡ suc before.statement → LeavesOut old sieve before n fault true new after behind
leaves-out old new sieve after before behind n begins fault one gives lists is list passed broken_ statement s limits known point r stands
    ended refused = (
      begins,
      record {
        logs = gives s limits known point n r (fault_number fault) stands.logs ended.ended ended.ends
            (refused-number s point.read.given n r fault refused);
        has = reads-left_out s limits point.read old.buffer n begins r fault sieve after before behind one stands.has lists refused is list
            passed broken_ statement;
      },
    )

pub stays : (old new : log.Held) (sieve : Sifted) (before : Listing) (n : ℕ) (fault : Fault) → LeaveOutGives old None new
    → LeavesOut old sieve before n fault false new sieve before
stays old new sieve before n fault (same, inside) = (
  same,
  refl,
  refl,
  λ s limits known point st bytes stands ended. inside s limits known point st bytes stands.logs ended.ended ended.ends,
)
