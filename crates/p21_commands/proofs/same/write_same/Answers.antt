use Rattle.std.proofs.Common.{[], ◌∷◌, ◌≡◌, inr, refl}
use Rattle.p21_commands.specs.Failures.{failures_of}
use Rattle.p21_commands.proofs.Failing.{after_reading, before_writing}
use Rattle.p21_commands.specs.Same.{IsAnswered, IsRefused, read_of}
use Rattle.p21_commands.proofs.Counting.{comparing-failed}
use Rattle.p21_commands.proofs.Comparing.{answer-fails, compared, comparing-fails, first-accepted, first-or_accepted}
use Rattle.p21_commands.proofs.same.write_same.Goals as goal

pub returns-in-Err-clause-err : goal.returns-in-Err-clause-err
returns-in-Err-clause-err g c = comparing-fails _ _ _ _ _ _ _ _ _ _ _ _ _ c.usual.ensures c.in_ok-schema.ensures.ok c.word_of.ensures
    c.fault_of.ensures c.in-Err.ensures.err

pub returns-in-Ok-write_whole-clause-ok : goal.returns-in-Ok-write_whole-clause-ok
returns-in-Ok-write_whole-clause-ok g c = record {
  line = c.answer_line_of.result.now;
  is_line = compared _ _ _ _ _ _ _ _ _ c.usual.ensures c.in_ok-schema.ensures.ok c.in-Ok.ensures.ok c.answer_line_of.ensures;
  appended = c.in-Ok-write_whole.ensures.ok;
}

pub returns-clause-err : goal.returns-clause-err
returns-clause-err g c =
    let read = read_of (g.S.Read.remaining c.args.schema.now.inner) (g.A.Read.remaining c.args.first.now.inner)
    (g.A.Read.remaining c.same_meaning.new.first.inner) (g.B.Read.remaining c.args.second.now.inner)
    (g.B.Read.remaining c.same_meaning.new.second.inner) in
    answer-fails (IsAnswered read) (IsRefused read) _ _ c.answer_line_of.result.now c.in-Err-write_whole.fault
    (c.in-Ok.same, compared _ _ _ _ _ _ _ _ _ c.usual.ensures c.in_ok-schema.ensures.ok c.in-Ok.ensures.ok c.answer_line_of.ensures)
    c.in-Err-write_whole.ensures.err c.in-Err-write_whole.ensures.fault

pub returns-in-Err-clause-failed : goal.returns-in-Err-clause-failed
returns-in-Err-clause-failed g c =
    let first = failures_of c.args.first.now c.same_meaning.new.first in
    let second = failures_of c.args.second.now c.same_meaning.new.second in
    let compared_failed = comparing-failed _ _ _ _ _ _ c.word_of.result.now first second c.in-Err.which c.in-Err.refusal c.fault_of.result
    c.fault_of.ensures c.in-Err.ensures.err c.in-Err.ensures.failed_first c.in-Err.ensures.failed_second in
    let loaded = failures_of c.args.schema.now c.load_schema.new.reader in
    let read_failed = after_reading loaded (first ∷ second ∷ []) [] c.fault_of.result c.in_ok-schema.ensures.read compared_failed in
    before_writing (loaded ∷ first ∷ second ∷ []) (failures_of c.args.output.now c.args.output.now ∷ []) c.fault_of.result read_failed
    (refl, tt)

pub returns-in-Err-clause-order : goal.returns-in-Err-clause-order
returns-in-Err-clause-order g c = first-or_accepted (c.same_meaning.new.second ≡ c.args.second.now) _ _ _ _ _ _ _ _ _ c.usual.ensures
    c.in_ok-schema.ensures.ok c.in-Err.ensures.err c.in-Err.ensures.order

pub returns-in-Ok-write_whole-clause-order : goal.returns-in-Ok-write_whole-clause-order
returns-in-Ok-write_whole-clause-order g c = inr (first-accepted _ _ _ _ _ _ _ _ c.usual.ensures c.in_ok-schema.ensures.ok
    c.in-Ok.ensures.ok)

pub returns-clause-order : goal.returns-clause-order
returns-clause-order g c = inr (first-accepted _ _ _ _ _ _ _ _ c.usual.ensures c.in_ok-schema.ensures.ok c.in-Ok.ensures.ok)
