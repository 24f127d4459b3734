use Rattle.std.proofs.Common.{[], ◌∷◌, ◌≡◌, refl}
use Rattle.p21_commands.specs.Failures.{failures_of}
use Rattle.p21_commands.specs.Same.{IsEither, read_of}
use Rattle.p21_commands.specs.SameButForNames.{AreUnnumbered, IsComparedButForNames}
use Rattle.p21_commands.proofs.Comparing.{answer-fails}
use Rattle.p21_commands.proofs.Failing.{after_reading, before_writing}
use Rattle.p21_commands.proofs.Numbering.{compared-but_for_names, read-in_order, telling-failed, telling-fails}
use Rattle.p21_commands.proofs.same_but_for_names.write_same_but_for_names.Goals as goal

pub returns-in-Err-clause-err : goal.returns-in-Err-clause-err
returns-in-Err-clause-err g c = telling-fails _ _ _ _ _ _ c.in_ok-schema.ensures.ok _ _ _ c.in-Err.which c.in-Err.refusal _ _
    c.usual.ensures c.word_of.ensures c.fault_of_names.ensures c.in-Err.ensures.err

pub returns-in-Ok-write_whole-clause-ok : goal.returns-in-Ok-write_whole-clause-ok
returns-in-Ok-write_whole-clause-ok g c = record {
  line = c.answer_line_of.result.now;
  is_line = compared-but_for_names _ _ _ _ _ _ c.in_ok-schema.ensures.ok _ _ _ c.usual.ensures c.in-Ok.ensures.claim c.in-Ok.ensures.ok
      c.answer_line_of.ensures;
  appended = c.in-Ok-write_whole.ensures.ok;
}

pub returns-clause-err : goal.returns-clause-err
returns-clause-err g c =
    let new = c.same_but_for_names.new in
    let read = read_of (g.S.Read.remaining c.args.schema.now.inner) (g.A.Read.remaining c.args.first.now.inner)
    (g.A.Read.remaining new.first.inner) (g.B.Read.remaining c.args.second.now.inner) (g.B.Read.remaining new.second.inner) in
    let is = compared-but_for_names _ _ _ _ _ _ c.in_ok-schema.ensures.ok _ _ _ c.usual.ensures c.in-Ok.ensures.claim c.in-Ok.ensures.ok
    c.answer_line_of.ensures in
    answer-fails (IsEither (IsComparedButForNames read)) (AreUnnumbered read) _ _ c.answer_line_of.result.now c.in-Err-write_whole.fault
    (c.in-Ok.same, is) c.in-Err-write_whole.ensures.err c.in-Err-write_whole.ensures.fault

pub returns-in-Err-clause-failed : goal.returns-in-Err-clause-failed
returns-in-Err-clause-failed g c =
    let first = failures_of c.args.first.now c.same_but_for_names.new.first in
    let second = failures_of c.args.second.now c.same_but_for_names.new.second in
    let fault = c.fault_of_names.result in
    let compared_failed = telling-failed _ _ _ _ _ _ c.word_of.result.now first second c.in-Err.which c.in-Err.refusal fault
    c.fault_of_names.ensures c.in-Err.ensures.err c.in-Err.ensures.failed_first c.in-Err.ensures.failed_second in
    let loaded = failures_of c.args.schema.now c.load_schema.new.reader in
    let read_failed = after_reading loaded (first ∷ second ∷ []) [] fault c.in_ok-schema.ensures.read compared_failed in
    before_writing (loaded ∷ first ∷ second ∷ []) (failures_of c.args.output.now c.args.output.now ∷ []) fault read_failed (refl, tt)

pub returns-in-Err-clause-order : goal.returns-in-Err-clause-order
returns-in-Err-clause-order g c = read-in_order _ _ _ _ _ _ c.in_ok-schema.ensures.ok (c.same_but_for_names.new.second ≡ c.args.second.now)
    _ c.usual.ensures c.in-Err.ensures.order

pub returns-in-Ok-write_whole-clause-order : goal.returns-in-Ok-write_whole-clause-order
returns-in-Ok-write_whole-clause-order g c = read-in_order _ _ _ _ _ _ c.in_ok-schema.ensures.ok
    (c.same_but_for_names.new.second ≡ c.args.second.now) _ c.usual.ensures c.in-Ok.ensures.order

pub returns-clause-order : goal.returns-clause-order
returns-clause-order g c = read-in_order _ _ _ _ _ _ c.in_ok-schema.ensures.ok (c.same_but_for_names.new.second ≡ c.args.second.now) _
    c.usual.ensures c.in-Ok.ensures.order
