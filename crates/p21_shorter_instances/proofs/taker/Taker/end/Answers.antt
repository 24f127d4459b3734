use Rattle.std.proofs.Common.{arith}
use Rattle.p21_spec_exchange.specs.Statement.{instance, statement_tokens}
use Rattle.p21_shorter_instances.proofs.InstanceBytes.{found-same, instance-in, whole-range}
use Rattle.p21_shorter_instances.proofs.Laid.{laid-shorter}
use Rattle.p21_shorter_instances.proofs.Leaving.{err-handed}
use Rattle.p21_shorter_instances.proofs.taker.Taker.end.Goals as goal

pub end_instance-requires : goal.end_instance-requires
end_instance-requires c = c.requires.taker.plan

pub returns-clause-takes : goal.returns-clause-takes
returns-clause-takes c =
    let begun = c.requires.begun in
    let piece = c.args.piece.now in
    let taken = c.end_instance.new.taken in
    let takes = c.in_ok-entities.ensures c.args.begun.number piece begun.old begun.begins in
    let line = whole-range taken.draft c.between.result.now c.len.result c.len.ensures c.between.ensures in
    found-same c.args.schema.now c.args.begun.number _ _ taken.draft c.between.result.now taken.needs.items c.deref.result.now line
    c.deref.ensures.value
    (instance-in c.args.schema.now c.args.begun.number _ piece c.in_ok-entities.rest.now begun.old taken takes begun.no_text begun.no_needs)

pub overflow_sub-result : goal.overflow_sub-result
overflow_sub-result c =
    let begun = c.requires.begun in
    let takes = c.in_ok-entities.ensures c.args.begun.number c.args.piece.now begun.old begun.begins in
    let shorter = laid-shorter c.args.piece.now c.in_ok-entities.rest.now (statement_tokens (instance c.args.begun.number takes.record_))
    takes.laid in
    omega (arith, shorter)

pub returns-in_err-entities-clause-at_mark : goal.returns-in_err-entities-clause-at_mark
returns-in_err-entities-clause-at_mark c =
    err-handed _ c.from_residual.result _ c.from_residual.ensures.1 (λ same. c.requires.mark)
