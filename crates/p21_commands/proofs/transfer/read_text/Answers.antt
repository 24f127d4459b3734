use Rattle.std.proofs.Common.{arith, rules}
use Rattle.p21_commands.proofs.TransferLemmas.{consumes_nothing, gives_all, gives_most, read_more}
use Rattle.p21_commands.specs.Transfer.{most_read}
use Rattle.p21_commands.proofs.transfer.read_text.Goals as goal

pub returns-then-count-eq0-clause-text : goal.returns-then-count-eq0-clause-text
returns-then-count-eq0-clause-text g c =
    gives_all most_read _ _ _ (consumes_nothing _ _ _ _ _ _ _ c.loop-piece.invariant.0 c.in-Ok.ensures.bytes.0 c.if-count-eq0.true)
    (c.in-Ok.ensures.bytes.1 c.if-count-eq0.true (search rules))

pub returns-in_err-extend_from_slice-clause-consumed : goal.returns-in_err-extend_from_slice-clause-consumed
returns-in_err-extend_from_slice-clause-consumed g c =
    let all = read_more most_read _ _ _ _ _ c.loop-piece.invariant.0 c.in-Ok.ensures.bytes.0 (search rules) in
    (_, all.consumed, all.within)

pub returns-clause-text : goal.returns-clause-text
returns-clause-text g c = gives_most most_read _ _ _ c.loop-piece.invariant.0 (omega arith)
