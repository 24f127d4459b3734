use Rattle.std.proofs.Common.{arith}
use Rattle.p21_stream_log.proofs.Breaking.{empty-front, taken-front}
use Rattle.p21_stream_log.proofs.front.front_of.Goals as goal

pub returns-then-count-bytes-clause-front : goal.returns-then-count-bytes-clause-front
returns-then-count-bytes-clause-front c = empty-front c.args.bytes.now

pub returns-in-Ok-true-clause-front : goal.returns-in-Ok-true-clause-front
returns-in-Ok-true-clause-front c = taken-front c.args.bytes.now c.args.count (omega arith) (c.in-Ok-true.ensures c.in-Ok-true.field-0-test)

pub returns-in-Ok-false-clause-front : goal.returns-in-Ok-false-clause-front
returns-in-Ok-false-clause-front c = empty-front c.args.bytes.now
