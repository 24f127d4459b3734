use Rattle.std.proofs.Common.{arith, take-take}
use Rattle.p21_values.proofs.bytes.Bytes.front.Goals as goal

pub returns : goal.returns
returns c = rw c.copy_from_slice.ensures.after (take-take c.args.count 24 c.args.bytes.now (omega arith))
