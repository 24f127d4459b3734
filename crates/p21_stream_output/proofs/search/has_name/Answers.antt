use Rattle.std.proofs.Common.{arith}
use Rattle.p21_stream_output.proofs.Searching.{all-left, none-between}
use Rattle.p21_stream_output.proofs.search.has_name.Goals as goal

pub loop-low-init : goal.loop-low-init
loop-low-init c = all-left c.args.instances.now c.args.instance_positions.now c.args.name c.len-high.result c.len-high.ensures

pub returns-clause-no : goal.returns-clause-no
returns-clause-no c fails = none-between c.args.instances.now c.args.instance_positions.now c.args.name c.loop-low.low c.loop-low.high
    c.loop-low.invariant (omega (arith, c.loop-low-test.false))
