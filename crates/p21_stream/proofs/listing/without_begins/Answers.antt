use Rattle.std.proofs.Common.{arith}
use Rattle.p21_stream.proofs.SurveyFeeding.{mapped-all, mapped-next}
use Rattle.p21_stream.specs.Survey.{refusal_of}
use Rattle.p21_stream.proofs.listing.without_begins.Goals as goal

pub loop-listed-preserved : goal.loop-listed-preserved
loop-listed-preserved c =
    mapped-next refusal_of c.args.list.now c.loop-listed.listed-index c.listed-item.result c.loop-listed.refusals.items _
    c.loop-listed-test.true
    c.listed-item.is c.loop-listed.invariant c.in_ok-push.ensures.items

pub returns : goal.returns
returns c = let end = c.loop-listed-test.false in mapped-all refusal_of c.args.list.now c.loop-listed.listed-index _ (omega (arith, end))
    c.loop-listed.invariant
