use Rattle.p21_c.proofs.Answering.{compares-under}
use Rattle.p21_c.proofs.files.compare.Goals as goal

pub returns : goal.returns
returns c = compares-under _ c.deref.result.now _ c.in-Some.ensures c.deref.ensures c.compare_under.result.1.answer c.args.first.now
    c.args.second.now c.compare_under.result.0 c.compare_under.ensures
