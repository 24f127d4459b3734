use Rattle.p21_stream_kept.proofs.Instances.{instance-again}
use Rattle.p21_stream_kept.proofs.kept.Kept.take_found.Goals as goal

pub returns-then-has_name-clause-gives : goal.returns-then-has_name-clause-gives
returns-then-has_name-clause-gives c = λ record_ is. instance-again c.args.schema.now c.args.limits c.args.self.now c.args.self.now
    c.args.found.now.name record_ (c.has_name.ensures.0 c.if-has_name.true)
