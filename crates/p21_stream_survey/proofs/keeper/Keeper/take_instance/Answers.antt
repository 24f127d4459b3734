use Rattle.std.proofs.Common.{subst}
use Rattle.p21_stream_survey.specs.Taking.{FollowsInstances}
use Rattle.p21_stream_survey.specs.declared.keeper.Keeper.{Keeper}
use Rattle.p21_stream_survey.proofs.keeper.Keeper.take_instance.Goals as goal

pub take_instance-requires-clause-follows : goal.take_instance-requires-clause-follows
take_instance-requires-clause-follows c =
    subst (λ (k : Keeper). FollowsInstances k c.args.limits c.args.log.now c.args.rest.now) c.in-OfSchema.is c.requires.follows
