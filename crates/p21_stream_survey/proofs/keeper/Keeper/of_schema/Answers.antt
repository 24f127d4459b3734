use Rattle.p21_stream_survey.proofs.keeper.Keeper.of_schema.Goals as goal

pub returns-clause-nothing : goal.returns-clause-nothing
returns-clause-nothing c =
    (c.new.ensures.kept, c.new.ensures.refusals, c.new.ensures.names, (c.new.ensures.known, c.new-2.ensures c.args.schema.now))
