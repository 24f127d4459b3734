use Rattle.p21_test_records.proofs.tests.shorter_way.is_taken.Goals as goal

pub take-requires : goal.take-requires
take-requires c = c.new-taker.ensures c.args.schema.now
