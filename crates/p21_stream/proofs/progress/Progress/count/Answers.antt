use Rattle.p21_stream.proofs.Ending.{ends-again}
use Rattle.p21_stream.proofs.Counts.{counts}
use Rattle.p21_stream.specs.Inside.{held_in}
use Rattle.p21_stream.proofs.progress.Progress.count.Goals as goal

pub returns-in-Some-clause-gives : goal.returns-in-Some-clause-gives
returns-in-Some-clause-gives c = λ limits. ends-again (held_in c.args.schema.now limits c.args.self) c.in-Some.refusal c.in-Some.is

pub returns-clause-gives : goal.returns-clause-gives
returns-clause-gives c = λ limits. counts c.args.schema.now limits c.args.self.walk.statements c.args.self.walk.kept c.args.self.refused
    c.in_default.is c.count_end.result c.count_end.ensures.gives

pub returns-in-Some-clause-kind : goal.returns-in-Some-clause-kind
returns-in-Some-clause-kind c = λ limits bounded. bounded.of_bytes c.in-Some.refusal c.in-Some.is

pub returns-clause-kind : goal.returns-clause-kind
returns-clause-kind c = λ limits bounded. c.count_end.ensures.kind

pub count_end-requires : goal.count_end-requires
count_end-requires c =
    let (reading, none, live) = c.requires.1.reads c.in_default.is in
    record { limits = c.requires.0; reading = reading; live = live; none_seen = none }
