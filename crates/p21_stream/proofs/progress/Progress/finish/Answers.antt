use Rattle.p21_stream.proofs.Ending.{ends, ends-again}
use Rattle.p21_stream.specs.Inside.{held_in}
use Rattle.p21_stream.proofs.progress.Progress.finish.Goals as goal

pub returns-in-Some-clause-gives : goal.returns-in-Some-clause-gives
returns-in-Some-clause-gives c = λ limits. ends-again (held_in c.args.schema.now limits c.args.self) c.in-Some.refusal c.in-Some.is

pub returns-clause-gives : goal.returns-clause-gives
returns-clause-gives c = λ limits. ends c.args.schema.now limits c.args.self.walk.statements c.args.self.walk.kept c.args.self.refused
    c.in_default.is c.end.result c.end.ensures.gives

pub returns-in-Some-clause-kind : goal.returns-in-Some-clause-kind
returns-in-Some-clause-kind c = λ limits bounded. bounded.of_bytes c.in-Some.refusal c.in-Some.is

pub returns-clause-kind : goal.returns-clause-kind
returns-clause-kind c = λ limits bounded. c.end.ensures.kind

pub end-requires-clause-between : goal.end-requires-clause-between
end-requires-clause-between c =
    let (reading, none, live) = c.requires.bounded.1.reads c.in_default.is in
    record { limits = c.requires.bounded.0; reading = reading; live = live; none_seen = none }

pub end-requires-clause-lines : goal.end-requires-clause-lines
end-requires-clause-lines c = c.requires.lines c.in_default.is
