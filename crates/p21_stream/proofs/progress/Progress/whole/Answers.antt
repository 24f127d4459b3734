use Rattle.std.proofs.lemmas.Result.{IfOk-weaker}
use Rattle.std.specs.Prelude.{◌≡◌, None}
use Rattle.p21_spec_laws.specs.Keeping.{Kept}
use Rattle.p21_stream.proofs.Ending.{ends-again}
use Rattle.p21_stream.proofs.Counts.{wholes}
use Rattle.p21_stream.specs.Inside.{held_in}
use Rattle.p21_stream.proofs.progress.Progress.whole.Goals as goal

pub returns-in-Some-clause-gives : goal.returns-in-Some-clause-gives
returns-in-Some-clause-gives c = λ limits. ends-again (held_in c.args.schema.now limits c.args.self) c.in-Some.refusal c.in-Some.is

pub returns-clause-gives : goal.returns-clause-gives
returns-clause-gives c = λ limits. wholes c.args.schema.now limits c.args.self.walk.statements c.args.self.walk.kept c.args.self.refused
    c.in_default.is c.whole_end.result c.whole_end.ensures.gives

pub returns-in-Some-clause-kind : goal.returns-in-Some-clause-kind
returns-in-Some-clause-kind c = λ limits bounded. bounded.of_bytes c.in-Some.refusal c.in-Some.is

pub returns-clause-kind : goal.returns-clause-kind
returns-clause-kind c = λ limits bounded. c.whole_end.ensures.kind

pub returns-clause-lines : goal.returns-clause-lines
returns-clause-lines c = IfOk-weaker c.whole_end.result (λ (k : Kept). k.lines ≡ c.args.self.walk.kept.lines)
    (λ (k : Kept). (c.args.self.refused ≡ None) × (k.lines ≡ c.args.self.walk.kept.lines)) (λ k same. (c.in_default.is, same))
    c.whole_end.ensures.lines

pub whole_end-requires : goal.whole_end-requires
whole_end-requires c =
    let (reading, none, live) = c.requires.1.reads c.in_default.is in
    record { limits = c.requires.0; reading = reading; live = live; none_seen = none }
