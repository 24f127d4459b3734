use Rattle.std.proofs.Common.{sym, ◌∙◌}
use Rattle.p21_stream_survey.proofs.Onward.{as-stage}
use Rattle.p21_stream_survey.specs.declared.stage.Stage.TheVariants.{Reading, Seeking, Waiting}
use Rattle.p21_stream_survey.proofs.survey.Survey.advance.Goals as goal

pub returns-in-Reading-clause-goes : goal.returns-in-Reading-clause-goes
returns-in-Reading-clause-goes c = as-stage c.args.self.now c.read.new.self Reading c.replace.new.dest c.args.rest.now c.read.result
    (sym c.replace.ensures.value ∙ c.in-Reading.is) c.read.ensures.goes

pub returns-in-Seeking-clause-goes : goal.returns-in-Seeking-clause-goes
returns-in-Seeking-clause-goes c = as-stage c.args.self.now c.seek.new.self (Seeking c.in-Seeking.sought) c.replace.new.dest c.args.rest.now
    c.seek.result (sym c.replace.ensures.value ∙ c.in-Seeking.is) c.seek.ensures.goes

pub returns-in-Waiting-clause-goes : goal.returns-in-Waiting-clause-goes
returns-in-Waiting-clause-goes c = as-stage c.args.self.now c.wait.new.self (Waiting c.in-Waiting.unlisted) c.replace.new.dest
    c.args.rest.now c.wait.result (sym c.replace.ensures.value ∙ c.in-Waiting.is) c.wait.ensures.goes
