use Rattle.std.proofs.Common.{refl, sym, ◌∙◌}
use Rattle.std.proofs.lemmas.Result.{IfOk-weaker}
use Rattle.p21_stream_survey.proofs.LastStage.{ends-restaged, sought-ends, stage-restaged}
use Rattle.p21_stream_survey.specs.ReadOut.{EndsStage}
use Rattle.p21_stream_survey.specs.declared.at_end.AtEnd.{AtEnd}
use Rattle.p21_stream_survey.specs.declared.stage.Stage.TheVariants.{Reading, Seeking}
use Rattle.p21_stream_survey.proofs.survey.Survey.finish_stage.Goals as goal

pub returns-in-Reading-clause-ends : goal.returns-in-Reading-clause-ends
returns-in-Reading-clause-ends c =
    IfOk-weaker c.finish_statement.result (λ (ended : AtEnd). EndsStage (record c.args.self.now { stage = c.replace.new.dest }) Reading
    ended c.finish_statement.new.self) (λ (ended : AtEnd). EndsStage c.args.self.now c.args.self.now.stage ended
    c.finish_statement.new.self)
    (λ ended ends. stage-restaged c.args.self.now c.finish_statement.new.self c.replace.new.dest Reading ended ends
    (sym c.replace.ensures.value ∙ c.in-Reading.is)) c.finish_statement.ensures.ends

pub returns-in-Ok-clause-ends : goal.returns-in-Ok-clause-ends
returns-in-Ok-clause-ends c =
    let other = record c.args.self.now { stage = c.replace.new.dest } in
    ends-restaged c.args.self.now (record other { listing = c.end_sought.new.listing }) c.replace.new.dest (Seeking c.in-Seeking.sought)
    c.in-Ok.extent
    (sought-ends other (record other { listing = c.end_sought.new.listing }) c.in-Seeking.sought c.in-Ok.extent
    (record { rules = refl; limits = refl; most = refl }) refl c.in-Ok.ensures.ends c.in-Ok.ensures.extent c.in-Ok.ensures.listed
    c.in-Ok.ensures.list) (sym c.replace.ensures.value ∙ c.in-Seeking.is)
