use Rattle.p21_stream_survey.proofs.Tokens.{window-goes}
use Rattle.p21_stream_survey.specs.declared.stage.Stage.TheVariants.{Reading}
use Rattle.p21_stream_survey.proofs.survey.Survey.read_token.Goals as goal

pub returns-clause-goes : goal.returns-clause-goes
returns-clause-goes c = window-goes c.args.self.now c.read_window.new.self Reading c.args.rest.now c.window_of.result.now
    c.read_window.result c.window_of.ensures c.read_window.ensures.within c.read_window.ensures.goes
