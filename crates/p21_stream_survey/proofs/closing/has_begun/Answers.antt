use Rattle.p21_stream_survey.proofs.Begun.{end-begun}
use Rattle.p21_stream_survey.proofs.closing.has_begun.Goals as goal

pub returns-in-SectionEnd : goal.returns-in-SectionEnd
returns-in-SectionEnd c = λ yes. end-begun c.args.bytes.now c.in-SectionEnd.ensures

pub returns-in-Statement : goal.returns-in-Statement
returns-in-Statement c = λ yes. c.in-Statement.ensures.0
