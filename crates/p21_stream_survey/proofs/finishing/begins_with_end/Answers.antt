use Rattle.std.proofs.Common.{subst}
use Rattle.p21_stream_log.specs.Opening.{OpensAs}
use Rattle.p21_stream_log.specs.declared.opening.Opening.{Opening}
use Rattle.p21_stream_survey.proofs.AtEnd.{not-with_end}
use Rattle.p21_stream_log.specs.declared.opening.Opening.TheVariants.{Statement}
use Rattle.p21_stream_survey.proofs.finishing.begins_with_end.Goals as goal

pub returns-in-Statement-clause-no : goal.returns-in-Statement-clause-no
returns-in-Statement-clause-no c = λ no. not-with_end c.args.bytes.now Statement (λ same. cc)
    (subst (λ (o : Opening). OpensAs c.args.bytes.now o) c.in-Statement.is c.opening_of.ensures)
