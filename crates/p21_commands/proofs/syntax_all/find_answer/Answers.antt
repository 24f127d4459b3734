use Rattle.p21_commands.proofs.SurveysAlone.{alone-read, text-alone, told-alone}
use Rattle.p21_commands.proofs.syntax_all.find_answer.Goals as goal

pub returns-in_ok-text-in-WellFormed-clause-ok : goal.returns-in_ok-text-in-WellFormed-clause-ok
returns-in_ok-text-in-WellFormed-clause-ok g c =
    told-alone c.args.details c.usual.result _ _ c.in-Ok.found c.in-WellFormed.well_formed _ c.usual.ensures c.in-WellFormed.is
    c.in-Ok.ensures.surveys c.in_ok-text-in-WellFormed.ensures

pub returns-in_ok-said-in-Refused-clause-ok : goal.returns-in_ok-said-in-Refused-clause-ok
returns-in_ok-said-in-Refused-clause-ok g c =
    text-alone c.usual.result _ _ c.in-Ok.found c.in-Refused.refusals c.usual.ensures c.in-Refused.is c.in-Ok.ensures.surveys c.args.most _ _
    c.in-Ok.ensures.counted c.in_ok-said-in-Refused.ensures.0 c.in_ok-said-in-Refused.ensures.1

pub returns-in_ok-said-in-Refused-clause-read : goal.returns-in_ok-said-in-Refused-clause-read
returns-in_ok-said-in-Refused-clause-read g c =
    alone-read c.usual.result _ _ c.in-Ok.found c.in-Refused.refusals c.usual.ensures c.in-Refused.is c.in-Ok.ensures.surveys _ _
    c.in_ok-said-in-Refused.ensures.1 c.in-Ok.ensures.failed c.in-Ok.ensures.ends_by_read
