use Rattle.p21_examples.proofs.Refused.{refused-end}
use Rattle.p21_examples.proofs.session.receive.Goals as goal

pub returns-in-Err-finish-clause-stopped : goal.returns-in-Err-finish-clause-stopped
returns-in-Err-finish-clause-stopped g c other =
    refused-end _ _ c.headline.ensures.claim _ _ _ c.in-Err-finish.refusal c.in-Ok.ensures.ok c.in-Err-finish.ensures.gives c.in-Err-finish.ensures.kind other
