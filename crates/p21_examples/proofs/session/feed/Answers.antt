use Rattle.p21_examples.proofs.Refused.{dead-behind}
use Rattle.p21_examples.proofs.session.feed.Goals as goal

pub returns-in-Err-clause-refuses : goal.returns-in-Err-clause-refuses
returns-in-Err-clause-refuses c other history is_open =
    dead-behind _ _ c.headline.ensures.claim _ _ _ c.in-Err.refusal history is_open c.type_inv.piece c.in-Err.ensures.gives c.in-Err.ensures.kind other
