use Rattle.p21_model.proofs.model.AcceptedModel.first_from.Goals as goal

pub returns-clause-stated : goal.returns-clause-stated
returns-clause-stated c stated =
    let (membership, among) = c.in-Some.ensures.some in
    stated (record { name = c.in-Some.found.0; membership = membership; text = c.in-Some.found.1.now }) among
