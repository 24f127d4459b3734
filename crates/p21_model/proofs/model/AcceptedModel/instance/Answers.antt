use Rattle.p21_model.proofs.model.AcceptedModel.instance.Goals as goal

pub returns-clause-stated : goal.returns-clause-stated
returns-clause-stated c stated = let (membership, among) = c.in_ok-line.ensures.some in
    stated (record { name = c.args.name; membership = membership; text = c.in_ok-line.line.now }) among
