use Rattle.p21_model.proofs.instance.Instance.value.Goals as goal

pub returns : goal.returns
returns c record_ stated = let t = c.attributes.ensures.told record_ stated in
    record { rows = t.rows; told = t.told; has = c.find.ensures t.rows t.tells }
