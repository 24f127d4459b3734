use Rattle.p21_express_outline.proofs.types.simple_type.Goals as goal

pub returns-in-Named : goal.returns-in-Named
returns-in-Named c = rw c.in-Named.is (rw c.bytes.ensures at c.named_type.ensures)
