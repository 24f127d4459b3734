use Rattle.p21_schema.proofs.hierarchy.Hierarchy.new.Goals as goal

pub invariant_of-result : goal.invariant_of-result
invariant_of-result c = (c.requires.holds_together, c.requires.named, c.in_ok-tables.ensures)
