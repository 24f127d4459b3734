use Rattle.p21_tolerance.proofs.sums.Sum.top.Goals as goal

pub returns-clause-least : goal.returns-clause-least
returns-clause-least c place stand = c.higher.ensures.least place (c.top.ensures.least place stand.0) (c.top-2.ensures.least place stand.1)
