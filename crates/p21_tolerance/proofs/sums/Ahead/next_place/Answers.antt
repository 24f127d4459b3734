use Rattle.p21_tolerance.proofs.sums.Ahead.next_place.Goals as goal

pub returns-then-self-clause-within : goal.returns-then-self-clause-within
returns-then-self-clause-within c =
    c.higher.ensures.least c.args.place (c.top.ensures.least c.args.place c.requires.left_below)
    (c.top-then-self.ensures.least c.args.place c.requires.right_below)
