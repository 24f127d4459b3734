use Rattle.p21_express_outline.proofs.names.distinct_names.Goals as goal

pub returns-in-Some : goal.returns-in-Some
returns-in-Some c = (rw c.in-Some.is at c.in_ok-found.ensures.names, rw c.in-Some.is at c.in_ok-found.ensures.distinct)

pub returns-in-None : goal.returns-in-None
returns-in-None c = λ other. rw c.in-None.is at c.in_ok-found.ensures.names
