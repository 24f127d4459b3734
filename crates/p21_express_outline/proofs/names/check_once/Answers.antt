use Rattle.p21_express_outline.proofs.names.check_once.Goals as goal

pub returns-then-branch : goal.returns-then-branch
returns-then-branch c = rw c.if-branch.true at c.in_ok-are_distinct.ensures

pub returns-else-branch : goal.returns-else-branch
returns-else-branch c = λ other. rw c.if-branch.false at c.in_ok-are_distinct.ensures
