use Rattle.p21_schema.proofs.HeldLists.{held, held-other, held-none}
use Rattle.p21_schema.proofs.holders.Holders.find.Goals as goal

pub returns-then-holder-set : goal.returns-then-holder-set
returns-then-holder-set c = held c.args.self.now.of_lists.items c.args.set c.args.list c.in-Some.holder c.in-Some.ensures
    c.if-holder-set.true

pub returns-else-holder-set : goal.returns-else-holder-set
returns-else-holder-set c = held-other c.args.self.now.of_lists.items c.args.set c.args.list c.in-Some.holder c.in-Some.ensures
    c.if-holder-set.false

pub returns-in-None : goal.returns-in-None
returns-in-None c = held-none c.args.self.now.of_lists.items c.args.set c.args.list c.in-None.ensures
