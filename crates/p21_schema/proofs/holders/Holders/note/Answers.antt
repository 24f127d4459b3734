use Rattle.p21_schema.proofs.HeldLists.{notes}
use Rattle.p21_schema.proofs.holders.Holders.note.Goals as goal

pub returns : goal.returns
returns c = notes c.args.self.now.of_lists.items c.args.list record { set = c.args.set; entity = c.args.entity } c.requires
