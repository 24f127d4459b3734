use Rattle.p21_differences.proofs.Naming.{next-found}
use Rattle.p21_differences.proofs.changes.TwoFiles.next_name.Goals as goal

pub returns : goal.returns
returns c =
    next-found c.args.self.first.now.kept c.args.self.second.now.kept c.args.least c.first_name.result c.first_name-2.result c.lesser.result
    c.first_name.ensures c.first_name-2.ensures c.lesser.ensures
