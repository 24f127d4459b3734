use Rattle.p21_differences.proofs.Naming.{about-lines}
use Rattle.p21_differences.proofs.changes.TwoFiles.change_about.Goals as goal

pub returns : goal.returns
returns c =
    about-lines c.args.self.schema.now c.args.self.first.now.kept c.args.self.second.now.kept c.args.name c.in-Some.first.now
    c.in-Some-line-2.second.now c.change_of.result c.in-Some.ensures.some c.in-Some-line-2.ensures.some
    c.change_of.ensures
