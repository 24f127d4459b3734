use Rattle.p21_grammar.proofs.Expected.{could-kind}
use Rattle.p21_grammar.specs.Machine.{spot_of}
use Rattle.p21_grammar.proofs.parser.Parser.could_take.Goals as goal

pub returns : goal.returns
returns c = could-kind c.self.inside.machine.stage (spot_of c.self.inside.machine) c.self.inside.depth c.self.inside.refused c.args.self.now c.args.kind c.could_take.result c.self.view_is c.self.invariant.ran c.could_take.ensures
