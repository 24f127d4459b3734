use Rattle.p21_grammar.proofs.Between.{refused-value, open-value, open-stands, open-between}
use Rattle.p21_grammar.specs.Machine.{spot_of}
use Rattle.p21_grammar.proofs.parser.Parser.is_between_instances.Goals as goal

pub returns-then-is_some-clause-value : goal.returns-then-is_some-clause-value
returns-then-is_some-clause-value c =
    refused-value c.self.inside.machine.stage (spot_of c.self.inside.machine) c.self.inside.depth c.self.inside.refused c.args.self.now c.self.view_is c.if-is_some.ensures

pub returns-clause-value : goal.returns-clause-value
returns-clause-value c =
    open-value c.self.inside.machine.stage (spot_of c.self.inside.machine) c.self.inside.depth c.self.inside.refused c.args.self.now c.self.view_is
    c.is_between_instances.result c.if-is_some.ensures c.is_between_instances.ensures

pub returns-clause-stands : goal.returns-clause-stands
returns-clause-stands c =
    open-stands c.self.inside.machine.stage (spot_of c.self.inside.machine) c.self.inside.depth c.self.inside.refused c.args.self.now c.self.view_is
    c.is_between_instances.result c.if-is_some.ensures c.is_between_instances.ensures c.self.invariant.depth_is

pub returns-clause-between : goal.returns-clause-between
returns-clause-between c =
    open-between c.self.inside.machine.stage (spot_of c.self.inside.machine) c.self.inside.depth c.self.inside.refused c.args.self.now c.self.view_is
    c.is_between_instances.result c.if-is_some.ensures c.is_between_instances.ensures c.self.invariant.depth_is
