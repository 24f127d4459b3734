use Rattle.std.proofs.Common.{rules, refl, sym, subst}
use Rattle.p21_command_line.specs.CommandLine.{AreForms}
use Rattle.p21_command_line.proofs.commands.format.Goals as goal

pub returns-clause-rule : goal.returns-clause-rule
returns-clause-rule c =
    let given = c.value_parser.ensures.given in
    (given.0, subst AreForms (sym given.2) refl, search rules)
