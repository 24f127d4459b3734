use Rattle.std.proofs.lemmas.Result.{IfOk-weaker}
use Rattle.p21_command_line.proofs.AddedCommands.{adds, of_all_forms}
use Rattle.p21_command_line.specs.CommandLine.{Forms, program_app}
use Rattle.p21_command_line.proofs.commands.command_line.Goals as goal

pub returns : goal.returns
returns c =
    let param = adds c.program.ensures c.in_ok-param.ensures.app c.in_ok-param.ensures.local c.in_ok-subcommand.ensures in
    let syntax_is = c.in_ok-syntax.ensures.app in
    let syntax = adds param syntax_is.2 c.in_ok-syntax.ensures.local c.in_ok-subcommand-2.ensures in
    let schema = adds syntax c.in_ok-schema.ensures.app c.in_ok-schema.ensures.local c.in_ok-subcommand-3.ensures in
    let check_is = c.in_ok-check.ensures.app in
    let check = adds schema check_is.2 c.in_ok-check.ensures.local c.in_ok-subcommand-4.ensures in
    let canon = adds check c.in_ok-canon.ensures.app c.in_ok-canon.ensures.local c.in_ok-subcommand-5.ensures in
    let show = adds canon c.in_ok-show.ensures.app c.in_ok-show.ensures.local c.in_ok-subcommand-6.ensures in
    let same = adds show c.in_ok-same.ensures.app c.in_ok-same.ensures.local c.in_ok-subcommand-7.ensures in
    let diff_is = c.in_ok-diff.ensures.app in
    let diff = adds same diff_is.2 c.in_ok-diff.ensures.local c.in_ok-subcommand-8.ensures in
    let forms : Forms = record { of_syntax = syntax_is.0; of_check = check_is.0; of_diff = diff_is.0 } in
    IfOk-weaker _ _ _ (λ new added. of_all_forms new program_app forms (syntax_is.1, check_is.1, diff_is.1)
    (adds diff c.in_ok-faults.ensures.app c.in_ok-faults.ensures.local added)) c.subcommand-9.ensures
