use Rattle.std.proofs.Common.{◌≡◌, codes, false, rules}
use Rattle.std.proofs.lemmas.Result.{IfOk-weaker}
use Rattle.clap.specs.Words.{app_of, new_app}
use Rattle.clap.specs.declared.builder.command.Command.TheViews.{out-Command as fields_of}
use Rattle.p21_command_line.proofs.AddedCommands.{adds_argument, stays_local}
use Rattle.p21_command_line.proofs.commands.canon.Goals as goal

pub returns-clause-app : goal.returns-clause-app
returns-clause-app c =
    let none : app_of c.after_help.result ≡ new_app (codes "canon") = search rules in
    let schema = adds_argument c.after_help.result c.in_ok-arg.field-0 c.schema_path.result none c.schema_path.ensures.rule
    c.schema_path.ensures.local c.in_ok-arg.ensures in
    let file = adds_argument c.in_ok-arg.field-0 c.in_ok-arg-2.field-0 c.file_path.result schema c.file_path.ensures.rule
    c.file_path.ensures.local c.in_ok-arg-2.ensures in
    let named = adds_argument c.in_ok-arg-2.field-0 c.in_ok-arg-3.field-0 c.names.result file c.names.ensures.rule c.names.ensures.local
    c.in_ok-arg-3.ensures in
    IfOk-weaker _ _ _ (λ new. adds_argument c.in_ok-arg-3.field-0 new c.progress.result named c.progress.ensures.rule
    c.progress.ensures.local) c.arg-4.ensures

pub returns-clause-local : goal.returns-clause-local
returns-clause-local c =
    let none : (fields_of c.after_help.result).has_globals ≡ false = search rules in
    let schema = stays_local c.after_help.result c.in_ok-arg.field-0 c.schema_path.result none c.schema_path.ensures.local
    c.in_ok-arg.ensures in
    let file = stays_local c.in_ok-arg.field-0 c.in_ok-arg-2.field-0 c.file_path.result schema c.file_path.ensures.local
    c.in_ok-arg-2.ensures in
    let named = stays_local c.in_ok-arg-2.field-0 c.in_ok-arg-3.field-0 c.names.result file c.names.ensures.local c.in_ok-arg-3.ensures in
    IfOk-weaker _ _ _ (λ new. stays_local c.in_ok-arg-3.field-0 new c.progress.result named c.progress.ensures.local) c.arg-4.ensures
