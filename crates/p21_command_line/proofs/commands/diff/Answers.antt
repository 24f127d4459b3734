use Rattle.std.proofs.Common.{◌≡◌, ◌∙◌, Bool, ap, codes}
use Rattle.std.proofs.lemmas.Result.{IfOk-weaker}
use Rattle.clap.specs.Simple.{app_of_fields}
use Rattle.clap.specs.Words.{app_of, new_app}
use Rattle.clap.specs.declared.builder.command.Command.{Command}
use Rattle.clap.specs.declared.builder.command.Command.TheOpen.{Command-F}
use Rattle.p21_command_line.proofs.AddedCommands.{adds_argument, of_forms, stays_local}
use Rattle.p21_command_line.specs.CommandLine.{diff_app}
use Rattle.p21_command_line.proofs.commands.diff.Goals as goal

pub returns-clause-app : goal.returns-clause-app
returns-clause-app c =
    let none : app_of c.after_help.result ≡ new_app (codes "diff") = ap app_of_fields c.after_help.ensures
    ∙ (ap app_of_fields c.about.ensures ∙ c.new.ensures.app) in
    let schema = adds_argument c.after_help.result c.in_ok-arg.field-0 c.schema_path.result none c.schema_path.ensures.rule
    c.schema_path.ensures.local c.in_ok-arg.ensures in
    let first = adds_argument c.in_ok-arg.field-0 c.in_ok-arg-2.field-0 c.given.result schema c.given.ensures.rule c.given.ensures.local
    c.in_ok-arg-2.ensures in
    let second = adds_argument c.in_ok-arg-2.field-0 c.in_ok-arg-3.field-0 c.given-2.result first c.given-2.ensures.rule
    c.given-2.ensures.local c.in_ok-arg-3.ensures in
    let named = adds_argument c.in_ok-arg-3.field-0 c.in_ok-arg-4.field-0 c.names.result second c.names.ensures.rule c.names.ensures.local
    c.in_ok-arg-4.ensures in
    let paired = adds_argument c.in_ok-arg-4.field-0 c.in_ok-arg-5.field-0 c.pairs.result named c.pairs.ensures.rule c.pairs.ensures.local
    c.in_ok-arg-5.ensures in
    let without = adds_argument c.in_ok-arg-5.field-0 c.in_ok-arg-6.field-0 c.data.result paired c.data.ensures.rule c.data.ensures.local
    c.in_ok-arg-6.ensures in
    let ignoring = adds_argument c.in_ok-arg-6.field-0 c.in_ok-arg-7.field-0 c.ignore.result without c.ignore.ensures.rule
    c.ignore.ensures.local c.in_ok-arg-7.ensures in
    let within = adds_argument c.in_ok-arg-7.field-0 c.in_ok-arg-8.field-0 c.tolerance.result ignoring c.tolerance.ensures.rule
    c.tolerance.ensures.local c.in_ok-arg-8.ensures in
    let form_is = c.format.ensures.rule in
    let form = adds_argument c.in_ok-arg-8.field-0 c.in_ok-arg-9.field-0 c.format.result within form_is.2 c.format.ensures.local
    c.in_ok-arg-9.ensures in
    IfOk-weaker _ _ _ (λ new added. of_forms new diff_app form_is.0 form_is.1
    (adds_argument c.in_ok-arg-9.field-0 new c.progress.result form c.progress.ensures.rule c.progress.ensures.local added))
    c.arg-10.ensures

pub returns-clause-local : goal.returns-clause-local
returns-clause-local c =
    let globals : Command-F Command → Bool = λ f. f.has_globals in
    let none = ap globals c.after_help.ensures ∙ (ap globals c.about.ensures ∙ c.new.ensures.local) in
    let schema = stays_local c.after_help.result c.in_ok-arg.field-0 c.schema_path.result none c.schema_path.ensures.local
    c.in_ok-arg.ensures in
    let first = stays_local c.in_ok-arg.field-0 c.in_ok-arg-2.field-0 c.given.result schema c.given.ensures.local c.in_ok-arg-2.ensures in
    let second = stays_local c.in_ok-arg-2.field-0 c.in_ok-arg-3.field-0 c.given-2.result first c.given-2.ensures.local
    c.in_ok-arg-3.ensures in
    let named = stays_local c.in_ok-arg-3.field-0 c.in_ok-arg-4.field-0 c.names.result second c.names.ensures.local c.in_ok-arg-4.ensures in
    let paired = stays_local c.in_ok-arg-4.field-0 c.in_ok-arg-5.field-0 c.pairs.result named c.pairs.ensures.local c.in_ok-arg-5.ensures in
    let without = stays_local c.in_ok-arg-5.field-0 c.in_ok-arg-6.field-0 c.data.result paired c.data.ensures.local c.in_ok-arg-6.ensures in
    let ignoring = stays_local c.in_ok-arg-6.field-0 c.in_ok-arg-7.field-0 c.ignore.result without c.ignore.ensures.local
    c.in_ok-arg-7.ensures in
    let within = stays_local c.in_ok-arg-7.field-0 c.in_ok-arg-8.field-0 c.tolerance.result ignoring c.tolerance.ensures.local
    c.in_ok-arg-8.ensures in
    let form = stays_local c.in_ok-arg-8.field-0 c.in_ok-arg-9.field-0 c.format.result within c.format.ensures.local
    c.in_ok-arg-9.ensures in
    IfOk-weaker _ _ _ (λ new. stays_local c.in_ok-arg-9.field-0 new c.progress.result form c.progress.ensures.local) c.arg-10.ensures
