use Rattle.std.proofs.Common.{◌≡◌, ◌∙◌, Bool, ap, codes, rules}
use Rattle.std.proofs.lemmas.Result.{IfOk-weaker}
use Rattle.clap.specs.Words.{app_of, new_app}
use Rattle.clap.specs.declared.builder.command.Command.{Command}
use Rattle.clap.specs.declared.builder.command.Command.TheOpen.{Command-F}
use Rattle.p21_command_line.proofs.AddedCommands.{adds_argument, of_forms, stays_local}
use Rattle.p21_command_line.specs.CommandLine.{syntax_app}
use Rattle.p21_command_line.proofs.commands.syntax.Goals as goal

pub returns-clause-app : goal.returns-clause-app
returns-clause-app c =
    let none : app_of c.after_help.result ≡ new_app (codes "syntax") = search rules in
    let file = adds_argument c.after_help.result c.in_ok-arg.field-0 c.file_paths.result none c.file_paths.ensures.rule
    c.file_paths.ensures.local c.in_ok-arg.ensures in
    let words = adds_argument c.in_ok-arg.field-0 c.in_ok-arg-2.field-0 c.header.result file c.header.ensures.rule c.header.ensures.local
    c.in_ok-arg-2.ensures in
    let counts = adds_argument c.in_ok-arg-2.field-0 c.in_ok-arg-3.field-0 c.count.result words c.count.ensures.rule c.count.ensures.local
    c.in_ok-arg-3.ensures in
    let every = adds_argument c.in_ok-arg-3.field-0 c.in_ok-arg-4.field-0 c.all.result counts c.all.ensures.rule c.all.ensures.local
    c.in_ok-arg-4.ensures in
    let some = adds_argument c.in_ok-arg-4.field-0 c.in_ok-arg-5.field-0 c.most.result every c.most.ensures.rule c.most.ensures.local
    c.in_ok-arg-5.ensures in
    let place = adds_argument c.in_ok-arg-5.field-0 c.in_ok-arg-6.field-0 c.place.result some c.place.ensures.rule c.place.ensures.local
    c.in_ok-arg-6.ensures in
    let form_is = c.format.ensures.rule in
    let form = adds_argument c.in_ok-arg-6.field-0 c.in_ok-arg-7.field-0 c.format.result place form_is.2 c.format.ensures.local
    c.in_ok-arg-7.ensures in
    IfOk-weaker _ _ _ (λ new added. of_forms new syntax_app form_is.0 form_is.1
    (adds_argument c.in_ok-arg-7.field-0 new c.progress.result form c.progress.ensures.rule c.progress.ensures.local added))
    c.arg-8.ensures

pub returns-clause-local : goal.returns-clause-local
returns-clause-local c =
    let globals : Command-F Command → Bool = λ f. f.has_globals in
    let none = ap globals c.after_help.ensures ∙ (ap globals c.about.ensures ∙ c.new.ensures.local) in
    let file = stays_local c.after_help.result c.in_ok-arg.field-0 c.file_paths.result none c.file_paths.ensures.local
    c.in_ok-arg.ensures in
    let words = stays_local c.in_ok-arg.field-0 c.in_ok-arg-2.field-0 c.header.result file c.header.ensures.local c.in_ok-arg-2.ensures in
    let counts = stays_local c.in_ok-arg-2.field-0 c.in_ok-arg-3.field-0 c.count.result words c.count.ensures.local c.in_ok-arg-3.ensures in
    let every = stays_local c.in_ok-arg-3.field-0 c.in_ok-arg-4.field-0 c.all.result counts c.all.ensures.local c.in_ok-arg-4.ensures in
    let some = stays_local c.in_ok-arg-4.field-0 c.in_ok-arg-5.field-0 c.most.result every c.most.ensures.local c.in_ok-arg-5.ensures in
    let place = stays_local c.in_ok-arg-5.field-0 c.in_ok-arg-6.field-0 c.place.result some c.place.ensures.local c.in_ok-arg-6.ensures in
    let form = stays_local c.in_ok-arg-6.field-0 c.in_ok-arg-7.field-0 c.format.result place c.format.ensures.local c.in_ok-arg-7.ensures in
    IfOk-weaker _ _ _ (λ new. stays_local c.in_ok-arg-7.field-0 new c.progress.result form c.progress.ensures.local) c.arg-8.ensures
