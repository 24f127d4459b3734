-- A program with one more command, and a command with one more argument.
use Rattle.std.proofs.Common.{◌≡◌, ◌∙◌, ◌||◌, ap, ap₂, false}
use Rattle.clap.specs.Words.{AddsArg, AddsSubcommand, App, Rule, app_of, rule_of, shape_of, with_rule, with_subcommand}
use Rattle.clap.specs.declared.builder.arg.Arg.{Arg}
use Rattle.clap.specs.declared.builder.command.Command.{Command}
use Rattle.clap.specs.declared.builder.command.Command.TheViews.{out-Command as fields_of}
use Rattle.clap.specs.declared.builder.value_parser.ValueParser.{ValueParser}
use Rattle.p21_command_line.specs.CommandLine.{AreForms, Forms, HaveForms}

pub adds : {old command new : Command} {before added : App} → app_of old ≡ before → app_of command ≡ added
    → (fields_of command).has_globals ≡ false → AddsSubcommand old command new → app_of new ≡ with_subcommand before added.top
adds {command = command} {before = before} old_is command_is local step =
    step.shape local ∙ (ap (λ app. with_subcommand app (shape_of command)) old_is
    ∙ ap (λ (app : App). with_subcommand before app.top) command_is)

pub adds_argument : (old new : Command) (a : Arg) {before : App} {rule : Rule} → app_of old ≡ before → rule_of a ≡ rule → a.global ≡ false
    → AddsArg old a new → app_of new ≡ with_rule before rule
adds_argument old new a old_is rule_is local step = step.shape local ∙ ap₂ with_rule old_is rule_is

pub stays_local : (old new : Command) (a : Arg) → (fields_of old).has_globals ≡ false → a.global ≡ false → AddsArg old a new
    → (fields_of new).has_globals ≡ false
stays_local old new a old_is local step = step.globals ∙ ap₂ (λ x y. x || y) old_is local

-- what is made of some forms, by these
pub of_forms : (new : Command) (app : ValueParser → App) (forms : ValueParser) → AreForms forms → app_of new ≡ app forms
    → (f : ValueParser) × AreForms f × (app_of new ≡ app f)
of_forms new app forms are is = (forms, are, is)

-- and by those of the program
pub of_all_forms : (new : Command) (app : Forms → App) (forms : Forms) → HaveForms forms → app_of new ≡ app forms
    → (f : Forms) × HaveForms f × (app_of new ≡ app f)
of_all_forms new app forms have is = (forms, have, is)
