-- What the command line may say, in the words of clap.
use Rattle.std.specs.Prelude.{◌≡◌, [], ◌∷◌, Some, codes, map, true}
use Rattle.clap.specs.Lexer.{usize_max}
use Rattle.clap.specs.Words.{App, Rule, Text, new_app, new_rule, with_rule, with_subcommand}
use Rattle.clap.specs.declared.builder.action.ArgAction.TheVariants.{Append, Set, SetTrue}
use Rattle.clap.specs.declared.builder.value_parser.ValueParser.TheVariants.{Names, Unsigned}
use Rattle.clap.specs.declared.builder.value_parser.ValueParser.{ValueParser}

-- what has to be given: one word
abbrev pub given_rule : Text → Rule
given_rule id = record (new_rule id) { action = Some Set; required = true }

-- what has to be given: words, one at least
abbrev pub files_rule : Rule
files_rule = record (given_rule (codes "FILE")) {
  action = Some Append;
  range =
      Some (record { start_inclusive = 1; end_inclusive = usize_max });
}

-- `--name N`, with a whole number of 64 bits
abbrev pub name_rule : Rule
name_rule = record (given_rule (codes "name")) {
  long = Some (codes "name");
  value_names = 1;
  parser = Some (Unsigned 0 18446744073709551615);
}

-- what may be given: one word
abbrev pub optional_rule : Text → Rule
optional_rule id = record (new_rule id) { action = Some Set }

-- `--progress`
abbrev pub progress_rule : Rule
progress_rule = record (new_rule (codes "progress")) { action = Some SetTrue; long = Some (codes "progress") }

-- `--all`
abbrev pub all_rule : Rule
all_rule = record (new_rule (codes "all")) { action = Some SetTrue; long = Some (codes "all") }

-- `--most N`, with a whole number of 64 bits, 1 at least
abbrev pub most_rule : Rule
most_rule = record (new_rule (codes "most")) {
  action = Some Set;
  long = Some (codes "most");
  value_names = 1;
  parser = Some (Unsigned 1 18446744073709551615);
}

-- `--where`
abbrev pub where_rule : Rule
where_rule = record (new_rule (codes "where")) { action = Some SetTrue; long = Some (codes "where") }

-- `--names`
abbrev pub names_rule : Rule
names_rule = record (new_rule (codes "names")) { action = Some SetTrue; long = Some (codes "names") }

-- `--pairs`
abbrev pub pairs_rule : Rule
pairs_rule = record (new_rule (codes "pairs")) { action = Some SetTrue; long = Some (codes "pairs") }

-- `--data`
abbrev pub data_rule : Rule
data_rule = record (new_rule (codes "data")) { action = Some SetTrue; long = Some (codes "data") }

-- `--ignore ENTITY.ATTRIBUTE`, which may be given several times
abbrev pub ignore_rule : Rule
ignore_rule = record (new_rule (codes "ignore")) {
  action = Some Append;
  long = Some (codes "ignore");
  value_names = 1;
}

-- `--tolerance X`
abbrev pub tolerance_rule : Rule
tolerance_rule = record (new_rule (codes "tolerance")) { action = Some Set; long = Some (codes "tolerance"); value_names = 1 }

-- the words that may stand behind `--format`, wherever these lie
abbrev pub AreForms : ValueParser → Type 0
AreForms (Names names) = map (λ name. name.now) names.now ≡ codes "text" ∷ codes "jsonl" ∷ []
AreForms _ = ⊥

-- `--format FORM`, with one of these words
abbrev pub format_rule : ValueParser → Rule
format_rule forms = record (new_rule (codes "format")) {
  action = Some Set;
  long = Some (codes "format");
  value_names = 1;
  parser = Some forms;
}

-- `--header`
abbrev pub header_rule : Rule
header_rule = record (new_rule (codes "header")) { action = Some SetTrue; long = Some (codes "header") }

-- `--count`
abbrev pub count_rule : Rule
count_rule = record (new_rule (codes "count")) { action = Some SetTrue; long = Some (codes "count") }

-- `param FILE`
abbrev pub param_app : App
param_app = with_rule (new_app (codes "param")) (given_rule (codes "FILE"))

-- `schema S`
abbrev pub schema_app : App
schema_app = with_rule (new_app (codes "schema")) (given_rule (codes "S"))

-- `syntax FILE.. [--header] [--count] [--all] [--most N] [--where] [--format FORM] [--progress]`
abbrev pub syntax_app : ValueParser → App
syntax_app forms =
    with_rule (with_rule (with_rule (with_rule (with_rule (with_rule (with_rule (with_rule (new_app (codes "syntax"))
    files_rule) header_rule) count_rule) all_rule) most_rule) where_rule) (format_rule forms)) progress_rule

-- a command on a schema and a file
abbrev pub file_app : Text → App
file_app name = with_rule (with_rule (new_app name) (given_rule (codes "S"))) (given_rule (codes "FILE"))

-- `check S FILE.. [--all] [--most N] [--where] [--names] [--format FORM] [--progress]`
abbrev pub check_app : ValueParser → App
check_app forms =
    with_rule (with_rule (with_rule (with_rule (with_rule (with_rule (with_rule (with_rule (new_app (codes "check"))
    (given_rule (codes "S"))) files_rule) all_rule) most_rule) where_rule) names_rule) (format_rule forms)) progress_rule

-- `canon S FILE [--names] [--progress]`
abbrev pub canon_app : App
canon_app = with_rule (with_rule (file_app (codes "canon")) names_rule) progress_rule

-- `show S FILE --name N`
abbrev pub show_app : App
show_app = with_rule (file_app (codes "show")) name_rule

-- `same S A B [--names] [--progress]`
abbrev pub same_app : App
same_app = with_rule (with_rule (with_rule (with_rule (with_rule (new_app (codes "same"))
    (given_rule (codes "S"))) (given_rule (codes "A"))) (given_rule (codes "B"))) names_rule) progress_rule

-- `diff S A B [--names] [--pairs] [--data] [--ignore ENTITY.ATTRIBUTE].. [--tolerance X] [--format FORM] [--progress]`
abbrev pub diff_app : ValueParser → App
diff_app forms =
    with_rule (with_rule (with_rule (with_rule (with_rule (with_rule (with_rule (with_rule (with_rule (with_rule (new_app (codes "diff"))
    (given_rule (codes "S"))) (given_rule (codes "A"))) (given_rule (codes "B"))) names_rule) pairs_rule) data_rule) ignore_rule)
    tolerance_rule) (format_rule forms)) progress_rule

-- `faults [N]`
abbrev pub faults_app : App
faults_app = with_rule (new_app (codes "faults")) (optional_rule (codes "N"))

-- a program with a version that wants one of its commands, before these are added
abbrev pub app_without_commands : App
app_without_commands =
    let program = new_app (codes "p21") in
    record program { top = record program.top { has_version = true; subcommand_required = true } }

-- what stands behind `--format` of the commands that take it
pub record Forms : Type 0 where
  pub of_syntax : ValueParser
  pub of_check : ValueParser
  pub of_diff : ValueParser

abbrev pub HaveForms : Forms → Type 0
HaveForms forms = AreForms forms.of_syntax × AreForms forms.of_check × AreForms forms.of_diff

-- the program, with its commands
abbrev pub program_app : Forms → App
program_app forms =
    with_subcommand (with_subcommand (with_subcommand (with_subcommand (with_subcommand
    (with_subcommand (with_subcommand (with_subcommand (with_subcommand app_without_commands
    param_app.top) (syntax_app forms.of_syntax).top) schema_app.top) (check_app forms.of_check).top) canon_app.top) show_app.top)
    same_app.top) (diff_app forms.of_diff).top) faults_app.top
