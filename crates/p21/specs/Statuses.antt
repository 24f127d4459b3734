-- Which status the program answers, and for what cause.
use Rattle.std.specs.Prelude.{◌≡◌, ◌≢◌, ◌⊎◌, ℕ, List, [], Option, None, Some, Result, MatchResult, codes, option_map}
use Rattle.clap.specs.Faults.{fault_of}
use Rattle.clap.specs.Kinds.{IsAmong, Kinds}
use Rattle.clap.specs.Simple.{subcommand_of}
use Rattle.clap.specs.Walk.{Text}
use Rattle.clap.specs.declared.error.kind.ErrorKind.{ErrorKind}
use Rattle.clap.specs.declared.error.kind.ErrorKind.TheVariants.{DisplayHelp, DisplayVersion}
use Rattle.p21.specs.declared.commands.Stopped.{Stopped}
use Rattle.p21.specs.declared.commands.Stopped.TheVariants.{NoCommand, Signed, NoRefusal, Unopened}
use Rattle.p21_command_line.specs.CommandLine.{Forms, HaveForms, program_app}
use Rattle.p21_commands.specs.Status.{done, refused, usage, failed}

abbrev pub IsStatus : ℕ → Type 0
IsStatus status = (status ≡ done) ⊎ (status ≡ refused) ⊎ (status ≡ usage) ⊎ (status ≡ failed)

-- a command that is run answers no status of usage
abbrev pub IsOfCommand : ℕ → Type 0
IsOfCommand status = (status ≡ done) ⊎ (status ≡ refused) ⊎ (status ≡ failed)

-- an answer was written or not
abbrev pub IsOfAnswer : ℕ → Type 0
IsOfAnswer status = (status ≡ done) ⊎ (status ≡ failed)

-- the command line has a mistake; where that can't be said, a write failed
abbrev pub IsOfMistake : ℕ → Type 0
IsOfMistake status = (status ≡ usage) ⊎ (status ≡ failed)

-- ---- the words of a command line, of which `--format` takes these forms

-- the kinds of what `clap` finds in the words: a mistake, or that they ask for help or for the version; none where it takes
-- them
unfoldable pub error_kinds_in : Forms → List Text → Kinds
error_kinds_in forms words = fault_of (program_app forms) words

abbrev pub AreTaken : Forms → List Text → Type 0
AreTaken forms words = error_kinds_in forms words ≡ []

abbrev pub AskForHelp : Forms → List Text → Type 0
AskForHelp forms words = IsAmong DisplayHelp (error_kinds_in forms words) ⊎ IsAmong DisplayVersion (error_kinds_in forms words)

pub record AreMistaken (forms : Forms) (words : List Text) : Type 0 where
  pub mistake : ErrorKind
  pub among : IsAmong mistake (error_kinds_in forms words)
  pub not_help : mistake ≢ DisplayHelp
  pub not_version : mistake ≢ DisplayVersion

-- the name of the command in words that are taken
unfoldable pub command_in : Forms → List Text → Option Text
command_in forms words = option_map (λ p. p.0) (subcommand_of (program_app forms) words)

-- a command whose words but its name are paths
abbrev pub NamesFiles : Option Text → Type 0
NamesFiles None = ⊥
NamesFiles (Some name) = (name ≡ codes "param") ⊎ (name ≡ codes "schema") ⊎ (name ≡ codes "syntax") ⊎ (name ≡ codes "check") ⊎ (name ≡ codes "canon") ⊎ (name ≡ codes "same") ⊎ (name ≡ codes "diff")

-- The status is that of the words. In words that are taken another command may find a mistake, and a failure may come of any
-- words.
pub record IsOfWords (words : List Text) (status : ℕ) : Type 0 where
  pub forms : Forms
  pub are_forms : HaveForms forms
  pub known : IsStatus status
  pub when_done : status ≡ done → AreTaken forms words ⊎ AskForHelp forms words
  pub when_refused : status ≡ refused → AreTaken forms words
  pub when_mistaken : status ≡ usage → (AreTaken forms words × ¬ NamesFiles (command_in forms words)) ⊎ AreMistaken forms words

-- ---- a command

-- a file can't be opened
abbrev pub IsUnopened : Stopped → Type 0
IsUnopened NoCommand = ⊥
IsUnopened (Signed number) = ⊥
IsUnopened (NoRefusal word) = ⊥
IsUnopened (Unopened path error) = Unit {0}

-- a file that can't be opened is a failure, and all else for which a command isn't run a mistake of the command line
abbrev pub IsOfStop : Stopped → ℕ → Type 0
IsOfStop NoCommand status = status ≡ usage
IsOfStop (Signed number) status = IsOfMistake status
IsOfStop (NoRefusal word) status = IsOfMistake status
IsOfStop (Unopened path error) status = status ≡ failed

-- the status is the one that a command answered, or that of why it isn't run
abbrev pub IsOfRun : Result ℕ Stopped → ℕ → Type 0
IsOfRun ran status = MatchResult ran (λ answered. status ≡ answered) (λ stopped. IsOfStop stopped status)
