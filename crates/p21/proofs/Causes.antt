-- What the words of a command line say of the status that is answered.
use Rattle.std.proofs.Common.{◌≡◌, ◌≢◌, ◌∙◌, ◌⊎◌, ℕ, List, [], ◌∷◌, codes, None, Some, Result, Ok, Err, IfErr, IfOk, true, inl, inr, ap, refl, sym, subst, option_map}
use Rattle.clap.specs.Faults.{fault_of, is_simple_and_free}
use Rattle.clap.specs.Kinds.{HasKind, IsAmong}
use Rattle.clap.specs.Matches.{subcommand_name_of}
use Rattle.clap.specs.Simple.{App, HasMatchesOf, is_simple, subcommand_of, subcommand_rows, subcommand_rows_of}
use Rattle.clap.specs.Values.{kind_of}
use Rattle.clap.specs.Walk.{Text}
use Rattle.std.specs.Box.{box_value}
use Rattle.clap.specs.declared.parser.matches.ArgMatches.{ArgMatches}
use Rattle.clap.specs.declared.parser.matches.ArgMatches.TheViews.{out-ArgMatches, out-SubCommand}
use Rattle.clap.specs.declared.error.Error.{Error}
use Rattle.clap.specs.declared.error.kind.ErrorKind.{ErrorKind}
use Rattle.clap.specs.declared.error.kind.ErrorKind.TheVariants.{DisplayHelp, DisplayVersion, OutOfMemory}
use Rattle.p21.specs.Statuses.{AreMistaken, AreTaken, AskForHelp, IsOfCommand, IsOfRun, IsOfStop, IsOfWords, IsStatus, IsUnopened, NamesFiles, command_in, error_kinds_in}
use Rattle.p21.specs.declared.commands.Stopped.{Stopped}
use Rattle.p21.specs.declared.commands.Stopped.TheVariants.{NoCommand, Signed, NoRefusal, Unopened}
use Rattle.clap.specs.declared.builder.value_parser.ValueParser.TheVariants.{Names}
use Rattle.p21_command_line.specs.CommandLine.{Forms, HaveForms, program_app}
use Rattle.p21_commands.specs.Status.{done, refused, usage, failed}

program_is_free : (forms : Forms) → is_simple_and_free (program_app forms) ≡ true
program_is_free forms = refl

program_is_simple : (forms : Forms) → is_simple (program_app forms) ≡ true
program_is_simple forms = refl

-- ---- what `clap` finds in the words, by its answer

are_taken : (forms : Forms) (app : App) (words : List Text) → app ≡ program_app forms → (is_simple_and_free app ≡ true → fault_of app words ≡ []) → AreTaken forms words
unfolding error_kinds_in
are_taken forms app words same finds = subst (λ (a : App). fault_of a words ≡ []) same (finds (ap is_simple_and_free same ∙ program_is_free forms))

have_kind : (forms : Forms) (app : App) (words : List Text) (error : Error) → app ≡ program_app forms → (is_simple_and_free app ≡ true → HasKind (fault_of app words) error) → HasKind (error_kinds_in forms words) error
unfolding error_kinds_in
have_kind forms app words error same finds = subst (λ (a : App). HasKind (fault_of a words) error) same (finds (ap is_simple_and_free same ∙ program_is_free forms))

-- ---- the command that is named

name_of_rows : (m : ArgMatches) → option_map (λ p. p.0) (subcommand_rows_of m) ≡ subcommand_name_of m
name_of_rows m = elim (out-ArgMatches m).subcommand as (λ o. option_map (λ p. p.0) (subcommand_rows o) ≡ option_map (λ b. (out-SubCommand (box_value b)).name.now) o) [
  | None ↦ refl
  | Some b ↦ refl
]

command_is : (forms : Forms) (app : App) (words : List Text) (m : ArgMatches) → app ≡ program_app forms → HasMatchesOf app words m → command_in forms words ≡ subcommand_name_of m
unfolding command_in
command_is forms app words m same has =
    let rows : subcommand_rows_of m ≡ subcommand_of app words = (has (ap is_simple same ∙ program_is_simple forms)).1 in
    sym (ap (λ (a : App). option_map (λ p. p.0) (subcommand_of a words)) same) ∙ (sym (ap (λ o. option_map (λ p. p.0) o) rows) ∙ name_of_rows m)

-- ---- the status, by the way that was gone

-- the forms, as if they lay nowhere
some_forms : Forms
some_forms =
    let words = Names (record { ref_ptr = (0, 0); now = record { ref_ptr = (0, 0); now = codes "text" } ∷ record { ref_ptr = (0, 0); now = codes "jsonl" } ∷ [] }) in
    record { of_syntax = words; of_check = words; of_diff = words }

-- memory ran out before the words were looked at
pub failed_early : (words : List Text) (status : ℕ) → status ≡ failed → IsOfWords words status
unfolding some_forms
failed_early words status is = record {
  forms = some_forms;
  are_forms = (refl, refl, refl);
  known = inr (inr (inr is));
  when_done = λ e. cc (is, e);
  when_refused = λ e. cc (is, e);
  when_mistaken = λ e. cc (is, e);
}

known_of_stop : (stopped : Stopped) (status : ℕ) → IsOfStop stopped status → IsStatus status
known_of_stop NoCommand status is = inr (inr (inl is))
known_of_stop (Signed number) status is = inr (inr is)
known_of_stop (NoRefusal word) status is = inr (inr is)
known_of_stop (Unopened path error) status is = inr (inr (inr is))

known_of_command : (answered status : ℕ) → IsOfCommand answered → status ≡ answered → IsStatus status
known_of_command answered status (inl of) is = inl (is ∙ of)
known_of_command answered status (inr (inl of)) is = inr (inl (is ∙ of))
known_of_command answered status (inr (inr of)) is = inr (inr (inr (is ∙ of)))

known_of_run : (ran : Result ℕ Stopped) (status : ℕ) → IfOk ran IsOfCommand → IsOfRun ran status → IsStatus status
known_of_run (Ok answered) status of is = known_of_command answered status of is
known_of_run (Err stopped) status of is = known_of_stop stopped status is

never_mistaken : (ran : Result ℕ Stopped) (status : ℕ) → IfOk ran IsOfCommand → IfErr ran IsUnopened → IsOfRun ran status → status ≡ usage → ⊥
never_mistaken (Ok answered) status (inl of) unopened is e = cc (of, is, e)
never_mistaken (Ok answered) status (inr (inl of)) unopened is e = cc (of, is, e)
never_mistaken (Ok answered) status (inr (inr of)) unopened is e = cc (of, is, e)
never_mistaken (Err NoCommand) status of unopened is e = unopened
never_mistaken (Err (Signed number)) status of unopened is e = unopened
never_mistaken (Err (NoRefusal word)) status of unopened is e = unopened
never_mistaken (Err (Unopened path error)) status of unopened is e = cc (is, e)

-- a command that was run, or wasn't
pub of_run : (forms : Forms) (app : App) (words : List Text) (m : ArgMatches) (ran : Result ℕ Stopped) (status : ℕ) → HaveForms forms → app ≡ program_app forms → (is_simple_and_free app ≡ true → fault_of app words ≡ []) → HasMatchesOf app words m
    → IfOk ran IsOfCommand → (NamesFiles (subcommand_name_of m) → IfErr ran IsUnopened) → IsOfRun ran status → IsOfWords words status
of_run forms app words m ran status are same finds has of unopened is =
    let taken = are_taken forms app words same finds in
    record {
      forms = forms;
      are_forms = are;
      known = known_of_run ran status of is;
      when_done = λ e. inl taken;
      when_refused = λ e. taken;
      when_mistaken = λ e. inl (taken, λ names. never_mistaken ran status of (unopened (subst NamesFiles (command_is forms app words m same has) names)) is e);
    }

-- what an error of `clap` says of the status
pub record IsExplained (error : Error) (status : ℕ) : Type 0 where
  pub known : (status ≡ done) ⊎ (status ≡ usage) ⊎ (status ≡ failed)
  pub memory : kind_of error ≡ OutOfMemory → status ≡ failed
  pub shown : status ≡ done → (kind_of error ≡ DisplayHelp) ⊎ (kind_of error ≡ DisplayVersion)
  pub mistake : status ≡ usage → (kind_of error ≢ DisplayHelp) × (kind_of error ≢ DisplayVersion)

module _ (forms : Forms) (are : HaveForms forms) (words : List Text) (error : Error) (status : ℕ) (explained : IsExplained error status) where
  known_of_error : (status ≡ done) ⊎ (status ≡ usage) ⊎ (status ≡ failed) → IsStatus status
  known_of_error (inl is) = inl is
  known_of_error (inr (inl is)) = inr (inr (inl is))
  known_of_error (inr (inr is)) = inr (inr (inr is))

  never_refused : (status ≡ done) ⊎ (status ≡ usage) ⊎ (status ≡ failed) → status ≡ refused → ⊥
  never_refused (inl is) e = cc (is, e)
  never_refused (inr (inl is)) e = cc (is, e)
  never_refused (inr (inr is)) e = cc (is, e)

  among_help : IsAmong (kind_of error) (error_kinds_in forms words) → (kind_of error ≡ DisplayHelp) ⊎ (kind_of error ≡ DisplayVersion) → AskForHelp forms words
  among_help among (inl same) = inl (subst (λ (k : ErrorKind). IsAmong k (error_kinds_in forms words)) same among)
  among_help among (inr same) = inr (subst (λ (k : ErrorKind). IsAmong k (error_kinds_in forms words)) same among)

  asks : HasKind (error_kinds_in forms words) error → status ≡ done → AskForHelp forms words
  asks (inl memory) e = cc (explained.memory memory, e)
  asks (inr among) e = among_help among (explained.shown e)

  mistaken : HasKind (error_kinds_in forms words) error → status ≡ usage → AreMistaken forms words
  mistaken (inl memory) e = cc (explained.memory memory, e)
  mistaken (inr among) e = record { mistake = kind_of error; among = among; not_help = (explained.mistake e).0; not_version = (explained.mistake e).1 }

  of_kind : HasKind (error_kinds_in forms words) error → IsOfWords words status
  of_kind has = record {
    forms = forms;
    are_forms = are;
    known = known_of_error explained.known;
    when_done = λ e. inr (asks has e);
    when_refused = λ e. absurd (never_refused explained.known e);
    when_mistaken = λ e. inr (mistaken has e);
  }

-- `clap` answered an error, which was explained
pub of_error : (forms : Forms) (app : App) (words : List Text) (error : Error) (status : ℕ) → HaveForms forms → app ≡ program_app forms → (is_simple_and_free app ≡ true → HasKind (fault_of app words) error)
    → IsExplained error status → IsOfWords words status
of_error forms app words error status are same finds explained = of_kind forms are words error status explained (have_kind forms app words error same finds)
