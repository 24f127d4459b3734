use Rattle.clap.specs.Words.{app_of}
use Rattle.p21.proofs.Causes.{failed_early, of_error, of_run}
use Rattle.p21.proofs.run_words.Goals as goal

pub returns-in-Err : goal.returns-in-Err
returns-in-Err c = failed_early _ c.out_of_memory.result c.out_of_memory.ensures

pub returns-in-Ok-try_get_matches_from : goal.returns-in-Ok-try_get_matches_from
returns-in-Ok-try_get_matches_from c =
    let taken = c.in-Ok-try_get_matches_from in
    let (forms, are, same) = c.in-Ok.ensures in
    of_run forms (app_of c.in-Ok.command) _ taken.matches c.run_command.result c.status_of.result are same taken.ensures.kinds taken.ensures.matches c.run_command.ensures.ran c.run_command.ensures.unopened c.status_of.ensures

pub returns-in-Err-try_get_matches_from : goal.returns-in-Err-try_get_matches_from
returns-in-Err-try_get_matches_from c =
    let found = c.in-Err-try_get_matches_from in
    let (forms, are, same) = c.in-Ok.ensures in
    of_error forms (app_of c.in-Ok.command) _ found.error c.explain_words.result are same found.ensures.kinds
    (record { known = c.explain_words.ensures.status; memory = c.explain_words.ensures.memory; shown = c.explain_words.ensures.shown; mistake = c.explain_words.ensures.mistake })
