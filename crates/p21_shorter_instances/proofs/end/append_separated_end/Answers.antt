use Rattle.p21_shorter_tokens.proofs.Parts.{stays-behind}
use Rattle.p21_shorter_instances.proofs.LaidRuns.{end-taken}
use Rattle.p21_shorter_instances.proofs.Stepping.{mark-goes_on, none_from}
use Rattle.p21_shorter_instances.proofs.end.append_separated_end.Goals as goal

pub returns-clause-some : goal.returns-clause-some
returns-clause-some c = end-taken c.args.bytes.now _ _ _ _ _ c.in_ok-closed.ensures.some c.in_ok-rest.ensures.some

pub returns-in_err-rest-clause-none : goal.returns-in_err-rest-clause-none
returns-in_err-rest-clause-none c = none_from _ (stays-behind _ _ _ (mark-goes_on _ _ _ _ _ c.in_ok-closed.ensures.some)
    c.in_err-rest.ensures.none)
