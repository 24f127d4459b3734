use Rattle.p21_spec_basics.proofs.Members.{rest_is}
use Rattle.p21_shorter_tokens.proofs.Parts.{stays-behind}
use Rattle.p21_shorter_instances.proofs.LaidRuns.{head-taken}
use Rattle.p21_shorter_instances.proofs.Stepping.{leaf-goes_on, none_from}
use Rattle.p21_shorter_instances.proofs.instance.append_name_and_equals.Goals as goal

pub returns-clause-some : goal.returns-clause-some
returns-clause-some c =
    let front = c.behind_separators-front.result.now in
    head-taken c.args.bytes.now front _ _ c.in_ok-count.count c.in_ok-count.number _ _ _ c.behind_separators-front.ensures
    (rest_is front c.in_ok-count.count) c.in_ok-count.ensures.some c.in_ok-rest.ensures.some

pub returns-in_err-rest-clause-none : goal.returns-in_err-rest-clause-none
returns-in_err-rest-clause-none c = none_from _ (stays-behind _ _ _ (leaf-goes_on _ _ _ _ _ c.in_ok-count.ensures.some)
    c.in_err-rest.ensures.none)
