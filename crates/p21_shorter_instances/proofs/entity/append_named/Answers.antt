use Rattle.std.proofs.Common.{length}
use Rattle.p21_spec_basics.proofs.Members.{rest_is}
use Rattle.p21_shorter_instances.proofs.LaidRuns.{entity-taken}
use Rattle.p21_shorter_instances.proofs.Stepping.{leaf-goes_on, none_from}
use Rattle.p21_shorter_instances.proofs.entity.append_named.Goals as goal

pub returns-clause-some : goal.returns-clause-some
returns-clause-some c =
    let front = c.behind_separators-front.result.now in
    let word = c.in_ok-word.word.now in
    entity-taken c.args.schema.now c.in_ok-entity.entity.0 word c.args.bytes.now front _ _ _ c.behind_separators-front.ensures
    (rest_is front (length word)) c.in_ok-word.ensures.some c.in_ok-entity.ensures.some

pub returns-in_err-entity-clause-none : goal.returns-in_err-entity-clause-none
returns-in_err-entity-clause-none c = none_from _ (leaf-goes_on _ _ _ _ _ c.in_ok-word.ensures.some)
