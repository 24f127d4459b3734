use Rattle.std.proofs.Common.{length, subst, sym}
use Rattle.p21_spec_basics.proofs.Members.{rest_is}
use Rattle.p21_spec_schema.specs.Schema.{EntityNamed}
use Rattle.p21_shorter_instances.proofs.LaidRuns.{entity-taken}
use Rattle.p21_shorter_instances.proofs.parts.append_name_of.Goals as goal

pub returns-clause-some : goal.returns-clause-some
returns-clause-some c =
    let front = c.behind_separators-front.result.now in
    let word = c.in_ok-word.word.now in
    entity-taken c.args.schema.now c.args.entity.0 word c.args.bytes.now front _ _ _ c.behind_separators-front.ensures
    (rest_is front (length word)) c.in_ok-word.ensures.some
    (subst (EntityNamed c.args.schema.now c.args.entity.0) (sym (c.is_word.ensures c.if-not-is_word.false)) c.entity_name.ensures)
