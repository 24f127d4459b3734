use Rattle.p21_spec_basics.proofs.Members.{rest_is}
use Rattle.p21_shorter_instances.proofs.Typed.{keyword-taken}
use Rattle.p21_shorter_instances.proofs.choice.append_offered.Goals as goal

pub returns-clause-some : goal.returns-clause-some
returns-clause-some c =
    keyword-taken c.args.schema.now c.args.select.0 _ c.in_ok-word.word.now c.args.bytes.now _ _ _ (rest_is c.args.bytes.now _)
    c.in_ok-word.ensures.some c.in_ok-chosen.ensures.offered_type c.in_ok-chosen.ensures.named
