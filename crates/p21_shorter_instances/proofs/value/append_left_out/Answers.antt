use Rattle.p21_shorter_tokens.proofs.Found.{some_to}
use Rattle.p21_shorter_instances.proofs.Values.{dollar-put}
use Rattle.p21_shorter_instances.proofs.value.append_left_out.Goals as goal

pub returns-clause-some : goal.returns-clause-some
returns-clause-some c = some_to _ (λ rest. dollar-put c.args.optional c.args.bytes.now rest.now _ _ c.if-not-optional.false)
    c.append_delimiter.ensures.some
