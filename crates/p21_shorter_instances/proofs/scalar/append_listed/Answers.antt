use Rattle.p21_shorter_tokens.proofs.Found.{some_to}
use Rattle.p21_shorter_instances.proofs.Values.{item-front}
use Rattle.p21_shorter_instances.proofs.scalar.append_listed.Goals as goal

pub returns-clause-some : goal.returns-clause-some
returns-clause-some c = some_to _ (λ count. item-front c.args.words.now c.items-known.result.now c.args.bytes.now count _ _
    c.items-known.ensures) c.append_item.ensures.some
