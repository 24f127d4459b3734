use Rattle.p21_shorter_tokens.proofs.Found.{some_to}
use Rattle.p21_shorter_instances.proofs.RealElements.{real-continues}
use Rattle.p21_shorter_instances.proofs.Scalars.{real-taken}
use Rattle.p21_shorter_instances.proofs.reals.append_single.Goals as goal

pub returns-clause-some : goal.returns-clause-some
returns-clause-some c = some_to _ (λ count. real-taken c.args.bytes.now count _ _) c.append_real.ensures.some

pub returns-clause-draft : goal.returns-clause-draft
returns-clause-draft c = real-continues c.append_real.result c.args.bytes.now _ _ c.append_real.ensures.some c.append_real.ensures.none
