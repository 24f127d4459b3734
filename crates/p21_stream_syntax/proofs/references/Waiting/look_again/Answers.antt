use Rattle.p21_stream_store.specs.StoredInstance.{instance_names}
use Rattle.p21_stream_syntax.proofs.Adding.{drops-none}
use Rattle.p21_stream_syntax.specs.Waiting.{claims_in}
use Rattle.p21_stream_syntax.proofs.references.Waiting.look_again.Goals as goal

pub returns-then-len-self : goal.returns-then-len-self
returns-then-len-self c = drops-none (instance_names c.args.names.now) (claims_in c.args.self.now.references.items)
