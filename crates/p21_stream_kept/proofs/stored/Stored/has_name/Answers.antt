use Rattle.std.proofs.Common.{ℕ, subst}
use Rattle.std.specs.Prelude.{◌↔◌, Contains, IsTrue}
use Rattle.p21_stream_kept.specs.KeptInstances.{instances_of}
use Rattle.p21_stream_store.specs.StoredInstance.{instance_names}
use Rattle.p21_stream_kept.proofs.stored.Stored.has_name.Goals as goal

pub returns : goal.returns
returns c = subst (λ (n : ℕ). IsTrue c.has_name.result ↔ Contains (instance_names (instances_of c.args.self.now.instances)) n)
    c.name.view_is c.has_name.ensures
