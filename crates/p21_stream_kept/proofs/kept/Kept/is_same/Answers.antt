use Rattle.std.proofs.Common.{map, subst, sym}
use Rattle.std.specs.List.{IsDistinct}
use Rattle.std.specs.Prelude.{nat_eq}
use Rattle.p21_spec_laws.specs.Keeping.{Kept}
use Rattle.p21_spec_laws.specs.Stored.{StoredEntry}
use Rattle.p21_stream_kept.proofs.Instances.{stored-names}
use Rattle.p21_stream_kept.specs.KeptInstances.{instances_of}
use Rattle.p21_stream_kept.specs.declared.kept_instances.KeptInstances.{KeptInstances}
use Rattle.p21_stream_store.specs.StoredInstance.{instance_names}
use Rattle.p21_stream_kept.proofs.kept.Kept.is_same.Goals as goal

pub is_same-requires-clause-once : goal.is_same-requires-clause-once
is_same-requires-clause-once c =
    subst (λ (k : KeptInstances). IsDistinct nat_eq (instance_names (instances_of k))) c.in-Beside.is
    (subst (IsDistinct nat_eq) (stored-names c.self.inside.stored.memberships (instances_of c.self.inside.stored.instances))
    (subst (λ (k : Kept). IsDistinct nat_eq (map (λ (x : StoredEntry). x.name) k.stored)) (sym c.self.view_is) c.requires))
