use Rattle.std.proofs.Common.{List, map, subst, sym}
use Rattle.std.specs.List.{IsDistinct}
use Rattle.std.specs.Prelude.{nat_eq}
use Rattle.p21_spec_laws.proofs.Output.{keeps-names_differ}
use Rattle.p21_spec_laws.specs.Keeping.{Kept}
use Rattle.p21_spec_laws.specs.Stored.{StoredEntry}
use Rattle.p21_stream_kept.proofs.Instances.{stored-names}
use Rattle.p21_stream_kept.specs.KeptInstances.{instances_of}
use Rattle.p21_stream_store.specs.StoredInstance.{StoredInstance, instance_names}
use Rattle.p21_stream_kept.proofs.kept.Kept.beside.Goals as goal

pub new-earlier-requires-clause-once : goal.new-earlier-requires-clause-once
new-earlier-requires-clause-once c =
    let (s, limits, given, keeps) = c.requires.keeps in
    let differ = subst (λ (k : Kept). IsDistinct nat_eq (map (λ (x : StoredEntry). x.name) k.stored)) (sym c.earlier.view_is)
    (keeps-names_differ s limits given c.args.earlier keeps) in
    subst (λ (xs : List StoredInstance). IsDistinct nat_eq (instance_names xs)) (sym c.into_lines.ensures)
    (subst (IsDistinct nat_eq) (stored-names c.earlier.inside.stored.memberships (instances_of c.earlier.inside.stored.instances))
    differ)
