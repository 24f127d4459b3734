use Rattle.std.proofs.Common.{List, ℕ, map, subst, sym}
use Rattle.std.specs.Prelude.{Contains}
use Rattle.p21_spec_laws.specs.Keeping.{Kept}
use Rattle.p21_spec_laws.specs.Stored.{StoredEntry}
use Rattle.p21_stream_kept.proofs.Instances.{stored-names}
use Rattle.p21_stream_kept.specs.KeptInstances.{instances_of}
use Rattle.p21_stream_kept.proofs.kept.Kept.has_name.Goals as goal

pub returns : goal.returns
returns c =
    let P : List ℕ → Type 0 = λ names. Contains names c.args.name in
    let K : Kept → Type 0 = λ k. P (map (λ (x : StoredEntry). x.name) k.stored) in
    let names = stored-names c.self.inside.stored.memberships (instances_of c.self.inside.stored.instances) in (
      λ there. subst K c.self.view_is (subst P (sym names) (c.has_name.ensures.0 there)),
      λ among. c.has_name.ensures.1 (subst P names (subst K (sym c.self.view_is) among)),
    )
