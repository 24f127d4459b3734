use Rattle.std.specs.Prelude.{◌≡◌, ℕ, Some, refl}
use Rattle.std.proofs.Common.{rules, subst}
use Rattle.p21_difference_rows.specs.Pairs.{FindsFirst}
use Rattle.p21_spec_basics.proofs.Members.{Contains-mapped}
use Rattle.p21_stream_store.specs.StoredInstance.{StoredInstance, instance_names}
use Rattle.p21_difference_rows.proofs.pairs.first_name.Goals as goal

pub returns-in-Some : goal.returns-in-Some
returns-in-Some c =
    let same : c.in-Some.name ≡ c.name.inside.0 = search rules in
    let has = Contains-mapped (λ (x : StoredInstance). x.name) c.args.file.now.kept _ c.in-Some.ensures.some.1 in
    let P : ℕ → Type 0 = λ n. FindsFirst (instance_names c.args.file.now.kept) c.args.least (Some n) in
    subst P same (has, c.in-Some.ensures.from, c.in-Some.ensures.between)

pub returns-in-None : goal.returns-in-None
returns-in-None c = c.in-None.ensures.none refl
