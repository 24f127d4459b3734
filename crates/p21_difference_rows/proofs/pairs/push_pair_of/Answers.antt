use Rattle.std.specs.Prelude.{refl}
use Rattle.std.proofs.lemmas.Result.{on_ok_weaker}
use Rattle.p21_difference_rows.proofs.PairRows.{none-added, pair-added}
use Rattle.p21_difference_rows.specs.RealNames.{by_map}
use Rattle.p21_spec_basics.proofs.Members.{Contains-mapped}
use Rattle.p21_stream_store.specs.StoredInstance.{StoredInstance, instance_names}
use Rattle.p21_difference_rows.proofs.pairs.push_pair_of.Goals as goal

pub returns-in-Some : goal.returns-in-Some
returns-in-Some c =
    let kept = c.args.first.now.kept in
    let has = Contains-mapped (λ (x : StoredInstance). x.name) kept _ c.in-Some.ensures.some.1 in
    on_ok_weaker c.push_pair.result (pair-added c.args.form (by_map c.args.names.now) (instance_names kept) c.args.name _ _ has)
    c.push_pair.ensures

pub returns-in-None : goal.returns-in-None
returns-in-None c = none-added c.args.form (by_map c.args.names.now) (instance_names c.args.first.now.kept) c.args.name _ _
    (c.in-None.ensures.none refl) refl
