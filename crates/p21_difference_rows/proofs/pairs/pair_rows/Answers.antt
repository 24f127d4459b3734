use Rattle.std.specs.Prelude.{ℕ, List}
use Rattle.std.proofs.Common.{subst, sym}
use Rattle.p21_difference_rows.proofs.PairRows.{all-listed, last-listed, more-below, none-below}
use Rattle.p21_difference_rows.specs.Pairs.{ArePairRowsBelow}
use Rattle.p21_difference_rows.specs.RealNames.{by_map}
use Rattle.p21_stream_store.specs.StoredInstance.{instance_names}
use Rattle.p21_difference_rows.proofs.pairs.pair_rows.Goals as goal

pub loop-name-init : goal.loop-name-init
loop-name-init c =
    let P : List ℕ → Type 0 = λ text. ArePairRowsBelow c.args.form (by_map c.args.names.now) (instance_names c.args.files.first.now.kept)
    (instance_names c.args.files.second.now.kept) 0 text in
    subst P (sym c.new-text.ensures.items) (none-below c.args.form (by_map c.args.names.now) (instance_names c.args.files.first.now.kept)
    (instance_names c.args.files.second.now.kept))

pub loop-name-preserved : goal.loop-name-preserved
loop-name-preserved c =
    let ns = instance_names c.args.files.first.now.kept in
    let others = instance_names c.args.files.second.now.kept in
    let real : ℕ → ℕ = by_map c.args.names.now in
    let P : ℕ → Type 0 = λ n. ArePairRowsBelow c.args.form real ns others n c.push_pair_of.new.text.items in
    let (at, from, between) = c.in-Some.ensures in
    subst P (sym c.in-Some-checked_add.ensures.1)
    (more-below c.args.form real ns others c.loop-name.least c.in-Some.name _ _ at from between c.loop-name.invariant
    c.in_ok-push_pair_of.ensures)

pub returns-in_default-checked_add : goal.returns-in_default-checked_add
returns-in_default-checked_add c a b are are_ =
    let (at, from, between) = c.in-Some.ensures in
    last-listed c.args.form (by_map c.args.names.now) c.args.files.schema.now c.well_formed-2.ensures a b _ _ are are_ c.loop-name.least
    c.in-Some.name _ _ at from between
    c.in_default-checked_add.ensures c.loop-name.invariant c.in_ok-push_pair_of.ensures

pub returns : goal.returns
returns c a b are are_ =
    all-listed c.args.form (by_map c.args.names.now) c.args.files.schema.now c.well_formed-2.ensures a b _ _ are are_ c.loop-name.least _
    c.in_default.ensures c.loop-name.invariant
