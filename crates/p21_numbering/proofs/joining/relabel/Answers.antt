use Rattle.std.specs.Prelude.{ℕ, List, take, slice_index_or, slice_set}
use Rattle.std.proofs.Common.{arith, sym, subst}
use Rattle.std.proofs.lemmas.List.{take_more}
use Rattle.std.proofs.lemmas.List.Elements.{Contains-get_or}
use Rattle.p21_numbering.proofs.Joined.{AreRelabelled, one-relabelled}
use Rattle.p21_numbering.proofs.joining.relabel.Goals as goal

pub index_mut-requires : goal.index_mut-requires
index_mut-requires c =
    let one : ℕ = slice_index_or c.args.moved.now c.loop-one.one-index 0 in
    let low = c.requires one (Contains-get_or c.args.moved.now c.loop-one.one-index 0 c.loop-one-test.true) in
    omega (arith, low, c.loop-one.invariant.size, c.loop-one.of.ok.0)

pub loop-one-preserved : goal.loop-one-preserved
loop-one-preserved c =
    let one : ℕ = slice_index_or c.args.moved.now c.loop-one.one-index 0 in
    let low = c.requires one (Contains-get_or c.args.moved.now c.loop-one.one-index 0 c.loop-one-test.true) in
    let P : List ℕ → Type 0 = λ moved. AreRelabelled moved c.args.number c.args.of.now.items
    (slice_set c.loop-one.of.items one c.args.number) in
    subst P (sym (take_more c.args.moved.now c.loop-one.one-index 0 c.loop-one-test.true))
    (one-relabelled (take c.loop-one.one-index c.args.moved.now) c.args.number c.args.of.now.items c.loop-one.of.items one
    c.loop-one.invariant low)
