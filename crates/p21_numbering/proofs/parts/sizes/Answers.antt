use Rattle.std.specs.Prelude.{◌≡◌, ◌<◌, ℕ, length, slice_set, ◌+◌}
use Rattle.std.proofs.Common.{arith, rules, sym, subst}
use Rattle.p21_numbering.specs.Arrays.{rank_at}
use Rattle.p21_numbering.specs.Largest.{AreSizes}
use Rattle.p21_numbering.proofs.Counts.{number-at}
use Rattle.p21_numbering.proofs.PartSizes.{size-bound, sizes-more}
use Rattle.p21_numbering.proofs.parts.sizes.Goals as goal

pub overflow_add-size : goal.overflow_add-size
overflow_add-size c =
    let part = c.requires c.loop-n.n c.loop-n-test.true in
    let low = size-bound (length c.args.rank.now) c.loop-n.n c.args.rank.now c.loop-n.sizes.items c.loop-n.invariant _ part in
    let at : c.index-size.result.now ≡ rank_at c.loop-n.sizes.items (rank_at c.args.rank.now c.loop-n.n) =
    number-at c.loop-n.sizes.items (rank_at c.args.rank.now c.loop-n.n) c.index-size.result.now
    (omega (arith, part, c.loop-n.invariant.long)) c.index-size.ensures in
    let fits : c.index-size.result.now < length c.args.rank.now = omega (arith, at, low, c.loop-n-test.true) in
    search (rules, fits)

pub loop-n-preserved : goal.loop-n-preserved
loop-n-preserved c =
    let part = c.requires c.loop-n.n c.loop-n-test.true in
    let at : c.index-size.result.now ≡ rank_at c.loop-n.sizes.items (rank_at c.args.rank.now c.loop-n.n) =
    number-at c.loop-n.sizes.items (rank_at c.args.rank.now c.loop-n.n) c.index-size.result.now
    (omega (arith, part, c.loop-n.invariant.long)) c.index-size.ensures in
    let P : ℕ → Type 0 = λ s. AreSizes (length c.args.rank.now) (c.loop-n.n + 1) c.args.rank.now
    (slice_set c.loop-n.sizes.items (rank_at c.args.rank.now c.loop-n.n) (s + 1)) in
    subst P (sym at) (sizes-more (length c.args.rank.now) c.loop-n.n c.args.rank.now c.loop-n.sizes.items c.loop-n.invariant part)
