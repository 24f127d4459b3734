use Rattle.std.specs.Prelude.{◌≡◌, ◌<◌, ℕ, length, slice_set, ◌+◌, ◌||◌, leb, if◌then◌else◌}
use Rattle.std.proofs.Common.{arith, ap, sym, subst, ◌∙◌, length-set}
use Rattle.p21_numbering.specs.Arrays.{rank_at}
use Rattle.p21_numbering.specs.Largest.{IsLargestAmong, beats}
use Rattle.p21_numbering.proofs.Counts.{number-at}
use Rattle.p21_numbering.proofs.LargestParts.{largest-more}
use Rattle.p21_numbering.proofs.parts.largest.Goals as goal

pub loop-n-preserved : goal.loop-n-preserved
loop-n-preserved c =
    let count : ℕ = length c.args.new.now in
    let cell : ℕ = rank_at c.args.old.now c.loop-n.n in
    let part : ℕ = rank_at c.args.new.now c.loop-n.n in
    let within = c.requires.old_within c.loop-n.n c.loop-n-test.true in
    let at : c.index-best.result.now ≡ rank_at c.loop-n.largest.items cell =
    number-at c.loop-n.largest.items cell c.index-best.result.now (omega (arith, within, c.loop-n.invariant.0)) c.index-best.ensures in
    let next : c.larger.result ≡ (if (leb count (rank_at c.loop-n.largest.items cell) || beats c.args.sizes.now part
    (rank_at c.loop-n.largest.items cell)) then part else rank_at c.loop-n.largest.items cell) =
    c.larger.ensures ∙ ap (λ b. if (leb (length c.args.sizes.now) b || beats c.args.sizes.now part b) then part else b) at
    ∙ ap (λ k. if (leb k (rank_at c.loop-n.largest.items cell) || beats c.args.sizes.now part (rank_at c.loop-n.largest.items cell))
    then part else rank_at c.loop-n.largest.items cell) c.requires.sizes in
    let P : ℕ → Type 0 = λ b. (o : ℕ) → o < count → IsLargestAmong count (c.loop-n.n + 1) c.args.old.now c.args.new.now c.args.sizes.now o
    (rank_at (slice_set c.loop-n.largest.items cell b) o) in (
      length-set c.loop-n.largest.items cell c.larger.result ∙ c.loop-n.invariant.0,
      subst P (sym next) (largest-more count c.loop-n.n c.args.old.now c.args.new.now c.args.sizes.now c.loop-n.largest.items
          c.loop-n.invariant.0 within (c.requires.new_within c.loop-n.n c.loop-n-test.true) c.loop-n.invariant.1),
    )
