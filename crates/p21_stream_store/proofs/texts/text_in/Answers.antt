use Rattle.std.proofs.Common.{ap, arith, ◌∙◌}
use Rattle.p21_stream_store.proofs.BlockLemmas.{first_at-read, found}
use Rattle.p21_stream_store.specs.declared.texts.FullBlock.{FullBlock}
use Rattle.p21_stream_store.proofs.texts.text_in.Goals as goal

pub loop-high-init : goal.loop-high-init
loop-high-init c = (
  c.search_bounds-low.ensures.order,
  c.search_bounds-low.ensures.within,
  c.search_bounds-low.ensures.low,
  c.search_bounds-low.ensures.high,
)

pub loop-high-preserved-then-full-middle : goal.loop-high-preserved-then-full-middle
loop-high-preserved-then-full-middle c =
    let first = first_at-read c.args.full.now c.args.end _ c.index-full-middle.result (omega arith) c.index-full-middle.is in
    let same = ap (λ (f : FullBlock). f.first) c.index-full-middle.is in
    (omega arith, omega arith, omega (arith, first, same), c.loop-high.invariant.3)

pub loop-high-preserved : goal.loop-high-preserved
loop-high-preserved c =
    let first = first_at-read c.args.full.now c.args.end _ c.index-full-middle.result (omega arith) c.index-full-middle.is in
    let same = ap (λ (f : FullBlock). f.first) c.index-full-middle.is in
    (omega arith, omega arith, c.loop-high.invariant.2, omega (arith, first, same))

pub overflow_sub-index : goal.overflow_sub-index
overflow_sub-index c = (found _ _ _ _ _ _ c.requires.firsts c.loop-high.invariant c.loop-high-test.false c.index-full-low.is).starts

pub get-requires : goal.get-requires
get-requires c = (found _ _ _ _ _ _ c.requires.firsts c.loop-high.invariant c.loop-high-test.false c.index-full-low.is).within

pub returns : goal.returns
returns c = (found _ _ _ _ _ _ c.requires.firsts c.loop-high.invariant c.loop-high-test.false c.index-full-low.is).text ∙ c.get.ensures
