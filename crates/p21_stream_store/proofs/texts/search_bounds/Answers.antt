use Rattle.std.proofs.Common.{◌≡◌, ◌+◌, ◌<◌, ℕ, length, ap, subst, arith}
use Rattle.p21_stream_store.proofs.BlockLemmas.{first_at-read, search_starts}
use Rattle.p21_stream_store.specs.Blocks.{first_at}
use Rattle.p21_stream_store.specs.declared.texts.FullBlock.{FullBlock}
use Rattle.p21_stream_store.proofs.texts.search_bounds.Goals as goal
use Rattle.p21_stream_store.proofs.texts.search_bounds.Goals.{else-next-count-via-then-next-count+else-full-next, else-next-count-via-else-next-count}

pub returns-then-full-guess-clause-high : goal.returns-then-full-guess-clause-high
returns-then-full-guess-clause-high c =
    let starts = search_starts _ _ _ c.requires.firsts c.requires.index in
    let first = first_at-read c.args.full.now c.args.end _ c.index-full-guess.result (omega (arith, starts.0, c.min-guess.ensures))
    c.index-full-guess.is in
    omega (arith, first, ap (λ (f : FullBlock). f.first) c.index-full-guess.is, c.if-full-guess.true)

pub returns-then-full-next-clause-low : goal.returns-then-full-next-clause-low
returns-then-full-next-clause-low c =
    let first = first_at-read c.args.full.now c.args.end _ c.index-full-next.result c.if-next-count.true c.index-full-next.is in
    omega (arith, first, ap (λ (f : FullBlock). f.first) c.index-full-next.is, c.if-full-next.true)

pub returns-then-full-next-clause-high : goal.returns-then-full-next-clause-high
returns-then-full-next-clause-high c = (search_starts _ _ _ c.requires.firsts c.requires.index).3

pub returns-clause-low : goal.returns-clause-low
returns-clause-low c =
    let starts = search_starts _ _ _ c.requires.firsts c.requires.index in
    let first = first_at-read c.args.full.now c.args.end _ c.index-full-guess.result (omega (arith, starts.0, c.min-guess.ensures))
    c.index-full-guess.is in
    omega (arith, first, ap (λ (f : FullBlock). f.first) c.index-full-guess.is, c.if-full-guess.false)

pub returns-clause-high : goal.returns-clause-high
returns-clause-high c =
    let starts = search_starts _ _ _ c.requires.firsts c.requires.index in
    elim c.else-next-count.branch [
      | else-next-count-via-then-next-count+else-full-next w ↦ (
          let first = first_at-read c.args.full.now c.args.end _ w.index-full-next.result w.if-next-count.true w.index-full-next.is in
          omega (arith, first, ap (λ (f : FullBlock). f.first) w.index-full-next.is, w.if-full-next.false))
      | else-next-count-via-else-next-count w ↦ (
          let all : length c.args.full.now ≡ c.min-guess.result + 1 = omega (arith, starts.0, c.min-guess.ensures, w.if-next-count.false) in
          subst (λ (n : ℕ). c.args.index < first_at c.args.full.now c.args.end n) all starts.3)
    ]
