use Rattle.std.proofs.Common.{arith}
use Rattle.p21_stream_store.proofs.TextLemmas.{next_rises, next_within, part_length, read_before, read_last, starts_within}
use Rattle.p21_stream_store.proofs.texts.text_at.Goals as goal

pub slice_bounds-rest-count : goal.slice_bounds-rest-count
slice_bounds-rest-count c = starts_within _ _ _ c.requires.starts c.requires.index

pub slice_bounds-rest-start : goal.slice_bounds-rest-start
slice_bounds-rest-start c =
    let within = starts_within _ _ _ c.requires.starts c.requires.index in
    omega (arith, within)

pub returns-then-starts-index-eq1 : goal.returns-then-starts-index-eq1
returns-then-starts-index-eq1 c = read_last _ _ _ c.requires.index c.if-starts-index-eq1.true

pub slice_bounds-result-count : goal.slice_bounds-result-count
slice_bounds-result-count c = next_rises _ _ _ c.requires.starts c.requires.index c.if-starts-index-eq1.false

pub slice_bounds-result-length : goal.slice_bounds-result-length
slice_bounds-result-length c =
    part_length _ _ _ (next_rises _ _ _ c.requires.starts c.requires.index c.if-starts-index-eq1.false)
    (next_within _ _ _ c.requires.starts c.requires.index c.if-starts-index-eq1.false)

pub returns : goal.returns
returns c = read_before _ _ _ c.requires.index c.if-starts-index-eq1.false
