use Rattle.std.proofs.Common.{◌≡◌, length}
use Rattle.std.specs.Prelude.{◌↔◌}
use Rattle.p21_stream_output.specs.Reading.{rest_at, start}
use Rattle.p21_outlines.proofs.one_text.have_one_text.Given as goal

-- what is left of both texts is one exactly if they are
abbrev pub invariant-loop-cursor : goal.invariant-loop-cursor
invariant-loop-cursor l =
    (length l.piece ≡ 65536) × (length l.other_piece ≡ 65536)
    × ((rest_at l.first l.cursor ≡ rest_at l.second l.other_cursor) ↔ (rest_at l.first start ≡ rest_at l.second start))

abbrev pub decreases-loop-cursor : goal.decreases-loop-cursor
decreases-loop-cursor l = length (rest_at l.first l.cursor)
