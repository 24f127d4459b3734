use Rattle.std.proofs.Common.{length, ◌-◌, ◌<◌}
use Rattle.p21_stream_output.proofs.Reading.{Stands}
use Rattle.p21_stream_output.specs.Reading.{rest_of}
use Rattle.p21_stream_output.proofs.cursor.Parts.fill.Given as goal

-- so many bytes of what stood behind the cursor stand in the buffer
abbrev pub invariant-loop-filled : goal.invariant-loop-filled
invariant-loop-filled l = Stands (rest_of l.self l.fn.cursor) (rest_of l.self l.cursor) l.fn.buffer l.buffer l.filled
    × (l.cursor.part < length l.self)

abbrev pub decreases-loop-filled : goal.decreases-loop-filled
decreases-loop-filled l = length l.fn.buffer - l.filled
