use Rattle.p21_stream_output.proofs.Reading.{more-filled, same-stands}
use Rattle.p21_stream_output.specs.Reading.{behind_line, line_at, rest_of}
use Rattle.p21_stream_output.proofs.cursor.Parts.fill.Goals as goal

pub loop-filled-preserved : goal.loop-filled-preserved
loop-filled-preserved c =
    let parts = c.args.self.now in
    let at = c.behind-rest.new.cursor in
    let text = rest_of parts c.args.cursor.now in
    let stands = same-stands text (rest_of parts c.loop-filled.cursor) (rest_of parts at) c.args.buffer.now c.loop-filled.buffer
    c.loop-filled.filled c.behind-rest.ensures.same c.loop-filled.invariant.0 in (
      more-filled text c.args.buffer.now c.loop-filled.buffer c.put-count.new.buffer c.behind-rest.result.now
          (line_at parts at.part at.line) (behind_line parts at.part at.line) at.byte c.loop-filled.filled c.put-count.result stands
          c.behind-rest.ensures.front c.put-count.ensures.count c.put-count.ensures.buffer,
      c.behind-rest.ensures.part,
    )
