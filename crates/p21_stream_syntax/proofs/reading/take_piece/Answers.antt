use Rattle.p21_stream_syntax.proofs.Feeding.{piece-refused, piece-whole, way-between}
use Rattle.p21_stream_syntax.proofs.reading.take_piece.Goals as goal

pub read-requires : goal.read-requires
read-requires c = record { way = way-between c.args.limits c.args.walk.now c.args.piece.now c.requires.live c.requires.counted }

pub returns-in-Ok-clause-gives : goal.returns-in-Ok-clause-gives
returns-in-Ok-clause-gives c = piece-whole c.args.limits c.args.walk.now c.read.new.self c.args.piece.now
    (c.in-Ok.ensures.gives c.args.limits)

pub returns-in-Err-clause-gives : goal.returns-in-Err-clause-gives
returns-in-Err-clause-gives c = piece-refused c.args.limits c.args.walk.now c.read.new.self c.args.piece.now c.in-Err.refusal
    c.type_inv.piece c.in-Err.ensures.kind (c.in-Err.ensures.gives c.args.limits)
