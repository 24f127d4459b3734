use Rattle.p21_stream.proofs.Feeding.{piece-refused}
use Rattle.p21_stream.proofs.read.feed.Goals as goal

pub returns-in-Err-clause-refuses : goal.returns-in-Err-clause-refuses
returns-in-Err-clause-refuses c =
    piece-refused c.args.session.now c.feed.new.self c.args.piece.now c.in-Err.refusal c.type_inv.piece c.in-Err.ensures.kind
    c.in-Err.ensures.gives
