use Rattle.p21_stream.proofs.read.feed_piece.Goals as goal

pub returns-in-Err-clause-err : goal.returns-in-Err-clause-err
returns-in-Err-clause-err g c = c.in-Err.ensures.refuses _ _ c.in-Ok.ensures.bytes.0
