use Rattle.std.proofs.Common.{rules}
use Rattle.std.proofs.lemmas.List.{length-take-le}
use Rattle.p21_stream_syntax.proofs.Feeding.{read-failed, reads-more}
use Rattle.p21_stream_syntax.proofs.reading.read_more.Goals as goal

pub returns-in_default-clause-err : goal.returns-in_default-clause-err
returns-in_default-clause-err g c = read-failed c.args.limits _ _ c.args.walk.now c.refused.result c.refused.ensures

pub returns-in-Err-clause-err : goal.returns-in-Err-clause-err
returns-in-Err-clause-err g c = c.in-Err.ensures.gives _ _ c.in-Ok.ensures.bytes.0

pub returns-in-Ok-take_piece-clause-ok : goal.returns-in-Ok-take_piece-clause-ok
returns-in-Ok-take_piece-clause-ok g c = record {
  along = λ start size from.
      reads-more c.args.limits start _ _ c.args.walk.now c.take_piece.new.walk _ size c.in-Ok.count c.in-Ok.ensures.bytes.0
      (length-take-le c.in-Ok.count c.read_piece.new.piece c.in-Ok.ensures.count.0) c.in-Ok-take_piece.ensures.gives from;
  ended = λ none. c.in-Ok.ensures.bytes.1 none (search rules);
}
