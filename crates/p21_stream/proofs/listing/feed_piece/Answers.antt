use Rattle.std.proofs.Common.{arith, rules}
use Rattle.std.proofs.lemmas.List.{length-take-le}
use Rattle.p21_stream.proofs.SurveyFeeding.{surveyed-more}
use Rattle.p21_stream.proofs.listing.feed_piece.Goals as goal

pub returns-in-Ok-take_piece-clause-more : goal.returns-in-Ok-take_piece-clause-more
returns-in-Ok-take_piece-clause-more g c =
    let sum = c.in-Some.ensures in (
      λ start from. surveyed-more start _ _ c.args.survey.now c.take_piece.new.survey _ c.args.taken c.in-Ok.count c.in-Some.next
          c.in-Ok.ensures.bytes.0
          (length-take-le c.in-Ok.count c.read_piece.new.piece c.in-Ok.ensures.count.0) (omega (arith, sum))
          c.in-Ok-take_piece.ensures.taken from,
      λ same. c.in-Ok.ensures.bytes.1 (omega (arith, sum, same)) (search rules),
    )
