use Rattle.std.proofs.Common.{arith}
use Rattle.p21_stream.proofs.Feeding.{each-byte}
use Rattle.p21_stream.proofs.SurveyFeeding.{piece-next, piece-same}
use Rattle.p21_stream.proofs.listing.take_piece.Goals as goal

pub feed-requires : goal.feed-requires
feed-requires c = let fits = c.ranges.next.fits in
    piece-next c.args.survey.now c.args.piece.now c.args.next (omega (arith, fits)) c.requires

pub returns-in-Ok-clause-taken : goal.returns-in-Ok-clause-taken
returns-in-Ok-clause-taken c = record { are_bytes = each-byte c.args.piece.now c.type_inv.piece; feeds = c.in-Ok.ensures }

pub returns-in-Ok-clause-same : goal.returns-in-Ok-clause-same
returns-in-Ok-clause-same c =
    let fits = c.ranges.next.fits in
    piece-same c.args.survey.now c.feed.new.self c.args.piece.now c.args.next (omega (arith, fits)) c.requires c.in-Ok.ensures
