use Rattle.std.proofs.Common.{arith}
use Rattle.p21_shorter_tokens.proofs.RealPlaces.{first-within, found}
use Rattle.p21_shorter_tokens.proofs.places.shown_places.Goals as goal

pub bounds-bytes-at : goal.bounds-bytes-at
bounds-bytes-at c = first-within c.args.bytes.now c.args.at c.args.others c.args.zeros c.requires (omega (arith, c.if-others-eq0.false))

pub returns : goal.returns
returns c =
    let shown = c.requires in
    found c.args.bytes.now c.args.at shown.count c.args.others c.args.zeros (omega (arith, shown.few)) shown.within shown.others_shown
    shown.zeros_shown
    (omega (arith, c.if-others-eq0.false)) (omega (arith, c.if-rest-eq0.false)) (omega (arith, c.if-point-eq0.false))
    c.if-bytes-at-ne46.false
