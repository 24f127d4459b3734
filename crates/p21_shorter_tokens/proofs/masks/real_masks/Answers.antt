use Rattle.p21_shorter_tokens.proofs.RealPlaces.{two-rows}
use Rattle.p21_shorter_tokens.proofs.masks.real_masks.Goals as goal

pub returns : goal.returns
returns c =
    let low = c.digit_masks-low in
    let high = c.digit_masks-high in
    two-rows c.args.bytes.now c.args.at low.result.0 high.result.0 low.result.1 high.result.1 c.requires low.ensures.others high.ensures.others low.ensures.zeros high.ensures.zeros
