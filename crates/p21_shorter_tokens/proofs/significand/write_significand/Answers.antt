use Rattle.std.proofs.Common.{◌+◌, ◌-◌, ◌++◌, ◌∷◌, [], List, ℕ, take, ap, ◌∙◌, if◌then◌else◌, slice_index}
use Rattle.p21_spec_basics.proofs.Members.{rest_is}
use Rattle.p21_shorter_tokens.proofs.SecondRow.{joined, rows}
use Rattle.p21_shorter_tokens.specs.Significands.{further_digits}
use Rattle.p21_shorter_tokens.proofs.significand.write_significand.Goals as goal

pub returns-then-first-point-clause-text : goal.returns-then-first-point-clause-text
returns-then-first-point-clause-text c =
    let bytes = c.args.bytes.now in
    let at = c.args.at in
    let p = c.args.places.now in
    let h = c.requires.places in
    let order = h.ordered in
    let high = h.last_is.high in
    let low = (h.first_is c.requires.some).0 in
    let mark : List ℕ = if c.args.negative then 45 ∷ [] else [] in
    let old = take c.args.used c.args.room.now in
    let digit = slice_index bytes (at + p.first) in
    rows p.end bytes at p.point p.first p.behind c.if-first-point.true low high c.write_front-out.result (old ++ (mark ++ digit ∷ 46 ∷ [])) c.write_row.new.room c.write_row-then-first-point.new.room
    (λ count short. c.write_row.ensures.front count short ∙ (λ i. c.write_front-out.ensures.text i ++ take count (rest_is bytes (at + p.first + 1) i)))
    (λ count short. c.write_row-then-first-point.ensures.front count short ∙ ap (λ (l : List ℕ). take (c.write_front-out.result + (p.point - p.first - 1)) c.write_row.new.room ++ take count l) (rest_is bytes (at + p.point + 1)))
    order
    ∙ joined old mark (further_digits bytes at p.point p.first p.behind) digit
