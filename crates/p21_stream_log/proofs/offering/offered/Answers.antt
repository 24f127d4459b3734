use Rattle.std.proofs.Common.{◌≡◌, ◌+◌, ℕ, List, [], ◌∷◌, ◌++◌, get_or, take, drop, refl, sym, ap, subst, ◌∙◌, arith}
use Rattle.std.proofs.lemmas.List.{take-append-drop, take_more}
use Rattle.p21_stream_log.proofs.Offered.{HasNoSemicolon, all-offered, semicolon-offered, some-most}
use Rattle.p21_stream_log.proofs.offering.offered.Goals as goal

pub returns-then-piece-count-eq59 : goal.returns-then-piece-count-eq59
returns-then-piece-count-eq59 c =
    let piece = c.args.piece.now in
    let count = c.loop-count.count in
    let last : get_or piece count 0 ≡ 59 = omega (arith, c.if-piece-count-eq59.true) in
    semicolon-offered piece (take (count + 1) piece) (take count piece) (drop (count + 1) piece) c.loop-count.invariant
    (take_more piece count 0 (omega (arith, c.loop-count-test.true, c.min-most.ensures)) ∙ ap (λ (b : ℕ). take count piece ++ b ∷ []) last)
    (sym (take-append-drop (count + 1) piece))

pub returns : goal.returns
returns c =
    let piece = c.args.piece.now in
    let most = c.min-most.result in
    let same : c.loop-count.count ≡ most = omega (arith, c.loop-count-test.false, c.loop-count.auto.count-end) in
    all-offered piece (take most piece) most refl (some-most piece most c.min-most.ensures)
    (subst (λ (n : ℕ). HasNoSemicolon (take n piece)) same c.loop-count.invariant)
