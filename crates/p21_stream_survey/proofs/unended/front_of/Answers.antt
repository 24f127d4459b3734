use Rattle.std.proofs.Common.{◌≡◌, ℕ, List, length, take, drop, sym, arith}
use Rattle.std.proofs.lemmas.List.{length-take-le, take-append-drop}
use Rattle.p21_stream_survey.proofs.unended.front_of.Goals as goal

pub slice_bounds-result-end : goal.slice_bounds-result-end
slice_bounds-result-end c = let high = c.if-rest-le-MOST.false in sym (length-take-le 256 c.args.rest.now (omega (arith, high)))

pub returns : goal.returns
returns c =
    let rest : List ℕ = c.args.rest.now in
    let high = c.if-rest-le-MOST.false in
    let size : length (take 256 rest) ≡ 256 = length-take-le 256 rest (omega (arith, high)) in
    record { behind = drop 256 rest; rest_is = sym (take-append-drop 256 rest); some = λ some. omega (arith, size) }
