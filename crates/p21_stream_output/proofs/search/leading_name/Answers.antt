use Rattle.std.proofs.Common.{◌∙◌, arith}
use Rattle.p21_stream_output.proofs.Searching.{named-at, number-at}
use Rattle.p21_stream_output.proofs.search.leading_name.Goals as goal

pub returns-in_default : goal.returns-in_default
returns-in_default c name named small = absurd (c.in_default.ensures.none _ _ (named-at name c.args.line.now named))

pub returns-in-Some-name_number : goal.returns-in-Some-name_number
returns-in-Some-name_number c name named small = c.in-Some-name_number.ensures.some
    ∙ number-at name c.args.line.now c.in-Some.digits.now _ named c.in-Some.ensures.some

pub returns-in-None : goal.returns-in-None
returns-in-None c name named small =
    let is = number-at name c.args.line.now c.in-Some.digits.now _ named c.in-Some.ensures.some in
    let large = c.in-None.ensures.none in
    absurd (omega (arith, is, large, small))
