use Rattle.std.proofs.Common.{inl}
use Rattle.p21_stream_survey.proofs.AtEnd.{out-of_data}
use Rattle.p21_stream_survey.proofs.finishing.tells_end.Goals as goal

pub returns-then-not-is_in_data : goal.returns-then-not-is_in_data
returns-then-not-is_in_data c = λ yes s limits known point stood. inl
    (out-of_data c.args.log.now c.is_in_data.result c.is_in_data.ensures c.if-not-is_in_data.true s limits known point stood)
