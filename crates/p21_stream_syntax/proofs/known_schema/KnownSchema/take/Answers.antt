use Rattle.std.proofs.Common.{inr, refl}
use Rattle.p21_stream_syntax.proofs.Taking.{takes-text}
use Rattle.p21_stream_syntax.proofs.known_schema.KnownSchema.take.Goals as goal

pub returns-in-Some-clause-gives : goal.returns-in-Some-clause-gives
returns-in-Some-clause-gives c = takes-text _ _ c.in-Some.text.now c.take_text.result _ c.in-Some.ensures.some c.take_text.ensures.gives

pub returns-in-None-clause-gives : goal.returns-in-None-clause-gives
returns-in-None-clause-gives c = inr (c.in-None.ensures.none refl, refl)
