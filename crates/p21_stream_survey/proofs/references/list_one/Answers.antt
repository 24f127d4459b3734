use Rattle.std.proofs.Common.{subst}
use Rattle.p21_stream_kept.specs.Inside.{reference_of}
use Rattle.p21_stream_kept.specs.Judgements.{AnswersNeedOf}
use Rattle.p21_stream_survey.proofs.Told.{adds-one, adds-silent, told-of}
use Rattle.p21_stream_survey.specs.Silence.{silence_of}
use Rattle.p21_stream_survey.proofs.references.list_one.Goals as goal

pub returns-then-is_silent-clause-adds : goal.returns-then-is_silent-clause-adds
returns-then-is_silent-clause-adds c = λ s stored answers.
    adds-silent s stored (silence_of c.args.silence) (reference_of c.args.reference.now) c.args.refusals.now.items c.in-Some.fault
    (subst (AnswersNeedOf s stored (reference_of c.args.reference.now)) c.in-Some.is answers)
    (c.is_silent.ensures.yes c.if-is_silent.true)

pub returns-in-Ok-clause-adds : goal.returns-in-Ok-clause-adds
returns-in-Ok-clause-adds c = λ s stored answers.
    let told = told-of s stored (silence_of c.args.silence) (reference_of c.args.reference.now) c.in-Some.fault
    (subst (AnswersNeedOf s stored (reference_of c.args.reference.now)) c.in-Some.is answers)
    (c.is_silent.ensures.no c.if-is_silent.false) in
    adds-one s stored (silence_of c.args.silence) (reference_of c.args.reference.now) c.args.refusals.now.items c.push.new.self.items
    c.in-Some.fault told c.in-Ok.ensures.items
