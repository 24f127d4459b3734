use Rattle.std.proofs.Common.{◌≡◌, true}
use Rattle.p21_stream_survey.proofs.MissingTold.{adds-silent}
use Rattle.p21_stream_survey.specs.Silence.{silence_of}
use Rattle.p21_stream_syntax.specs.Given.{kept_of}
use Rattle.p21_stream_survey.proofs.missing.list_one_missing.Goals as goal

pub returns-then-is_silent-clause-adds : goal.returns-then-is_silent-clause-adds
returns-then-is_silent-clause-adds c =
    adds-silent (kept_of c.args.given.now).names (silence_of c.args.silence) (c.args.reference.holder, c.args.reference.target)
    c.args.refusals.now.items
    (λ among. (let passes : c.has_name.result ≡ true = c.has_name.ensures.1 among in let fails = c.if-has_name.false in cc))
    (c.is_silent.ensures.yes c.if-is_silent.true)
