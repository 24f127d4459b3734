use Rattle.std.proofs.Common.{◌≡◌, true, false, drop, sym, ◌∙◌}
use Rattle.p21_stream_survey.proofs.LastBytes.{along-less}
use Rattle.p21_stream_survey.proofs.survey.Survey.feed_unended.Goals as goal

pub loop-at-smaller : goal.loop-at-smaller
loop-at-smaller c =
    along-less c.args.self.now c.loop-at.self c.go_further.new.self c.args.bytes.now (drop c.loop-at.at c.args.bytes.now)
    (drop c.in-Ok.behind c.args.bytes.now)
    (λ over. (let no : false ≡ true = sym c.if-not-has_ended.true ∙ c.has_ended.ensures.1 over in cc)) c.loop-at.invariant.along
    c.in-Ok.ensures
