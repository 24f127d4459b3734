use Rattle.std.proofs.Common.{◌≡◌, ◌<◌, ℕ, true, false, List, length, sym, subst, ◌∙◌}
use Rattle.p21_spec_basics.proofs.Members.{rest_is}
use Rattle.p21_stream_survey.proofs.Feeding.{left_to_do, less-read}
use Rattle.p21_stream_survey.proofs.survey.Survey.feed.Goals as goal

pub loop-self-smaller : goal.loop-self-smaller
loop-self-smaller c =
    let now = c.loop-self.self in
    let new = c.feed_again.new.self in
    let rest : List ℕ = c.loop-self.rest.now in
    let next = c.in_ok-next.next in
    subst (λ (l : List ℕ). left_to_do new (length l) < left_to_do now (length rest)) (sym (rest_is rest next.count))
    (less-read c.args.self.now now c.advance.new.self new c.args.piece.now rest next
    (λ over. (let no : false ≡ true = sym c.if-not-has_ended.true ∙ c.has_ended.ensures.1 over in cc)) c.loop-self.invariant.way
    c.in_ok-next.ensures.goes c.in_ok-feed_again.ensures)
