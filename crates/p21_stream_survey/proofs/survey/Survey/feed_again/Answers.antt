use Rattle.std.proofs.Common.{◌≡◌, ◌<◌, ◌-◌, ◌++◌, ℕ, true, false, List, length, take, drop, sym, ap, subst, ◌∙◌}
use Rattle.std.proofs.lemmas.List.{drop-drop, length-drop}
use Rattle.p21_spec_basics.proofs.Members.{rest_is}
use Rattle.p21_stream_survey.proofs.Feeding.{IsOnWay, left_to_do, less-again, way-again, way-first}
use Rattle.p21_stream_survey.specs.Course.{IsUnderWay}
use Rattle.p21_stream_survey.specs.Walking.{Goes}
use Rattle.p21_stream_survey.proofs.survey.Survey.feed_again.Goals as goal

pub loop-at-init : goal.loop-at-init
loop-at-init c = record { way = way-first c.args.self.now c.args.again.items c.requires }

pub advance-requires-clause-under_way : goal.advance-requires-clause-under_way
advance-requires-clause-under_way c =
    let now = c.loop-at.self in
    let slice_is = ap (λ (l : List ℕ). take (length l - c.loop-at.at) (drop c.loop-at.at l)) c.deref.ensures.value
    ∙ rest_is c.loop-at.bytes.items c.loop-at.at in
    subst (λ (l : List ℕ). IsUnderWay now now.stage l) (sym slice_is) c.loop-at.invariant.way.under_way

pub loop-at-preserved : goal.loop-at-preserved
loop-at-preserved c =
    let now = c.loop-at.self in
    let new = c.advance.new.self in
    let at : ℕ = c.loop-at.at in
    let bytes : List ℕ = c.loop-at.bytes.items in
    let next = c.in_ok-next.next in
    let slice_is = ap (λ (l : List ℕ). take (length l - at) (drop at l)) c.deref.ensures.value ∙ rest_is bytes at in
    let goes = subst (λ (l : List ℕ). Goes now now.stage l next new) slice_is c.in_ok-next.ensures.goes in
    let left : next.again.items ++ drop next.count (drop at bytes) ≡ drop c.in_ok-bytes.field-0-1 c.in_ok-bytes.field-0-0.items =
    ap (λ (l : List ℕ). next.again.items ++ l) (drop-drop next.count at bytes) ∙ sym c.in_ok-bytes.ensures in
    record {
      way = subst (λ (l : List ℕ). IsOnWay c.args.self.now c.args.again.items new l) left
          (way-again c.args.self.now now new c.args.again.items (drop at bytes) next c.loop-at.invariant.way goes);
    }

pub loop-at-smaller : goal.loop-at-smaller
loop-at-smaller c =
    let now = c.loop-at.self in
    let new = c.advance.new.self in
    let at : ℕ = c.loop-at.at in
    let bytes : List ℕ = c.loop-at.bytes.items in
    let next = c.in_ok-next.next in
    let slice_is = ap (λ (l : List ℕ). take (length l - at) (drop at l)) c.deref.ensures.value ∙ rest_is bytes at in
    let goes = subst (λ (l : List ℕ). Goes now now.stage l next new) slice_is c.in_ok-next.ensures.goes in
    let left : next.again.items ++ drop next.count (drop at bytes) ≡ drop c.in_ok-bytes.field-0-1 c.in_ok-bytes.field-0-0.items =
    ap (λ (l : List ℕ). next.again.items ++ l) (drop-drop next.count at bytes) ∙ sym c.in_ok-bytes.ensures in
    let size : ℕ = length c.in_ok-bytes.field-0-0.items - c.in_ok-bytes.field-0-1 in
    let size_is : size ≡ length (next.again.items ++ drop next.count (drop at bytes)) =
    sym (length-drop c.in_ok-bytes.field-0-1 c.in_ok-bytes.field-0-0.items) ∙ ap length (sym left) in
    subst (λ (n : ℕ). left_to_do new size < left_to_do now n) (length-drop at bytes)
    (less-again c.args.self.now now new c.args.again.items (drop at bytes) next size
    (λ over. (let no : false ≡ true = sym c.if-not-has_ended.true ∙ c.has_ended.ensures.1 over in cc)) c.loop-at.invariant.way goes
    size_is)
