use Rattle.std.proofs.Common.{◌≡◌, ◌↔◌, IsTrue, sym, ◌∙◌}
use Rattle.std.proofs.lemmas.Bool.{true≢false}
use Rattle.std.proofs.lemmas.Slice.Eq.{bytes_eq-Decides}
use Rattle.p21_tolerance.specs.NearValues.{IsReal}
use Rattle.p21_tolerance.specs.Within.{tolerance_of}
use Rattle.p21_tolerance.proofs.NearLists.{others-near, reals-near, texts-same, within-near}
use Rattle.p21_tolerance.proofs.SumsLeft.{both-ways}
use Rattle.p21_tolerance.proofs.near.are_alike.Goals as goal
use Rattle.p21_tolerance.proofs.near.are_alike.Goals.{else-are_within, else-is_real-via-else-is_real, then-are_within}
use Rattle.p21_tolerance.proofs.near.are_alike.Goals.{else-is_real-via-then-is_real+else-is_real-2}

pub returns-then-is_real-2 : goal.returns-then-is_real-2
returns-then-is_real-2 c p q first second lists alike =
    let p_real = (c.is_real.ensures p first).0 c.if-is_real.true in
    let q_real = (c.is_real-then-is_real.ensures q second).0 c.if-is_real-2.true in
    let t = tolerance_of c.args.tolerance in
    let within = c.are_within.ensures p q first second in
    elim c.if-are_within.branch [
      | then-are_within w ↦
          within-near p q t c.if-are_within.result c.are_within.result p_real q_real w.if-are_within.true (w.result-is
          ∙ w.if-are_within.true) within
      | else-are_within w ↦
          reals-near p q t c.if-are_within.result c.are_within.result w.are_within_share.result p_real q_real
          w.if-are_within.false w.result-is within (w.are_within_share.ensures p q first second)
    ]

pub returns : goal.returns
returns c p q first second lists alike =
    let one = c.args.first.text.now in
    let two = c.args.second.text.now in
    let reals : IsReal p → IsReal q → ⊥ = λ p_real q_real. elim c.else-is_real.branch [
      | else-is_real-via-then-is_real+else-is_real-2 w ↦
          true≢false (sym ((w.is_real-then-is_real.ensures q second).1 q_real) ∙ w.if-is_real-2.false)
      | else-is_real-via-else-is_real w ↦ true≢false (sym ((c.is_real.ensures p first).1 p_real) ∙ w.if-is_real.false)
    ] in
    let same = bytes_eq-Decides one two in
    let equal : IsTrue c.eq.result ↔ (one ≡ two) = (λ so. same.0 (sym c.eq.ensures ∙ so), λ e. c.eq.ensures ∙ same.1 e) in
    both-ways equal (both-ways (texts-same p q one two first second) (others-near p q (tolerance_of c.args.tolerance) reals lists alike))
