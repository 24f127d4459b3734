use Rattle.std.proofs.Common.{◌≡◌, ◌≢◌, ◌<◌, arith, rules, sym, true, ◌∙◌}
use Rattle.p21_outlines.proofs.Pieces.{buffer-long, pieces-ended, pieces-same, pieces-shorter}
use Rattle.p21_outlines.proofs.one_text.have_one_text.Goals as goal

pub returns-then-count-eq0 : goal.returns-then-count-eq0
returns-then-count-eq0 c =
    let one : c.are_one.result ≡ true = search rules in
    let ended =
    pieces-ended 65536 (omega arith) _ _ _ _ _ _ _ _ _ _ c.read-count.ensures.takes c.read-other_count.ensures.takes
    c.loop-cursor.invariant.0 c.loop-cursor.invariant.1
    (c.are_one.ensures.0 (search rules)) (search rules) in
    (λ t. sym c.read-count.ensures.whole ∙ c.loop-cursor.invariant.2.0 ended ∙ c.read-other_count.ensures.whole, λ same. search rules)

pub loop-cursor-smaller : goal.loop-cursor-smaller
loop-cursor-smaller c =
    pieces-shorter 65536 (omega arith) _ _ _ _ _ _ _ _ _ _ c.read-count.ensures.takes c.read-other_count.ensures.takes
    c.loop-cursor.invariant.0 c.loop-cursor.invariant.1 (search rules)

pub loop-cursor-preserved : goal.loop-cursor-preserved
loop-cursor-preserved c =
    let same =
    pieces-same 65536 (omega arith) _ _ _ _ _ _ _ _ _ _ c.read-count.ensures.takes c.read-other_count.ensures.takes
    c.loop-cursor.invariant.0 c.loop-cursor.invariant.1
    (c.are_one.ensures.0 (search rules)) in (
      buffer-long _ _ _ _ _ c.read-count.ensures.takes ∙ c.loop-cursor.invariant.0,
      buffer-long _ _ _ _ _ c.read-other_count.ensures.takes ∙ c.loop-cursor.invariant.1,
      (λ equal. c.loop-cursor.invariant.2.0 (same.0 equal), λ equal. same.1 (c.loop-cursor.invariant.2.1 equal)),
    )
