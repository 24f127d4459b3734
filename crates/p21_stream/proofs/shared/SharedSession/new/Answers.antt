use Rattle.std.proofs.Common.{ap, ◌∙◌}
use Rattle.p21_spec_laws.specs.Keeping.{Kept}
use Rattle.p21_spec_laws.specs.Stored.{with_lines}
use Rattle.std.specs.Arc.{arc_value}
use Rattle.p21_stream.proofs.PieceFeeding.{bounded-new, stands-new}
use Rattle.p21_stream.proofs.shared.SharedSession.new.Goals as goal

pub invariant_of-result : goal.invariant_of-result
invariant_of-result c = (
  bounded-new (arc_value c.args.schema) c.args.limits c.new-progress.result.walk.statements c.new-progress.result.walk.kept
      c.new-progress.result.refused c.new-progress.ensures.live c.new-progress.ensures.counted c.new-progress.ensures.limits
      (with_lines, c.new-progress.ensures.kept ∙ c.new-kept.ensures) c.new-progress.ensures.refused,
  c.new-progress.ensures.taker (arc_value c.args.schema),
  λ none. ap (λ (k : Kept). k.lines) (c.new-progress.ensures.kept ∙ c.new-kept.ensures),
)

pub returns-clause-stands : goal.returns-clause-stands
returns-clause-stands c = stands-new (arc_value c.args.schema) c.args.limits c.new-progress.result.walk.statements
    c.new-progress.result.walk.kept c.new-progress.result.refused c.new-progress.ensures.live c.new-progress.ensures.counted
    c.new-progress.ensures.limits (with_lines, c.new-progress.ensures.kept ∙ c.new-kept.ensures) c.new-progress.ensures.refused
