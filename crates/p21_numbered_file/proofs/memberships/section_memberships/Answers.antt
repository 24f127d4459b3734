use Rattle.std.proofs.Common.{arith, ap, ◌∙◌}
use Rattle.p21_numbered_file.proofs.PutTogether.{membership-more}
use Rattle.p21_numbered_file.specs.Assembly.{section_memberships}
use Rattle.p21_numbered_file.proofs.memberships.section_memberships.Goals as goal

pub loop-section-preserved : goal.loop-section-preserved
loop-section-preserved c = membership-more c.loop-section.section c.in_ok-add.field-0 c.loop-section.memberships c.add.new.self
    c.loop-section.invariant c.in_ok-add.ensures.ok

pub returns : goal.returns
returns c = c.loop-section.invariant ∙ ap section_memberships (omega (arith, c.loop-section-test.false))
