use Rattle.std.specs.Prelude.{◌≡◌}
use Rattle.p21_numbered_file.specs.Assembly.{section_memberships}
use Rattle.p21_numbered_file.proofs.memberships.section_memberships.Given as goal

abbrev pub invariant-loop-section : goal.invariant-loop-section
invariant-loop-section l = l.memberships ≡ section_memberships l.section
