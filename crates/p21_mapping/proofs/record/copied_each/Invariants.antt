use Rattle.std.proofs.Common.{◌≡◌, take}
use Rattle.p21_grammar_tree.specs.View.{part_views}
use Rattle.p21_mapping.proofs.record.copied_each.Given as goal

-- the first simple records
abbrev pub invariant-loop-i : goal.invariant-loop-i
invariant-loop-i l = part_views l.copies.items ≡ part_views (take l.i l.parts)
