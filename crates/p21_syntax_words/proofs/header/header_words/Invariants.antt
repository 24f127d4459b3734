use Rattle.std.proofs.Common.{◌≡◌, take}
use Rattle.std.specs.List.{flat_map}
use Rattle.p21_grammar_tree.specs.View.{part_view}
use Rattle.p21_syntax_words.specs.HeaderText.{record_lines}
use Rattle.p21_syntax_words.proofs.header.header_words.Given as goal

-- the lines of the records so far
abbrev pub invariant-loop-part : goal.invariant-loop-part
invariant-loop-part l = l.text.items ≡ flat_map (λ part. record_lines (part_view part)) (take l.part-index l.header)
