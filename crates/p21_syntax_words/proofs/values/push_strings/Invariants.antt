use Rattle.std.proofs.Common.{◌≡◌, ◌++◌, take}
use Rattle.std.specs.List.{flat_map}
use Rattle.p21_grammar_tree.specs.View.{view}
use Rattle.p21_syntax_words.specs.HeaderText.{string_lines}
use Rattle.p21_syntax_words.proofs.values.push_strings.Given as goal

-- the lines of the values so far
abbrev pub invariant-loop-value : goal.invariant-loop-value
invariant-loop-value l = l.out.items ≡ l.fn.out.items ++ flat_map (λ value. string_lines l.word (view value)) (take l.value-index l.values)
