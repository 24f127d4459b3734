use Rattle.std.proofs.Common.{◌++◌, List, ℕ, map, take}
use Rattle.p21_grammar_tree.specs.View.{part_view}
use Rattle.p21_syntax_words.specs.HeaderText.{key_text}
use Rattle.p21_syntax_words.specs.KeywordCounts.{AreCounts}
use Rattle.p21_syntax_words.proofs.counts.KeywordCounts.add_parts.Given as goal

-- the keywords of the records so far are counted
abbrev pub invariant-loop-part : goal.invariant-loop-part
invariant-loop-part l = (words : List (List ℕ)) → AreCounts words l.fn.self → AreCounts (words ++ map (λ part. key_text (part_view part).key) (take l.part-index l.parts)) l.self
