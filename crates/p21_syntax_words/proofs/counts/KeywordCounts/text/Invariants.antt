use Rattle.std.proofs.Common.{◌≡◌, ◌++◌}
use Rattle.p21_syntax_words.specs.KeywordCounts.{counts_of, counts_text}
use Rattle.p21_syntax_words.proofs.counts.KeywordCounts.text.Given as goal

-- the lines of what stands behind are left
abbrev pub invariant-loop-word : goal.invariant-loop-word
invariant-loop-word l = l.text.items ++ counts_text (counts_of l.word-iterator) ≡ counts_text l.self
