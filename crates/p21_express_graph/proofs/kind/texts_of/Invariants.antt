use Rattle.std.proofs.Common.{take}
use Rattle.p21_express_graph.specs.TextSet.{HasTexts}
use Rattle.p21_express_graph.proofs.kind.texts_of.Given as goal

-- the texts so far
abbrev pub invariant-loop-word : goal.invariant-loop-word
invariant-loop-word l = HasTexts l.texts (take l.word-index l.words)
