use Rattle.std.specs.Prelude.{◌≡◌, take}
use Rattle.p21_express_graph.specs.Rising.{texts_of}
use Rattle.p21_express_outline.proofs.names.texts.Given as goal

-- the names so far
abbrev pub invariant-loop-word : goal.invariant-loop-word
invariant-loop-word l = texts_of l.names.items ≡ take l.word-index l.words
