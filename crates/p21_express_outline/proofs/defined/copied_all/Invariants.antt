use Rattle.std.proofs.Common.{◌≡◌, take}
use Rattle.p21_express_outline.proofs.defined.copied_all.Given as goal

-- those so far are copied
abbrev pub invariant-loop-word : goal.invariant-loop-word
invariant-loop-word l = l.copies.items ≡ take l.word-index l.words
