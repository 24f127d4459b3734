use Rattle.std.proofs.Common.{◌≡◌, take}
use Rattle.p21_mapping.proofs.scalar_copies.copied_text.Given as goal

-- the first characters
abbrev pub invariant-loop-character : goal.invariant-loop-character
invariant-loop-character l = l.copy ≡ take l.character-index l.characters
