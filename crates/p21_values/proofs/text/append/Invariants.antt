use Rattle.std.proofs.Common.{◌≡◌, ◌++◌, ◌∷◌, take}
use Rattle.std.specs.List.{flat_map}
use Rattle.p21_spec_exchange.specs.Spelling.{character_spelling}
use Rattle.p21_values.proofs.text.append.Given as goal

abbrev pub invariant-loop-character : goal.invariant-loop-character
invariant-loop-character l = l.out.items ≡ l.fn.out.items ++ 39 ∷ flat_map character_spelling (take l.character-index l.characters)
