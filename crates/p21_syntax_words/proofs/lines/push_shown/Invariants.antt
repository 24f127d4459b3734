use Rattle.std.proofs.Common.{◌≡◌, ◌++◌, take}
use Rattle.std.specs.List.{flat_map}
use Rattle.p21_syntax_words.specs.HeaderText.{shown_character}
use Rattle.p21_syntax_words.proofs.lines.push_shown.Given as goal

-- the characters so far are shown
abbrev pub invariant-loop-character : goal.invariant-loop-character
invariant-loop-character l = l.out.items ≡ l.fn.out.items ++ flat_map shown_character (take l.character-index l.characters)
