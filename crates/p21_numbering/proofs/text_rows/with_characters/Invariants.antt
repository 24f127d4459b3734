use Rattle.std.specs.Prelude.{◌≡◌, ◌++◌, map, suc, take}
use Rattle.p21_numbering.proofs.text_rows.with_characters.Given as goal

abbrev pub invariant-loop-character : goal.invariant-loop-character
invariant-loop-character l = l.more.items ≡ l.fn.row.items ++ map suc (take l.character-index l.characters)
