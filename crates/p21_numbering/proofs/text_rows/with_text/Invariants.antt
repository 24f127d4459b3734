use Rattle.std.specs.Prelude.{◌≡◌, ◌++◌, map, suc, take}
use Rattle.p21_numbering.proofs.text_rows.with_text.Given as goal

abbrev pub invariant-loop-byte : goal.invariant-loop-byte
invariant-loop-byte l = l.more.items ≡ l.fn.row.items ++ map suc (take l.byte-index l.text)
