use Rattle.std.proofs.Common.{◌≡◌, ℕ, length}
use Rattle.std.specs.Prelude.{Option, Some, slice_get}
use Rattle.std.specs.Prelude as std
use Rattle.std.specs.declared.alloc.Global.{Global}
use Rattle.p21_commands.specs.OwnTexts.{IsOwnText}
use Rattle.p21_commands.proofs.print.own_texts.Given as goal

-- the texts so far
abbrev pub invariant-loop-number : goal.invariant-loop-number
invariant-loop-number l = (length l.texts.items ≡ l.number)
    × ((e : ℕ) (text : Option (std.Vec ℕ Global)) → slice_get l.texts.items e ≡ Some text → IsOwnText l.schema e text)
