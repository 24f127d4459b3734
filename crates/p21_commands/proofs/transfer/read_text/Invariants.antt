use Rattle.std.proofs.Common.{◌≡◌, length, ◌-◌}
use Rattle.p21_commands.proofs.TransferLemmas.{IsRead}
use Rattle.p21_commands.specs.Transfer.{most_read}
use Rattle.p21_commands.proofs.transfer.read_text.Given as goal

abbrev pub invariant-loop-piece : goal.invariant-loop-piece
invariant-loop-piece g l = IsRead most_read (g.R.Read.remaining l.initial.reader.inner) (g.R.Read.remaining l.reader.inner) l.text.items
    × (l.reader.failures ≡ l.initial.reader.failures)

abbrev pub decreases-loop-piece : goal.decreases-loop-piece
decreases-loop-piece g l = most_read - length l.text.items
