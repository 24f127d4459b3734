use Rattle.std.proofs.Common.{inl, refl}
use Rattle.p21_commands.proofs.located.own_line.Goals as goal

pub returns-in-Ok : goal.returns-in-Ok
returns-in-Ok c = inl (c.push_line.new.lines, refl)
