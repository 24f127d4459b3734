use Rattle.std.specs.Prelude.{flat_map}
use Rattle.std.proofs.Common.{◌≡◌, take, string_bytes}
use Rattle.p21_commands.specs.CheckAll.{listed_line}
use Rattle.p21_commands.proofs.check_all.refusal_lines.Given as goal

-- the lines of the refusals so far
abbrev pub invariant-loop-refusal : goal.invariant-loop-refusal
invariant-loop-refusal l = string_bytes l.lines ≡ flat_map listed_line (take l.refusal-index l.list)
