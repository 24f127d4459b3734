use Rattle.std.proofs.Common.{◌≡◌, ◌-◌, ◌≤◌, map, take, length}
use Rattle.p21_spec_schema.specs.Express.{upper}
use Rattle.p21_express_syntax.proofs.names.word_of.Given as goal

-- the bytes so far, in upper case
abbrev pub invariant-loop-count : goal.invariant-loop-count
invariant-loop-count l = (take l.count l.place ≡ map upper (take l.count l.name)) × (l.count ≤ length l.name) × (length l.place ≡ 24)

abbrev pub decreases-loop-count : goal.decreases-loop-count
decreases-loop-count l = length l.name - l.count
