use Rattle.std.proofs.Common.{◌-◌, length}
use Rattle.p21_spec_exchange.specs.Text.{Encodes}
use Rattle.p21_shorter_tokens.specs.Respelling.{Respells}
use Rattle.p21_shorter_tokens.proofs.respelled_text.append_inside.Given as goal

-- what was passed is respelled
abbrev pub invariant-loop-count : goal.invariant-loop-count
invariant-loop-count l = Respells Encodes l.inside l.count l.characters l.fn.draft l.draft

abbrev pub decreases-loop-count : goal.decreases-loop-count
decreases-loop-count l = length l.inside - l.count
