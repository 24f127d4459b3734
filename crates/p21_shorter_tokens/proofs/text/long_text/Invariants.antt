use Rattle.std.proofs.Common.{◌-◌, length}
use Rattle.p21_shorter_tokens.specs.Characters.{AreCharacters}
use Rattle.p21_shorter_tokens.proofs.text.long_text.Given as goal

-- what was passed are so many characters
abbrev pub invariant-loop-count : goal.invariant-loop-count
invariant-loop-count l = AreCharacters l.inside l.count l.characters

abbrev pub decreases-loop-count : goal.decreases-loop-count
decreases-loop-count l = length l.inside - l.count
