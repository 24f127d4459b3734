use Rattle.std.proofs.Common.{arith}
use Rattle.p21_shorter_tokens.proofs.ExponentSpellings.{lowered}
use Rattle.p21_shorter_tokens.proofs.exponent.write_lowered.Goals as goal

pub returns-clause-text : goal.returns-clause-text
returns-clause-text c =
    lowered c.args.room.now c.write_digits.new.room c.args.at c.args.value c.write_digits.result (omega (arith, c.requires.room))
    c.requires.some c.requires.small c.write_digits.ensures.text
