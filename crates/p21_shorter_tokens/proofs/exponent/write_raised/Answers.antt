use Rattle.std.proofs.Common.{arith}
use Rattle.p21_shorter_tokens.proofs.ExponentSpellings.{raised}
use Rattle.p21_shorter_tokens.proofs.exponent.write_raised.Goals as goal

pub returns-clause-text : goal.returns-clause-text
returns-clause-text c =
    raised c.args.room.now c.write_digits.new.room c.args.at c.args.value c.write_digits.result (omega (arith, c.requires.room)) (omega
    (arith, c.if-value-eq0.false)) c.requires.small c.write_digits.ensures.text
