use Rattle.p21_shorter_tokens.proofs.exponent.append_exponent.Goals as goal
use Rattle.p21_values.proofs.Continuing.{continues-same}
use Rattle.std.proofs.Common.{refl}

pub returns-then-len-used-lt-LONGEST : goal.returns-then-len-used-lt-LONGEST
returns-then-len-used-lt-LONGEST c = continues-same _ _ refl
