use Rattle.std.proofs.Common.{refl}
use Rattle.p21_tokens.specs.Prefix.{single}
use Rattle.p21_tokens.proofs.prefix.leading_token.Goals as goal

pub returns-in-Some : goal.returns-in-Some
returns-in-Some c = single c.in_ok-first.first.now c.in_ok-first._rest.now c.in-Some.single c.in_ok-first.ensures.cases.0 refl (c.in-Some.ensures {u = tt}) c.single_token.ensures
