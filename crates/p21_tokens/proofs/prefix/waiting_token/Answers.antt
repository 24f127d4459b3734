use Rattle.std.proofs.Common.{◌≡◌, false, IfSome, OnErr, subst}
use Rattle.p21_scan.specs.Bytes.{is_blank}
use Rattle.p21_tokens.proofs.prefix.waiting_token.Goals as goal

pub returns-in_default-clause-no_memory : goal.returns-in_default-clause-no_memory
returns-in_default-clause-no_memory c = subst (λ b. IfSome c.leading_keyword.result (λ front. OnErr front (is_blank b ≡ false))) c.requires c.leading_keyword.ensures.no_memory
