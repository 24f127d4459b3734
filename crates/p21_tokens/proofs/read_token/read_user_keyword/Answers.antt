use Rattle.std.proofs.Common.{arith, subst, sym}
use Rattle.std.proofs.lemmas.Bool.Decides.{nat_tests}
use Rattle.p21_spec_exchange.specs.Token as meaning
use Rattle.p21_scan.proofs.Words.{token-all}
use Rattle.p21_tokens.proofs.WholeWords.{no-own_keyword, own_keyword-left}
use Rattle.p21_tokens.proofs.read_token.read_user_keyword.Goals as goal

pub returns-in_default : goal.returns-in_default
returns-in_default c = (no-own_keyword c.args.pending_bytes.now c.in_default.ensures.none, λ _. tt)

pub returns-then-not-is_empty : goal.returns-then-not-is_empty
returns-then-not-is_empty c = (own_keyword-left c.args.pending_bytes.now _ _ c.in-Some.ensures.some (λ none. grind (arith, nat_tests)), λ _. tt)

pub returns-in-Ok : goal.returns-in-Ok
returns-in-Ok c =
    (tt, subst (λ word. meaning.Spells (meaning.user_keyword word) c.args.pending_bytes.now) (sym c.in-Ok.ensures) (token-all c.args.pending_bytes.now _ _ c.in-Some.ensures.some (grind (arith, nat_tests))))
