use Rattle.std.proofs.Common.{refl, arith, subst, sym}
use Rattle.std.proofs.lemmas.Bool.Decides.{nat_tests}
use Rattle.p21_spec_exchange.specs.Token as meaning
use Rattle.p21_scan.proofs.Words.{token-all}
use Rattle.p21_tokens.proofs.WholeWords.{no-item, item-left}
use Rattle.p21_tokens.proofs.read_token.read_item.Goals as goal

pub returns-in_default : goal.returns-in_default
returns-in_default c = (no-item c.args.pending_bytes.now c.in_default.ensures.none, λ _. refl)

pub returns-then-not-is_empty : goal.returns-then-not-is_empty
returns-then-not-is_empty c = (item-left c.args.pending_bytes.now _ _ c.in-Some.ensures.some (λ none. grind (arith, nat_tests)), λ _. refl)

pub returns-in-Ok : goal.returns-in-Ok
returns-in-Ok c =
    (tt, subst (λ word. meaning.Spells (meaning.item word) c.args.pending_bytes.now) (sym c.in-Ok.ensures) (token-all c.args.pending_bytes.now _ _ c.in-Some.ensures.some (grind (arith, nat_tests))))
