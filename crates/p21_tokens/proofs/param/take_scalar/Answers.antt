use Rattle.std.proofs.Common.{◌≡◌, ℕ, IsTrue, true, false, List, refl, Option, Some, None, Ok, Err, subst}
use Rattle.std.specs.Option.{is_some}
use Rattle.p21_spec_exchange.specs.Token.{IsScalarToken}
use Rattle.p21_tokens.proofs.OneScalar.{pending_bytes-none, pending_bytes-some, second-token, no-scalar, finds-refused}
use Rattle.p21_tokens.specs.Finding.{FindsScalar}
use Rattle.p21_tokens.specs.declared.fault.TokenFault.TheVariants.{NotOneParameter}
use Rattle.p21_tokens.specs.Histories.{NextGives}
use Rattle.p21_tokens.specs.Token.{meant}
use Rattle.p21_tokens.specs.declared.token.Token.{Token as TokenRead}
use Rattle.p21_tokens.proofs.param.take_scalar.Goals as goal

no : IsTrue false → ⊥
no test = absurd cc

none-is : {found : Option TokenRead} → found ≡ None → true ≡ is_some found → ⊥
none-is e test = cc

not-found : (found : Option TokenRead) → false ≡ is_some found → found ≡ None
not-found None test = refl
not-found (Some token) test = cc

pub returns-in-Err-clause-pending : goal.returns-in-Err-clause-pending
returns-in-Err-clause-pending c bytes pending = finds-refused c.args.lexer.now c.next.new.self bytes c.args.rest.now c.args.found.now c.in-Err.fault pending (c.in-Err.ensures {u = tt}).history

pub returns-in-Ok-default-None-clause-pending : goal.returns-in-Ok-default-None-clause-pending
returns-in-Ok-default-None-clause-pending c bytes pending =
    pending_bytes-none c.args.lexer.now c.next.new.self bytes c.args.rest.now c.args.found.now c.in-Ok-default-None.taken pending c.requires (subst (λ (o : Option TokenRead). NextGives c.args.lexer.now c.args.rest.now (Ok (c.in-Ok-default-None.taken, o)) c.next.new.self) c.in-Ok-default-None.field-0-1-is (c.in-Ok-default-None.ensures {u = tt}).history) c.next.ensures.limits.0 c.next.ensures.limits.1

pub returns-then-is_some-clause-pending : goal.returns-then-is_some-clause-pending
returns-then-is_some-clause-pending c bytes pending = at c.args.found.now refl
  where
    at : (found : Option TokenRead) → c.args.found.now ≡ found → FindsScalar bytes (Err NotOneParameter)
    at None e = absurd (none-is e c.if-is_some.ensures)
    at (Some before) e = second-token c.args.lexer.now c.next.new.self bytes c.args.rest.now c.args.found.now c.in-Ok-default-Some.taken c.in-Ok-default-Some.token pending c.requires (subst (λ (o : Option TokenRead). NextGives c.args.lexer.now c.args.rest.now (Ok (c.in-Ok-default-Some.taken, o)) c.next.new.self) c.in-Ok-default-Some.field-0-1-is (c.in-Ok-default-Some.ensures {u = tt}).history) before e

pub returns-then-not-is_scalar-clause-pending : goal.returns-then-not-is_scalar-clause-pending
returns-then-not-is_scalar-clause-pending c bytes pending =
    no-scalar c.args.lexer.now c.next.new.self bytes c.args.rest.now c.args.found.now c.in-Ok-default-Some.taken c.in-Ok-default-Some.token pending c.requires (subst (λ (o : Option TokenRead). NextGives c.args.lexer.now c.args.rest.now (Ok (c.in-Ok-default-Some.taken, o)) c.next.new.self) c.in-Ok-default-Some.field-0-1-is (c.in-Ok-default-Some.ensures {u = tt}).history) (not-found c.args.found.now c.if-is_some.ensures) (λ (yes : IsScalarToken (meant c.in-Ok-default-Some.token)). no (c.if-not-is_scalar.ensures.1 yes))

pub returns-else-not-is_scalar-clause-pending : goal.returns-else-not-is_scalar-clause-pending
returns-else-not-is_scalar-clause-pending c bytes pending =
    pending_bytes-some c.args.lexer.now c.next.new.self bytes c.args.rest.now c.args.found.now c.in-Ok-default-Some.taken c.in-Ok-default-Some.token pending c.requires (subst (λ (o : Option TokenRead). NextGives c.args.lexer.now c.args.rest.now (Ok (c.in-Ok-default-Some.taken, o)) c.next.new.self) c.in-Ok-default-Some.field-0-1-is (c.in-Ok-default-Some.ensures {u = tt}).history) (not-found c.args.found.now c.if-is_some.ensures) (c.if-not-is_scalar.ensures.0 refl) c.next.ensures.limits.0 c.next.ensures.limits.1
