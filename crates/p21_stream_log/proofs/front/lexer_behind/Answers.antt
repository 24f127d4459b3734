use Rattle.std.proofs.Common.{ℕ, List, Ok, Option, refl, subst, sym}
use Rattle.std.proofs.lemmas.List.{take_rest}
use Rattle.p21_stream_statements.proofs.OpenBytes.{Along, along-on}
use Rattle.p21_stream_log.proofs.Fronts.{along-taken}
use Rattle.p21_tokens.specs.Histories.{NextGives}
use Rattle.p21_tokens.specs.declared.token.Token.{Token}
use Rattle.p21_stream_log.proofs.front.lexer_behind.Goals as goal

pub returns-in_default : goal.returns-in_default
returns-in_default c =
    along-taken c.args.statement.now c.loop.rest.now c.loop.lexer c.next.new.self c.in-Ok.answer.0
    (subst (λ (t : Option Token). NextGives c.loop.lexer c.loop.rest.now (Ok (c.in-Ok.answer.0, t)) c.next.new.self) c.in_default.is
    c.in-Ok.ensures.history)
    (c.in-Ok.ensures.whole.1 c.in_default.is) c.loop.invariant

pub loop-preserved : goal.loop-preserved
loop-preserved c =
    subst (λ (l : List ℕ). Along c.args.statement.now l c.next.new.self) (sym (take_rest c.loop.rest.now c.in-Ok.answer.0))
    (along-on c.args.statement.now c.loop.rest.now c.loop.lexer c.next.new.self c.in-Ok.answer.0 c.in-Some.token
    (subst (λ (t : Option Token). NextGives c.loop.lexer c.loop.rest.now (Ok (c.in-Ok.answer.0, t)) c.next.new.self) c.in-Some.is
    c.in-Ok.ensures.history)
    (c.if-ends_statement.ensures refl) c.loop.invariant)
