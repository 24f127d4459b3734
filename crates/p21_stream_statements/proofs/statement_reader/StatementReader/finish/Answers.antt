use Rattle.std.proofs.Common.{sym, subst, Ok}
use Rattle.p21_stream_statements.proofs.Sources.{grammar-of_bytes, token-of_bytes}
use Rattle.p21_stream_statements.specs.Source.{IsOfBytes}
use Rattle.p21_stream_statements.proofs.Finishing.{OwesEnd, last-refused, lexer-refused, parser-refused}
use Rattle.p21_stream_statements.specs.StatementReader.{Held}
use Rattle.p21_tokens.specs.Histories as tokens
use Rattle.p21_stream_statements.proofs.statement_reader.StatementReader.finish.Goals as goal

pub returns-in-Err-clause-gives : goal.returns-in-Err-clause-gives
returns-in-Err-clause-gives c =
    let held : Held = record { lexer = c.self.inside.lexer; parser = c.self.inside.parser } in
    subst (λ (h : Held). OwesEnd h c.from.result) c.self.view_is
    (subst (λ f. OwesEnd held f) (sym c.from.ensures) (lexer-refused held c.in-Err.fault c.in-Err.ensures.history))

pub returns-in-Err-clause-kind : goal.returns-in-Err-clause-kind
returns-in-Err-clause-kind c = subst IsOfBytes (sym c.from.ensures) (token-of_bytes c.in-Err.fault c.in-Err.ensures.kind)

pub returns-in-Err-finish-clause-gives : goal.returns-in-Err-finish-clause-gives
returns-in-Err-finish-clause-gives c =
    let held : Held = record { lexer = c.self.inside.lexer; parser = c.self.inside.parser } in
    subst (λ (h : Held). OwesEnd h c.from-in-Err-finish.result) c.self.view_is
    (subst (λ f. OwesEnd held f) (sym c.from-in-Err-finish.ensures)
    (parser-refused held c.in-Err-finish.fault (subst (λ t. tokens.FinishGives c.self.inside.lexer (Ok t)) c.in_default.is
    c.in-Ok.ensures.history) c.in-Err-finish.ensures.gives))

pub returns-in-Err-finish-clause-kind : goal.returns-in-Err-finish-clause-kind
returns-in-Err-finish-clause-kind c = subst IsOfBytes (sym c.from-in-Err-finish.ensures) (grammar-of_bytes c.in-Err-finish.fault)

pub returns-clause-gives : goal.returns-clause-gives
returns-clause-gives c =
    let held : Held = record { lexer = c.self.inside.lexer; parser = c.self.inside.parser } in
    subst (λ (h : Held). OwesEnd h c.last_fault.result) c.self.view_is
    (last-refused held c.in-Some.token c.last_fault.result
    (subst (λ t. tokens.FinishGives c.self.inside.lexer (Ok t)) c.in-Some.is c.in-Ok.ensures.history))
