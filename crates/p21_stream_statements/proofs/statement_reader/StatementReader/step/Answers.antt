use Rattle.std.proofs.Common.{refl, sym, subst, Ok, Err, Some}
use Rattle.p21_stream_statements.proofs.Sources.{grammar-of_bytes, token-of_bytes}
use Rattle.p21_stream_statements.specs.Source.{IsOfBytes}
use Rattle.p21_stream_statements.proofs.Stepping.{Owes, parse-refused, token-refused, went-on}
use Rattle.p21_stream_statements.proofs.Placing.{grammar-placed, token-placed}
use Rattle.p21_stream_statements.proofs.Reopening.{stays, step-begins}
use Rattle.p21_stream_statements.proofs.Quiet.{quiet-refused, quiet-token}
use Rattle.p21_stream_statements.specs.Place.{HasPlace}
use Rattle.p21_stream_statements.specs.StatementReader.{Held, IsLive, IsSeenAt, NeedsNoMemory, StatementHistory, StepGives, limits_of}
use Rattle.p21_stream_statements.specs.Reopening.{StaysInStatement, StepBegins}
use Rattle.p21_tokens.specs.Histories.{NextGives}
use Rattle.p21_tokens.specs.Reopening.{RestsBehindSemicolon}
use Rattle.p21_stream_statements.proofs.statement_reader.StatementReader.step.Goals as goal

pub returns-in-Err-clause-gives : goal.returns-in-Err-clause-gives
returns-in-Err-clause-gives c =
    subst (λ (h : Held). Owes h c.args.piece.now c.from.result) c.self.view_is
    (subst (λ f. Owes (record { lexer = c.self.inside.lexer; parser = c.self.inside.parser }) c.args.piece.now f) (sym c.from.ensures)
    (token-refused (record { lexer = c.self.inside.lexer; parser = c.self.inside.parser }) c.args.piece.now c.in-Err.fault c.next.new.self
    c.in-Err.ensures.history))

pub returns-in-Ok-take-clause-gives : goal.returns-in-Ok-take-clause-gives
returns-in-Ok-take-clause-gives c =
    let held : Held = record { lexer = c.self.inside.lexer; parser = c.self.inside.parser } in
    subst (λ (h : Held). StepGives h c.args.piece.now (Ok (Some (c.in-Ok.answer.0, c.in-Ok-take.event)))
    (record { lexer = c.next.new.self; parser = c.take.new.self })) c.self.view_is
    (went-on held c.args.piece.now c.in-Ok.answer.0 c.in-Some.token c.next.new.self c.in-Ok-take.event c.take.new.self
    (subst (λ t. NextGives c.self.inside.lexer c.args.piece.now (Ok (c.in-Ok.answer.0, t)) c.next.new.self) c.in-Some.is
    c.in-Ok.ensures.history)
    c.in-Ok-take.ensures.gives)

pub returns-in-Err-take-clause-gives : goal.returns-in-Err-take-clause-gives
returns-in-Err-take-clause-gives c =
    let held : Held = record { lexer = c.self.inside.lexer; parser = c.self.inside.parser } in
    subst (λ (h : Held). Owes h c.args.piece.now c.from-in-Err-take.result) c.self.view_is
    (subst (λ f. Owes held c.args.piece.now f) (sym c.from-in-Err-take.ensures)
    (parse-refused held c.args.piece.now c.in-Ok.answer.0 c.in-Some.token c.next.new.self c.in-Err-take.fault c.take.new.self
    (subst (λ t. NextGives c.self.inside.lexer c.args.piece.now (Ok (c.in-Ok.answer.0, t)) c.next.new.self) c.in-Some.is
    c.in-Ok.ensures.history)
    c.in-Ok.ensures.whole.0
    c.in-Err-take.ensures.gives))

pub returns-in-Err-clause-no_memory : goal.returns-in-Err-clause-no_memory
returns-in-Err-clause-no_memory c =
    subst (λ (h : Held). NeedsNoMemory h c.args.piece.now (Err c.from.result)) c.self.view_is
    (quiet-refused (record { lexer = c.self.inside.lexer; parser = c.self.inside.parser }) c.args.piece.now c.in-Err.fault c.from.result
    c.from.ensures c.in-Err.ensures.no_memory)

pub returns-in-Ok-take-clause-no_memory : goal.returns-in-Ok-take-clause-no_memory
returns-in-Ok-take-clause-no_memory c =
    let held : Held = record { lexer = c.self.inside.lexer; parser = c.self.inside.parser } in
    subst (λ (h : Held). NeedsNoMemory h c.args.piece.now (Ok (Some (c.in-Ok.answer.0, c.in-Ok-take.event)))) c.self.view_is
    (quiet-token held c.args.piece.now c.in-Ok.answer.0 c.in-Some.token c.next.new.self
    (subst (λ t. NextGives c.self.inside.lexer c.args.piece.now (Ok (c.in-Ok.answer.0, t)) c.next.new.self) c.in-Some.is
    c.in-Ok.ensures.history)
    (Ok (Some (c.in-Ok.answer.0, c.in-Ok-take.event))))

pub returns-in-Err-take-clause-no_memory : goal.returns-in-Err-take-clause-no_memory
returns-in-Err-take-clause-no_memory c =
    let held : Held = record { lexer = c.self.inside.lexer; parser = c.self.inside.parser } in
    subst (λ (h : Held). NeedsNoMemory h c.args.piece.now (Err c.from-in-Err-take.result)) c.self.view_is
    (quiet-token held c.args.piece.now c.in-Ok.answer.0 c.in-Some.token c.next.new.self
    (subst (λ t. NextGives c.self.inside.lexer c.args.piece.now (Ok (c.in-Ok.answer.0, t)) c.next.new.self) c.in-Some.is
    c.in-Ok.ensures.history)
    (Err c.from-in-Err-take.result))

pub returns-in-Err-clause-kind : goal.returns-in-Err-clause-kind
returns-in-Err-clause-kind c = subst IsOfBytes (sym c.from.ensures) (token-of_bytes c.in-Err.fault c.in-Err.ensures.kind)

pub returns-in-Err-take-clause-kind : goal.returns-in-Err-take-clause-kind
returns-in-Err-take-clause-kind c = subst IsOfBytes (sym c.from-in-Err-take.ensures) (grammar-of_bytes c.in-Err-take.fault)

pub returns-in-Err-clause-place : goal.returns-in-Err-clause-place
returns-in-Err-clause-place c =
    let held : Held = record { lexer = c.self.inside.lexer; parser = c.self.inside.parser } in
    subst (λ (h : Held). (reading : StatementHistory) → IsLive h reading → IsSeenAt reading.seen c.args.piece.now 0
    → HasPlace (limits_of h) reading.taken c.args.piece.now c.from.result c.next.new.self.file) c.self.view_is (λ reading live at.
    subst (λ f. HasPlace (limits_of held) reading.taken c.args.piece.now f c.next.new.self.file) (sym c.from.ensures)
    (token-placed held c.args.piece.now c.next.new.self c.in-Err.fault c.in-Err.ensures.history reading live at))

pub returns-in-Err-take-clause-place : goal.returns-in-Err-take-clause-place
returns-in-Err-take-clause-place c reading live at =
    subst (λ f. HasPlace (limits_of c.args.self.now) reading.taken c.args.piece.now f c.next.new.self.file) (sym c.from-in-Err-take.ensures)
    (grammar-placed (limits_of c.args.self.now) reading.taken c.args.piece.now c.in-Err-take.fault c.next.new.self.file)

pub returns-in-Err-clause-begins : goal.returns-in-Err-clause-begins
returns-in-Err-clause-begins c =
    let held : Held = record { lexer = c.self.inside.lexer; parser = c.self.inside.parser } in
    let new : Held = record { lexer = c.next.new.self; parser = c.self.inside.parser } in
    subst (λ (h : Held). StaysInStatement h new) c.self.view_is (stays held new c.in-Err.ensures.limits refl)

pub returns-in_default-clause-begins : goal.returns-in_default-clause-begins
returns-in_default-clause-begins c =
    let held : Held = record { lexer = c.self.inside.lexer; parser = c.self.inside.parser } in
    let new : Held = record { lexer = c.next.new.self; parser = c.self.inside.parser } in
    subst (λ (h : Held). StaysInStatement h new) c.self.view_is (stays held new c.in-Ok.ensures.limits refl)

pub returns-in-Ok-take-clause-begins : goal.returns-in-Ok-take-clause-begins
returns-in-Ok-take-clause-begins c =
    let held : Held = record { lexer = c.self.inside.lexer; parser = c.self.inside.parser } in
    let new : Held = record { lexer = c.next.new.self; parser = c.take.new.self } in
    subst (λ (h : Held). StepBegins h (Ok (Some (c.in-Ok.answer.0, c.in-Ok-take.event))) new) c.self.view_is
    (step-begins held c.in-Ok.answer.0 c.in-Some.token c.in-Ok-take.event new c.in-Ok.ensures.limits
    (subst (λ t. RestsBehindSemicolon (Ok (c.in-Ok.answer.0, t)) c.next.new.self) c.in-Some.is c.in-Ok.ensures.rests)
    c.in-Ok-take.ensures.stage)

pub returns-in-Err-take-clause-begins : goal.returns-in-Err-take-clause-begins
returns-in-Err-take-clause-begins c =
    let held : Held = record { lexer = c.self.inside.lexer; parser = c.self.inside.parser } in
    let new : Held = record { lexer = c.next.new.self; parser = c.take.new.self } in
    subst (λ (h : Held). StaysInStatement h new) c.self.view_is (stays held new c.in-Ok.ensures.limits c.in-Err-take.ensures.stage)
