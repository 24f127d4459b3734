use Rattle.std.proofs.Common.{ℕ, ◌++◌, Option, None, Some, Ok, Err, length, take, refl, sym, subst}
use Rattle.p21_grammar.specs.declared.event.Event.{Event}
use Rattle.p21_stream_log.proofs.Stepping.{step-bytes, step-refused, step-token}
use Rattle.p21_stream_log.specs.Log.{Held, StepGives}
use Rattle.p21_stream_statements.specs.Reopening.{StepBegins}
use Rattle.p21_stream_statements.specs.StatementReader as statements
use Rattle.p21_stream_log.proofs.log.Log.step.Goals as goal

pub returns-in-Err-clause-gives : goal.returns-in-Err-clause-gives
returns-in-Err-clause-gives c =
    let old : Held = record {
      reader = c.self.inside.reader;
      start = c.self.inside.start;
      buffer = c.self.inside.buffer.items;
      opened =
          c.self.inside.opened;
    } in
    subst (λ (h : Held). StepGives h c.args.piece.now (Err c.in-Err.fault) (record old { reader = c.step.new.self })) c.self.view_is
    (step-refused old c.step.new.self c.args.piece.now c.offered-bytes.result.now c.in-Err.fault c.offered-bytes.ensures
    c.in-Err.ensures.gives c.in-Err.ensures.place c.in-Err.ensures.begins)

pub returns-in-Ok-keep-clause-gives : goal.returns-in-Ok-keep-clause-gives
returns-in-Ok-keep-clause-gives c =
    let old : Held = record {
      reader = c.self.inside.reader;
      start = c.self.inside.start;
      buffer = c.self.inside.buffer.items;
      opened =
          c.self.inside.opened;
    } in
    let bytes = c.offered-bytes.result.now in
    let gives : statements.StepGives old.reader bytes (Ok None) c.step.new.self =
    subst (λ (answer : Option (ℕ × Option Event)). statements.StepGives old.reader bytes (Ok answer) c.step.new.self) c.in_default.is
    c.in-Ok.ensures.gives in
    subst (λ (h : Held). StepGives h c.args.piece.now (Ok (length bytes, None)) c.keep.new.self) c.self.view_is
    (subst (λ (h : Held). StepGives old c.args.piece.now (Ok (length bytes, None)) h) (sym c.in-Ok-keep.ensures)
    (step-bytes old c.step.new.self c.args.piece.now bytes (old.buffer ++ bytes) c.offered-bytes.ensures gives c.in-Ok.ensures.limits refl))

pub returns-in-Ok-keep-2-clause-gives : goal.returns-in-Ok-keep-2-clause-gives
returns-in-Ok-keep-2-clause-gives c =
    let old : Held = record {
      reader = c.self.inside.reader;
      start = c.self.inside.start;
      buffer = c.self.inside.buffer.items;
      opened =
          c.self.inside.opened;
    } in
    let bytes = c.offered-bytes.result.now in
    let answer : Option (ℕ × Option Event) = Some (c.in-Some.count, c.in-Some.event) in
    let gives : statements.StepGives old.reader bytes (Ok answer) c.step.new.self =
    subst (λ (a : Option (ℕ × Option Event)). statements.StepGives old.reader bytes (Ok a) c.step.new.self) c.in-Some.is
    c.in-Ok.ensures.gives in
    let begins : StepBegins old.reader (Ok answer) c.step.new.self =
    subst (λ (a : Option (ℕ × Option Event)). StepBegins old.reader (Ok a) c.step.new.self) c.in-Some.is c.in-Ok.ensures.begins in
    let within = subst (λ (a : Option (ℕ × Option Event)). statements.TakesWithinPiece bytes (Ok a)) c.in-Some.is c.in-Ok.ensures.takes in
    subst (λ (h : Held). StepGives h c.args.piece.now (Ok (c.in-Some.count, c.in-Some.event)) c.keep-2.new.self) c.self.view_is
    (subst (λ (h : Held). StepGives old c.args.piece.now (Ok (c.in-Some.count, c.in-Some.event)) h) (sym c.in-Ok-keep-2.ensures)
    (step-token c.whole_laws.ensures.joined old c.step.new.self c.args.piece.now bytes (old.buffer ++ take c.in-Some.count bytes)
    c.in-Some.count c.in-Some.event c.offered-bytes.ensures within gives begins c.in-Ok.ensures.limits refl))
