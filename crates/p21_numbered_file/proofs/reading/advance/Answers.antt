use Rattle.std.proofs.Common.{◌-◌, ℕ, List, Ok, Option, None, Some, drop, length, take, subst}
use Rattle.p21_spec_basics.proofs.Members.{rest_is}
use Rattle.p21_grammar.specs.declared.event.Event.{Event}
use Rattle.p21_stream_statements.specs.StatementReader.{StepGives}
use Rattle.p21_numbered_file.proofs.SecondReading.{none-left, stands-next, statement-more, token-more}
use Rattle.p21_numbered_file.proofs.reading.advance.Goals as goal

pub returns-in_default-answer-clause-gives : goal.returns-in_default-answer-clause-gives
returns-in_default-answer-clause-gives c =
    let text = c.args.text.now in
    let held = c.args.reader.now in
    let next = c.step.new.self in
    let A : Option (ℕ × Option Event) → Type 0 = λ a. StepGives held (take (length text - c.args.from) (drop c.args.from text)) (Ok a)
    next in
    let L : List ℕ → Type 0 = λ l. StepGives held l (Ok None) next in
    none-left c.args.schema.now text held next c.args.from c.args.read.now
    (subst L (rest_is text c.args.from) (subst A c.in_default-answer.is c.in-Ok.ensures.gives))

pub returns-in_default-event-clause-gives : goal.returns-in_default-event-clause-gives
returns-in_default-event-clause-gives c =
    let text = c.args.text.now in
    let held = c.args.reader.now in
    let next = c.step.new.self in
    let A : Option (ℕ × Option Event) → Type 0 = λ a. StepGives held (take (length text - c.args.from) (drop c.args.from text)) (Ok a)
    next in
    let E : Option Event → Type 0 = λ e. StepGives held (take (length text - c.args.from) (drop c.args.from text))
    (Ok (Some (c.in-Some.count, e))) next in
    let L : List ℕ → Type 0 = λ l. StepGives held l (Ok (Some (c.in-Some.count, None))) next in
    token-more c.args.schema.now text c.type_inv.text held next c.args.from c.in-Some.count c.args.read.now
    (subst L (rest_is text c.args.from) (subst E c.in_default-event.is (subst A c.in-Some.is c.in-Ok.ensures.gives)))

pub take-requires : goal.take-requires
take-requires c =
    let text = c.args.text.now in
    let held = c.args.reader.now in
    let next = c.step.new.self in
    let A : Option (ℕ × Option Event) → Type 0 = λ a. StepGives held (take (length text - c.args.from) (drop c.args.from text)) (Ok a)
    next in
    let E : Option Event → Type 0 = λ e. StepGives held (take (length text - c.args.from) (drop c.args.from text))
    (Ok (Some (c.in-Some.count, e))) next in
    let L : List ℕ → Type 0 = λ l. StepGives held l (Ok (Some (c.in-Some.count, Some c.in-Some-event.event))) next in
    stands-next c.args.schema.now text c.type_inv.text held next c.args.from c.in-Some.count c.args.read.now c.in-Some-event.event
    (subst L (rest_is text c.args.from) (subst E c.in-Some-event.is (subst A c.in-Some.is c.in-Ok.ensures.gives))) c.requires.way.0
    c.requires.way.1

pub returns-clause-gives : goal.returns-clause-gives
returns-clause-gives c =
    let text = c.args.text.now in
    let held = c.args.reader.now in
    let next = c.step.new.self in
    let A : Option (ℕ × Option Event) → Type 0 = λ a. StepGives held (take (length text - c.args.from) (drop c.args.from text)) (Ok a)
    next in
    let E : Option Event → Type 0 = λ e. StepGives held (take (length text - c.args.from) (drop c.args.from text))
    (Ok (Some (c.in-Some.count, e))) next in
    let L : List ℕ → Type 0 = λ l. StepGives held l (Ok (Some (c.in-Some.count, Some c.in-Some-event.event))) next in
    statement-more c.args.schema.now text c.type_inv.text held next c.args.from c.in-Some.count c.args.read.now c.take.new.self
    c.in-Some-event.event (subst L (rest_is text c.args.from) (subst E c.in-Some-event.is (subst A c.in-Some.is c.in-Ok.ensures.gives)))
    c.in_ok-take.ensures
