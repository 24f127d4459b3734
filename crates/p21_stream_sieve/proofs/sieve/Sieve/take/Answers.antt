use Rattle.p21_grammar.specs.Statements.{statement_of}
use Rattle.p21_grammar.specs.declared.event.Event.{Event}
use Rattle.p21_grammar.specs.declared.event.Event.TheVariants.{Header, Named, Section}
use Rattle.p21_stream_sieve.proofs.SieveTaking.{lists-none, taken-gives}
use Rattle.p21_stream_sieve.specs.SieveSteps.{StepGives}
use Rattle.p21_stream_sieve.proofs.sieve.Sieve.take.Goals as goal
use Rattle.std.proofs.Common.{subst, sym}

pub returns-in-Section-clause-gives : goal.returns-in-Section-clause-gives
returns-in-Section-clause-gives c =
    subst (λ (e : Event). StepGives c.args.schema.now c.args.limits c.args.self.now (statement_of e) c.take_line.result
    (record c.args.self.now { kept = c.take_line.new.self })) (sym c.in-Section.is)
    (taken-gives c.args.schema.now c.args.limits c.args.self.now c.take_line.new.self (statement_of (Section c.in-Section.line))
    c.take_line.result (c.take_line.ensures.gives c.args.schema.now) c.take_line.ensures.lines)

pub returns-in-Named-clause-gives : goal.returns-in-Named-clause-gives
returns-in-Named-clause-gives c =
    subst (λ (e : Event). StepGives c.args.schema.now c.args.limits c.args.self.now (statement_of e) c.take_heading.result
    (record c.args.self.now { kept = c.take_heading.new.self })) (sym c.in-Named.is)
    (taken-gives c.args.schema.now c.args.limits c.args.self.now c.take_heading.new.self (statement_of (Named c.in-Named.part))
    c.take_heading.result c.take_heading.ensures.gives c.take_heading.ensures.lines)

pub returns-in-Header-clause-gives : goal.returns-in-Header-clause-gives
returns-in-Header-clause-gives c =
    subst (λ (e : Event). StepGives c.args.schema.now c.args.limits c.args.self.now (statement_of e) c.take_header.result
    (record c.args.self.now { kept = c.take_header.new.self })) (sym c.in-Header.is)
    (taken-gives c.args.schema.now c.args.limits c.args.self.now c.take_header.new.self (statement_of (Header c.in-Header.part))
    c.take_header.result c.take_header.ensures.gives c.take_header.ensures.lines)

pub returns-in-Section-clause-listed : goal.returns-in-Section-clause-listed
returns-in-Section-clause-listed c = lists-none c.args.self.now.refusals.items c.take_line.result

pub returns-in-Named-clause-listed : goal.returns-in-Named-clause-listed
returns-in-Named-clause-listed c = lists-none c.args.self.now.refusals.items c.take_heading.result

pub returns-in-Header-clause-listed : goal.returns-in-Header-clause-listed
returns-in-Header-clause-listed c = lists-none c.args.self.now.refusals.items c.take_header.result
