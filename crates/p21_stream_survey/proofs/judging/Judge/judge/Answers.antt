use Rattle.std.proofs.Common.{ap, subst, sym}
use Rattle.p21_grammar.specs.Statements.{statement_of}
use Rattle.p21_grammar.specs.declared.event.Event.{Event}
use Rattle.p21_grammar.specs.declared.event.Event.TheVariants.{Header, Named, Section}
use Rattle.p21_stream_survey.proofs.Judged.{alone-said, no-header, no-section, said-judges}
use Rattle.p21_stream_survey.specs.Judging.{JudgesSieved}
use Rattle.p21_stream_survey.proofs.judging.Judge.judge.Goals as goal

pub returns-in-Some-clause-gives : goal.returns-in-Some-clause-gives
returns-in-Some-clause-gives c =
    alone-said c.args.schema.now c.well_formed-2.ensures c.args.limits c.args.self.now.sieve c.refused_by.new.self.sieve
    (statement_of c.args.event) _ _ c.args.self.now.known c.wrong_or_end.result c.requires.known c.in-Some.ensures.refuses
    c.in-Some.ensures.kind
    c.wrong_or_end.ensures (ap (λ judge. judge.sieve) c.refused_by.ensures.same)

pub returns-in-Section-clause-gives : goal.returns-in-Section-clause-gives
returns-in-Section-clause-gives c =
    subst (λ (e : Event). JudgesSieved c.args.schema.now c.args.limits c.args.self.now.sieve (statement_of e) c.right.result
    (record c.refused_by.new.self.sieve { kept = c.take_line.new.self })) (sym c.in-Section.is)
    (said-judges c.args.schema.now c.args.limits c.args.self.now.sieve c.refused_by.new.self.sieve c.take_line.new.self
    (statement_of (Section c.in-Section.line)) c.take_line.result c.right.result (ap (λ judge. judge.sieve) c.refused_by.ensures.same)
    (c.take_line.ensures.gives c.args.schema.now) c.take_line.ensures.lines (no-section _) c.right.ensures)

pub returns-in-Named-clause-gives : goal.returns-in-Named-clause-gives
returns-in-Named-clause-gives c =
    subst (λ (e : Event). JudgesSieved c.args.schema.now c.args.limits c.args.self.now.sieve (statement_of e) c.right-in-Named.result
    (record c.refused_by.new.self.sieve { kept = c.take_heading.new.self })) (sym c.in-Named.is)
    (said-judges c.args.schema.now c.args.limits c.args.self.now.sieve c.refused_by.new.self.sieve c.take_heading.new.self
    (statement_of (Named c.in-Named.part)) c.take_heading.result c.right-in-Named.result
    (ap (λ judge. judge.sieve) c.refused_by.ensures.same)
    c.take_heading.ensures.gives c.take_heading.ensures.lines (no-section _) c.right-in-Named.ensures)

pub returns-in-Header-clause-gives : goal.returns-in-Header-clause-gives
returns-in-Header-clause-gives c =
    subst (λ (e : Event). JudgesSieved c.args.schema.now c.args.limits c.args.self.now.sieve (statement_of e) c.right-in-Header.result
    (record c.refused_by.new.self.sieve { kept = c.take_header.new.self })) (sym c.in-Header.is)
    (said-judges c.args.schema.now c.args.limits c.args.self.now.sieve c.refused_by.new.self.sieve c.take_header.new.self
    (statement_of (Header c.in-Header.part)) c.take_header.result c.right-in-Header.result
    (ap (λ judge. judge.sieve) c.refused_by.ensures.same)
    c.take_header.ensures.gives c.take_header.ensures.lines (no-header _) c.right-in-Header.ensures)
