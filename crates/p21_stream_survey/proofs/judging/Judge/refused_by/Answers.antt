use Rattle.std.proofs.Common.{subst, sym, ◌∙◌}
use Rattle.p21_grammar.specs.Statements.{statement_of}
use Rattle.p21_grammar.specs.declared.event.Event.{Event}
use Rattle.p21_grammar_tree.specs.View.{record_view}
use Rattle.p21_stream_sieve.proofs.RefusedAlone.{refused-alone}
use Rattle.p21_stream_sieve.specs.SieveSteps.{IsRefusedAlone}
use Rattle.p21_stream_survey.proofs.judging.Judge.refused_by.Goals as goal

pub returns-clause-refuses : goal.returns-clause-refuses
returns-clause-refuses c =
    subst (λ (e : Event). IsRefusedAlone c.args.self.now.known c.args.self.now.sieve (statement_of e) c.in-Instance.name c.from.result)
    (sym c.in-Instance.is)
    (refused-alone c.args.self.now.known c.args.self.now.sieve c.in-Instance.name (record_view c.in-Instance.record) c.in_ok-fault.fault
    c.from.result c.from.ensures c.in_ok-fault.ensures.refuses
    (λ come. cc (sym c.if-has_name.false ∙ c.has_name.ensures.1 come)))
