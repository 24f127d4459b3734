use Rattle.std.proofs.Common.{Result, subst, sym, ℕ, ◌∙◌}
use Rattle.p21_grammar_tree.specs.View.{record_view}
use Rattle.p21_spec_exchange.specs.Statement.{instance}
use Rattle.p21_stream_sieve.specs.Sifting.{HasName}
use Rattle.p21_stream_statements.specs.declared.fault.Fault.{Fault}
use Rattle.p21_stream_survey.proofs.Judged.{again-judges, follows-taken, refused-judges, taken-judges}
use Rattle.p21_stream_survey.specs.Judging.{JudgesSieved}
use Rattle.p21_stream_survey.specs.declared.judging.Judgement.{Judgement}
use Rattle.p21_stream_survey.proofs.judging.Judge.judge_instance.Goals as goal

pub returns-then-contains-clause-gives : goal.returns-then-contains-clause-gives
returns-then-contains-clause-gives c =
    again-judges c.args.schema.now c.args.limits c.args.self.now.sieve c.args.name (record_view c.args.of)
    (subst (HasName c.args.self.now.sieve.names) c.name.view_is (sym c.contains.ensures ∙ c.if-contains.true))

pub take_instance-kept-requires : goal.take_instance-kept-requires
take_instance-kept-requires c = follows-taken c.args.schema.now c.args.limits c.args.self.now.sieve
    (instance c.args.name (record_view c.args.of)) c.requires.follows

pub returns-in-Ok-clause-gives : goal.returns-in-Ok-clause-gives
returns-in-Ok-clause-gives c =
    taken-judges c.args.schema.now c.args.limits c.args.self.now.sieve c.take_instance-kept.new.self c.args.name (record_view c.args.of)
    c.in-Ok.ensures.gives c.in-Ok.ensures.lines
    (subst (λ (n : ℕ). ¬ HasName c.args.self.now.sieve.names n) c.name.view_is
    (λ has. cc (sym (sym c.contains.ensures ∙ c.if-contains.false) ∙ has)))

pub returns-in-Err-clause-gives : goal.returns-in-Err-clause-gives
returns-in-Err-clause-gives c =
    subst (λ (said : Result Judgement Fault). JudgesSieved c.args.schema.now c.args.limits c.args.self.now.sieve
    (instance c.args.name (record_view c.args.of)) said (record c.args.self.now.sieve { kept = c.take_instance-kept.new.self }))
    (sym c.wrong_or_end.ensures)
    (refused-judges c.args.schema.now c.well_formed-2.ensures c.args.limits c.args.self.now.sieve c.take_instance-kept.new.self c.args.name
    (record_view c.args.of) c.in-Err.fault c.in-Err.ensures.kind c.in-Err.ensures.unchanged
    (λ other given taken sifts. c.in-Err.ensures.gives other taken sifts.keeps))
