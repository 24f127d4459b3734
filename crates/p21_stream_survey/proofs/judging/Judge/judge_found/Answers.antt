use Rattle.std.proofs.Common.{Result, ap, subst, sym, ℕ, ◌∙◌}
use Rattle.p21_spec_exchange.specs.Statement.{instance}
use Rattle.p21_stream_sieve.specs.Sifting.{HasName}
use Rattle.p21_stream_statements.specs.declared.fault.Fault.{Fault}
use Rattle.p21_stream_survey.proofs.Judged.{again-judges, found-taken, refused-judges, taken-judges}
use Rattle.p21_stream_survey.specs.Judging.{JudgesSieved}
use Rattle.p21_stream_survey.specs.declared.judging.Judgement.{Judgement}
use Rattle.p21_stream_survey.proofs.judging.Judge.judge_found.Goals as goal

pub returns-then-contains-clause-gives : goal.returns-then-contains-clause-gives
returns-then-contains-clause-gives c = λ record_ found.
    again-judges c.args.schema.now c.args.limits c.args.self.now.sieve c.args.found.now.name record_
    (subst (HasName c.args.self.now.sieve.names) (ap (λ f. f.name) c.found.view_is) (sym c.contains.ensures ∙ c.if-contains.true))

pub take_found-requires : goal.take_found-requires
take_found-requires c = found-taken c.args.schema.now c.args.limits c.args.self.now.sieve c.args.found.now.name _ _
    c.args.found.now.line.now c.requires.follows

pub returns-in-Ok-clause-gives : goal.returns-in-Ok-clause-gives
returns-in-Ok-clause-gives c = λ record_ found.
    taken-judges c.args.schema.now c.args.limits c.args.self.now.sieve c.take_found.new.self c.args.found.now.name record_
    (c.in-Ok.ensures.gives record_ found) c.in-Ok.ensures.lines
    (subst (λ (n : ℕ). ¬ HasName c.args.self.now.sieve.names n) (ap (λ f. f.name) c.found.view_is)
    (λ has. cc (sym (sym c.contains.ensures ∙ c.if-contains.false) ∙ has)))

pub returns-in-Err-clause-gives : goal.returns-in-Err-clause-gives
returns-in-Err-clause-gives c = λ record_ found.
    subst (λ (said : Result Judgement Fault). JudgesSieved c.args.schema.now c.args.limits c.args.self.now.sieve
    (instance c.args.found.now.name record_) said (record c.args.self.now.sieve { kept = c.take_found.new.self }))
    (sym c.wrong_or_end.ensures)
    (refused-judges c.args.schema.now c.well_formed-2.ensures c.args.limits c.args.self.now.sieve c.take_found.new.self
    c.args.found.now.name record_ c.in-Err.fault c.in-Err.ensures.kind c.in-Err.ensures.unchanged
    (λ other given taken sifts. c.in-Err.ensures.gives record_ found other taken sifts.keeps))
