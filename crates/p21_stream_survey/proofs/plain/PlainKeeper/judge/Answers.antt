use Rattle.std.proofs.Common.{Result, subst, sym}
use Rattle.p21_grammar.specs.Statements.{line_of, statement_of}
use Rattle.p21_grammar.specs.declared.event.Event.{Event}
use Rattle.p21_grammar.specs.declared.event.Event.TheVariants.{Header, Named, Section}
use Rattle.p21_grammar_tree.specs.View.{items_of, part_view, views}
use Rattle.p21_spec_exchange.specs.DataSection.{heading_of}
use Rattle.p21_spec_exchange.specs.Statement.{data_start}
use Rattle.p21_spec_survey.specs.Rules.{by_itself}
use Rattle.p21_stream_statements.specs.declared.fault.Fault.{Fault}
use Rattle.p21_stream_survey.proofs.Alone.{header-judges, section-judges}
use Rattle.p21_stream_survey.specs.Judging.{JudgeGives}
use Rattle.p21_stream_survey.specs.Keeping.{kept_alone}
use Rattle.p21_stream_survey.specs.Sifted.{alone}
use Rattle.p21_stream_survey.specs.declared.judging.Judgement.{Judgement}
use Rattle.p21_stream_syntax.specs.Given.{kept_of}
use Rattle.p21_stream_survey.proofs.plain.PlainKeeper.judge.Goals as goal

pub returns-in-Section : goal.returns-in-Section
returns-in-Section c =
    let old = c.args.self.now in
    let new = kept_of c.take_line.new.self in
    record {
      gives = λ limits.
          subst (λ (e : Event). JudgeGives by_itself limits (kept_alone old) (statement_of e) c.right.result (alone new old.names))
          (sym c.in-Section.is)
          (subst (λ (r : Result Judgement Fault). JudgeGives by_itself limits (kept_alone old) (statement_of (Section c.in-Section.line)) r
          (alone new old.names))
          (sym c.right.ensures)
          (section-judges limits (kept_of old.given) new old.names (line_of c.in-Section.line) c.take_line.result c.take_line.ensures.gives
          c.take_line.ensures.refuses));
    }

pub returns-in-Named : goal.returns-in-Named
returns-in-Named c =
    let old = c.args.self.now in
    let new = kept_of c.take_heading.new.self in
    record {
      gives = λ limits.
          subst (λ (e : Event). JudgeGives by_itself limits (kept_alone old) (statement_of e) c.right-in-Named.result (alone new old.names))
          (sym c.in-Named.is)
          (subst (λ (r : Result Judgement Fault). JudgeGives by_itself limits (kept_alone old) (statement_of (Named c.in-Named.part)) r
          (alone new old.names))
          (sym c.right-in-Named.ensures)
          (section-judges limits (kept_of old.given) new old.names (data_start (heading_of (views (items_of c.in-Named.part.params))))
          c.take_heading.result c.take_heading.ensures.gives c.take_heading.ensures.refuses));
    }

pub returns-in-Header : goal.returns-in-Header
returns-in-Header c =
    let old = c.args.self.now in
    let new = kept_of c.take_header.new.self in
    record {
      gives = λ limits.
          subst (λ (e : Event). JudgeGives by_itself limits (kept_alone old) (statement_of e) c.right-in-Header.result (alone new old.names))
          (sym c.in-Header.is)
          (subst (λ (r : Result Judgement Fault). JudgeGives by_itself limits (kept_alone old) (statement_of (Header c.in-Header.part)) r
          (alone new old.names))
          (sym c.right-in-Header.ensures)
          (header-judges limits (kept_of old.given) new old.names (part_view c.in-Header.part) c.take_header.result
          c.take_header.ensures.gives c.take_header.ensures.refuses));
    }
