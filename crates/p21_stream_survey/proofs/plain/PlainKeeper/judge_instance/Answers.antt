use Rattle.std.proofs.Common.{◌≡◌, true}
use Rattle.p21_grammar_tree.specs.View.{record_view}
use Rattle.p21_stream_survey.proofs.Alone.{again-alone, never-refused, right-judges}
use Rattle.p21_spec_exchange.specs.Statement.{instance}
use Rattle.p21_stream_syntax.specs.Given.{kept_of}
use Rattle.p21_stream_survey.proofs.plain.PlainKeeper.judge_instance.Goals as goal

pub returns-then-has_name : goal.returns-then-has_name
returns-then-has_name c = record {
  gives = λ limits.
      again-alone limits (kept_of c.args.self.now.given) c.args.self.now.names c.args.name (record_view c.args.of.now)
      (c.has_name.ensures.0 c.if-has_name.true);
}

pub returns-in-Ok : goal.returns-in-Ok
returns-in-Ok c = record {
  gives = λ limits.
      right-judges limits (kept_of c.args.self.now.given) (kept_of c.take_instance.new.self) c.args.self.now.names
      (instance c.args.name (record_view c.args.of.now)) c.in-Ok.ensures.gives;
}

pub returns-in-Err : goal.returns-in-Err
returns-in-Err c = record {
  gives = λ limits.
      never-refused limits (kept_of c.args.self.now.given) (kept_of c.take_instance.new.self) c.args.self.now.names c.args.name
      (record_view c.args.of.now) c.in-Err.fault
      (λ had. (let passes : c.has_name.result ≡ true = c.has_name.ensures.1 had in let fails = c.if-has_name.false in cc))
      c.in-Err.ensures.refuses;
}
