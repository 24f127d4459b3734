use Rattle.p21_spec_exchange.specs.Statement.{instance}
use Rattle.p21_grammar_tree.specs.View.{record_view}
use Rattle.p21_stream_sieve.proofs.SieveTaking.{again-gives, follows-passed, listed-one, listed-or_ended, refused-gives, taken-gives}
use Rattle.p21_stream_sieve.proofs.sieve.Sieve.take_instance.Goals as goal
use Rattle.std.proofs.Common.{Ok, subst, sym, ◌∙◌}
use Rattle.p21_stream_sieve.specs.Sifting.{HasName}

pub returns-then-contains-clause-gives : goal.returns-then-contains-clause-gives
returns-then-contains-clause-gives c =
    again-gives c.args.schema.now c.args.limits c.args.self.now c.list.new.self c.args.name (record_view c.args.of) c.list.result
    (subst (HasName c.args.self.now.names) c.name.view_is (sym c.contains.ensures ∙ c.if-contains.true)) c.list.ensures.ok
    c.list.ensures.err

pub take_instance-requires : goal.take_instance-requires
take_instance-requires c = follows-passed c.args.schema.now c.args.limits c.args.self.now (instance c.args.name (record_view c.args.of))
    c.requires

pub returns-in-Ok-clause-gives : goal.returns-in-Ok-clause-gives
returns-in-Ok-clause-gives c = taken-gives c.args.schema.now c.args.limits c.args.self.now c.take_instance.new.self
    (instance c.args.name (record_view c.args.of)) (Ok tt) c.in-Ok.ensures.gives c.in-Ok.ensures.lines

pub returns-in-Err-clause-gives : goal.returns-in-Err-clause-gives
returns-in-Err-clause-gives c =
    refused-gives c.args.schema.now c.well_formed-2.ensures c.args.limits c.args.self.now c.take_instance.new.self c.list_or_end.new.self
    c.args.name (record_view c.args.of) c.in-Err.fault c.list_or_end.result c.in-Err.ensures.unchanged c.in-Err.ensures.gives
    c.list_or_end.ensures.lists

pub returns-then-contains-clause-listed : goal.returns-then-contains-clause-listed
returns-then-contains-clause-listed c = listed-one c.args.self.now c.list.new.self _ _ c.list.result c.list.ensures.ok c.list.ensures.err

pub returns-in-Err-clause-listed : goal.returns-in-Err-clause-listed
returns-in-Err-clause-listed c = listed-or_ended (record c.args.self.now { kept = c.take_instance.new.self }) c.list_or_end.new.self _ _
    c.list_or_end.result c.list_or_end.ensures.lists
