use Rattle.p21_spec_exchange.specs.Statement.{instance}
use Rattle.p21_stream_sieve.proofs.SieveTaking.{again-gives, found-passed, listed-one, listed-or_ended, refused-gives, taken-gives}
use Rattle.p21_stream_sieve.proofs.sieve.Sieve.take_found.Goals as goal
use Rattle.std.proofs.Common.{Ok, ap, subst, sym, ◌∙◌}
use Rattle.p21_stream_sieve.specs.Sifting.{HasName}

pub returns-then-contains-clause-gives : goal.returns-then-contains-clause-gives
returns-then-contains-clause-gives c = λ record_ found.
    again-gives c.args.schema.now c.args.limits c.args.self.now c.list.new.self c.args.found.now.name record_ c.list.result
    (subst (HasName c.args.self.now.names) (ap (λ f. f.name) c.found.view_is) (sym c.contains.ensures ∙ c.if-contains.true))
    c.list.ensures.ok c.list.ensures.err

pub take_found-requires : goal.take_found-requires
take_found-requires c = found-passed c.args.schema.now c.args.limits c.args.self.now c.args.found.now.name _ _ c.args.found.now.line.now
    c.requires

pub returns-in-Ok-clause-gives : goal.returns-in-Ok-clause-gives
returns-in-Ok-clause-gives c = λ record_ found.
    taken-gives c.args.schema.now c.args.limits c.args.self.now c.take_found.new.self (instance c.args.found.now.name record_) (Ok tt)
    (c.in-Ok.ensures.gives record_ found) c.in-Ok.ensures.lines

pub returns-in-Err-clause-gives : goal.returns-in-Err-clause-gives
returns-in-Err-clause-gives c = λ record_ found.
    refused-gives c.args.schema.now c.well_formed-2.ensures c.args.limits c.args.self.now c.take_found.new.self c.list_or_end.new.self
    c.args.found.now.name record_ c.in-Err.fault c.list_or_end.result c.in-Err.ensures.unchanged (c.in-Err.ensures.gives record_ found)
    c.list_or_end.ensures.lists

pub returns-then-contains-clause-listed : goal.returns-then-contains-clause-listed
returns-then-contains-clause-listed c = listed-one c.args.self.now c.list.new.self _ _ c.list.result c.list.ensures.ok c.list.ensures.err

pub returns-in-Err-clause-listed : goal.returns-in-Err-clause-listed
returns-in-Err-clause-listed c = listed-or_ended (record c.args.self.now { kept = c.take_found.new.self }) c.list_or_end.new.self _ _
    c.list_or_end.result c.list_or_end.ensures.lists
