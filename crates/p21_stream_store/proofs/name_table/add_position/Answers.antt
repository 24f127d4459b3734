use Rattle.p21_stream_store.proofs.PositionLemmas.{beside_changes, beside_same, none_beside, run_takes}
use Rattle.p21_stream_store.proofs.name_table.add_position.Goals as goal

pub returns-then-extend-clause-ok : goal.returns-then-extend-clause-ok
returns-then-extend-clause-ok c = run_takes _ _ c.args.marks.now c.args.others.now c.args.name c.args.place c.if-extend.ensures.1
    c.if-extend.ensures.0 c.requires

pub store_position-requires : goal.store_position-requires
store_position-requires c = none_beside c.args.run.now c.args.marks.now c.args.others.now c.args.name c.requires

pub returns-clause-ok : goal.returns-clause-ok
returns-clause-ok c = beside_changes _ _ c.args.marks.now c.store_position.new.marks c.args.others.now c.store_position.new.others
    c.args.name c.args.place c.if-extend.ensures c.requires c.in-Ok.ensures.ok

pub returns-in_default-clause-err : goal.returns-in_default-clause-err
returns-in_default-clause-err c = beside_same _ _ c.args.marks.now c.store_position.new.marks c.args.others.now c.store_position.new.others
    c.if-extend.ensures c.in_default.ensures.err
