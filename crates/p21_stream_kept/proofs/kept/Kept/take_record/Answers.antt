use Rattle.p21_grammar_tree.specs.View.{record_view}
use Rattle.p21_stream_kept.proofs.Finding.{found-same}
use Rattle.p21_stream_kept.proofs.Instances.{instance-again, instance-broken}
use Rattle.p21_stream_kept.proofs.kept.Kept.take_record.Goals as goal

pub returns-then-has_name-clause-gives : goal.returns-then-has_name-clause-gives
returns-then-has_name-clause-gives c = instance-again c.args.schema.now c.args.limits c.args.self.now c.args.self.now c.args.name
    (record_view c.args.of) (c.has_name.ensures.0 c.if-has_name.true)

pub keep_found-requires-clause-found : goal.keep_found-requires-clause-found
keep_found-requires-clause-found c =
    let found = c.in-Ok.found in
    record {
      record_ = record_view c.args.of;
      found = found-same c.args.schema.now c.args.name (record_view c.args.of) found.entities c.items.result.now found.needs.items
          c.deref-2.result.now c.find_instance.new.workspace.line.items c.deref.result.now c.items.ensures c.deref-2.ensures.value
          c.deref.ensures.value c.in-Ok.ensures.finds;
      follows = c.requires;
    }

pub returns-in-Err-clause-gives : goal.returns-in-Err-clause-gives
returns-in-Err-clause-gives c = instance-broken c.args.schema.now c.args.limits c.args.self.now c.args.self.now c.args.name
    (record_view c.args.of) c.in-Err.fault c.in-Err.ensures.finds

pub returns-clause-gives : goal.returns-clause-gives
returns-clause-gives c =
    let found = c.in-Ok.found in
    c.keep_found.ensures.gives (record_view c.args.of)
    (found-same c.args.schema.now c.args.name (record_view c.args.of) found.entities c.items.result.now found.needs.items
    c.deref-2.result.now c.find_instance.new.workspace.line.items c.deref.result.now c.items.ensures c.deref-2.ensures.value
    c.deref.ensures.value c.in-Ok.ensures.finds)
