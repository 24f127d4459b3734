use Rattle.p21_difference_rows.specs.Asked.{left_out_of}
use Rattle.p21_commands.proofs.Differing.{both-listed, first-fails, memory-fails, second-fails}
use Rattle.p21_commands.proofs.differences.differences.Goals as goal

pub returns-in-Err-clause-err : goal.returns-in-Err-clause-err
returns-in-Err-clause-err g c =
    let first = g.A.Read.remaining c.args.first.now.inner in
    first-fails c.args.form (left_out_of c.args.left_out) c.args.schema.now c.headline.ensures.formed c.lines_law.ensures.of_meaning
    c.usual-limits.result c.usual-limits.ensures c.headline.ensures.claim first _ _ _ first c.in-Err.refusal.fault c.in-Err.ensures.err

pub returns-in-Err-accept-clause-err : goal.returns-in-Err-accept-clause-err
returns-in-Err-accept-clause-err g c =
    let first = g.A.Read.remaining c.args.first.now.inner in
    second-fails c.args.form (left_out_of c.args.left_out) c.args.schema.now c.headline.ensures.formed c.lines_law.ensures.of_meaning
    c.usual-limits.result c.usual-limits.ensures c.headline.ensures.claim first _ _ _ _ c.in-Ok.accepted c.in-Err-accept.refusal.fault
    c.in-Ok.ensures.ok c.in-Err-accept.ensures.err

pub returns-clause-err : goal.returns-clause-err
returns-clause-err g c =
    let first = g.A.Read.remaining c.args.first.now.inner in
    memory-fails c.args.form (left_out_of c.args.left_out) c.args.schema.now c.headline.ensures.formed c.lines_law.ensures.of_meaning
    c.usual-limits.result c.usual-limits.ensures c.headline.ensures.claim first _ _ _ _ c.in-Ok.accepted c.no_memory.result.fault
    c.in-Ok.ensures.ok c.no_memory.ensures

pub returns-in-Ok-list_differences-clause-ok : goal.returns-in-Ok-list_differences-clause-ok
returns-in-Ok-list_differences-clause-ok g c reader =
    both-listed c.args.form (left_out_of c.args.left_out) c.args.schema.now c.headline.ensures.formed c.lines_law.ensures.of_meaning
    c.usual-limits.result c.usual-limits.ensures c.headline.ensures.claim reader _ _ _ _ c.in-Ok.accepted c.in-Ok-accept.accepted
    c.in-Ok.ensures.ok c.in-Ok-accept.ensures.ok c.in-Ok-list_differences.found.is_same c.in-Ok-list_differences.found.is_empty
    c.in-Ok-list_differences.found.text.items c.in-Ok-list_differences.ensures.same c.in-Ok-list_differences.ensures.list
