use Rattle.std.proofs.Common.{[]}
use Rattle.p21_stream_syntax.proofs.Feeding.{nothing-taken, text-refused, text-taken, way-between}
use Rattle.p21_stream_syntax.proofs.reading.syntax_of_located.Goals as goal

pub read-requires : goal.read-requires
read-requires c =
    let none = nothing-taken c.args.limits c.new-walk.result c.new-walk.ensures.live c.new-walk.ensures.limits c.new-walk.ensures.kept in
    record { way = way-between c.args.limits c.new-walk.result c.args.file.now ([], none) c.new-walk.ensures.counted }

pub returns-in-Err-clause-err : goal.returns-in-Err-clause-err
returns-in-Err-clause-err c other =
    let none = nothing-taken c.args.limits c.new-walk.result c.new-walk.ensures.live c.new-walk.ensures.limits c.new-walk.ensures.kept in
    text-refused c.args.limits c.new-walk.result c.read.new.self c.args.file.now c.in-Err.refusal c.type_inv.file none
    (c.in-Err.ensures.gives c.args.limits) other

pub returns-in-Ok-finish-clause-ok : goal.returns-in-Ok-finish-clause-ok
returns-in-Ok-finish-clause-ok c =
    let none = nothing-taken c.args.limits c.new-walk.result c.new-walk.ensures.live c.new-walk.ensures.limits c.new-walk.ensures.kept in
    let all = text-taken c.args.limits c.new-walk.result c.read.new.self c.args.file.now none (c.in-Ok.ensures.gives c.args.limits) in
    c.in-Ok-finish.ensures.gives c.args.limits c.args.file.now all

pub returns-in-Err-finish-clause-err : goal.returns-in-Err-finish-clause-err
returns-in-Err-finish-clause-err c other =
    let none = nothing-taken c.args.limits c.new-walk.result c.new-walk.ensures.live c.new-walk.ensures.limits c.new-walk.ensures.kept in
    let all = text-taken c.args.limits c.new-walk.result c.read.new.self c.args.file.now none (c.in-Ok.ensures.gives c.args.limits) in
    c.in-Err-finish.ensures.gives other c.args.limits c.args.file.now all
