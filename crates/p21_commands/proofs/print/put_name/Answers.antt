use Rattle.std.proofs.Common.{ℕ, List, ◌++◌, codes}
use Rattle.p21_stream_output.proofs.Putting.{part_more, then_all, then_part}
use Rattle.p21_commands.proofs.print.put_name.Goals as goal

pub returns-in_default-clause-err : goal.returns-in_default-clause-err
returns-in_default-clause-err g c =
    let rest : List ℕ = c.args.schema.now.name ++ codes "\n" in
    part_more _ _ c.args.waiting.now (codes "SCHEMA ") rest c.in_default.ensures.err

pub returns-in_default-put-clause-err : goal.returns-in_default-put-clause-err
returns-in_default-put-clause-err g c =
    let w : List ℕ = c.args.waiting.now in
    let name : List ℕ = c.args.schema.now.name in
    then_part _ _ _ w (codes "SCHEMA ") c.put.new.self (name ++ codes "\n") c.in-Ok.ensures.ok
    (part_more _ _ c.put.new.self name (codes "\n") (rw c.name.ensures at c.in_default-put.ensures.err))

pub returns-in_default-put-2-clause-err : goal.returns-in_default-put-2-clause-err
returns-in_default-put-2-clause-err g c =
    let w : List ℕ = c.args.waiting.now in
    let name : List ℕ = c.args.schema.now.name in
    then_part _ _ _ w (codes "SCHEMA ") c.put.new.self (name ++ codes "\n") c.in-Ok.ensures.ok
    (then_part _ _ _ c.put.new.self name c.put-2.new.self (codes "\n") (rw c.name.ensures at c.in-Ok-put.ensures.ok)
    c.in_default-put-2.ensures.err)

pub returns-clause-ok : goal.returns-clause-ok
returns-clause-ok g c =
    let w : List ℕ = c.args.waiting.now in
    let name : List ℕ = c.args.schema.now.name in
    then_all _ _ _ w (codes "SCHEMA ") c.put.new.self (name ++ codes "\n") _ c.in-Ok.ensures.ok
    (then_all _ _ _ c.put.new.self name c.put-2.new.self (codes "\n") _ (rw c.name.ensures at c.in-Ok-put.ensures.ok)
    c.in-Ok-put-2.ensures.ok)
