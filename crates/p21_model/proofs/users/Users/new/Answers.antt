use Rattle.p21_model.proofs.UsesFound.{too-many}
use Rattle.p21_model.proofs.users.Users.new.Goals as goal

pub returns-clause-uses : goal.returns-clause-uses
returns-clause-uses c stated once u =
    let all = c.in_ok-rows.ensures stated once u in
    let same = c.in_ok-table.ensures.members u in
    (λ among. all.0 (same.0 among), λ is. same.1 (all.1 is))

pub returns-in_err-table-clause-fault : goal.returns-in_err-table-clause-fault
returns-in_err-table-clause-fault c =
    too-many c.args.model.schema.now c.args.model.accepted.now.kept c.in_ok-rows.rows.items c.in_err-table.field-0.0
    c.from_residual-in_err-table.result c.from_residual-in_err-table.ensures.1 c.in_ok-rows.ensures c.in_err-table.ensures.fault
