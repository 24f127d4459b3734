use Rattle.std.proofs.Common.{arith}
use Rattle.p21_differences.proofs.Naming.{change-found, end-found, last-found, more-passed}
use Rattle.p21_differences.proofs.changes.TwoFiles.first_change_from.Goals as goal

pub returns-in_default-clause-found : goal.returns-in_default-clause-found
returns-in_default-clause-found c =
    end-found c.args.self.schema.now c.args.self.first.now.kept c.args.self.second.now.kept c.args.least c.loop-name.from
    c.loop-name.invariant.1 c.in_default.ensures

pub returns-in-Some-change_about-clause-found : goal.returns-in-Some-change_about-clause-found
returns-in-Some-change_about-clause-found c =
    change-found c.args.self.schema.now c.args.self.first.now.kept c.args.self.second.now.kept c.args.least c.loop-name.from c.in-Some.name
    c.in-Some-change_about.change c.loop-name.invariant.0 c.loop-name.invariant.1
    c.in-Some.ensures c.in-Some-change_about.ensures

pub returns-in_default-checked_add-clause-found : goal.returns-in_default-checked_add-clause-found
returns-in_default-checked_add-clause-found c =
    last-found c.args.self.schema.now c.args.self.first.now.kept c.args.self.second.now.kept c.args.least c.loop-name.from c.in-Some.name
    c.loop-name.invariant.1 c.in-Some.ensures c.in_default-change_about.ensures
    c.in_default-checked_add.ensures

pub loop-name-preserved : goal.loop-name-preserved
loop-name-preserved c =
    let low = c.loop-name.invariant.0 in
    let from = c.in-Some.ensures.0 in
    let next = c.in-Some-checked_add.ensures.1 in (
      omega (arith, low, from, next),
      more-passed c.args.self.schema.now c.args.self.first.now.kept c.args.self.second.now.kept c.args.least c.loop-name.from c.in-Some.name
          c.in-Some-checked_add.next c.loop-name.invariant.1 c.in-Some.ensures next
          c.in_default-change_about.ensures,
    )
