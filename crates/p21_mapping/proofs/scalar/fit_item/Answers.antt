use Rattle.std.proofs.Common.{rules}
use Rattle.p21_mapping.proofs.Outcomes.{item_refused}
use Rattle.p21_mapping.proofs.Scalars.{item_at, item_unknown}
use Rattle.p21_mapping.proofs.scalar.fit_item.Goals as goal

pub returns-in-Ok-true : goal.returns-in-Ok-true
returns-in-Ok-true c = item_at c.args.base c.args.word _ c.in-Ok-true.ensures.ok (search rules) c.holds.ensures

pub returns-in-Ok-false : goal.returns-in-Ok-false
returns-in-Ok-false c = item_unknown c.args.base c.args.word _ c.in-Ok-false.ensures.ok (search rules)

pub returns-in-Err : goal.returns-in-Err
returns-in-Err c = item_refused c.args.base c.args.word _ c.in-Err.ensures.err
