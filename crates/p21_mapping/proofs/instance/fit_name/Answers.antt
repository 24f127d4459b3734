use Rattle.std.proofs.Common.{[]}
use Rattle.p21_mapping.proofs.Choosing.{name_at, name_refused}
use Rattle.p21_mapping.proofs.instance.fit_name.Goals as goal

pub returns-in_default : goal.returns-in_default
returns-in_default c = name_refused c.args.schema.now c.args.base c.args.name c.other_kind.result [] [] c.in_default.ensures
    c.other_kind.ensures

pub returns : goal.returns
returns c = name_at c.args.schema.now c.args.base c.args.name _ _ _ c.in-Some.ensures c.holds.ensures c.in_ok-push.ensures.items
