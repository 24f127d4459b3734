use Rattle.p21_differences.proofs.SideBySide.{values-told}
use Rattle.p21_differences.proofs.values.OtherValues.new.Goals as goal

pub returns-clause-told : goal.returns-clause-told
returns-clause-told c record_ other stated others set =
    values-told c.args.first.now.schema.now c.well_formed-2.ensures c.holds_together.ensures c.args.first.now.name c.args.second.now.name
    record_ other c.args.first.now.line.now c.args.second.now.line.now stated others
    (record { first = c.attributes.result; second = c.attributes-2.result }) (c.attributes.ensures.any record_ stated)
    (c.attributes-2.ensures.any other others) set
