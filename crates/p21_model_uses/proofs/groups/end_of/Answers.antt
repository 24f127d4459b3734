use Rattle.std.proofs.Common.{leb, rules}
use Rattle.std.proofs.lemmas.List.Sorted.{IsPartitionPoint-from_clause, IsPartitionedBy-leb}
use Rattle.p21_model_uses.proofs.UseOrder.{names-rise}
use Rattle.p21_model_uses.specs.UseRows.{UseRow}
use Rattle.p21_model_uses.proofs.groups.end_of.Goals as goal

pub returns-clause-end : goal.returns-clause-end
returns-clause-end c = IsPartitionPoint-from_clause (λ (u : UseRow). leb u.0 c.args.name) _ _ c.partition_point.ensures.partitioned
    (IsPartitionedBy-leb (λ (u : UseRow). u.0) c.args.rows.now c.args.name (names-rise c.args.rows.now c.requires))
    (λ a r f' called. search rules)
