use Rattle.std.proofs.Common.{ltb, rules}
use Rattle.std.proofs.lemmas.List.Sorted.{IsPartitionPoint-from_clause, IsPartitionedBy-ltb}
use Rattle.p21_model_uses.proofs.Named.{names-up}
use Rattle.p21_model_uses.specs.declared.groups.Used.{Used}
use Rattle.p21_model_uses.proofs.table.first_from.Goals as goal

pub returns : goal.returns
returns c = IsPartitionPoint-from_clause (λ (u : Used). ltb u.name c.args.name) _ _ c.partition_point.ensures.partitioned
    (IsPartitionedBy-ltb (λ (u : Used). u.name) c.args.used.now c.args.name (names-up c.args.used.now c.requires))
    (λ a r f' called. search rules)
