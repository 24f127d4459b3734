use Rattle.std.proofs.Common.{arith}
use Rattle.std.proofs.lemmas.List.Filters.{dedup_is}
use Rattle.p21_model_uses.proofs.UseOrder.{each-once, use-order, use_eq}
use Rattle.p21_model_uses.proofs.rows.in_order.Goals as goal

pub returns-clause-order : goal.returns-clause-order
returns-clause-order c =
    (each-once use-order _ _ _ c.sort_unstable.ensures.permutation c.sort_unstable.ensures.sorted
    (dedup_is use_eq _ _ c.dedup.ensures.filtered)
    (omega (arith, c.dedup.ensures.bound, c.dedup.new.self.ok.0, c.sort_unstable.new.self.ok.0))).rises

pub returns-clause-members : goal.returns-clause-members
returns-clause-members c =
    (each-once use-order _ _ _ c.sort_unstable.ensures.permutation c.sort_unstable.ensures.sorted
    (dedup_is use_eq _ _ c.dedup.ensures.filtered)
    (omega (arith, c.dedup.ensures.bound, c.dedup.new.self.ok.0, c.sort_unstable.new.self.ok.0))).members
