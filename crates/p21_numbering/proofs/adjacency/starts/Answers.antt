use Rattle.std.specs.Prelude.{◌++◌, ◌∷◌, [], List, ℕ, leb}
use Rattle.std.proofs.Common.{rules, ap, ◌∙◌}
use Rattle.std.proofs.lemmas.List.Sorted.{IsPartitionPoint-from_clause}
use Rattle.p21_numbering.specs.Arrays.{Edge}
use Rattle.p21_numbering.proofs.Ranges.{partitioned-edges, start-is, starts-init, starts-more}
use Rattle.p21_numbering.proofs.adjacency.starts.Goals as goal

pub loop-n-init : goal.loop-n-init
loop-n-init c = starts-init c.args.edges.now c.push.new.self.items
    (c.in_ok-push.ensures.items ∙ ap (λ (xs : List ℕ). xs ++ 0 ∷ []) c.new-starts.ensures.items)

pub loop-n-preserved : goal.loop-n-preserved
loop-n-preserved c =
    starts-more c.args.edges.now c.loop-n.starts.items c.push-in-loop-n.new.self.items c.loop-n.n-counter c.partition_point.result
    c.loop-n.invariant.0 c.in_ok-push-2.ensures.items c.loop-n.invariant.1
    (start-is c.args.edges.now c.loop-n.n-counter c.partition_point.result c.partition_point.ensures.bound
    (IsPartitionPoint-from_clause (λ (e : Edge). leb e.0 c.loop-n.n-counter) _ _ c.partition_point.ensures.partitioned
    (partitioned-edges c.args.edges.now c.loop-n.n-counter c.requires.rises) (λ a r f' called. search rules)))
