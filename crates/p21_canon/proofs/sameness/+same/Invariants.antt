use Rattle.std.proofs.Common.{◌≡◌, ◌↔◌, ℕ, ◌≤◌, ◌+◌, ◌*◌, max, length, drop}
use Rattle.p21_spec_file.specs.SameValue.{Among, EachAmong, SameInOrder}
use Rattle.p21_mapping_values.specs.View.{view, views}
use Rattle.p21_canon.specs.Occurrences.{Occurs}
use Rattle.p21_canon.proofs.Pairing.{AreAsOften}
use Rattle.p21_canon.proofs.sameness.+same.Given as goal

-- The deeper of the two sides falls; at the same depth the helpers stand above what they call.
abbrev pub decreases-same : goal.decreases-same
decreases-same l = 3 * max (goal.size-same l) (goal.size-same (record l { a = l.b; b = l.a }))

abbrev pub decreases-same_in_order : goal.decreases-same_in_order
decreases-same_in_order l = 3 * max (goal.size-same_in_order l) (goal.size-same_in_order (record l { a = l.b; b = l.a })) + 2

abbrev pub decreases-each_among : goal.decreases-each_among
decreases-each_among l = 3 * max (goal.size-each_among l) (goal.size-each_among (record l { values = l.others; others = l.values })) + 2

abbrev pub decreases-same_paired : goal.decreases-same_paired
decreases-same_paired l = 3 * max (goal.size-same_paired l) (goal.size-same_paired (record l { a = l.b; b = l.a })) + 2

abbrev pub decreases-is_among : goal.decreases-is_among
decreases-is_among l = 3 * max (goal.size-is_among l)
    (goal.size-each_among (record { the-lifetimes = l.the-lifetimes; values = l.others; others = l.others })) + 1

abbrev pub decreases-occurrences : goal.decreases-occurrences
decreases-occurrences l = 3 * max (goal.size-occurrences l)
    (goal.size-each_among (record { the-lifetimes = l.the-lifetimes; values = l.others; others = l.others })) + 1

abbrev pub invariant-each_among-loop-value : goal.invariant-each_among-loop-value
invariant-each_among-loop-value l = EachAmong (views l.values) (views l.others)
    ↔ EachAmong (views (drop l.value-index l.values)) (views l.others)

abbrev pub invariant-is_among-loop-other : goal.invariant-is_among-loop-other
invariant-is_among-loop-other l = Among (view l.value) (views l.others) ↔ Among (view l.value) (views (drop l.other-index l.others))

abbrev pub invariant-occurrences-loop-other : goal.invariant-occurrences-loop-other
invariant-occurrences-loop-other l = (l.count ≤ l.other-index)
    × ((n : ℕ) → Occurs (view l.value) (views (drop l.other-index l.others)) n → Occurs (view l.value) (views l.others) (l.count + n))

abbrev pub invariant-same_in_order-loop-i : goal.invariant-same_in_order-loop-i
invariant-same_in_order-loop-i l = (length l.a ≡ length l.b)
    × (SameInOrder (views l.a) (views l.b) ↔ SameInOrder (views (drop l.i l.a)) (views (drop l.i l.b)))

abbrev pub invariant-same_paired-loop-value : goal.invariant-same_paired-loop-value
invariant-same_paired-loop-value l = (length l.a ≡ length l.b)
    × (AreAsOften (views (drop l.value-index l.a)) (views l.a) (views l.b) → AreAsOften (views l.a) (views l.a) (views l.b))
