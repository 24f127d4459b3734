use Rattle.std.specs.List.{range_with_len}
use Rattle.std.specs.Prelude.{ℕ, List, [], Contains, take, slice_index_or}
use Rattle.std.proofs.Common.{arith, sym, subst}
use Rattle.std.proofs.lemmas.List.{take_all, take_more}
use Rattle.std.proofs.lemmas.List.Elements.{Contains-get_or}
use Rattle.p21_numbering.specs.Rows.{held_rows}
use Rattle.p21_numbering.proofs.Joined.{AreParts, no-pairs, one-pair_more, Contains-take}
use Rattle.p21_numbering.proofs.joining.joined_parts.Goals as goal

pub loop-pair-init : goal.loop-pair-init
loop-pair-init c =
    let P : List ℕ → Type 0 = λ of. AreParts c.args.count [] of (held_rows c.in_ok-members.members.items) in
    let Q : List (List ℕ) → Type 0 = λ members. AreParts c.args.count [] (range_with_len 0 c.args.count) members in
    subst P (sym c.in_ok-of.ensures) (subst Q (sym c.in_ok-members.ensures) (no-pairs c.args.count))

pub joined-requires-clause-one : goal.joined-requires-clause-one
joined-requires-clause-one c =
    let pair : ℕ × ℕ = slice_index_or c.args.pairs.now c.loop-pair.pair-index (0, 0) in
    let low = c.requires pair (Contains-get_or c.args.pairs.now c.loop-pair.pair-index (0, 0) c.loop-pair-test.true) in
    omega (arith, low.0, c.loop-pair.invariant.partition.long)

pub joined-requires-clause-other : goal.joined-requires-clause-other
joined-requires-clause-other c =
    let pair : ℕ × ℕ = slice_index_or c.args.pairs.now c.loop-pair.pair-index (0, 0) in
    let low = c.requires pair (Contains-get_or c.args.pairs.now c.loop-pair.pair-index (0, 0) c.loop-pair-test.true) in
    omega (arith, low.1, c.loop-pair.invariant.partition.long)

pub loop-pair-preserved : goal.loop-pair-preserved
loop-pair-preserved c =
    let pair : ℕ × ℕ = slice_index_or c.args.pairs.now c.loop-pair.pair-index (0, 0) in
    let low = c.requires pair (Contains-get_or c.args.pairs.now c.loop-pair.pair-index (0, 0) c.loop-pair-test.true) in
    let P : List (ℕ × ℕ) → Type 0 = λ pairs. AreParts c.args.count pairs c.in_ok-parts.parts.of.items
    (held_rows c.in_ok-parts.parts.members.items) in
    subst P (sym (take_more c.args.pairs.now c.loop-pair.pair-index (0, 0) c.loop-pair-test.true))
    (one-pair_more c.args.count (take c.loop-pair.pair-index c.args.pairs.now) c.loop-pair.parts.of.items
    (held_rows c.loop-pair.parts.members.items) pair.0 pair.1 c.in_ok-parts.parts.of.items (held_rows c.in_ok-parts.parts.members.items)
    c.loop-pair.invariant
    (λ p among. c.requires p (Contains-take c.loop-pair.pair-index c.args.pairs.now p among)) low.0 low.1 c.in_ok-parts.ensures)

pub returns-clause-joined : goal.returns-clause-joined
returns-clause-joined c p among =
    let P : List (ℕ × ℕ) → Type 0 = λ pairs. Contains pairs p in
    c.loop-pair.invariant.joined p (subst P (sym (take_all c.loop-pair.pair-index c.args.pairs.now c.loop-pair-test.false)) among)
