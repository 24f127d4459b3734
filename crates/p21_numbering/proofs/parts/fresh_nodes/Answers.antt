use Rattle.std.specs.Prelude.{◌≡◌, ◌<◌, ℕ, length, not, nat_eq, Bool, false, List, ◌+◌}
use Rattle.std.proofs.Common.{arith, rules, ap, sym, subst, ◌∙◌}
use Rattle.p21_numbering.specs.Arrays.{rank_at, marked}
use Rattle.p21_numbering.specs.Largest.{IsLargestAmong}
use Rattle.p21_numbering.proofs.Counts.{number-at}
use Rattle.p21_numbering.proofs.Gathering.{each-more}
use Rattle.p21_numbering.proofs.LargestParts.{largest-decides}
use Rattle.p21_numbering.proofs.parts.fresh_nodes.Goals as goal

pub loop-n-preserved : goal.loop-n-preserved
loop-n-preserved c =
    let cell : ℕ = rank_at c.args.old.now c.loop-n.n in
    let within = c.requires.old_within c.loop-n.n c.loop-n-test.true in
    let at : c.index-best.result.now ≡ rank_at c.in_ok-largest.largest.items cell =
    number-at c.in_ok-largest.largest.items cell c.index-best.result.now (omega (arith, within, c.in_ok-largest.ensures.size))
    c.index-best.ensures in
    let P : ℕ → Bool → Type 0 = λ m b. b ≡ not (nat_eq (rank_at c.in_ok-largest.largest.items (rank_at c.args.old.now m))
    (rank_at c.args.new.now m)) in
    let Q : List Bool → Type 0 = λ bs. (m : ℕ) → m < c.loop-n.n + 1 → P m (marked bs m) in
    let one : P c.loop-n.n c.is_other.result = c.is_other.ensures ∙ ap (λ b. not (nat_eq b (rank_at c.args.new.now c.loop-n.n))) at in (
      search rules,
      subst Q (sym c.in_ok-push.ensures.items)
          (each-more false P c.loop-n.fresh.items c.is_other.result c.loop-n.n c.loop-n.invariant.0 c.loop-n.invariant.1 one),
    )

pub returns-clause-each : goal.returns-clause-each
returns-clause-each c g nodes n low =
    let count : ℕ = length c.args.new.now in
    let P : List ℕ → Type 0 = λ sizes. IsLargestAmong count count c.args.old.now c.args.new.now sizes (rank_at c.args.old.now n)
    (rank_at c.in_ok-largest.largest.items (rank_at c.args.old.now n)) in
    let largest = subst P c.deref.ensures.value (c.in_ok-largest.ensures.each (rank_at c.args.old.now n) (c.requires.old_within n low)) in
    c.loop-n.invariant.1 n (omega (arith, low, c.loop-n-test.false))
    ∙ ap (λ (b : Bool). not b)
    (largest-decides g count c.args.old.now c.args.new.now c.in_ok-sizes.sizes.items nodes c.in_ok-sizes.ensures c.requires.new_within n
    (rank_at c.in_ok-largest.largest.items (rank_at c.args.old.now n)) low largest)
