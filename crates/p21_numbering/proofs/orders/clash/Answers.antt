use Rattle.std.specs.Prelude.{◌≡◌, ◌-◌, ◌+◌, ℕ, List}
use Rattle.std.proofs.Common.{arith, sym}
use Rattle.std.proofs.lemmas.List.Elements.{Contains-get_or}
use Rattle.p21_numbering.specs.Arrays.{Entry}
use Rattle.p21_numbering.specs.Ordering.{entry_at}
use Rattle.p21_numbering.specs.Ranked.{Ranked, held_instance, held_instances, ranked_at}
use Rattle.p21_numbering.proofs.SortedCopies.{clash-at, clash-between, no-clash_more}
use Rattle.p21_numbering.proofs.orders.clash.Goals as goal

pub at-one-requires : goal.at-one-requires
at-one-requires c =
    c.requires (entry_at c.args.sorted.now (c.loop-next.next - 1))
    (Contains-get_or c.args.sorted.now (c.loop-next.next - 1) (0, 0, 0) (omega (arith, c.loop-next-test.true)))

pub at-other-requires : goal.at-other-requires
at-other-requires c = c.requires (entry_at c.args.sorted.now c.loop-next.next)
    (Contains-get_or c.args.sorted.now c.loop-next.next (0, 0, 0) c.loop-next-test.true)

pub returns-then-do_clash : goal.returns-then-do_clash
returns-then-do_clash c =
    let all : List Ranked = held_instances c.args.instances.now in
    let sorted : List Entry = c.args.sorted.now in
    let next : ℕ = c.loop-next.next in
    let first : Entry = entry_at sorted (next - 1) in
    let second : Entry = entry_at sorted next in
    let up : (next - 1) + 1 ≡ next = omega (arith, c.loop-next.auto.next) in
    clash-at all sorted (next - 1) next up c.loop-next-test.true (λ none. c.do_clash.ensures.yes c.if-do_clash.true
    (clash-between first second (ranked_at all first.2) (ranked_at all second.2) (held_instance c.at-one.result.now)
    (held_instance c.at-other.result.now) (sym c.at-one.ensures) (sym c.at-other.ensures) none))

pub loop-next-preserved : goal.loop-next-preserved
loop-next-preserved c =
    let all : List Ranked = held_instances c.args.instances.now in
    let sorted : List Entry = c.args.sorted.now in
    let next : ℕ = c.loop-next.next in
    let first : Entry = entry_at sorted (next - 1) in
    let second : Entry = entry_at sorted next in
    let up : (next - 1) + 1 ≡ next = omega (arith, c.loop-next.auto.next) in
    no-clash_more all sorted (next - 1) next up c.loop-next.invariant
    (clash-between first second (held_instance c.at-one.result.now) (held_instance c.at-other.result.now) (ranked_at all first.2)
    (ranked_at all second.2) c.at-one.ensures c.at-other.ensures (c.do_clash.ensures.no c.if-do_clash.false))
