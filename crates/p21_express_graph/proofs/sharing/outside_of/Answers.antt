use Rattle.std.specs.Prelude.{◌≡◌, ◌+◌, ◌++◌, ◌∷◌, [], ℕ, List, Contains, length, map, take}
use Rattle.std.proofs.Common.{arith, ap, sym, ◌∙◌, subst, inl, inr, get_or}
use Rattle.std.proofs.lemmas.List.{take_all}
use Rattle.p21_express_graph.specs.Orders.{numbers}
use Rattle.p21_express_graph.specs.declared.number.EntityId.{EntityId}
use Rattle.p21_express_graph.proofs.Outside.{IsOutside, outside-less, outside-more}
use Rattle.p21_express_graph.proofs.Gatherings.{numbered-at}
use Rattle.p21_express_graph.proofs.Lookups.{numbers-more}
use Rattle.p21_express_graph.proofs.sharing.outside_of.Goals as goal
use Rattle.p21_express_graph.proofs.sharing.outside_of.Goals.{then-is_outside+in_ok-push, else-is_outside}

pub is_outside-requires : goal.is_outside-requires
is_outside-requires c = c.requires _ (numbered-at (λ e. e.0) c.args.list.now c.loop-other.other-index record { 0 = 0 } c.loop-other-test.true)

pub loop-other-preserved : goal.loop-other-preserved
loop-other-preserved c =
    let k : ℕ = c.loop-other.other-index in
    let x : EntityId = get_or c.args.list.now k record { 0 = 0 } in
    let whole = numbers c.args.list.now in
    let front = numbers c.args.front.now in
    let before = c.loop-other.outside.items in
    let more = numbers-more (λ e. e.0) c.args.list.now k record { 0 = 0 } c.loop-other-test.true in
    let among = numbered-at (λ e. e.0) c.args.list.now k record { 0 = 0 } c.loop-other-test.true in
    elim c.if-is_outside.branch [
      | then-is_outside+in_ok-push w ↦ outside-more whole front (numbers (take k c.args.list.now)) (numbers (take (k + 1) c.args.list.now)) before c.if-is_outside.outside.items x.0 c.args.entity.0 more c.loop-other.invariant.0 c.loop-other.invariant.1 among (ap (λ v. v.items) w.outside-is ∙ w.in_ok-push.ensures.items)
      | else-is_outside w ↦ outside-less whole front (numbers (take k c.args.list.now)) (numbers (take (k + 1) c.args.list.now)) before c.if-is_outside.outside.items x.0 c.args.entity.0 more c.loop-other.invariant.0 c.loop-other.invariant.1 (ap (λ v. v.items) w.outside-is) (c.is_outside.ensures w.if-is_outside.false)
    ]

pub returns-clause-rest : goal.returns-clause-rest
returns-clause-rest c =
    let P : List EntityId → Type 0 = λ xs. (f : ℕ) → IsOutside (numbers c.args.front.now) c.loop-other.outside.items (numbers xs) c.args.entity.0 f in
    subst P (take_all c.loop-other.other-index c.args.list.now c.loop-other-test.false) c.loop-other.invariant.1
