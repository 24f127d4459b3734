use Rattle.std.specs.Prelude.{◌≡◌, ◌∷◌, [], ℕ, List, Contains, refl}
use Rattle.std.proofs.Common.{ap, sym, ◌∙◌, subst, get_or}
use Rattle.p21_spec_basics.proofs.Members.{Contains-none}
use Rattle.p21_express_graph.specs.Closed.{AreClosed}
use Rattle.p21_express_graph.specs.Gathering.{add_firsts}
use Rattle.p21_express_graph.specs.Prefixes.{lists_in}
use Rattle.p21_express_graph.specs.SchemaContents.{schema_of}
use Rattle.p21_express_graph.specs.SettledOrder.{nexts_of}
use Rattle.p21_express_graph.proofs.orders.gather.Goals as goal
use Rattle.p21_express_graph.proofs.Gatherings.{numbered-at}
use Rattle.p21_express_graph.proofs.AddedOrders.{closed-more}
use Rattle.p21_express_graph.proofs.OrderTables.{gather-step}

pub loop-supertype-init : goal.loop-supertype-init
loop-supertype-init c = (refl, refl, λ e f among _. let P : List ℕ → Type 0 = λ xs. Contains xs e in absurd (Contains-none e (subst P c.requires.none among)))

pub gather_order-requires-clause-there : goal.gather_order-requires-clause-there
gather_order-requires-clause-there c = c.requires.there (get_or c.args.supertypes.now c.loop-supertype.supertype-index record { 0 = 0 }).0 (numbered-at (λ e. e.0) c.args.supertypes.now c.loop-supertype.supertype-index record { 0 = 0 } c.loop-supertype-test.true)

pub gather_order-requires-clause-entity : goal.gather_order-requires-clause-entity
gather_order-requires-clause-entity c = c.requires.entities (get_or c.args.supertypes.now c.loop-supertype.supertype-index record { 0 = 0 }).0 (numbered-at (λ e. e.0) c.args.supertypes.now c.loop-supertype.supertype-index record { 0 = 0 } c.loop-supertype-test.true)

pub gather_order-requires-clause-order : goal.gather_order-requires-clause-order
gather_order-requires-clause-order c = c.requires.orders (get_or c.args.supertypes.now c.loop-supertype.supertype-index record { 0 = 0 }).0 (numbered-at (λ e. e.0) c.args.supertypes.now c.loop-supertype.supertype-index record { 0 = 0 } c.loop-supertype-test.true)

pub gather_order-requires-clause-count : goal.gather_order-requires-clause-count
gather_order-requires-clause-count c = c.loop-supertype.invariant.0 ∙ c.requires.count

pub gather_order-requires-clause-closed : goal.gather_order-requires-clause-closed
gather_order-requires-clause-closed c = c.loop-supertype.invariant.2

pub loop-supertype-preserved : goal.loop-supertype-preserved
loop-supertype-preserved c =
    let e : ℕ = (get_or c.args.supertypes.now c.loop-supertype.supertype-index record { 0 = 0 }).0 in
    let s = schema_of c.args.parts.now in
    let is_order = c.requires.orders e (numbered-at (λ x. x.0) c.args.supertypes.now c.loop-supertype.supertype-index record { 0 = 0 } c.loop-supertype-test.true) in
    let gathered : c.gather_order.new.gathered.numbers ≡ add_firsts c.loop-supertype.gathered.numbers (nexts_of (lists_in c.args.orders.now) e) = ap (λ g. g.numbers) c.in_ok-gather_order.ensures in
    let P : List ℕ → Type 0 = λ xs. AreClosed s xs in (
      ap (λ g. g.count) c.in_ok-gather_order.ensures ∙ c.loop-supertype.invariant.0,
      gather-step (λ x. x.0) (nexts_of (lists_in c.args.orders.now)) (c.args.entity.0 ∷ []) c.loop-supertype.gathered.numbers c.gather_order.new.gathered.numbers c.args.supertypes.now c.loop-supertype.supertype-index record { 0 = 0 } c.loop-supertype-test.true gathered
          ∙ c.loop-supertype.invariant.1,
      subst P (sym (gathered ∙ ap (add_firsts c.loop-supertype.gathered.numbers) is_order)) (closed-more s c.requires.holds c.loop-supertype.gathered.numbers c.loop-supertype.invariant.2 e),
    )
