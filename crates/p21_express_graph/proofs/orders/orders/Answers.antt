use Rattle.std.specs.Prelude.{◌≡◌, ◌+◌, ◌++◌, ◌∷◌, [], suc, ℕ, List, Some, Contains, length, slice_get, slice_set, take}
use Rattle.std.specs.List.{flat_map}
use Rattle.std.proofs.Common.{arith, ap, sym, ◌∙◌, subst, get_or}
use Rattle.std.proofs.lemmas.List.{take_all}
use Rattle.std.proofs.lemmas.Option.{slice_get-get_or}
use Rattle.p21_spec_schema.specs.Order.{order}
use Rattle.p21_spec_schema.specs.Schema.{Schema}
use Rattle.p21_express_graph.specs.Prefixes.{list_of, lists_in}
use Rattle.p21_express_graph.specs.Gathering.{add_firsts}
use Rattle.p21_express_graph.specs.Orders.{numbers, number_lists}
use Rattle.p21_express_graph.specs.SettledOrder.{nexts_of}
use Rattle.p21_express_graph.specs.SchemaContents.{entity, schema_of}
use Rattle.p21_express_graph.specs.declared.prefixes.PrefixLists.{PrefixLists}
use Rattle.p21_express_graph.proofs.orders.orders.Goals as goal
use Rattle.p21_express_graph.proofs.Gatherings.{mapped-length}
use Rattle.p21_express_graph.proofs.AddedOrders.{supertypes-done}
use Rattle.p21_express_graph.proofs.OrderTables.{AreSoFar, none-so-far, is-entity, next-order, so-far-more, all-orders, are-entities}
use Rattle.p21_express_graph.proofs.Resolving.{own-entities}

-- there are as many fronts as entities
as-many : (s : Schema) (all : PrefixLists) (done : List ℕ) → AreSoFar s (lists_in all) done → length all.prefixes.items ≡ length s.entities
as-many s all done so_far = omega (arith, so_far.size, mapped-length (list_of (number_lists all.runs.items)) all.prefixes.items)

pub loop-number-init : goal.loop-number-init
loop-number-init c =
    let orders = c.in_ok-orders.orders in
    let count : c.len-count.result ≡ length (schema_of c.args.parts.now).entities = (let n = mapped-length entity c.args.parts.now.entities.items in omega (arith, n, c.len-count.ensures, c.args.parts.now.entities.ok.0)) in
    let size : length (lists_in orders) ≡ length (schema_of c.args.parts.now).entities = (let n = mapped-length (list_of (number_lists orders.runs.items)) orders.prefixes.items in omega (arith, n, c.in_ok-orders.ensures.size, count)) in (
      none-so-far (schema_of c.args.parts.now) (lists_in orders) size c.in_ok-orders.ensures.empty,
      c.in_ok-gathered.ensures ∙ ap (λ n. record { count = n; numbers = [] }) count,
      c.in_ok-orders.ensures.prefixes,
      c.in_ok-orders.ensures.below (length (schema_of c.args.parts.now).entities),
    )

pub supertypes_of-supertypes-requires : goal.supertypes_of-supertypes-requires
supertypes_of-supertypes-requires c =
    is-entity (schema_of c.args.parts.now) c.requires.holds c.args.listed.now c.requires.settled_order (lists_in c.loop-number.orders) c.loop-number.number-index (get_or c.args.listed.now c.loop-number.number-index 0)
    (slice_get-get_or c.args.listed.now c.loop-number.number-index 0 c.loop-number-test.true) c.loop-number.invariant.0

pub gather-requires-clause-there : goal.gather-requires-clause-there
gather-requires-clause-there c e among =
    let P : List ℕ → Type 0 = λ xs. Contains xs e in
    let below = are-entities (schema_of c.args.parts.now) c.requires.holds (get_or c.args.listed.now c.loop-number.number-index 0) e (subst P c.supertypes_of-supertypes.ensures among) in
    omega (arith, below, as-many (schema_of c.args.parts.now) c.loop-number.orders _ c.loop-number.invariant.0)

pub gather-requires-clause-entities : goal.gather-requires-clause-entities
gather-requires-clause-entities c e among =
    let P : List ℕ → Type 0 = λ xs. Contains xs e in
    are-entities (schema_of c.args.parts.now) c.requires.holds (get_or c.args.listed.now c.loop-number.number-index 0) e (subst P c.supertypes_of-supertypes.ensures among)

pub gather-requires-clause-orders : goal.gather-requires-clause-orders
gather-requires-clause-orders c e among =
    let P : List ℕ → Type 0 = λ xs. Contains xs e in
    supertypes-done (schema_of c.args.parts.now) c.args.listed.now c.requires.settled_order (lists_in c.loop-number.orders) c.loop-number.number-index (get_or c.args.listed.now c.loop-number.number-index 0)
    (slice_get-get_or c.args.listed.now c.loop-number.number-index 0 c.loop-number-test.true) c.loop-number.invariant.0 e (subst P c.supertypes_of-supertypes.ensures among)

pub gather-requires-clause-count : goal.gather-requires-clause-count
gather-requires-clause-count c = ap (λ g. g.count) c.loop-number.invariant.1

pub gather-requires-clause-none : goal.gather-requires-clause-none
gather-requires-clause-none c = ap (λ g. g.numbers) c.loop-number.invariant.1

pub gather-requires-clause-entity : goal.gather-requires-clause-entity
gather-requires-clause-entity c =
    let below = is-entity (schema_of c.args.parts.now) c.requires.holds c.args.listed.now c.requires.settled_order (lists_in c.loop-number.orders) c.loop-number.number-index (get_or c.args.listed.now c.loop-number.number-index 0)
    (slice_get-get_or c.args.listed.now c.loop-number.number-index 0 c.loop-number-test.true) c.loop-number.invariant.0 in
    omega (arith, below, ap (λ g. g.count) c.loop-number.invariant.1)

pub put-requires-clause-there : goal.put-requires-clause-there
put-requires-clause-there c =
    let below = is-entity (schema_of c.args.parts.now) c.requires.holds c.args.listed.now c.requires.settled_order (lists_in c.loop-number.orders) c.loop-number.number-index (get_or c.args.listed.now c.loop-number.number-index 0)
    (slice_get-get_or c.args.listed.now c.loop-number.number-index 0 c.loop-number-test.true) c.loop-number.invariant.0 in
    omega (arith, below, as-many (schema_of c.args.parts.now) c.loop-number.orders _ c.loop-number.invariant.0)

pub put-requires-clause-others : goal.put-requires-clause-others
put-requires-clause-others c e among =
    let P : List ℕ → Type 0 = λ xs. Contains xs e in
    let below = are-entities (schema_of c.args.parts.now) c.requires.holds (get_or c.args.listed.now c.loop-number.number-index 0) e (subst P c.supertypes_of-supertypes.ensures among) in
    omega (arith, below, as-many (schema_of c.args.parts.now) c.loop-number.orders _ c.loop-number.invariant.0)

pub loop-number-preserved : goal.loop-number-preserved
loop-number-preserved c =
    let s = schema_of c.args.parts.now in
    let e : ℕ = get_or c.args.listed.now c.loop-number.number-index 0 in
    let lists : List (List ℕ) = lists_in c.loop-number.orders in
    let at : slice_get c.args.listed.now c.loop-number.number-index ≡ Some e = slice_get-get_or c.args.listed.now c.loop-number.number-index 0 c.loop-number-test.true in
    let so_far = c.loop-number.invariant.0 in
    let gathered : numbers c.in_ok-list.list.items ≡ order s e =
    c.in_ok-list.ensures.taken
    ∙ ap (λ g. g.numbers) c.in_ok-gather.ensures
    ∙ ap (λ xs. add_firsts xs (flat_map (nexts_of lists) (numbers c.supertypes_of-supertypes.result.now) ++ e ∷ [])) (ap (λ g. g.numbers) c.loop-number.invariant.1)
    ∙ ap (λ xs. add_firsts [] (flat_map (nexts_of lists) xs ++ e ∷ [])) c.supertypes_of-supertypes.ensures
    ∙ next-order s c.requires.holds c.args.listed.now c.requires.settled_order lists c.loop-number.number-index e at so_far in
    let P : List (List ℕ) → Type 0 = λ ls. AreSoFar s ls (take (c.loop-number.number-index + 1) c.args.listed.now) in
    let Q : ℕ → Type 0 = λ n. AreSoFar s (slice_set lists e (order s e)) (take n c.args.listed.now) in
    let next : c.loop-number.number-index + 1 ≡ suc c.loop-number.number-index = omega arith in (
      subst P (sym (c.in_ok-put.ensures.lists ∙ ap (slice_set lists e) gathered)) (subst Q (sym next) (so-far-more s c.requires.holds c.args.listed.now c.requires.settled_order lists c.loop-number.number-index e at so_far)),
      c.in_ok-list.ensures.left ∙ ap (λ n. record { count = n; numbers = [] }) (ap (λ g. g.count) c.in_ok-gather.ensures ∙ ap (λ g. g.count) c.loop-number.invariant.1),
      c.in_ok-put.ensures.prefixes,
      c.in_ok-put.ensures.below (length s.entities) c.loop-number.invariant.3 (own-entities s c.requires.holds e (is-entity s c.requires.holds c.args.listed.now c.requires.settled_order lists c.loop-number.number-index e at so_far) (numbers c.in_ok-list.list.items) gathered),
    )

pub returns-clause-orders : goal.returns-clause-orders
returns-clause-orders c =
    let P : List ℕ → Type 0 = λ xs. AreSoFar (schema_of c.args.parts.now) (lists_in c.loop-number.orders) xs in
    all-orders (schema_of c.args.parts.now) c.args.listed.now c.requires.settled_order (lists_in c.loop-number.orders) (subst P (take_all c.loop-number.number-index c.args.listed.now c.loop-number-test.false) c.loop-number.invariant.0)
