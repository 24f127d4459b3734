use Rattle.std.specs.Prelude.{◌≡◌, ℕ, List, Contains}
use Rattle.std.proofs.Common.{arith, ap, sym, ◌∙◌, subst}
use Rattle.p21_spec_schema.specs.Order.{order}
use Rattle.p21_express_graph.specs.Gathering.{add_first, add_firsts}
use Rattle.p21_express_graph.specs.Prefixes.{lists_in}
use Rattle.p21_express_graph.specs.SchemaContents.{schema_of}
use Rattle.p21_express_graph.specs.SettledOrder.{nexts_of}
use Rattle.p21_express_graph.proofs.orders.gather_order.Goals as goal
use Rattle.p21_express_graph.proofs.AddedOrders.{add-itself}
use Rattle.p21_express_graph.proofs.OrderTables.{are-entities}
use Rattle.p21_express_graph.proofs.Resolving.{own-entities}

pub has_all-requires : goal.has_all-requires
has_all-requires c e among =
    let P : List ℕ → Type 0 = λ xs. Contains xs e in
    let below = are-entities (schema_of c.args.parts.now) c.requires.holds c.args.entity.0 e (subst P c.supertypes_of-supertypes.ensures among) in
    omega (arith, below, c.requires.count)

pub add_all-requires : goal.add_all-requires
add_all-requires c e among =
    let P : List ℕ → Type 0 = λ xs. Contains xs e in
    let below = own-entities (schema_of c.args.parts.now) c.requires.holds c.args.entity.0 c.requires.entity (nexts_of (lists_in c.args.orders.now) c.args.entity.0) c.requires.order e (subst P c.list.ensures among) in
    omega (arith, below, c.requires.count)

pub returns-then-has_all : goal.returns-then-has_all
returns-then-has_all c =
    let s = schema_of c.args.parts.now in
    let e : ℕ = c.args.entity.0 in
    let xs : List ℕ = c.args.gathered.now.numbers in
    let itself : add_firsts xs (order s e) ≡ add_first xs e = add-itself s c.requires.holds xs c.requires.closed e
    (λ f among. let P : List ℕ → Type 0 = λ es. Contains es f in c.has_all.ensures c.if-has_all.true f (subst P (sym c.supertypes_of-supertypes.ensures) among)) in
    c.in_ok-add.ensures ∙ ap (λ ns. record { count = c.args.gathered.now.count; numbers = ns }) (sym itself ∙ ap (add_firsts xs) (sym c.requires.order))

pub returns : goal.returns
returns c = c.in_ok-add_all.ensures ∙ ap (λ ns. record { count = c.args.gathered.now.count; numbers = add_firsts c.args.gathered.now.numbers ns }) c.list.ensures
