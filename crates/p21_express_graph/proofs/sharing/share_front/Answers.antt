use Rattle.std.specs.Prelude.{◌≡◌, ◌⊎◌, ℕ, List, Contains}
use Rattle.std.proofs.Common.{arith, sym, subst}
use Rattle.p21_express_graph.specs.SchemaContents.{schema_of}
use Rattle.p21_express_graph.specs.declared.above.Above.{Above}
use Rattle.p21_express_graph.proofs.FrontsAbove.{above-set}
use Rattle.p21_express_graph.proofs.SharedFronts.{listed-run, order-entities, shared-front}
use Rattle.p21_express_graph.proofs.sharing.share_front.Goals as goal

pub index-requires-2 : goal.index-requires-2
index-requires-2 c =
    let below = listed-run (schema_of c.args.parts.now) c.args.orders.now c.args.all.now.items c.args.entity.0 c.index.result.now c.requires.orders c.requires.above c.requires.entity c.index.ensures in
    omega (arith, below, c.requires.indexed, c.args.indexed.now.ok.0)

pub run-requires : goal.run-requires
run-requires c = listed-run (schema_of c.args.parts.now) c.args.orders.now c.args.all.now.items c.args.entity.0 c.index.result.now c.requires.orders c.requires.above c.requires.entity c.index.ensures

pub index_mut-requires : goal.index_mut-requires
index_mut-requires c =
    let below = listed-run (schema_of c.args.parts.now) c.args.orders.now c.args.all.now.items c.args.entity.0 c.index.result.now c.requires.orders c.requires.above c.requires.entity c.index.ensures in
    omega (arith, below, c.requires.indexed, c.args.indexed.now.ok.0)

pub others_of-requires-clause-list : goal.others_of-requires-clause-list
others_of-requires-clause-list c e among =
    let P : List ℕ → Type 0 = λ es. Contains es e in
    let below = order-entities (schema_of c.args.parts.now) c.requires.holds c.args.orders.now c.requires.orders c.args.entity.0 c.requires.entity e (subst P c.list-list.ensures among) in
    omega (arith, below, c.requires.places)

pub others_of-requires-clause-front : goal.others_of-requires-clause-front
others_of-requires-clause-front c e among =
    let P : List ℕ → Type 0 = λ es. Contains es e in
    let below = order-entities (schema_of c.args.parts.now) c.requires.holds c.args.orders.now c.requires.orders c.args.entity.0 c.requires.entity e (c.in-Some.ensures.supertypes e (subst P c.front.ensures among)) in
    omega (arith, below, c.requires.places)

pub returns-clause-above : goal.returns-clause-above
returns-clause-above c =
    let s = schema_of c.args.parts.now in
    let orders = c.args.orders.now in
    let e : ℕ = c.args.entity.0 in
    let others = c.in_ok-others.ensures in
    let above : Above = record { front = c.in-Some.front; others = c.in_ok-others.others } in
    above-set orders c.args.all.now.items e above c.requires.above
    (shared-front s c.requires.holds orders c.requires.orders e c.requires.entity c.in-Some.front c.in_ok-others.others.items c.in-Some.ensures.within others.rising c.in-Some.ensures.supertypes
    (λ f among. let P : List ℕ → Type 0 = λ es. Contains es f in subst P c.list-list.ensures (others.within f among))
    (λ f among. let P : List ℕ → Type 0 = λ es. Contains es f in let Q : List ℕ → Type 0 = λ es. Contains es f ⊎ (Contains c.in_ok-others.others.items f ⊎ (f ≡ e)) in subst Q c.front.ensures (others.rest f (subst P (sym c.list-list.ensures) among))))
