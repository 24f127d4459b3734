use Rattle.std.specs.Prelude.{ℕ, List, ◌↔◌, ◌⊎◌, Contains, take}
use Rattle.std.proofs.Common.{arith, ap, sym, subst, get_or}
use Rattle.std.proofs.lemmas.List.{take_all}
use Rattle.p21_express_graph.specs.Orders.{numbers}
use Rattle.p21_express_graph.proofs.Gatherings.{numbered-at}
use Rattle.p21_express_graph.proofs.Lookups.{numbers-more}
use Rattle.p21_express_graph.proofs.OrderTables.{are-entities}
use Rattle.p21_schema.proofs.Ascents.{HasBelow, goes-on, next-more}
use Rattle.p21_schema.proofs.schema.Schema.find_next.Goals as goal

pub supertypes-requires : goal.supertypes-requires
supertypes-requires c = c.requires.entities _ (numbered-at (λ e. e.0) c.args.entities.now c.loop-entity.entity-index record { 0 = 0 }
    c.loop-entity-test.true)

pub add-requires-clause-within : goal.add-requires-clause-within
add-requires-clause-within c f among =
    let e : ℕ = (get_or c.args.entities.now c.loop-entity.entity-index record { 0 = 0 }).0 in
    let P : List ℕ → Type 0 = λ fs. Contains fs f in
    let below = are-entities c.args.self.now c.holds_together.ensures e f (subst P c.supertypes.ensures among) in
    omega (arith, below, c.loop-entity.invariant.0.size, c.requires.size)

pub loop-entity-preserved : goal.loop-entity-preserved
loop-entity-preserved c =
    let s = c.args.self.now in
    let old = c.args.ascent.now in
    let now = c.loop-entity.ascent in
    let new = c.add.new.self in
    let k : ℕ = c.loop-entity.entity-index in
    let e : ℕ = (get_or c.args.entities.now k record { 0 = 0 }).0 in
    let P : List ℕ → Type 0 = λ es. (f : ℕ) → Contains new.above.items f ↔ (Contains old.above.items f ⊎ HasBelow s es f) in
    let Q : List ℕ → Type 0 = λ fs. (f : ℕ) → Contains new.above.items f ↔ (Contains now.above.items f ⊎ Contains fs f) in (
      goes-on old now new c.loop-entity.invariant.0 c.in_ok-add.ensures.goes_on,
      subst P (sym (numbers-more (λ x. x.0) c.args.entities.now k record { 0 = 0 } c.loop-entity-test.true))
          (next-more s old.above.items now.above.items new.above.items (numbers (take k c.args.entities.now)) e c.loop-entity.invariant.1
          (subst Q c.supertypes.ensures c.in_ok-add.ensures.found)),
    )

pub returns-clause-found : goal.returns-clause-found
returns-clause-found c =
    let P : List ℕ → Type 0 = λ es. (f : ℕ) → Contains c.loop-entity.ascent.above.items f
    ↔ (Contains c.args.ascent.now.above.items f ⊎ HasBelow c.args.self.now es f) in
    subst P (ap numbers (take_all c.loop-entity.entity-index c.args.entities.now c.loop-entity-test.false)) c.loop-entity.invariant.1
