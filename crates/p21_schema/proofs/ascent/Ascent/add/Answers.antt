use Rattle.std.specs.Prelude.{ℕ, List, ◌↔◌, ◌⊎◌, Contains, take}
use Rattle.std.proofs.Common.{arith, ap, sym, subst, get_or}
use Rattle.std.proofs.lemmas.List.{take_all}
use Rattle.p21_express_graph.specs.Orders.{numbers}
use Rattle.p21_express_graph.proofs.Gatherings.{numbered-at}
use Rattle.p21_express_graph.proofs.Lookups.{numbers-more}
use Rattle.p21_schema.proofs.Ascents.{found-more, goes-on}
use Rattle.p21_schema.proofs.ascent.Ascent.add.Goals as goal

pub add_one-requires-clause-within : goal.add_one-requires-clause-within
add_one-requires-clause-within c =
    let below = c.requires.within _ (numbered-at (λ e. e.0) c.args.supertypes.now c.loop-supertype.supertype-index record { 0 = 0 }
    c.loop-supertype-test.true) in
    omega (arith, below, c.loop-supertype.invariant.0.size)

pub loop-supertype-preserved : goal.loop-supertype-preserved
loop-supertype-preserved c =
    let old = c.args.self.now in
    let now = c.loop-supertype.self in
    let new = c.add_one.new.self in
    let k : ℕ = c.loop-supertype.supertype-index in
    let P : List ℕ → Type 0 = λ fs. (f : ℕ) → Contains new.above.items f ↔ (Contains old.above.items f ⊎ Contains fs f) in (
      goes-on old now new c.loop-supertype.invariant.0 c.in_ok-add_one.ensures.goes_on,
      subst P (sym (numbers-more (λ e. e.0) c.args.supertypes.now k record { 0 = 0 } c.loop-supertype-test.true))
          (found-more old.above.items now.above.items new.above.items (numbers (take k c.args.supertypes.now))
          (get_or c.args.supertypes.now k record { 0 = 0 }).0 c.loop-supertype.invariant.1 c.in_ok-add_one.ensures.found),
    )

pub returns-clause-found : goal.returns-clause-found
returns-clause-found c =
    let P : List ℕ → Type 0 = λ fs. (f : ℕ) → Contains c.loop-supertype.self.above.items f
    ↔ (Contains c.args.self.now.above.items f ⊎ Contains fs f) in
    subst P (ap numbers (take_all c.loop-supertype.supertype-index c.args.supertypes.now c.loop-supertype-test.false))
    c.loop-supertype.invariant.1
