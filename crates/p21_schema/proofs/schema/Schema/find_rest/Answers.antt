use Rattle.std.specs.Prelude.{◌≡◌, ◌↔◌, ◌⊎◌, ◌<◌, ℕ, List, Some, Contains, length, slice_get, refl}
use Rattle.std.proofs.Common.{arith, subst}
use Rattle.std.proofs.lemmas.Option.{slice_get_read}
use Rattle.p21_spec_basics.proofs.Members.{Contains-found}
use Rattle.p21_express_graph.proofs.OrderTables.{are-entities}
use Rattle.p21_schema.proofs.Ascents.{found-kept, found-many, found-within, goes-on, stays, up-all, up-more, up-none}
use Rattle.p21_schema.proofs.schema.Schema.find_rest.Goals as goal

pub loop-at-init : goal.loop-at-init
loop-at-init c = (stays c.args.ascent.now c.requires.ascends, up-none c.args.self.now c.args.ascent.now.above.items)

pub returns-then-at-len-clause-kept : goal.returns-then-at-len-clause-kept
returns-then-at-len-clause-kept c = found-kept c.args.ascent.now c.loop-at.ascent c.loop-at.invariant.0

pub returns-then-at-len-clause-closed : goal.returns-then-at-len-clause-closed
returns-then-at-len-clause-closed c = up-all c.args.self.now c.args.ascent.now.above.items c.loop-at.ascent.above.items c.loop-at.at
    c.loop-at.invariant.1 (omega (arith, c.if-at-len.true, c.len.ensures, c.loop-at.ascent.above.ok.0))

pub supertypes-requires : goal.supertypes-requires
supertypes-requires c =
    let now = c.loop-at.ascent in
    let e : ℕ = c.index.result.now in
    let low : c.loop-at.at < length now.above.items = omega (arith, c.if-at-len.false, c.len.ensures, now.above.ok.0) in
    let at : slice_get now.above.items c.loop-at.at ≡ Some e =
    slice_get_read now.above.items (length now.above.items) c.loop-at.at e refl low c.index.ensures in
    let below = found-within now c.loop-at.invariant.0.ascends e (Contains-found now.above.items c.loop-at.at e at) in
    omega (arith, below, c.loop-at.invariant.0.size, c.requires.size)

pub add-requires-clause-within : goal.add-requires-clause-within
add-requires-clause-within c f among =
    let P : List ℕ → Type 0 = λ fs. Contains fs f in
    let below = are-entities c.args.self.now c.holds_together.ensures c.index.result.now f (subst P c.supertypes.ensures among) in
    omega (arith, below, c.loop-at.invariant.0.size, c.requires.size)

pub loop-at-preserved : goal.loop-at-preserved
loop-at-preserved c =
    let old = c.args.ascent.now in
    let now = c.loop-at.ascent in
    let new = c.add.new.self in
    let e : ℕ = c.index.result.now in
    let low : c.loop-at.at < length now.above.items = omega (arith, c.if-at-len.false, c.len.ensures, now.above.ok.0) in
    let at : slice_get now.above.items c.loop-at.at ≡ Some e =
    slice_get_read now.above.items (length now.above.items) c.loop-at.at e refl low c.index.ensures in
    let P : List ℕ → Type 0 = λ fs. (f : ℕ) → Contains new.above.items f ↔ (Contains now.above.items f ⊎ Contains fs f) in (
      goes-on old now new c.loop-at.invariant.0 c.in_ok-add.ensures.goes_on,
      up-more c.args.self.now old.above.items now.above.items new.above.items c.in_ok-add.ensures.goes_on.begins.0 c.loop-at.at e
          c.loop-at.invariant.1 at c.in_ok-add.ensures.goes_on.begins.1 (subst P c.supertypes.ensures c.in_ok-add.ensures.found),
    )

pub returns-clause-kept : goal.returns-clause-kept
returns-clause-kept c = found-kept c.args.ascent.now c.loop-at.ascent c.loop-at.invariant.0

pub returns-clause-closed : goal.returns-clause-closed
returns-clause-closed c =
    let many = found-many c.loop-at.ascent c.loop-at.invariant.0.ascends in
    up-all c.args.self.now c.args.ascent.now.above.items c.loop-at.ascent.above.items c.loop-at.at c.loop-at.invariant.1
    (omega (arith, many, c.loop-at.invariant.0.size, c.requires.size, c.loop-at-test.false, c.entities-at-end.ensures))
