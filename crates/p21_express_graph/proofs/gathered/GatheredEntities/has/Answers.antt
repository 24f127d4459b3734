use Rattle.std.specs.Prelude.{◌≡◌, ◌<◌, length, true, false}
use Rattle.std.proofs.Common.{arith, ap, inl, inr}
use Rattle.std.proofs.lemmas.Bool.{cases_lt}
use Rattle.p21_express_graph.proofs.gathered.GatheredEntities.has.Goals as goal
use Rattle.p21_express_graph.proofs.Gatherings.{has-some, has-nothing, read-some, read-none}

pub returns-in-Some : goal.returns-in-Some
returns-in-Some c =
    let below : c.args.entity.0 < length c.self.inside.places.items = (let n = ap (λ v. v.count) c.self.view_is in omega (arith, n, c.requires)) in
    rw (← c.self.view_is) (has-some (λ e. e.0) c.self.inside.places.items c.self.inside.all.items c.args.entity.0 c.self.invariant c.in-Some.found.now
    (read-some c.self.inside.all.items c.deref.result.now c.self.inside.places.items c.args.entity.0 c.index.result.now c.deref.ensures.value c.index.ensures below c.in-Some.found.now c.in-Some.ensures.lookup.3.0 c.in-Some.ensures.lookup.1))

pub returns-in-None : goal.returns-in-None
returns-in-None c =
    let below : c.args.entity.0 < length c.self.inside.places.items = (let n = ap (λ v. v.count) c.self.view_is in omega (arith, n, c.requires)) in
    rw (← c.self.view_is) (has-nothing (λ e. e.0) c.self.inside.places.items c.self.inside.all.items c.args.entity.0 c.self.invariant
    (read-none c.self.inside.all.items c.deref.result.now c.self.inside.places.items c.args.entity.0 c.index.result.now c.deref.ensures.value c.index.ensures below (elim (cases_lt c.index.result.now (length c.deref.result.now)) [ inl h ↦ (let t : false ≡ true = c.in-None.ensures.lookup.2 h in cc) | inr h ↦ h ])))
