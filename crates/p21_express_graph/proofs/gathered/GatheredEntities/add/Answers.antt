use Rattle.std.specs.Prelude.{◌≡◌, ◌<◌, length, ℕ, List, false, nat_eq}
use Rattle.std.specs.List.{list_any}
use Rattle.std.proofs.Common.{arith, ap, subst, sym, ◌∙◌}
use Rattle.p21_express_graph.proofs.gathered.GatheredEntities.add.Goals as goal
use Rattle.p21_express_graph.proofs.Gatherings.{stored-more}

pub invariant_of-self : goal.invariant_of-self
invariant_of-self c = rw c.in_err-push.ensures.items c.self.invariant

pub invariant_of-self-2 : goal.invariant_of-self-2
invariant_of-self-2 c =
    let below : c.args.entity.0 < length c.self.inside.places.items = (let n = ap (λ v. v.count) c.self.view_is in omega (arith, n, c.requires)) in
    let P : List ℕ → Type 0 = λ xs. false ≡ list_any (nat_eq c.args.entity.0) xs in
    stored-more (λ e. e.0) c.self.inside.places.items c.self.inside.all.items c.push.new.self.items c.args.entity c.len-place.result c.self.invariant
    (subst P (sym (ap (λ v. v.numbers) c.self.view_is)) c.if-has.ensures) below c.in_ok-push.ensures.items (c.len-place.ensures ∙ c.self.inside.all.ok.0)
