use Rattle.std.specs.Prelude.{◌≡◌, ◌↔◌, ◌≤◌, ℕ, List, [], length, Contains, true, false}
use Rattle.std.proofs.Common.{arith, ap, sym, ◌∙◌, subst, inl, inr}
use Rattle.std.proofs.lemmas.Bool.{cases_lt}
use Rattle.std.specs.List.Sorted.{IsStrictlyIncreasing}
use Rattle.p21_spec_schema.specs.Schema.{Schema}
use Rattle.p21_express_graph.specs.SettledOrder.{lists_of, nexts_of}
use Rattle.p21_express_graph.proofs.Gatherings.{mapped-length}
use Rattle.p21_express_graph.proofs.Inverting.{nothing-past}
use Rattle.p21_express_graph.proofs.Walks.{nexts_at}
use Rattle.p21_schema.specs.OneOf.{AreListedIn, IsListedIn}
use Rattle.p21_schema.proofs.hierarchy.Hierarchy.lists_with.Goals as goal

pub returns-in-Some-clause-each : goal.returns-in-Some-clause-each
returns-in-Some-clause-each c k =
    let e : ℕ = c.args.entity.0 in
    let P : Schema → Type 0 = λ s. AreListedIn s (lists_of c.self.inside.tables.listed_in.items) in
    let Q : List ℕ → Type 0 = λ ks. Contains ks k ↔ IsListedIn c.args.self.now k e in
    let same : nexts_of (lists_of c.self.inside.tables.listed_in.items) e ≡ c.deref-in-Some.result.now =
    ap (λ xs. nexts_of (lists_of xs) e) (sym c.deref.ensures.value)
    ∙ nexts_at (λ v. v.items) c.deref.result.now e c.in-Some.lists.now c.deref-in-Some.result.now c.in-Some.ensures.lookup.3.0
    c.in-Some.ensures.lookup.1 c.deref-in-Some.ensures.value in
    subst Q same ((subst P c.self.view_is c.self.invariant.2.listed_are).each e k)

pub returns-in-Some-clause-rising : goal.returns-in-Some-clause-rising
returns-in-Some-clause-rising c =
    let e : ℕ = c.args.entity.0 in
    let same : nexts_of (lists_of c.self.inside.tables.listed_in.items) e ≡ c.deref-in-Some.result.now =
    ap (λ xs. nexts_of (lists_of xs) e) (sym c.deref.ensures.value)
    ∙ nexts_at (λ v. v.items) c.deref.result.now e c.in-Some.lists.now c.deref-in-Some.result.now c.in-Some.ensures.lookup.3.0
    c.in-Some.ensures.lookup.1 c.deref-in-Some.ensures.value in
    subst IsStrictlyIncreasing same (c.self.invariant.2.listed_are.rising e)

pub returns-in-None-clause-each : goal.returns-in-None-clause-each
returns-in-None-clause-each c k =
    let e : ℕ = c.args.entity.0 in
    let P : Schema → Type 0 = λ s. AreListedIn s (lists_of c.self.inside.tables.listed_in.items) in
    let Q : List ℕ → Type 0 = λ ks. Contains ks k ↔ IsListedIn c.args.self.now k e in
    let past : length c.deref.result.now ≤ e = elim (cases_lt e (length c.deref.result.now))
    [ inl h ↦ (let t : false ≡ true = c.in-None.ensures.lookup.2 h in cc) | inr h ↦ h ] in
    let same : nexts_of (lists_of c.self.inside.tables.listed_in.items) e ≡ [] =
    ap (λ xs. nexts_of (lists_of xs) e) (sym c.deref.ensures.value)
    ∙ nothing-past (lists_of c.deref.result.now) e (let n = mapped-length (λ v. v.items) c.deref.result.now in
    omega (arith, n, past)) in
    subst Q same ((subst P c.self.view_is c.self.invariant.2.listed_are).each e k)
