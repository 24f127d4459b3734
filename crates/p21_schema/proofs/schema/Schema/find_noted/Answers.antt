use Rattle.std.specs.Prelude.{◌≡◌, ℕ, List, take, true, false, refl}
use Rattle.std.specs.BTreeMap.{get, is_at}
use Rattle.std.specs.Map.{lookup}
use Rattle.std.specs.Ordering.{nat_cmp}
use Rattle.std.proofs.Common.{ap, sym, subst, get_or}
use Rattle.std.proofs.lemmas.Bool.{MatchBool-at_true, MatchBool-at_false}
use Rattle.std.proofs.lemmas.List.{take_all}
use Rattle.p21_express_graph.specs.Orders.{numbers}
use Rattle.p21_express_graph.proofs.Gatherings.{numbered-at}
use Rattle.p21_express_graph.proofs.Lookups.{numbers-more}
use Rattle.p21_schema.specs.NotedEntities.{AreNoted}
use Rattle.p21_schema.proofs.schema.Schema.find_noted.Goals as goal
use Rattle.p21_schema.proofs.Noted.{clash-of, prefix-in, noted_none, no-clash}

pub loop-entity-init : goal.loop-entity-init
loop-entity-init c = noted_none c.args.self.now (get nat_cmp c.new-holders.result)
    (λ k. ap (lookup (is_at (nat_cmp k))) c.new-holders.ensures.empty)

pub returns-then-beside : goal.returns-then-beside
returns-then-beside c =
    let s = c.args.self.now in
    let es = numbers c.args.entities.now in
    let k : ℕ = c.loop-entity.entity-index in
    let e : ℕ = (get_or c.args.entities.now k record { 0 = 0 }).0 in
    let seen : List ℕ = numbers (take k c.args.entities.now) in
    let clash = MatchBool-at_true _ _ c.if-beside.true (c.in_ok-beside.ensures seen c.loop-entity.invariant) in (
      λ yes. clash-of s es seen e (prefix-in (λ x. x.0) c.args.entities.now k)
          (numbered-at (λ x. x.0) c.args.entities.now k record { 0 = 0 } c.loop-entity-test.true) clash,
      λ any. refl,
    )

pub loop-entity-preserved : goal.loop-entity-preserved
loop-entity-preserved c =
    let k : ℕ = c.loop-entity.entity-index in
    let P : List ℕ → Type 0 = λ es. AreNoted c.args.self.now es (get nat_cmp c.stands_beside.new.holders) in
    subst P (sym (numbers-more (λ x. x.0) c.args.entities.now k record { 0 = 0 } c.loop-entity-test.true))
    (MatchBool-at_false _ _ c.if-beside.false (c.in_ok-beside.ensures (numbers (take k c.args.entities.now)) c.loop-entity.invariant))

pub returns : goal.returns
returns c =
    let P : List ℕ → Type 0 = λ es. AreNoted c.args.self.now es (get nat_cmp c.loop-entity.holders) in
    let held = subst P (ap numbers (take_all c.loop-entity.entity-index c.args.entities.now c.loop-entity-test.false))
    c.loop-entity.invariant in (
      λ no. let t : false ≡ true = no in cc,
      λ clash. absurd
          (no-clash c.args.self.now (numbers c.args.entities.now) (get nat_cmp c.loop-entity.holders) held clash),
    )
