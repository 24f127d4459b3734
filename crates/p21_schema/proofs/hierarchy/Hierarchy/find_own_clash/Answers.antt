use Rattle.std.specs.Prelude.{◌≡◌, ℕ, List, take, true, false, refl}
use Rattle.std.proofs.Common.{ap, sym, subst, get_or, ◌∙◌}
use Rattle.std.proofs.lemmas.Bool.{MatchBool-at_true, MatchBool-at_false}
use Rattle.std.proofs.lemmas.List.{take_all}
use Rattle.p21_spec_schema.specs.OneOf.{Clashes}
use Rattle.p21_express_graph.specs.Orders.{numbers}
use Rattle.p21_express_graph.proofs.Gatherings.{numbered-at}
use Rattle.p21_express_graph.proofs.Lookups.{numbers-more}
use Rattle.p21_schema.specs.NotedEntities.{AreNoted, noted_in}
use Rattle.p21_schema.proofs.hierarchy.Hierarchy.find_own_clash.Goals as goal
use Rattle.p21_schema.proofs.HeldLists.{notes-none, notes-further}
use Rattle.p21_schema.proofs.Noted.{clash-of, prefix-in, noted_none, no-clash}

pub loop-entity-init : goal.loop-entity-init
loop-entity-init c = (
  noted_none c.args.self.now (noted_in c.args.holders.now.of_lists.items c.args.set.0) c.requires.none,
  notes-none
      c.args.set.0 c.args.holders.now.of_lists.items,
)

pub is_beside-requires : goal.is_beside-requires
is_beside-requires c = c.loop-entity.invariant.1.size ∙ c.requires.size

pub returns-then-is_beside-clause-clash : goal.returns-then-is_beside-clause-clash
returns-then-is_beside-clause-clash c =
    let s = c.args.self.now in
    let entities = c.order_of-entity-items.result.now in
    let k : ℕ = c.loop-entity.entity-index in
    let e : ℕ = (get_or entities k record { 0 = 0 }).0 in
    let seen : List ℕ = numbers (take k entities) in
    let clash = MatchBool-at_true _ _ c.if-is_beside.true (c.is_beside.ensures.clash seen c.loop-entity.invariant.0) in
    let P : List ℕ → Type 0 = λ es. Clashes s es in (
      λ yes. subst P c.order_of-entity-items.ensures (clash-of s (numbers entities) seen e (prefix-in (λ x. x.0) entities k)
          (numbered-at (λ x. x.0) entities k record { 0 = 0 } c.loop-entity-test.true) clash),
      λ any. refl,
    )

pub returns-then-is_beside-clause-noted : goal.returns-then-is_beside-clause-noted
returns-then-is_beside-clause-noted c = notes-further c.args.set.0 c.args.holders.now.of_lists.items c.loop-entity.holders.of_lists.items
    c.is_beside.new.holders.of_lists.items c.loop-entity.invariant.1 c.is_beside.ensures.noted

pub loop-entity-preserved : goal.loop-entity-preserved
loop-entity-preserved c =
    let entities = c.order_of-entity-items.result.now in
    let k : ℕ = c.loop-entity.entity-index in
    let P : List ℕ → Type 0 = λ es. AreNoted c.args.self.now es (noted_in c.is_beside.new.holders.of_lists.items c.args.set.0) in (
      subst P (sym (numbers-more (λ x. x.0) entities k record { 0 = 0 } c.loop-entity-test.true))
          (MatchBool-at_false _ _ c.if-is_beside.false (c.is_beside.ensures.clash (numbers (take k entities)) c.loop-entity.invariant.0)),
      notes-further c.args.set.0 c.args.holders.now.of_lists.items c.loop-entity.holders.of_lists.items
          c.is_beside.new.holders.of_lists.items c.loop-entity.invariant.1 c.is_beside.ensures.noted,
    )

pub returns-clause-clash : goal.returns-clause-clash
returns-clause-clash c =
    let s = c.args.self.now in
    let entities = c.order_of-entity-items.result.now in
    let find = noted_in c.loop-entity.holders.of_lists.items c.args.set.0 in
    let P : List ℕ → Type 0 = λ es. AreNoted s es find in
    let Q : List ℕ → Type 0 = λ es. AreNoted s es find in
    let held = subst Q c.order_of-entity-items.ensures
    (subst P (ap numbers (take_all c.loop-entity.entity-index entities c.loop-entity-test.false)) c.loop-entity.invariant.0) in
    (λ no. let t : false ≡ true = no in cc, λ clash. absurd (no-clash s _ find held clash))
