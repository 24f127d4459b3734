use Rattle.std.specs.Prelude.{◌≡◌, ◌+◌, ℕ, List, [], Contains, take, true, false}
use Rattle.std.proofs.Common.{ap, sym, ◌∙◌, subst, get_or}
use Rattle.p21_express_graph.specs.declared.number.EntityId.{EntityId}
use Rattle.p21_spec_schema.specs.Supertype.{LeavesAmong, no_more}
use Rattle.p21_express_graph.specs.Orders.{numbers}
use Rattle.p21_express_graph.proofs.Gatherings.{numbered-at}
use Rattle.p21_express_graph.proofs.Lookups.{leaves-then, leaves-else}
use Rattle.p21_schema.proofs.schema.Schema.leaves.Goals as goal
use Rattle.p21_schema.proofs.schema.Schema.leaves.Goals.{then-not-is_among+in_ok-push, else-not-is_among}
use Rattle.p21_schema.proofs.Above.{leaf-of, no-leaf}

pub loop-entity-init : goal.loop-entity-init
loop-entity-init c = let P : List EntityId → Type 0 = λ xs. LeavesAmong c.args.self.now (numbers c.args.entities.now) [] (numbers xs) in
    subst P (sym c.new-leaves.ensures.items) no_more

pub is_among-requires : goal.is_among-requires
is_among-requires c = rw c.deref.ensures.value c.in_ok-above.ensures.rising

pub loop-entity-preserved : goal.loop-entity-preserved
loop-entity-preserved c =
    let s = c.args.self.now in
    let es = numbers c.args.entities.now in
    let k : ℕ = c.loop-entity.entity-index in
    let e : EntityId = get_or c.args.entities.now k record { 0 = 0 } in
    let among = numbered-at (λ x. x.0) c.args.entities.now k record { 0 = 0 } c.loop-entity-test.true in
    let P : List ℕ → Type 0 = λ xs. Contains xs e.0 in
    elim c.if-not-is_among.branch [
      | then-not-is_among+in_ok-push w ↦
          leaves-then (λ x. x.0) s c.args.entities.now k record { 0 = 0 } c.loop-entity.leaves.items c.if-not-is_among.leaves.items
          c.loop-entity-test.true c.loop-entity.invariant
          (leaf-of s es c.in_ok-above.above.items c.in_ok-above.ensures.above e.0 among
          (λ has. let t : true ≡ false = sym (c.is_among.ensures.1 (subst P (sym c.deref.ensures.value) has))
          ∙ w.if-not-is_among.true in cc))
          (ap (λ v. v.items) w.leaves-is ∙ w.in_ok-push.ensures.items)
      | else-not-is_among w ↦
          let Q : List EntityId → Type 0 = λ xs. LeavesAmong s es (numbers (take (k + 1) c.args.entities.now)) (numbers xs) in
          subst Q (sym (ap (λ v. v.items) w.leaves-is))
          (leaves-else (λ x. x.0) s c.args.entities.now k record { 0 = 0 } c.loop-entity.leaves.items c.loop-entity-test.true
          c.loop-entity.invariant
          (no-leaf s es c.in_ok-above.above.items c.in_ok-above.ensures.above e.0
          (subst P c.deref.ensures.value (c.is_among.ensures.0 w.if-not-is_among.false))))
    ]
