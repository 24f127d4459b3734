use Rattle.std.proofs.Common.{◌≡◌, ℕ, List, None, Some, arith, subst, sym}
use Rattle.std.specs.BTreeMap.{get_by}
use Rattle.std.specs.Prelude.{Contains, IfOk, vec_capacity}
use Rattle.p21_express_graph.specs.declared.number.EntityId.{EntityId}
use Rattle.p21_mapping_values.specs.TypedView.{ids_view}
use Rattle.p21_stream_store.proofs.SetNumbers.{room-interned, room-of, room-wider, set-absent, set-found}
use Rattle.p21_stream_store.specs.EntitySets.{HaveRoom, key_items, sets_of}
use Rattle.p21_stream_store.specs.Numbering.{Interns}
use Rattle.p21_stream_store.specs.SetOrder.{by_size}
use Rattle.p21_stream_store.specs.declared.set_key.SetKey.{SetKey}
use Rattle.p21_stream_store.proofs.entity_sets.EntitySets.add.Goals as goal

pub returns-in_default-clause-known : goal.returns-in_default-clause-known
returns-in_default-clause-known c = λ there.
    let within = room-of (vec_capacity c.self.inside.sought) (sets_of c.self.inside.all.items) c.args.entities.now c.self.invariant.1
    (subst (λ (sets : List (List ℕ)). Contains sets (ids_view c.args.entities.now)) (sym c.self.view_is) there) in
    absurd (omega (arith, within, c.in_default.ensures.full))

pub invariant_of-self : goal.invariant_of-self
invariant_of-self c = (
  c.self.invariant.0,
  room-wider (vec_capacity c.self.inside.sought) (vec_capacity c.copy.new.into)
      (sets_of c.self.inside.all.items) c.in_default.ensures.kept c.self.invariant.1,
)

pub returns-in-Some-clause-ok : goal.returns-in-Some-clause-ok
returns-in-Some-clause-ok c =
    let found = subst (λ (es : List EntityId). get_by (λ (k : SetKey). by_size es (key_items k)) c.self.inside.numbers ≡ Some
    c.in-Some.number) c.in-Ok.ensures.ok (sym c.in-Some.ensures.number) in
    subst (λ (sets : List (List ℕ)). Interns sets (ids_view c.args.entities.now) c.in-Some.number (sets_of c.self.inside.all.items))
    c.self.view_is
    (set-found c.self.inside.all.items c.self.inside.numbers c.args.entities.now c.in-Some.number c.self.invariant.0 found)

pub invariant_of-self-in-Some : goal.invariant_of-self-in-Some
invariant_of-self-in-Some c = (
  c.self.invariant.0,
  subst (λ v. HaveRoom (vec_capacity v) (sets_of c.self.inside.all.items)) (sym c.in-Some.ensures.sought)
      (room-wider (vec_capacity c.self.inside.sought) (vec_capacity c.copy.new.into) (sets_of c.self.inside.all.items) c.in-Ok.ensures.kept
      c.self.invariant.1),
)

pub returns-in-None-clause-ok : goal.returns-in-None-clause-ok
returns-in-None-clause-ok c = subst (λ (sets : List (List ℕ)). IfOk c.push.result
    (λ number. Interns sets (ids_view c.args.entities.now) number (sets_of c.push.new.all.items))) c.self.view_is c.push.ensures.ok

pub returns-in-None-clause-known : goal.returns-in-None-clause-known
returns-in-None-clause-known c = λ there.
    let none = subst (λ (es : List EntityId). get_by (λ (k : SetKey). by_size es (key_items k)) c.self.inside.numbers ≡ None)
    c.in-Ok.ensures.ok (sym c.in-None.ensures.number) in
    absurd (set-absent c.self.inside.all.items c.self.inside.numbers c.args.entities.now c.self.invariant.0 none
    (subst (λ (sets : List (List ℕ)). Contains sets (ids_view c.args.entities.now)) (sym c.self.view_is) there))

pub invariant_of-self-in-None : goal.invariant_of-self-in-None
invariant_of-self-in-None c = (
  c.push.ensures.numbered,
  subst (λ v. HaveRoom (vec_capacity v) (sets_of c.push.new.all.items)) (sym c.in-None.ensures.sought)
      (room-interned (vec_capacity c.copy.new.into) c.self.inside.all.items c.push.new.all.items c.args.entities.now c.push.result
      (room-wider (vec_capacity c.self.inside.sought) (vec_capacity c.copy.new.into) (sets_of c.self.inside.all.items) c.in-Ok.ensures.kept
      c.self.invariant.1) c.in-Ok.ensures.room c.push.ensures.ok c.push.ensures.err),
)
