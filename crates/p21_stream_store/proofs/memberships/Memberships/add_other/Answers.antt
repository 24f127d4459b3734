use Rattle.std.proofs.Common.{◌≡◌, ℕ, List, IfSome, Some, ap, length, slice_get, subst, sym, ◌∙◌}
use Rattle.p21_mapping_values.specs.TypedView.{ids_view}
use Rattle.p21_stream_store.proofs.Interning.{membership-interned, memberships-stay, remembered-interned, sets-more, sets-stay}
use Rattle.p21_stream_store.specs.Memberships.{HaveSets, Membership, membership_of, memberships_in}
use Rattle.p21_stream_store.specs.Numbering.{Interns}
use Rattle.p21_stream_store.proofs.memberships.Memberships.add_other.Goals as goal

pub returns-in-Err-intern-clause-err : goal.returns-in-Err-intern-clause-err
returns-in-Err-intern-clause-err c =
    ap (memberships_in c.set_of.new.sets) c.in-Err-intern.ensures.err
    ∙ memberships-stay c.self.inside.sets c.set_of.new.sets (ids_view c.args.entities.now) c.in-Ok.set c.in-Ok.ensures.ok
    c.self.inside.rows.items c.self.invariant.1 ∙ c.self.view_is

pub returns-then-is_of-clause-ok : goal.returns-then-is_of-clause-ok
returns-then-is_of-clause-ok c =
    let number = c.remembered-guessed.result.0 in
    let row = c.remembered-guessed.result.1 in
    let membership = membership_of c.args.section c.args.entities.now in
    let at = subst (λ (rows : List (ℕ × ℕ)). IfSome row (λ r. slice_get rows number ≡ Some r)) c.deref.ensures.value
    c.remembered-guessed.ensures.row in
    subst (λ (old : List Membership). Interns old membership number old) c.self.view_is
    (remembered-interned c.self.inside.sets c.self.inside.rows.items number row membership at (c.is_of.ensures.section c.if-is_of.true)
    c.remembered-guessed.ensures.set (c.is_of.ensures.some c.if-is_of.true))

pub invariant_of-self-in-Err-intern : goal.invariant_of-self-in-Err-intern
invariant_of-self-in-Err-intern c = (
  c.in-Err-intern.ensures.numbered,
  subst (HaveSets (length c.set_of.new.sets)) (sym c.in-Err-intern.ensures.err)
      (sets-stay c.self.inside.sets c.set_of.new.sets (ids_view c.args.entities.now) c.in-Ok.set c.in-Ok.ensures.ok c.self.inside.rows.items
      c.self.invariant.1),
)

pub invariant_of-self-2 : goal.invariant_of-self-2
invariant_of-self-2 c = (
  c.in-Ok-intern.ensures.numbered,
  sets-more c.self.inside.sets c.set_of.new.sets (ids_view c.args.entities.now) c.in-Ok.set c.in-Ok.ensures.ok c.self.inside.rows.items
      c.intern.new.rows.items c.args.section c.in-Ok-intern.number c.self.invariant.1 c.in-Ok-intern.ensures.ok,
)

pub returns-clause-ok : goal.returns-clause-ok
returns-clause-ok c =
    subst (λ (old : List Membership). Interns old (membership_of c.args.section c.args.entities.now) c.in-Ok-intern.number
    (memberships_in c.set_of.new.sets c.intern.new.rows.items)) c.self.view_is
    (membership-interned c.self.inside.sets c.set_of.new.sets (ids_view c.args.entities.now) c.in-Ok.set c.in-Ok.ensures.ok
    c.self.inside.rows.items c.intern.new.rows.items c.args.section c.in-Ok-intern.number c.are_once.ensures c.self.invariant.1
    c.in-Ok-intern.ensures.ok)
