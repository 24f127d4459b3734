use Rattle.std.proofs.Common.{◌≡◌, ℕ, List, IfSome, Some, slice_get, subst}
use Rattle.p21_stream_store.proofs.Interning.{remembered-interned}
use Rattle.p21_stream_store.specs.Memberships.{Membership, membership_of}
use Rattle.p21_stream_store.specs.Numbering.{Interns}
use Rattle.p21_stream_store.proofs.memberships.Memberships.add.Goals as goal

pub returns-then-is_of-clause-ok : goal.returns-then-is_of-clause-ok
returns-then-is_of-clause-ok c =
    let number = c.remembered-guessed.result.0 in
    let row = c.remembered-guessed.result.1 in
    let membership = membership_of c.args.section c.args.entities.now in
    let at = subst (λ (rows : List (ℕ × ℕ)). IfSome row (λ r. slice_get rows number ≡ Some r)) c.deref.ensures.value
    c.remembered-guessed.ensures.row in
    subst (λ (old : List Membership). Interns old membership number old) c.self.view_is
    (remembered-interned c.self.inside.sets c.self.inside.rows.items number row membership at (c.is_of.ensures.section c.if-is_of.true)
    c.remembered-guessed.ensures.set (c.is_of.ensures.some c.if-is_of.true))
