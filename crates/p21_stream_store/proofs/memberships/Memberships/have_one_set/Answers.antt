use Rattle.std.proofs.Common.{◌≡◌, ℕ, List, Some, length, refl, slice_get, subst}
use Rattle.std.proofs.lemmas.Bool.{eqb-true}
use Rattle.std.proofs.lemmas.Option.{slice_get_read}
use Rattle.p21_stream_store.proofs.Interning.{one-set}
use Rattle.p21_stream_store.specs.Memberships.{HaveOneSet, Membership}
use Rattle.p21_stream_store.proofs.memberships.Memberships.have_one_set.Goals as goal

pub returns : goal.returns
returns c = λ same.
    let first = c.deref.result.now in
    let second = c.deref-2.result.now in
    let row = c.in-Some-Some.row.now in
    let its_row = c.in-Some-Some.its_row.now in
    let own = slice_get_read first (length first) c.args.number row refl c.in-Some-Some.ensures.lookup.3.0
    c.in-Some-Some.ensures.lookup.1 in
    let its = slice_get_read second (length second) c.args.other its_row refl c.in-Some-Some.ensures'.lookup.3.0
    c.in-Some-Some.ensures'.lookup.1 in
    subst (λ (all : List Membership). HaveOneSet all c.args.number c.args.other) c.self.view_is
    (one-set c.self.inside.sets c.self.inside.rows.items c.args.number c.args.other row its_row
    (subst (λ (rows : List (ℕ × ℕ)). slice_get rows c.args.number ≡ Some row) c.deref.ensures.value own)
    (subst (λ (rows : List (ℕ × ℕ)). slice_get rows c.args.other ≡ Some its_row) c.deref-2.ensures.value its)
    (eqb-true row.1 its_row.1 same))
