use Rattle.std.proofs.Common.{◌≡◌, ℕ, List, map, subst}
use Rattle.p21_model_uses.proofs.Grouped.{told-groups}
use Rattle.p21_model_uses.specs.Tables.{told_by, user_and_place}
use Rattle.p21_model_uses.proofs.table.UseTable.of_ordered.Goals as goal

pub returns-clause-table : goal.returns-clause-table
returns-clause-table c =
    let rows = c.args.rows.now in
    let references = c.in_ok-references.references.items in
    let told = subst (λ (us : List ℕ). map (told_by us c.in_ok-places.places.items) references ≡ map user_and_place rows)
    c.deref.ensures.value
    (subst (λ (ps : List (ℕ × ℕ)). map (told_by c.deref.result.now ps) references ≡ map user_and_place rows) c.deref-2.ensures.value
    c.in_ok-references.ensures.told) in
    told-groups c.in_ok-users.users.items c.in_ok-places.places.items references rows c.in_ok-used.used.items told
    c.in_ok-used.ensures.groups
