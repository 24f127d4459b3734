use Rattle.std.proofs.Common.{◌≡◌, ◌<◌, ℕ, List, Some, length, refl, slice_get, subst, sym}
use Rattle.std.proofs.lemmas.Option.{slice_get_read}
use Rattle.p21_mapping_values.specs.TypedView.{ids_view}
use Rattle.p21_stream_store.proofs.SetNumbers.{count-sets, set-at}
use Rattle.p21_stream_store.proofs.entity_sets.EntitySets.get.Goals as goal

pub returns : goal.returns
returns c =
    let all = c.self.inside.all.items in
    let within = subst (λ (sets : List (List ℕ)). c.args.number < length sets) (sym c.self.view_is) c.requires in
    let below : c.args.number < length all = subst (λ (n : ℕ). c.args.number < n) (count-sets all) within in
    let at = slice_get_read all (length all) c.args.number c.index.result.now refl below c.index.ensures in
    subst (λ (sets : List (List ℕ)). slice_get sets c.args.number ≡ Some (ids_view c.as_slice.result.now)) c.self.view_is
    (set-at all c.args.number c.index.result.now c.as_slice.result.now at c.as_slice.ensures.value)
