use Rattle.p21_difference_rows.proofs.Listing.{list-made}
use Rattle.p21_difference_rows.specs.Asked.{left_out_of}
use Rattle.p21_difference_rows.specs.RealNames.{real_name}
use Rattle.p21_difference_rows.specs.Steps.{AddsFirst}
use Rattle.p21_spec_differences.specs.LeftOut.{leaves_out}
use Rattle.std.specs.Prelude.{◌≡◌, ◌↔◌, IsTrue, length}
use Rattle.std.proofs.Common.{List, ℕ, subst, ◌∙◌}
use Rattle.p21_difference_rows.proofs.list.list_of_others.Goals as goal

pub returns : goal.returns
returns c a b are are_ =
    let style = c.args.style.now in
    let left = left_out_of style.left_out in
    let P : List ℕ → Type 0 = λ t. AddsFirst style.form (leaves_out left) t c.push_first.new.text.items in
    let length_is : ℕ → Type 0 = λ n. IsTrue c.is_left_empty-is_empty.result
    ↔ (IsTrue (leaves_out left) × (length c.list_instances.new.rows.text.items ≡ n)) in
    let begin_is = c.len-begin.ensures ∙ c.push_first.new.text.ok.0 in
    list-made style.form style.schema.now (real_name style.names) left a b _ _ _ _ c.is_left_empty-is_empty.result
    (subst P c.new-rows.ensures c.in_ok-push_first.ensures) c.in_ok-list_outlines.ensures
    (c.in_ok-list_instances.ensures a b are are_) (subst length_is begin_is c.is_left_empty-is_empty.ensures)
    c.in_ok-push_end.ensures
