use Rattle.std.proofs.Common.{List, ℕ, ◌++◌, ◌∙◌, ap, subst}
use Rattle.p21_difference_rows.proofs.Listing.{same-made}
use Rattle.p21_difference_rows.specs.Asked.{left_out_of}
use Rattle.p21_difference_rows.specs.Steps.{AddsFirst}
use Rattle.p21_spec_differences.specs.LeftOut.{leaves_out}
use Rattle.p21_difference_rows.proofs.list.list_of_same.Goals as goal

pub returns : goal.returns
returns c =
    let style = c.args.style.now in
    let left = left_out_of style.left_out in
    let first = c.push_first.new.text.items in
    let P : List ℕ → Type 0 = λ t. AddsFirst style.form (leaves_out left) t first in
    same-made style.form left first _ (subst P c.new-text.ensures.items c.in_ok-push_first.ensures)
    (c.in_ok-push.ensures ∙ ap (λ (line : List ℕ). first ++ line) c.same_line.ensures)
