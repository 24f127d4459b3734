use Rattle.std.proofs.Common.{List, ℕ, ◌++◌, ◌∙◌, ap, sym}
use Rattle.std.proofs.lemmas.Result.{on_ok_weaker}
use Rattle.p21_difference_rows.proofs.Adding.{no-first, one-first}
use Rattle.p21_difference_rows.proofs.list.push_first.Goals as goal

pub returns-then-not-leaves_out : goal.returns-then-not-leaves_out
returns-then-not-leaves_out c = no-first c.args.style.now.form _ c.args.text.now.items (sym c.leaves_out.ensures ∙ c.if-not-leaves_out.true)

pub returns : goal.returns
returns c =
    let is = c.in_ok-push.ensures ∙ ap (λ (t : List ℕ). c.args.text.now.items ++ t) c.first_front.ensures in
    on_ok_weaker c.push_rest.result (λ adds. one-first c.args.style.now.form _ c.args.text.now.items _ _
    (sym c.leaves_out.ensures ∙ c.if-not-leaves_out.false) is adds) c.push_rest.ensures
