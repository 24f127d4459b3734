use Rattle.std.proofs.Common.{List, ℕ, ◌++◌, ◌∙◌, ap}
use Rattle.std.proofs.lemmas.Result.{on_ok_weaker}
use Rattle.p21_difference_rows.proofs.Adding.{one-added}
use Rattle.p21_difference_rows.specs.Fronts.{front}
use Rattle.p21_difference_rows.specs.Asked.{left_out_of}
use Rattle.p21_difference_rows.specs.RealNames.{real_name}
use Rattle.p21_difference_rows.proofs.rows.put.Goals as goal

pub returns : goal.returns
returns c =
    let s = c.args.style.now.schema.now in
    let is = c.in_ok-push_front.ensures ∙ ap (λ (t : List ℕ). t
    ++ front c.args.style.now.form s (real_name c.args.style.now.names) c.args.subject.now) c.count.ensures in
    on_ok_weaker c.push_rest.result (λ adds. one-added c.args.style.now.form s (real_name c.args.style.now.names)
    (left_out_of c.args.style.now.left_out) c.args.subject.now c.args.rows.now.text.items _ _ c.requires.may_stand is adds)
    c.push_rest.ensures
