use Rattle.std.specs.Prelude.{◌++◌, ◌∷◌, [], ℕ, List, map, suc}
use Rattle.std.proofs.Common.{ap, sym, ◌∙◌}
use Rattle.std.proofs.lemmas.Result.{IfOk-weaker}
use Rattle.p21_numbering.specs.NodesOf.{row_of_texts}
use Rattle.p21_numbering.specs.Rows.{lent_rows}
use Rattle.p21_numbering.proofs.LabelRows.{row-push}
use Rattle.p21_numbering.proofs.labels.label.Goals as goal

pub returns : goal.returns
returns c =
    IfOk-weaker c.with_text.result _ _ (λ row is.
    is
    ∙ ap (λ (xs : List ℕ). xs ++ (map suc c.args.text.now ++ (0 ∷ [])))
    (c.in_ok-row.ensures ∙ ap (λ (xs : List ℕ). xs ++ row_of_texts (lent_rows c.args.heading.now)) c.in_ok-room.ensures.items)
    ∙ sym (row-push (lent_rows c.args.heading.now) c.args.text.now)) c.with_text.ensures
