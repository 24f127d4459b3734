use Rattle.std.proofs.Common.{◌++◌, ◌∷◌, List, ℕ, ap, sym, ◌∙◌}
use Rattle.p21_syntax_words.proofs.Putting.{no-values}
use Rattle.p21_syntax_words.proofs.values.push_first.Goals as goal

pub returns-in_default : goal.returns-in_default
returns-in_default c words =
    let none = no-values (c.args.word.now ∷ words) c.args.values.now c.in_default.ensures.cases in
    let left = no-values words c.args.values.now c.in_default.ensures.cases in
    ap (λ (lines : List ℕ). c.args.out.now.items ++ lines) (none ∙ sym left)
