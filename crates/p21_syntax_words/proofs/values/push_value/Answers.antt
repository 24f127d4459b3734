use Rattle.std.proofs.Common.{◌≡◌, ◌++◌, List, OnOk, ℕ, subst}
use Rattle.p21_syntax_words.proofs.Putting.{list-lines}
use Rattle.p21_syntax_words.proofs.values.push_value.Goals as goal

pub returns-in-List : goal.returns-in-List
returns-in-List c =
    subst (λ (lines : List ℕ). OnOk c.push_strings.result (c.push_strings.new.out.items ≡ c.args.out.now.items ++ lines))
    (list-lines c.args.word.now c.args.value.now c.in-List.values c.items.result.now c.in-List.is c.items.ensures) c.push_strings.ensures
