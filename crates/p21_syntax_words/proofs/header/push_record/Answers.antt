use Rattle.std.proofs.Common.{◌≡◌, ◌++◌, List, OnOk, ℕ, subst, sym, ◌∙◌}
use Rattle.p21_syntax_words.proofs.Putting.{file_name-lines}
use Rattle.p21_syntax_words.proofs.header.push_record.Goals as goal

pub returns-then-is_keyword-2 : goal.returns-then-is_keyword-2
returns-then-is_keyword-2 c =
    let another = sym c.is_keyword.ensures ∙ c.if-is_keyword.false in
    let second = sym c.is_keyword-2.ensures ∙ c.if-is_keyword-2.true in
    subst (λ (lines : List ℕ). OnOk c.push_file_name.result (c.push_file_name.new.out.items ≡ c.args.out.now.items ++ lines))
    (file_name-lines c.args.part.now c.items-then-is_keyword-2.result.now another second c.items-then-is_keyword-2.ensures) c.push_file_name.ensures
