use Rattle.std.proofs.Common.{◌++◌, List, ℕ, ap, ◌∙◌, append_assoc}
use Rattle.std.proofs.lemmas.Result.{err_from_is_err_and}
use Rattle.p21_values.proofs.text.append.Goals as goal

pub returns-in_err-append_character-clause-err : goal.returns-in_err-append_character-clause-err
returns-in_err-append_character-clause-err c =
    let p = err_from_is_err_and c.from_residual-in_err-append_character.result c.from_residual-in_err-append_character.ensures.1 in
    let (tail, is) = c.in_err-append_character.ensures.err in
    rw p.1 (_, is ∙ ap (λ (bytes : List ℕ). bytes ++ tail) c.loop-character.invariant ∙ append_assoc c.args.out.now.items _ tail)

pub returns-in_err-push-2-clause-err : goal.returns-in_err-push-2-clause-err
returns-in_err-push-2-clause-err c =
    let p = err_from_is_err_and c.from_residual-in_err-push-2.result c.from_residual-in_err-push-2.ensures.1 in
    rw p.1 (_, c.in_err-push-2.ensures.items ∙ c.loop-character.invariant)
