use Rattle.std.proofs.Common.{◌≡◌, ◌≤◌, ◌∙◌, ◌++◌, ℕ, List, length, ap, arith, sym, subst}
use Rattle.p21_spec_basics.specs.Limits.{text_limit}
use Rattle.p21_spec_exchange.specs.Spelling.{spelling}
use Rattle.p21_tokens.proofs.OneScalar.{answer-of, refusal_of, spelled-in}
use Rattle.p21_tokens.specs.Parameter.{IsAnswer}
use Rattle.p21_tokens.specs.Token.{meant}
use Rattle.p21_tokens.proofs.param.canonical_param.Goals as goal

pub returns : goal.returns
returns c =
    let token = meant c.in-Ok.token in
    let held = c.in-Ok.ensures {u = tt} in
    let long = c.if-text-gt-LONGEST_PARAMETER.false in
    let within : length c.args.text.now ≤ text_limit = omega arith in
    let answer : c.write_canonical.new.out.items ≡ spelling token = (c.in_ok-write_canonical.ensures {u = tt}).ok ∙ ap (λ (x : List ℕ). x ++ spelling token) c.new-answer.ensures.items in
    subst (λ (x : List ℕ). IsAnswer c.args.text.now x) (sym answer) (answer-of c.args.text.now token within held (spelled-in c.args.text.now token held.1))

pub returns-in-Err : goal.returns-in-Err
returns-in-Err c =
    let long = c.if-text-gt-LONGEST_PARAMETER.false in
    let within : length c.args.text.now ≤ text_limit = omega arith in
    refusal_of c.args.text.now c.in-Err.fault within (c.in-Err.ensures {u = tt})
