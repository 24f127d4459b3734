use Rattle.std.specs.Prelude.{◌≡◌, ◌<◌, ◌+◌, false, true, ℕ, List, [], ◌∷◌, ◌++◌, length, drop, refl}
use Rattle.std.proofs.Common.{arith, ap, sym, ◌∙◌, subst}
use Rattle.std.proofs.lemmas.List.{at_drop_all}
use Rattle.p21_express_outline.specs.Outline.{digest_redeclared_names}
use Rattle.p21_express.proofs.Explicit.{redeclared-at}
use Rattle.p21_express.proofs.redeclared.has_redeclared.Goals as goal

pub returns-in-Redeclared : goal.returns-in-Redeclared
returns-in-Redeclared c =
    let names = c.args.names.now in
    let rest = digest_redeclared_names (drop (c.loop-name.name-index + 1) names) in
    let all = sym c.loop-name.invariant ∙ redeclared-at names c.loop-name.name-index c.name-item.result c.loop-name-test.true c.name-item.is
    ∙ ap (λ x. digest_redeclared_names (x ∷ []) ++ rest) c.in-Redeclared.is in
    let P : List (List ℕ × List ℕ) → Type 0 = λ ds. 0 < length ds in
    ((λ _. subst P (sym all) (omega arith)), (λ _. refl))

pub returns : goal.returns
returns c =
    let none = sym c.loop-name.invariant ∙ at_drop_all digest_redeclared_names c.args.names.now c.loop-name.name-index
    c.loop-name-test.false in
    let P : List (List ℕ × List ℕ) → Type 0 = λ ds. 0 < length ds in
    ((λ no. let t : false ≡ true = no in cc), (λ some. absurd (omega (arith, subst P none some))))

pub loop-name-preserved : goal.loop-name-preserved
loop-name-preserved c =
    let names = c.args.names.now in
    let rest = digest_redeclared_names (drop (c.loop-name.name-index + 1) names) in
    sym (redeclared-at names c.loop-name.name-index c.name-item.result c.loop-name-test.true c.name-item.is
    ∙ ap (λ x. digest_redeclared_names (x ∷ []) ++ rest) c.in-Own.is) ∙ c.loop-name.invariant
