use Rattle.std.specs.Prelude.{◌≡◌, ◌<◌, ◌+◌, false, true, ℕ, List, [], ◌∷◌, ◌++◌, length, drop, refl}
use Rattle.std.proofs.Common.{arith, ap, sym, ◌∙◌, subst}
use Rattle.std.proofs.lemmas.List.{at_drop_all}
use Rattle.p21_express_outline.specs.Outline.{digest_own_names}
use Rattle.p21_express_outline.proofs.Adding.{own-at}
use Rattle.p21_express_outline.proofs.attributes.has_own.Goals as goal

pub returns-in-Own : goal.returns-in-Own
returns-in-Own c =
    let names = c.args.names.now in
    let rest = digest_own_names (drop (c.loop-name.name-index + 1) names) in
    let all : digest_own_names names ≡ c.in-Own._name ∷ rest =
    sym c.loop-name.invariant ∙ own-at names c.loop-name.name-index c.name-item.result c.loop-name-test.true c.name-item.is
    ∙ ap (λ x. digest_own_names (x ∷ []) ++ rest) c.in-Own.is in
    let P : List (List ℕ) → Type 0 = λ ds. 0 < length ds in
    ((λ _. subst P (sym all) (omega arith)), (λ _. refl))

pub returns : goal.returns
returns c =
    let none = sym c.loop-name.invariant ∙ at_drop_all digest_own_names c.args.names.now c.loop-name.name-index c.loop-name-test.false in
    let P : List (List ℕ) → Type 0 = λ ds. 0 < length ds in
    ((λ no. let t : false ≡ true = no in cc), (λ some. absurd (omega (arith, subst P none some))))

pub loop-name-preserved : goal.loop-name-preserved
loop-name-preserved c =
    let names = c.args.names.now in
    let rest = digest_own_names (drop (c.loop-name.name-index + 1) names) in
    sym (own-at names c.loop-name.name-index c.name-item.result c.loop-name-test.true c.name-item.is
    ∙ ap (λ x. digest_own_names (x ∷ []) ++ rest) c.in-Redeclared.is) ∙ c.loop-name.invariant
