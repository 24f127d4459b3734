use Rattle.std.proofs.Common.{◌≡◌, ℕ, Some, refl, rules, subst}
use Rattle.p21_differences.specs.About.{FindsName}
use Rattle.p21_differences.proofs.changes.first_name.Goals as goal

pub returns-in-Some : goal.returns-in-Some
returns-in-Some c =
    let same : c.in-Some.name ≡ c.name.inside.0 = search rules in
    let P : ℕ → Type 0 = λ n. FindsName c.args.accepted.now.kept c.args.least (Some n) in
    subst P same (c.in-Some.ensures.from, c.in-Some.ensures.between)

pub returns-in-None : goal.returns-in-None
returns-in-None c = c.in-None.ensures.none refl
