use Rattle.std.proofs.Common.{[], ◌∙◌, arith, ap, refl}
use Rattle.std.proofs.lemmas.List.{get_or_default}
use Rattle.p21_model_uses.proofs.Named.{found-at, none-named-so}
use Rattle.p21_model_uses.specs.declared.groups.Used.{Used}
use Rattle.p21_model_uses.proofs.table.named.Goals as goal

pub returns-in_default : goal.returns-in_default
returns-in_default c users places table =
    none-named-so users places c.args.references.now c.args.used.now c.args.name c.first_from-at.result [] table c.first_from-at.ensures
    (λ inside d. absurd (omega (arith, inside, c.in_default.ensures.lookup.3))) refl

pub returns-then-group-name : goal.returns-then-group-name
returns-then-group-name c users places table =
    none-named-so users places c.args.references.now c.args.used.now c.args.name c.first_from-at.result [] table c.first_from-at.ensures
    (λ inside d same. c.if-group-name.true (ap (λ (u : Used). u.name)
    (c.in-Some.ensures.lookup.1 ∙ get_or_default c.args.used.now c.first_from-at.result c.in-Some.group.now d inside) ∙ same)) refl

pub returns : goal.returns
returns c users places table =
    found-at users places c.args.references.now c.args.used.now c.args.name c.first_from-at.result c.in-Some.group.now c.range_of.result.now
    table c.in-Some.ensures.lookup.3.0 c.in-Some.ensures.lookup.1 (omega (arith, c.if-group-name.false)) c.range_of.ensures
