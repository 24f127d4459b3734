use Rattle.std.specs.Prelude.{◌≡◌, true, false}
use Rattle.std.proofs.Common.{sym, ◌∙◌}
use Rattle.p21_express.proofs.PlaceLemmas.{not-proper}
use Rattle.p21_express.proofs.lookups.proper_supertype.Goals as goal

pub returns-then-sup-entity : goal.returns-then-sup-entity
returns-then-sup-entity c = not-proper c.args.hierarchy.now c.well_formed-2.ensures.entities_distinct c.args.entity.0 c.in-Some.sup.0
    c.args.name.now c.in-Some.ensures (λ is_a other. other c.if-sup-entity.true)

pub returns-else-is_a : goal.returns-else-is_a
returns-else-is_a c = not-proper c.args.hierarchy.now c.well_formed-2.ensures.entities_distinct c.args.entity.0 c.in-Some.sup.0
    c.args.name.now c.in-Some.ensures (λ is_a other. let t : true ≡ false = sym (c.is_a.ensures.1 is_a) ∙ c.if-is_a.false in cc)

pub returns-in-None : goal.returns-in-None
returns-in-None c = λ sup proper. c.in-None.ensures sup proper.0
