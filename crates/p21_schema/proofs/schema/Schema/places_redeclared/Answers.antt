use Rattle.std.specs.Prelude.{length, refl}
use Rattle.std.proofs.Common.{arith, subst}
use Rattle.std.proofs.lemmas.Option.{slice_get_read}
use Rattle.p21_spec_schema.specs.Schema.{Schema}
use Rattle.p21_schema.specs.Redeclarers.{AreRedeclared}
use Rattle.p21_schema.proofs.schema.Schema.places_redeclared.Goals as goal

pub returns : goal.returns
returns c x at =
    let P : Schema → Type 0 = λ s. AreRedeclared s c.self.inside.tables.redeclared in
    let are = (subst P c.self.view_is c.self.invariant.redeclared_are).each_are in
    let of_each = c.self.inside.tables.redeclared.of_each.items in
    are.each c.args.entity.0 x c.index.result.now at (slice_get_read of_each (length of_each) c.args.entity.0 c.index.result.now refl
    (omega (arith, are.size, c.requires)) c.index.ensures)
