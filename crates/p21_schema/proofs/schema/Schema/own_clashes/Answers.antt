use Rattle.std.specs.Prelude.{length, refl}
use Rattle.std.proofs.Common.{arith, subst}
use Rattle.std.proofs.lemmas.Option.{slice_get_read}
use Rattle.p21_spec_schema.specs.Schema.{Schema}
use Rattle.p21_schema.specs.OwnSets.{AreOwnClashes}
use Rattle.p21_schema.proofs.schema.Schema.own_clashes.Goals as goal

pub returns : goal.returns
returns c =
    let clashes = c.self.inside.tables.own_clashes.items in
    let P : Schema → Type 0 = λ s. AreOwnClashes s clashes in
    let are = subst P c.self.view_is c.self.invariant.clashes_are in
    are.each c.args.entity.0 c.index.result.now (slice_get_read clashes (length clashes) c.args.entity.0 c.index.result.now refl
    (omega (arith, are.size, c.requires)) c.index.ensures)
