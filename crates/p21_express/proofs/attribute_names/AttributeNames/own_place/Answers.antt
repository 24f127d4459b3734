use Rattle.std.specs.Prelude.{◌≡◌, Some, length, slice_get, refl}
use Rattle.std.proofs.Common.{ap, sym, ◌∙◌}
use Rattle.std.proofs.lemmas.Option.{slice_get_read}
use Rattle.p21_express.proofs.attribute_names.AttributeNames.own_place.Goals as goal

pub kept_place-requires-clause-kept : goal.kept_place-requires-clause-kept
kept_place-requires-clause-kept c =
    let at : slice_get c.args.self.now.of_each.items c.args.entity.0 ≡ Some c.in-Some.kept.now =
    ap (λ xs. slice_get xs c.args.entity.0) (sym c.deref.ensures.value)
    ∙ slice_get_read c.deref.result.now (length c.deref.result.now) c.args.entity.0 c.in-Some.kept.now refl c.in-Some.ensures.lookup.3.0
    c.in-Some.ensures.lookup.1 in
    c.requires.names.each c.args.entity.0 c.in-Some.kept.now at
