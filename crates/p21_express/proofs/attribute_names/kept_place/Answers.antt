use Rattle.std.specs.Prelude.{ℕ, List, Option}
use Rattle.std.proofs.Common.{subst}
use Rattle.p21_express.specs.AttributeNames.{IsKept}
use Rattle.p21_express.proofs.attribute_names.kept_place.Goals as goal

pub place_among-requires-clause-names : goal.place_among-requires-clause-names
place_among-requires-clause-names c =
    let P : Option (List (List ℕ)) → Type 0 = λ kept. IsKept c.args.hierarchy.now c.args.entity.0 kept in
    subst P c.in-Some.is c.requires.kept
