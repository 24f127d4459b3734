use Rattle.std.specs.Prelude.{ℕ, MatchOption}
use Rattle.std.proofs.Common.{subst}
use Rattle.p21_spec_schema.specs.Schema.{Schema, EntityNamed}
use Rattle.p21_schema.proofs.schema.Schema.entity.Goals as goal

pub returns : goal.returns
returns c =
    let P : Schema → Type 0 = λ s. MatchOption c.entity.result ((e : ℕ) → EntityNamed s e c.args.name.now → ⊥)
    (λ entity. EntityNamed s entity.0 c.args.name.now) in
    subst P c.self.view_is c.entity.ensures
