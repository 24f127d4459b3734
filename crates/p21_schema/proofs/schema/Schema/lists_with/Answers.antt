use Rattle.std.specs.Prelude.{◌↔◌, Contains}
use Rattle.std.proofs.Common.{subst}
use Rattle.p21_spec_schema.specs.Schema.{Schema}
use Rattle.p21_schema.specs.OneOf.{IsListedIn}
use Rattle.p21_schema.proofs.schema.Schema.lists_with.Goals as goal

pub returns-clause-each : goal.returns-clause-each
returns-clause-each c k =
    let P : Schema → Type 0 = λ s. Contains c.lists_with.result.now k ↔ IsListedIn s k c.args.entity.0 in
    subst P c.self.view_is (c.lists_with.ensures.each k)
