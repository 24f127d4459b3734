use Rattle.std.proofs.Common.{subst}
use Rattle.std.proofs.lemmas.Result.{IfOk-weaker}
use Rattle.p21_spec_schema.specs.Schema.{Schema}
use Rattle.p21_schema.specs.RisingSets.{RanksEntities}
use Rattle.p21_schema.proofs.schema.Schema.rising.Goals as goal

pub rising_of-requires : goal.rising_of-requires
rising_of-requires c =
    let P : Schema → Type 0 = λ s. RanksEntities s c.self.inside.tables.ranking in
    (c.args.self.now, subst P c.self.view_is c.self.invariant.ranking_is, c.requires)

pub returns-clause-rising : goal.returns-clause-rising
returns-clause-rising c =
    let P : Schema → Type 0 = λ s. RanksEntities s c.self.inside.tables.ranking in
    IfOk-weaker c.rising_of.result _ _ (λ _ rising. rising c.args.self.now (subst P c.self.view_is c.self.invariant.ranking_is))
    c.rising_of.ensures.rising
