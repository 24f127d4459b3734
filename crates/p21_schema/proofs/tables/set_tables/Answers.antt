use Rattle.std.proofs.Common.{sym, subst}
use Rattle.p21_spec_schema.specs.Schema.{Schema}
use Rattle.p21_express_graph.specs.Resolved.{HoldsTogether}
use Rattle.p21_schema.specs.RisingSets.{RanksEntities}
use Rattle.p21_schema.proofs.tables.set_tables.Goals as goal

pub rank_entities-requires-clause-holds : goal.rank_entities-requires-clause-holds
rank_entities-requires-clause-holds c = subst HoldsTogether (sym c.contents.ensures.value) c.holds_together.ensures

pub all_rising_sets-requires : goal.all_rising_sets-requires
all_rising_sets-requires c = let P : Schema → Type 0 = λ s. RanksEntities s c.in_ok-ranking.ranking in
    subst P c.contents.ensures.value c.in_ok-ranking.ensures

pub returns-clause-ranking : goal.returns-clause-ranking
returns-clause-ranking c = let P : Schema → Type 0 = λ s. RanksEntities s c.in_ok-ranking.ranking in
    subst P c.contents.ensures.value c.in_ok-ranking.ensures
