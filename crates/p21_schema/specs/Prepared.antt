-- The tables that are prepared for the look-ups of a schema.
use Rattle.p21_spec_schema.specs.Schema.{Schema, entity_member, type_member}
use Rattle.p21_express_graph.specs.Offered.{AreOffered}
use Rattle.p21_express_graph.specs.Orders.{numbers}
use Rattle.p21_express_graph.specs.Ranking.{IsRanking}
use Rattle.p21_express_graph.specs.DirectRenaming.{AreEnds}
use Rattle.p21_express_graph.specs.SettledOrder.{lists_of}
use Rattle.p21_schema.specs.OwnSets.{AreOwnClashes}
use Rattle.p21_schema.specs.Redeclarers.{AreRedeclared}
use Rattle.p21_schema.specs.RisingSets.{AreRisingSets}
use Rattle.p21_schema.specs.declared.tables.Tables.{Tables}

-- each table is that of the schema
pub record IsPrepared (s : Schema) (tables : Tables) : Type 0 where
  pub redeclared_are : AreRedeclared s tables.redeclared
  pub ends_are : AreEnds s tables.ends.items
  pub entities_offered : AreOffered s entity_member (lists_of tables.offered.entities.items)
  pub types_offered : AreOffered s type_member (lists_of tables.offered.types.items)
  pub ranking_is : IsRanking s (numbers tables.ranking.rising.items) tables.ranking.ranks.items
  pub rising_are : AreRisingSets s tables.rising_sets.items
  pub clashes_are : AreOwnClashes s tables.own_clashes.items
