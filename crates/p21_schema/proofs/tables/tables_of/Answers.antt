use Rattle.std.proofs.Common.{sym, subst}
use Rattle.p21_spec_schema.specs.Schema.{Schema, entity_member, type_member}
use Rattle.p21_express_graph.specs.DirectRenaming.{AreEnds}
use Rattle.p21_express_graph.specs.Offered.{AreOffered}
use Rattle.p21_express_graph.specs.Resolved.{HoldsTogether}
use Rattle.p21_express_graph.specs.SettledOrder.{lists_of}
use Rattle.p21_schema.specs.Redeclarers.{AreRedeclared}
use Rattle.p21_schema.proofs.tables.tables_of.Goals as goal

pub list_tables-requires : goal.list_tables-requires
list_tables-requires c = subst HoldsTogether (sym c.contents.ensures.value) c.holds_together.ensures

pub returns : goal.returns
returns c =
    let same = c.contents.ensures.value in
    let listed = c.in_ok-listed.listed in
    let Redeclared : Schema → Type 0 = λ s. AreRedeclared s listed.redeclared in
    let Ends : Schema → Type 0 = λ s. AreEnds s listed.ends.items in
    let Entities : Schema → Type 0 = λ s. AreOffered s entity_member (lists_of listed.offered.entities.items) in
    let Types : Schema → Type 0 = λ s. AreOffered s type_member (lists_of listed.offered.types.items) in
    record {
      redeclared_are = subst Redeclared same c.in_ok-listed.ensures.redeclared;
      ends_are = subst Ends same c.in_ok-listed.ensures.ends;
      entities_offered = subst Entities same c.in_ok-listed.ensures.entities;
      types_offered = subst Types same c.in_ok-listed.ensures.types;
      ranking_is = c.in_ok-sets.ensures.ranking;
      rising_are = c.in_ok-sets.ensures.rising;
      clashes_are = c.in_ok-sets.ensures.clashes;
    }
