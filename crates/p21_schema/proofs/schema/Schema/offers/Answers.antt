use Rattle.std.proofs.Common.{sym, subst}
use Rattle.p21_spec_schema.specs.Schema.{entity_member, type_member}
use Rattle.p21_spec_schema.specs.Select.{Offers}
use Rattle.p21_express_graph.specs.Meaning.{member}
use Rattle.p21_express_graph.specs.declared.kind.Member.{Member}
use Rattle.p21_express_graph.proofs.Offering.{offered-list, offered-rises}
use Rattle.p21_schema.proofs.schema.Schema.offers.Goals as goal

pub is_among-requires : goal.is_among-requires
is_among-requires c = offered-rises (λ v. v.items) c.self.inside.hierarchy c.args.self.now entity_member
    c.self.inside.tables.offered.entities.items c.args.of.0 c.index.result.now c.deref.result.now c.self.view_is
    c.self.invariant.entities_offered c.requires c.index.ensures c.deref.ensures.value

pub is_among-requires-in-Defined : goal.is_among-requires-in-Defined
is_among-requires-in-Defined c = offered-rises (λ v. v.items) c.self.inside.hierarchy c.args.self.now type_member
    c.self.inside.tables.offered.types.items c.args.of.0 c.index-in-Defined.result.now c.deref-in-Defined.result.now c.self.view_is
    c.self.invariant.types_offered c.requires c.index-in-Defined.ensures c.deref-in-Defined.ensures.value

pub returns-in-Entity : goal.returns-in-Entity
returns-in-Entity c =
    let P : Member → Type 0 = λ m. Offers c.args.self.now c.args.of.0 (member m) in
    let (has, got) = offered-list (λ v. v.items) c.self.inside.hierarchy c.args.self.now entity_member
    c.self.inside.tables.offered.entities.items c.args.of.0 c.index.result.now c.deref.result.now c.self.view_is
    c.self.invariant.entities_offered c.requires c.index.ensures c.deref.ensures.value c.in-Entity.entity.0 in (
      λ told. subst P (sym c.in-Entity.is) (has (c.is_among.ensures.0 told)),
      λ offers. c.is_among.ensures.1
          (got (subst P c.in-Entity.is offers)),
    )

pub returns-in-Defined : goal.returns-in-Defined
returns-in-Defined c =
    let P : Member → Type 0 = λ m. Offers c.args.self.now c.args.of.0 (member m) in
    let (has, got) = offered-list (λ v. v.items) c.self.inside.hierarchy c.args.self.now type_member
    c.self.inside.tables.offered.types.items c.args.of.0 c.index-in-Defined.result.now c.deref-in-Defined.result.now c.self.view_is
    c.self.invariant.types_offered c.requires c.index-in-Defined.ensures c.deref-in-Defined.ensures.value c.in-Defined.other.0 in (
      λ told. subst P (sym c.in-Defined.is) (has (c.is_among-in-Defined.ensures.0 told)),
      λ offers. c.is_among-in-Defined.ensures.1
          (got (subst P c.in-Defined.is offers)),
    )
