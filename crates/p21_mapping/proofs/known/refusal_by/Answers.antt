use Rattle.std.proofs.Common.{arith, subst, sym, ap, ◌∙◌, List, length, map}
use Rattle.std.specs.List.{AllByRecursion as Each}
use Rattle.p21_express_graph.proofs.Gatherings.{mapped-length}
use Rattle.p21_express_graph.specs.Meaning.{place_type}
use Rattle.p21_express_graph.specs.declared.place_type.PlaceType.{PlaceType}
use Rattle.p21_grammar_tree.specs.Fault.{fault_number}
use Rattle.p21_grammar_tree.specs.View.{part_view}
use Rattle.p21_mapping.proofs.Here.{part-params}
use Rattle.p21_mapping.proofs.OwnRecords.{params-break, types-miscount, types-stored}
use Rattle.p21_mapping.proofs.OwnSets.{own-refuses}
use Rattle.p21_mapping.proofs.Shapes.{part-length, simple-miscount}
use Rattle.p21_mapping.specs.Known.{BreaksParams, IsKnown}
use Rattle.p21_mapping.specs.Outcome.{IsStoredIn}
use Rattle.p21_mapping.specs.Rows.{param_views}
use Rattle.p21_spec_exchange.specs.Parameter.{Param}
use Rattle.p21_mapping.proofs.known.refusal_by.Goals as goal

pub returns-in-Refused : goal.returns-in-Refused
returns-in-Refused c =
    let known = subst (IsKnown c.args.schema.now c.args.entity.0) c.in-Refused.is c.requires.known in
    own-refuses c.args.schema.now c.args.entity.0 c.holds_together.ensures c.holds_together.ensures.entities_distinct
    (part_view c.args.part.now) c.requires.named c.in-Refused.fault known

pub returns-else-places-items : goal.returns-else-places-items
returns-else-places-items c = λ _.
    let known = subst (IsKnown c.args.schema.now c.args.entity.0) c.in-Counted.is c.requires.known in
    let params = ap length c.items.ensures in
    simple-miscount c.args.schema.now (part_view c.args.part.now) c.args.entity.0 c.requires.named
    (λ same. c.if-places-items.false (omega (arith, known, same, part-length c.args.part.now, params)))

pub returns-then-len-params : goal.returns-then-len-params
returns-then-len-params c = λ _.
    let known = subst (IsKnown c.args.schema.now c.args.entity.0) c.in-Places.is c.requires.known in
    let params = ap length c.items-params.ensures in
    types-miscount c.args.schema.now (part_view c.args.part.now) c.args.entity.0 c.requires.named (map place_type c.in-Places.types.items)
    known.1
    (λ same. omega (
      arith,
      c.if-len-params.true,
      c.len.ensures,
      c.in-Places.types.ok.0,
      mapped-length place_type c.in-Places.types.items,
      same,
      part-length c.args.part.now,
      params,
    ))

pub check_each-requires-clause-stored : goal.check_each-requires-clause-stored
check_each-requires-clause-stored c =
    let known = subst (IsKnown c.args.schema.now c.args.entity.0) c.in-Places.is c.requires.known in
    subst (λ (types : List PlaceType). Each (IsStoredIn c.args.schema.now) (map place_type types)) (sym c.deref.ensures.value)
    (types-stored c.args.schema.now c.holds_together.ensures c.args.entity.0 (map place_type c.in-Places.types.items) known.0 known.1)

pub returns-in-Err : goal.returns-in-Err
returns-in-Err c = λ other.
    let s = c.args.schema.now in
    let known = subst (IsKnown s c.args.entity.0) c.in-Places.is c.requires.known in
    let number = fault_number c.in-Err.fault in
    let types = map place_type c.in-Places.types.items in
    let at_types = subst (λ (ts : List PlaceType). BreaksParams s (map place_type ts) (param_views c.items-params.result.now) number)
    c.deref.ensures.value (c.in-Err.ensures other) in
    let at_params = subst (λ (ps : List Param). BreaksParams s types ps number)
    (ap param_views c.items-params.ensures ∙ part-params c.args.part.now) at_types in
    params-break s (part_view c.args.part.now) c.args.entity.0 c.requires.named types known.1 c.holds_together.ensures number at_params
