use Rattle.p21_difference_rows.proofs.Ignoring.{names-if, no-entity, other-attribute, other-entity}
use Rattle.p21_difference_rows.proofs.Knowing.{both}
use Rattle.p21_difference_rows.specs.Asked.{attribute_name_of}
use Rattle.p21_express_graph.specs.Meaning.{place as place_of}
use Rattle.p21_model.proofs.Keywords.{named-within}
use Rattle.p21_spec_schema.specs.Schema.{PlaceNamed}
use Rattle.std.proofs.Common.{List, ℕ, subst}
use Rattle.p21_difference_rows.proofs.left_out.names_place.Goals as goal

pub is_a-requires : goal.is_a-requires
is_a-requires c = named-within c.args.instance.now.schema.now c.in-Some.entity.0 c.args.name.entity.now c.in-Some.ensures

pub returns-then-not-are_equal : goal.returns-then-not-are_equal
returns-then-not-are_equal c record_ stated = (
  λ told. cc,
  λ names. absurd (other-attribute c.args.instance.now.schema.now c.well_formed-2.ensures (attribute_name_of c.args.name)
      stated.canonical_meaning.entities (place_of c.args.place) c.place_name.result.now c.place_name.ensures
      (λ same. both _ (c.are_equal.ensures.1 same) c.if-not-are_equal.true) names),
)

pub returns-in_default : goal.returns-in_default
returns-in_default c record_ stated = (
  λ told. cc,
  λ names. absurd (no-entity c.args.instance.now.schema.now c.well_formed-2.ensures (attribute_name_of c.args.name)
      stated.canonical_meaning.entities (place_of c.args.place) c.in_default.ensures names),
)

pub returns-then-not-is_a : goal.returns-then-not-is_a
returns-then-not-is_a c record_ stated = (
  λ told. cc,
  λ names. absurd (other-entity c.args.instance.now.schema.now c.well_formed-2.ensures (attribute_name_of c.args.name)
      stated.canonical_meaning.entities (place_of c.args.place) c.in-Some.entity.0 c.in-Some.ensures
      (λ has. both _ (c.is_a.ensures.1 has) c.if-not-is_a.true) names),
)

pub returns : goal.returns
returns c record_ stated =
    let s = c.args.instance.now.schema.now in
    let place = place_of c.args.place in
    let P : List ℕ → Type 0 = λ n. PlaceNamed s place n in
    let attribute = subst P (c.are_equal.ensures.0 c.if-not-are_equal.false) c.place_name.ensures in
    let names = names-if s c.well_formed-2.ensures (attribute_name_of c.args.name) stated.canonical_meaning.entities place
    c.in-Some.entity.0 attribute c.in-Some.ensures (c.is_a.ensures.0 c.if-not-is_a.false) in
    let is_of = c.is_of.ensures record_ stated in
    (λ told. names.0 (is_of.0 told), λ is. is_of.1 (names.1 is))
