use Rattle.std.specs.Prelude.{◌≡◌, [], map, true, false}
use Rattle.std.proofs.Common.{sym, ◌∙◌}
use Rattle.std.proofs.lemmas.Option.{slice_get_within}
use Rattle.p21_express_outline.specs.Redeclarations.{no_more, a_place, no_place}
use Rattle.p21_express_syntax.specs.Views.{entity_view}
use Rattle.p21_express_graph.specs.Meaning.{place as place_of}
use Rattle.p21_express.proofs.Deriving.{missing-nothing, unclear-nothing}
use Rattle.p21_express.proofs.derived.derived_place.Goals as goal

pub derives_name-requires : goal.derives_name-requires
derives_name-requires c = let (x, at, named) = c.in-Missing.ensures.proper.0 in
    slice_get_within c.args.hierarchy.now.entities c.in-Missing.sup.0 x at

pub returns-in-Place : goal.returns-in-Place
returns-in-Place c = a_place c.args.supertype.now c.args.name.now (place_of c.in-Place.place) [] [] c.in-Place.ensures no_more

pub returns-then-derives_name : goal.returns-then-derives_name
returns-then-derives_name c = no_place c.args.supertype.now c.args.name.now c.in-Missing.sup.0 [] [] c.in-Missing.ensures.proper
    c.in-Missing.ensures.none (c.derives_name.ensures.0 c.if-derives_name.true) no_more

pub returns-else-derives_name : goal.returns-else-derives_name
returns-else-derives_name c = λ other. missing-nothing c.args.hierarchy.now (map entity_view c.args.declared.now) c.args.entity.0
    c.in-Missing.sup.0 c.args.supertype.now c.args.name.now c.in-Missing.ensures
    (λ derives. let t : true ≡ false = sym (c.derives_name.ensures.1 derives) ∙ c.if-derives_name.false in cc)

pub returns-in-Unclear : goal.returns-in-Unclear
returns-in-Unclear c = λ other. unclear-nothing c.args.hierarchy.now (map entity_view c.args.declared.now) c.args.entity.0
    c.args.supertype.now c.args.name.now c.in-Unclear.ensures.0 c.in-Unclear.ensures.1
