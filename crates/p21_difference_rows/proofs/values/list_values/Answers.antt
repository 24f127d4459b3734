use Rattle.std.proofs.Common.{subst, ◌∙◌}
use Rattle.p21_express_graph.specs.Meaning.{place as place_of}
use Rattle.p21_express_graph.specs.Resolved.{IsPlace}
use Rattle.p21_difference_rows.proofs.Beside.{values-begun, values-ended, values-more}
use Rattle.p21_spec_schema.specs.Schema.{Schema}
use Rattle.p21_difference_rows.specs.Asked.{left_out_of}
use Rattle.p21_difference_rows.specs.RealNames.{real_name}
use Rattle.p21_difference_rows.proofs.values.list_values.Goals as goal

pub list_value-requires : goal.list_value-requires
list_value-requires c =
    let P : Schema → Type 0 = λ s. IsPlace s (place_of c.in-Some.found.place) in
    subst P c.loop-found.invariant.0 c.in-Some.ensures.place

pub loop-found-init : goal.loop-found-init
loop-found-init c = (
  c.new-values.ensures.schema,
  λ record_ other stated others set.
      values-begun c.args.style.now.form c.args.style.now.schema.now (real_name c.args.style.now.names)
      (left_out_of c.args.style.now.left_out) c.args.name c.args.name record_
      other c.args.line.now c.args.other_line.now stated others c.new-values.result c.args.rows.now.text.items
      (c.new-values.ensures.told record_ other stated others set),
)

pub loop-found-preserved : goal.loop-found-preserved
loop-found-preserved c = (
  c.in-Some.ensures.schema ∙ c.loop-found.invariant.0,
  λ record_ other stated others set.
      values-more c.args.style.now.form c.args.style.now.schema.now (real_name c.args.style.now.names)
      (left_out_of c.args.style.now.left_out) c.args.name stated.canonical_meaning
      others.canonical_meaning c.loop-found.values c.next.new.self c.in-Some.found
      c.args.rows.now.text.items c.loop-found.rows.text.items _ (c.loop-found.invariant.1 record_ other stated others set)
      c.in-Some.ensures.handed (c.in_ok-list_value.ensures record_ stated others.canonical_meaning),
)

pub returns : goal.returns
returns c record_ other stated others set =
    values-ended c.args.style.now.form c.args.style.now.schema.now (real_name c.args.style.now.names)
    (left_out_of c.args.style.now.left_out) c.args.name stated.canonical_meaning
    others.canonical_meaning c.loop-found.values c.next.new.self
    c.args.rows.now.text.items c.loop-found.rows.text.items (c.loop-found.invariant.1 record_ other stated others set)
    c.in_default.ensures.handed
