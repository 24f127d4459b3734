use Rattle.std.specs.Prelude.{◌<◌, ℕ, Some, length}
use Rattle.std.proofs.Common.{arith, ap, sym, ◌∙◌, subst, get_or}
use Rattle.p21_grammar_tree.specs.declared.record.Part as tree
use Rattle.p21_grammar_tree.specs.View.{part_view}
use Rattle.p21_express_graph.proofs.Gatherings.{numbered-at}
use Rattle.p21_mapping.specs.Shape.{HasCount}
use Rattle.p21_mapping.proofs.GrownLists.{AllZip-both_more, mapped-at}
use Rattle.p21_mapping.proofs.Shapes.{own-count, part-length}
use Rattle.p21_mapping.proofs.places.have_counts.Goals as goal

pub attribute_count-requires : goal.attribute_count-requires
attribute_count-requires c = c.requires.entities _
    (numbered-at (λ e. e.0) c.args.listed.now c.loop-at.at record { 0 = 0 } (omega (arith, c.loop-at-test.true, c.requires.each)))

pub returns-then-items-attribute_count : goal.returns-then-items-attribute_count
returns-then-items-attribute_count c =
    let low : c.loop-at.at < length c.args.listed.now = omega (arith, c.loop-at-test.true, c.requires.each) in
    let e : ℕ = (get_or c.args.listed.now c.loop-at.at record { 0 = 0 }).0 in (
      c.loop-at.at,
      e,
      part_view c.index-parts-at.result,
      mapped-at part_view c.args.parts.now c.loop-at.at c.index-parts-at.result c.loop-at-test.true
          ∙ ap (λ x. Some (part_view x)) (sym c.index-parts-at.is),
      mapped-at (λ x. x.0) c.args.listed.now c.loop-at.at record { 0 = 0 } low,
      λ count. c.if-items-attribute_count.true (ap length c.items.ensures ∙ sym (part-length c.index-parts-at.result) ∙ count
          ∙ own-count c.args.schema.now e ∙ sym c.attribute_count.ensures),
    )

pub loop-at-preserved : goal.loop-at-preserved
loop-at-preserved c =
    let low : c.loop-at.at < length c.args.listed.now = omega (arith, c.loop-at-test.true, c.requires.each) in
    let e : ℕ = (get_or c.args.listed.now c.loop-at.at record { 0 = 0 }).0 in
    let P : tree.Part → Type 0 = λ part. HasCount c.args.schema.now (part_view part) e in
    AllZip-both_more (HasCount c.args.schema.now) part_view (λ x. x.0) c.args.parts.now c.args.listed.now c.loop-at.at
    c.index-parts-at.result record { 0 = 0 } c.loop-at-test.true low c.loop-at.invariant
    (subst P c.index-parts-at.is (part-length c.index-parts-at.result ∙ ap length (sym c.items.ensures) ∙ c.if-items-attribute_count.false
    ∙ c.attribute_count.ensures ∙ sym (own-count c.args.schema.now e)))
