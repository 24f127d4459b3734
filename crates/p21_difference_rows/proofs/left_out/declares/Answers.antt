use Rattle.std.specs.Prelude.{refl}
use Rattle.p21_difference_rows.proofs.Knowing.{both, named-later, named-none, named-there}
use Rattle.p21_difference_rows.proofs.left_out.declares.Goals as goal

pub returns-then-are_equal : goal.returns-then-are_equal
returns-then-are_equal c = (
  λ told. named-there c.args.schema.now c.args.name.now c.args.entity.0 c.loop-index.index c.place_name.result.now c.place_name.ensures
      (c.are_equal.ensures.0 c.if-are_equal.true),
  λ has. refl,
)

pub loop-index-preserved : goal.loop-index-preserved
loop-index-preserved c =
    named-later c.args.schema.now c.args.name.now c.args.entity.0 c.loop-index.index c.place_name.result.now c.place_name.ensures
    (λ same. both _ (c.are_equal.ensures.1 same) c.if-are_equal.false) c.loop-index.invariant

pub returns : goal.returns
returns c = (
  λ told. cc,
  λ has. absurd (named-none c.args.schema.now c.args.name.now c.args.entity.0 c.attribute_count-count.result c.loop-index.index
      c.attribute_count-count.ensures c.loop-index-test.false c.loop-index.invariant has),
)
