use Rattle.p21_difference_rows.proofs.Knowing.{named-among, said-all, said-later}
use Rattle.p21_difference_rows.specs.Asked.{attribute_name_of}
use Rattle.p21_spec_differences.specs.LeftOut.{MayBeMeant}
use Rattle.p21_difference_rows.proofs.left_out.first_unknown.Goals as goal

pub loop-name-init : goal.loop-name-init
loop-name-init c = λ all. all

pub returns-then-is_missing : goal.returns-then-is_missing
returns-then-is_missing c = (
  named-among attribute_name_of c.args.names.now c.loop-name.name-index _ c.loop-name-test.true,
  c.is_missing.ensures.missing c.if-is_missing.true,
)

pub loop-name-preserved : goal.loop-name-preserved
loop-name-preserved c =
    said-later attribute_name_of (MayBeMeant c.args.schema.now) c.args.names.now c.loop-name.name-index _ c.loop-name-test.true
    (c.is_missing.ensures.meant c.if-is_missing.false) c.loop-name.invariant

pub returns : goal.returns
returns c = said-all attribute_name_of (MayBeMeant c.args.schema.now) c.args.names.now c.loop-name.name-index c.loop-name-test.false
    c.loop-name.invariant
