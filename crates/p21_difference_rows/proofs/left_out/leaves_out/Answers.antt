use Rattle.std.specs.Prelude.{not, refl}
use Rattle.std.proofs.Common.{ap, sym, ◌∙◌}
use Rattle.p21_difference_rows.proofs.Ignoring.{asked-attributes, asked-header, asked-tolerance}
use Rattle.p21_difference_rows.specs.Asked.{left_out_of, ratio_given}
use Rattle.p21_tolerance.specs.Within.{tolerance_of}
use Rattle.p21_difference_rows.proofs.left_out.leaves_out.Goals as goal

pub returns-then-left_out : goal.returns-then-left_out
returns-then-left_out c = sym (asked-header (left_out_of c.args.left_out) c.if-left_out.true)

pub returns-in-Some : goal.returns-in-Some
returns-in-Some c = sym (asked-tolerance (left_out_of c.args.left_out) (tolerance_of c.in-Some.field-0.tolerance) c.if-left_out.false
    (ap ratio_given c.in-Some.is))

pub returns-in-None : goal.returns-in-None
returns-in-None c =
    ap not c.is_empty.ensures
    ∙ sym (asked-attributes (left_out_of c.args.left_out) c.args.left_out.attributes.now c.if-left_out.false (ap ratio_given c.in-None.is)
    refl)
