use Rattle.std.proofs.Common.{◌∙◌, ap, refl}
use Rattle.p21_canon.proofs.Listed.{more_written}
use Rattle.p21_canon.proofs.Written.{written-all, written-more}
use Rattle.p21_mapping_values.proofs.SpelledScalars.{bits-spelled, name-spelled, real-spelled, text-spelled, whole-spelled}
use Rattle.p21_mapping_values.proofs.WrittenParams.{list-said, on_any, scalar-said}
use Rattle.p21_grammar_tree.proofs.Views.{view-Bits, view-Name, view-Real, view-Text, view-Whole}
use Rattle.p21_grammar_tree.specs.View.{view, views}
use Rattle.p21_canon.proofs.header.+append.Goals as goal

pub append_list-loop-i-preserved : goal.append_list-loop-i-preserved
append_list-loop-i-preserved t c = record {
  text = more_written _ _ _ c.index-params-i.result _ _ _ _ refl c.index-params-i.is c.loop-i-test.true c.loop-i.invariant.text
      c.in_default.ensures.ok c.in_default-append_param.ensures.ok;
  written = written-more _ _ _ c.index-params-i.is c.loop-i-test.true c.loop-i.invariant.written c.in_default-append_param.ensures.written;
}

pub append_list-returns-clause-written : goal.append_list-returns-clause-written
append_list-returns-clause-written t c = on_any _ _
    (list-said (views c.args.params.now) (written-all c.args.params.now _ c.loop-i-test.false c.loop-i.invariant.written))

pub append_param-returns-in-Whole-clause-written : goal.append_param-returns-in-Whole-clause-written
append_param-returns-in-Whole-clause-written t c =
    scalar-said _ _ _ (ap view c.in-Whole.is ∙ view-Whole c.in-Whole.whole) (whole-spelled _, tt)

pub append_param-returns-in-Real-clause-written : goal.append_param-returns-in-Real-clause-written
append_param-returns-in-Real-clause-written t c = scalar-said _ _ _ (ap view c.in-Real.is ∙ view-Real c.in-Real.real)
    (real-spelled _ c.write_canonical-in-Real.ensures.value, tt)

pub append_param-returns-in-Text-clause-written : goal.append_param-returns-in-Text-clause-written
append_param-returns-in-Text-clause-written t c = scalar-said _ _ _ (ap view c.in-Text.is ∙ view-Text c.in-Text.text)
    (text-spelled _ c.write_canonical-in-Text.ensures.value, tt)

pub append_param-returns-in-Name-clause-written : goal.append_param-returns-in-Name-clause-written
append_param-returns-in-Name-clause-written t c = scalar-said _ _ _ (ap view c.in-Name.is ∙ view-Name c.in-Name.name)
    (name-spelled _ c.write_canonical-in-Name.ensures.value, tt)

pub append_param-returns-in-Bits-clause-written : goal.append_param-returns-in-Bits-clause-written
append_param-returns-in-Bits-clause-written t c = scalar-said _ _ _ (ap view c.in-Bits.is ∙ view-Bits c.in-Bits.bits) (bits-spelled _, tt)
