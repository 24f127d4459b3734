use Rattle.std.proofs.Common.{◌≡◌, ap, ◌∙◌, arith, refl, rules}
use Rattle.p21_spec_file.specs.Value.{typed}
use Rattle.p21_mapping_values.specs.declared.value.Value.{Value}
use Rattle.std.proofs.lemmas.Result.{err_from_is_err_and}
use Rattle.p21_mapping_values.proofs.SpelledScalars.{bits-spelled, name-spelled, real-spelled, text-spelled, whole-spelled}
use Rattle.p21_mapping_values.proofs.WrittenParams.{on_any}
use Rattle.p21_mapping_values.proofs.Views.{view-Bits, view-Number, view-Real, view-Reference, view-Tagged, view-Text, view-Whole}
use Rattle.p21_mapping_values.specs.View.{view}
use Rattle.p21_mapping_values.proofs.Elements.{continues_on, continues_same, element_next, err-same, err-unchanged, few-in_order, fits_bytes, joined_next, known_at, lengths_next, split_texts_are}
use Rattle.p21_mapping_values.proofs.Spelled.{spelled-all, spelled-by, spelled-more, tagged-text}
use denote.Param.Weighed.{at_most}
use Rattle.p21_mapping_values.proofs.value.Value.TheLaws.{the_size}
use Rattle.p21_mapping_values.specs.KnownTypes.{HasKnownTypes}
use Rattle.p21_mapping_values.proofs.value_text.+append.Goals as goal

pub append_list-append_element-requires : goal.append_list-append_element-requires
append_list-append_element-requires t c =
    let known : HasKnownTypes c.args.schema.now (view c.index-values-i.result) =
    known_at _ _ _ _ c.index-values-i.is c.loop-i-test.true c.requires in
    let deep = at_most the_size c.args.values.now c.loop-i.i c.index-values-i.result c.loop-i-test.true in
    let same = ap the_size c.index-values-i.is in
    search rules

pub append_list-returns-in_err-append_element-clause-err : goal.append_list-returns-in_err-append_element-clause-err
append_list-returns-in_err-append_element-clause-err t c =
    let p = err_from_is_err_and c.from_residual-in_err-append_element.result c.from_residual-in_err-append_element.ensures.1 in
    rw p.1 (continues_on _ _ _ _ _ c.loop-i.invariant.text c.in_err-append_element.ensures.err)

pub append_list-loop-i-preserved : goal.append_list-loop-i-preserved
append_list-loop-i-preserved t c = record {
  text = element_next _ _ _ _ _ _ _ c.index-values-i.is c.loop-i-test.true c.loop-i.invariant.text c.in_ok-append_element.ensures.ok;
  spelled = spelled-more _ _ _ _ c.index-values-i.is c.loop-i-test.true c.loop-i.invariant.spelled c.in_ok-append_element.ensures.spelled;
}

pub append_list-returns-clause-spelled : goal.append_list-returns-clause-spelled
append_list-returns-clause-spelled t c = spelled-all c.args.schema.now c.args.values.now _ c.loop-i-test.false c.loop-i.invariant.spelled

pub append_list-returns-in_err-push-2-clause-err : goal.append_list-returns-in_err-push-2-clause-err
append_list-returns-in_err-push-2-clause-err t c =
    let p = err_from_is_err_and c.from_residual-in_err-push-2.result c.from_residual-in_err-push-2.ensures.1 in
    rw p.1 (continues_same _ _ _ _ _ c.loop-i.invariant.text c.in_err-push-2.ensures.items)

pub append_unordered-returns-then-values-lt2-clause-ok : goal.append_unordered-returns-then-values-lt2-clause-ok
append_unordered-returns-then-values-lt2-clause-ok t c =
    rw (few-in_order c.args.schema.now c.args.values.now (omega (arith, c.if-values-lt2.true))) c.append_list.ensures.ok

pub append_unordered-returns-in_err-append_value-clause-err : goal.append_unordered-returns-in_err-append_value-clause-err
append_unordered-returns-in_err-append_value-clause-err t c = err-same _ _ _ refl

pub append_unordered-returns-in_err-push-clause-err : goal.append_unordered-returns-in_err-push-clause-err
append_unordered-returns-in_err-push-clause-err t c = err-same _ _ _ refl

pub append_unordered-returns-clause-err : goal.append_unordered-returns-clause-err
append_unordered-returns-clause-err t c = err-unchanged _ _ _ c.append_rising.ensures.err

pub append_unordered-append_value-requires : goal.append_unordered-append_value-requires
append_unordered-append_value-requires t c =
    let known : HasKnownTypes c.args.schema.now (view c.value-item.result) =
    known_at _ _ _ _ c.value-item.is c.loop-value-test.true c.requires in
    let deep = at_most the_size c.args.values.now c.loop-value.value-index c.value-item.result c.loop-value-test.true in
    let same = ap the_size c.value-item.is in
    search rules

pub append_unordered-loop-value-preserved : goal.append_unordered-loop-value-preserved
append_unordered-loop-value-preserved t c = record {
  joined = joined_next _ _ _ _ _ _ c.value-item.is c.loop-value-test.true c.loop-value.invariant.joined c.in_ok-append_value.ensures.ok;
  lengths = lengths_next _ _ _ _ _ _ _ _ _ c.value-item.is c.loop-value-test.true c.loop-value.invariant.lengths
      c.in_ok-append_value.ensures.ok (search rules) c.in_ok-push.ensures.items;
  spelled = spelled-more _ _ _ _ c.value-item.is c.loop-value-test.true c.loop-value.invariant.spelled c.in_ok-append_value.ensures.spelled;
}

pub append_unordered-returns-clause-spelled : goal.append_unordered-returns-clause-spelled
append_unordered-returns-clause-spelled t c = on_any _ _
    (spelled-all c.args.schema.now c.args.values.now _ c.loop-value-test.false c.loop-value.invariant.spelled)

pub append_unordered-append_rising-requires : goal.append_unordered-append_rising-requires
append_unordered-append_rising-requires t c = rw (c.deref.ensures.value, c.deref-2.ensures.value)
    (fits_bytes _ _ _ c.loop-value.invariant.joined c.loop-value.invariant.lengths)

pub append_unordered-returns-clause-ok : goal.append_unordered-returns-clause-ok
append_unordered-returns-clause-ok t c =
    let same = split_texts_are _ _ _ _ _ c.loop-value-test.false (c.deref.ensures.value ∙ c.loop-value.invariant.joined)
    (c.deref-2.ensures.value ∙ c.loop-value.invariant.lengths) in
    rw (← same) c.append_rising.ensures.ok

pub append_value-returns-in-Whole-clause-spelled : goal.append_value-returns-in-Whole-clause-spelled
append_value-returns-in-Whole-clause-spelled t c =
    spelled-by _ _ _ _ (ap view c.in-Whole.is ∙ view-Whole c.in-Whole.whole) (whole-spelled c.in-Whole.whole)

pub append_value-returns-in-Real-clause-spelled : goal.append_value-returns-in-Real-clause-spelled
append_value-returns-in-Real-clause-spelled t c = spelled-by _ _ _ _ (ap view c.in-Real.is ∙ view-Real c.in-Real.real)
    (real-spelled c.in-Real.real c.write_canonical-in-Real.ensures.value)

pub append_value-returns-in-Number-clause-spelled : goal.append_value-returns-in-Number-clause-spelled
append_value-returns-in-Number-clause-spelled t c =
    spelled-by _ _ _ _ (ap view c.in-Number.is ∙ view-Number c.in-Number.number)
    (real-spelled c.in-Number.number c.write_canonical-in-Number.ensures.value)

pub append_value-returns-in-Text-clause-spelled : goal.append_value-returns-in-Text-clause-spelled
append_value-returns-in-Text-clause-spelled t c = spelled-by _ _ _ _ (ap view c.in-Text.is ∙ view-Text c.in-Text.text)
    (text-spelled c.in-Text.text c.write_canonical-in-Text.ensures.value)

pub append_value-returns-in-Bits-clause-spelled : goal.append_value-returns-in-Bits-clause-spelled
append_value-returns-in-Bits-clause-spelled t c = spelled-by _ _ _ _ (ap view c.in-Bits.is ∙ view-Bits c.in-Bits.bits)
    (bits-spelled c.in-Bits.bits)

pub append_value-returns-in-Reference-clause-spelled : goal.append_value-returns-in-Reference-clause-spelled
append_value-returns-in-Reference-clause-spelled t c =
    spelled-by _ _ _ _ (ap view c.in-Reference.is ∙ view-Reference c.in-Reference.name)
    (name-spelled c.in-Reference.name c.write_canonical-in-Reference.ensures.value)

pub append_value-returns-in_ok-push-in-Tagged-2-clause-ok : goal.append_value-returns-in_ok-push-in-Tagged-2-clause-ok
append_value-returns-in_ok-push-in-Tagged-2-clause-ok t c =
    let same : c.in-Tagged.inner.value ≡ c.deref.result.now = search rules in
    let is = ap view c.in-Tagged.is ∙ view-Tagged c.in-Tagged.tag c.in-Tagged.inner
    ∙ ap (λ (x : Value). typed c.in-Tagged.tag.0 (view x)) same in
    tagged-text c.args.schema.now _ _ _ _ _ _ _ _ _ is c.type_word.ensures c.in_ok-write_canonical-in-Tagged.ensures.ok
    c.in_ok-push-in-Tagged.ensures.items c.in_ok-append_value-in-Tagged.ensures.ok c.in_ok-push-in-Tagged-2.ensures.items
