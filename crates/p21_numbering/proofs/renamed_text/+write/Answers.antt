use Rattle.std.specs.Prelude.{◌≡◌, ℕ}
use Rattle.std.proofs.Common.{ap, rules, ◌∙◌}
use denote.Param.Weighed.{at_most}
use Rattle.p21_mapping_values.proofs.Elements.{fits_bytes, known_at}
use Rattle.p21_mapping_values.proofs.value.Value.TheLaws.{the_size}
use Rattle.p21_mapping_values.specs.KnownTypes.{HasKnownTypes}
use Rattle.p21_mapping_values.specs.SplitTexts.{split_texts}
use Rattle.p21_mapping_values.specs.View.{view, views}
use Rattle.p21_spec_file.specs.ValueText.{value_texts}
use Rattle.p21_spec_numbering.specs.Renamed.{renamed_values}
use Rattle.p21_numbering.specs.NewNames.{new_name}
use Rattle.p21_numbering.proofs.RenamedTexts.{joined-next, lengths-next, list-ended, new_text, text-next, texts-are, texts-split}
use Rattle.p21_numbering.proofs.renamed_text.+write.Goals as goal

pub write_list-write_element-requires : goal.write_list-write_element-requires
write_list-write_element-requires t c =
    let known : HasKnownTypes c.args.schema.now (view c.index-values-i.result) =
    known_at _ _ _ _ c.index-values-i.is c.loop-i-test.true c.requires in
    let deep = at_most the_size c.args.values.now c.loop-i.i c.index-values-i.result c.loop-i-test.true in
    let same = ap the_size c.index-values-i.is in
    search rules

pub write_list-loop-i-preserved : goal.write_list-loop-i-preserved
write_list-loop-i-preserved t c = text-next (new_text c.args.schema.now (new_name c.args.names.now)) _ _ _ _ _ _ c.index-values-i.is
    c.loop-i-test.true c.loop-i.invariant c.in_ok-write_element.ensures

pub write_list-returns : goal.write_list-returns
write_list-returns t c = list-ended c.args.schema.now (new_name c.args.names.now) c.args.values.now _ _ _ _ c.loop-i-test.false
    c.loop-i.invariant c.in_ok-push-2.ensures.items

pub write_unordered-write_renamed-requires : goal.write_unordered-write_renamed-requires
write_unordered-write_renamed-requires t c =
    let known : HasKnownTypes c.args.schema.now (view c.value-item.result) =
    known_at _ _ _ _ c.value-item.is c.loop-value-test.true c.requires in
    let deep = at_most the_size c.args.values.now c.loop-value.value-index c.value-item.result c.loop-value-test.true in
    let same = ap the_size c.value-item.is in
    search rules

pub write_unordered-loop-value-preserved : goal.write_unordered-loop-value-preserved
write_unordered-loop-value-preserved t c = record {
  joined = joined-next (new_text c.args.schema.now (new_name c.args.names.now)) _ _ _ _ _ c.value-item.is c.loop-value-test.true
      c.loop-value.invariant.joined c.in_ok-write_renamed.ensures;
  lengths = lengths-next (new_text c.args.schema.now (new_name c.args.names.now)) _ _ _ _ _ _ _ _ c.value-item.is c.loop-value-test.true
      c.loop-value.invariant.lengths c.in_ok-write_renamed.ensures (search rules) c.in_ok-push.ensures.items;
}

pub write_unordered-append_rising-requires : goal.write_unordered-append_rising-requires
write_unordered-append_rising-requires t c = rw (c.deref.ensures.value, c.deref-2.ensures.value)
    (fits_bytes _ _ _ c.loop-value.invariant.joined c.loop-value.invariant.lengths)

pub write_unordered-returns : goal.write_unordered-returns
write_unordered-returns t c =
    let s = c.args.schema.now in
    let f : ℕ → ℕ = new_name c.args.names.now in
    let all : split_texts c.deref.result.now c.deref-2.result.now ≡ value_texts s (renamed_values f (views c.args.values.now)) =
    texts-split (new_text s f) c.args.values.now _ _ _ c.loop-value-test.false (c.deref.ensures.value ∙ c.loop-value.invariant.joined)
    (c.deref-2.ensures.value ∙ c.loop-value.invariant.lengths) ∙ texts-are s f c.args.values.now in
    rw (← all) c.append_rising.ensures.ok
