use Rattle.std.proofs.Common.{◌∙◌, arith, refl}
use Rattle.std.proofs.lemmas.Result.{IfOk-weaker}
use Rattle.p21_mapping_values.proofs.Elements.{fits_bytes, known_at}
use Rattle.p21_mapping.proofs.Differing.{bytes-more, differ-by_texts, few-differ, lengths-more}
use Rattle.p21_mapping.proofs.distinct.are_different.Goals as goal

pub returns-then-values-lt2 : goal.returns-then-values-lt2
returns-then-values-lt2 c = (λ yes. few-differ c.args.values.now (omega (arith, c.if-values-lt2.true)), λ differ. refl)

pub append_present-requires : goal.append_present-requires
append_present-requires c = known_at c.args.schema.now c.args.values.now _ _ c.value-item.is c.loop-value-test.true c.requires.known

pub loop-value-preserved : goal.loop-value-preserved
loop-value-preserved c = (
  bytes-more c.args.schema.now c.args.values.now _ _ _ _ c.value-item.is c.loop-value-test.true c.loop-value.invariant.0
      c.in_ok-append_present.ensures.bytes,
  lengths-more c.args.schema.now c.args.values.now _ _ _ _ c.value-item.is c.loop-value-test.true c.loop-value.invariant.1
      c.in_ok-append_present.ensures.lengths,
)

pub are_distinct-requires : goal.are_distinct-requires
are_distinct-requires c = fits_bytes _ _ _ (c.deref.ensures.value ∙ c.loop-value.invariant.0)
    (c.deref-2.ensures.value ∙ c.loop-value.invariant.1)

pub returns : goal.returns
returns c =
    let (optional, type, each) = c.requires.typed in
    IfOk-weaker c.are_distinct.result _ _
    (λ different. differ-by_texts c.args.schema.now c.well_formed-2.ensures.types_distinct optional type c.args.values.now _ _ _ different
    each c.loop-value-test.false (c.deref.ensures.value ∙ c.loop-value.invariant.0)
    (c.deref-2.ensures.value ∙ c.loop-value.invariant.1))
    c.are_distinct.ensures
