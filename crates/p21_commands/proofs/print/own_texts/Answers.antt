use Rattle.std.specs.Prelude.{◌≡◌, ◌∷◌, [], ◌++◌, ℕ, Option, Some, length, slice_get}
use Rattle.std.specs.Prelude as std
use Rattle.std.specs.declared.alloc.Global.{Global}
use Rattle.std.proofs.Common.{arith, ap, sym, ◌∙◌, subst, inl, inr}
use Rattle.std.proofs.lemmas.List.{length-append}
use Rattle.p21_commands.specs.OwnTexts.{IsOwnText}
use Rattle.p21_express_graph.proofs.Pairs.{snoc-get}
use Rattle.p21_commands.proofs.print.own_texts.Goals as goal

pub loop-number-preserved : goal.loop-number-preserved
loop-number-preserved c =
    let before = c.loop-number.texts.items in
    let text = c.in_ok-own_text.field-0 in
    let after_is = c.in_ok-push.ensures.items in
    let more = length-append before (text ∷ []) in (
      omega (arith, ap length after_is, more, c.loop-number.invariant.0),
      λ e found at. elim (snoc-get before text e found (ap (λ ts. slice_get ts e) (sym after_is) ∙ at)) [
        | inl old ↦ c.loop-number.invariant.1 e found old
        | inr new ↦
            let P : Option (std.Vec ℕ Global) → Type 0 = λ t. IsOwnText c.args.schema.now e t in
            let Q : ℕ → Type 0 = λ f. IsOwnText c.args.schema.now f text in
            subst P (sym new.1) (subst Q (sym (new.0 ∙ c.loop-number.invariant.0)) c.in_ok-own_text.ensures)
      ],
    )

pub returns : goal.returns
returns c = record {
  size = c.loop-number.invariant.0 ∙ (let end : c.loop-number.number ≡ length c.args.schema.now.entities =
      omega (arith, c.entities-number-end.ensures, c.loop-number-test.false, c.loop-number.auto.number-end) in end);
  each = c.loop-number.invariant.1;
}
