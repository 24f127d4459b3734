use Rattle.std.proofs.Common.{◌++◌, ◌∷◌, [], ap, ◌∙◌, arith}
use Rattle.p21_stream_store.proofs.TextLemmas.{block_more, block_starts_more}
use Rattle.p21_stream_store.specs.Texts.{HeldTexts}
use Rattle.p21_stream_store.proofs.texts.Block.push_reserved.Goals as goal

pub invariant_of-self : goal.invariant_of-self
invariant_of-self c = block_starts_more _ _ c.args.text.now _ _ c.self.invariant
    (record {
      start = c.len.result;
      start_is = omega (arith, c.len.ensures);
      starts_are = c.push_reserved.ensures.items;
      bytes_are =
          c.in-Ok.ensures.items;
    })

pub returns : goal.returns
returns c =
    block_more _ _ c.args.text.now _ _ c.self.invariant
    (record {
      start = c.len.result;
      start_is = omega (arith, c.len.ensures);
      starts_are = c.push_reserved.ensures.items;
      bytes_are =
          c.in-Ok.ensures.items;
    })
    ∙ ap (λ (held : HeldTexts). held.texts ++ c.args.text.now ∷ []) c.self.view_is
