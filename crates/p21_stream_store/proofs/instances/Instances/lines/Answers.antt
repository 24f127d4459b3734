use Rattle.std.proofs.Common.{ℕ, List, [], ◌∷◌, ◌++◌, ◌+◌, length, map, take, drop, ap, sym, ◌∙◌}
use Rattle.std.proofs.lemmas.List.{length-append}
use Rattle.p21_stream_store.proofs.LineLemmas.{one_more_text}
use Rattle.p21_stream_store.specs.StoredInstance.{text_at}
use Rattle.p21_stream_store.proofs.instances.Instances.lines.Goals as goal

pub loop-index-preserved : goal.loop-index-preserved
loop-index-preserved c =
    let kept = c.args.self.now in
    let before = map (text_at kept) (take c.loop-index.index (drop c.args.from c.args.positions.now)) in
    record {
      texts = c.push.ensures
          ∙ ap (λ (lines : List (List ℕ)). lines ++ c.text.result.now ∷ []) c.loop-index.invariant.texts
          ∙ ap (λ (text : List ℕ). before ++ text ∷ []) (sym c.text.ensures.2)
          ∙ sym (one_more_text kept c.args.positions.now c.args.from c.loop-index.index c.get-place.result c.text.ensures.0
          c.get-place.ensures c.text.ensures.1);
      many = ap length c.push.ensures ∙ length-append c.loop-index.lines (c.text.result.now ∷ [])
          ∙ ap (λ (n : ℕ). n + 1) c.loop-index.invariant.many;
    }
