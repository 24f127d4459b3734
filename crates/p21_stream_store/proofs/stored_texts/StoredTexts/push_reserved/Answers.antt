use Rattle.std.proofs.Common.{ap}
use Rattle.p21_stream_store.proofs.StoredTextLemmas.{one_more}
use Rattle.p21_stream_store.specs.StoredTexts.{HeldLines}
use Rattle.p21_stream_store.proofs.stored_texts.StoredTexts.push_reserved.Goals as goal

pub returns : goal.returns
returns c = one_more _ _ _ (ap (λ (held : HeldLines). held.lines) c.self.view_is) c.self.invariant _ _ _ _ c.put.ensures
    c.push_reserved.ensures
