use Rattle.std.proofs.Common.{length, ap, arith}
use Rattle.p21_stream_store.proofs.TextLemmas.{length-texts_of}
use Rattle.p21_stream_store.specs.Texts.{HeldTexts}
use Rattle.p21_stream_store.proofs.texts.Block.len.Goals as goal

pub returns : goal.returns
returns c =
    let seen = ap (λ (held : HeldTexts). length held.texts) c.self.view_is in
    omega (arith, seen, length-texts_of c.self.inside.starts.items c.self.inside.bytes.items)
