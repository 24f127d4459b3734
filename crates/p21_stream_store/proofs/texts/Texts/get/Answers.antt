use Rattle.std.proofs.Common.{ap, ◌∙◌}
use Rattle.p21_stream_store.proofs.BlockLemmas.{last_within}
use Rattle.p21_stream_store.specs.Texts.{HeldTexts}
use Rattle.p21_stream_store.proofs.texts.Texts.get.Goals as goal

pub get-requires : goal.get-requires
get-requires c = (last_within _ _ _ _ _ c.self.invariant (ap (λ (held : HeldTexts). held.texts) c.self.view_is) c.requires
    c.if-index-self.false).0

pub returns : goal.returns
returns c = (last_within _ _ _ _ _ c.self.invariant (ap (λ (held : HeldTexts). held.texts) c.self.view_is) c.requires
    c.if-index-self.false).1 ∙ c.get.ensures
