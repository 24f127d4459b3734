use Rattle.std.proofs.Common.{ap}
use Rattle.p21_stream_store.proofs.StoredTextLemmas.{got, within, within_other}
use Rattle.p21_stream_store.specs.StoredTexts.{HeldLines}
use Rattle.p21_stream_store.proofs.stored_texts.StoredTexts.get.Goals as goal

pub get-requires : goal.get-requires
get-requires c = within _ _ _ (ap (λ (held : HeldLines). held.lines) c.self.view_is) c.self.invariant c.args.index c.requires

pub get-requires-2 : goal.get-requires-2
get-requires-2 c = within_other _ _ _ (ap (λ (held : HeldLines). held.lines) c.self.view_is) c.self.invariant c.args.index c.requires

pub returns : goal.returns
returns c = got _ _ _ (ap (λ (held : HeldLines). held.lines) c.self.view_is) c.args.index _ _ c.get.ensures c.get-2.ensures
