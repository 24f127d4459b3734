use Rattle.std.proofs.Common.{[], ap}
use Rattle.std.proofs.lemmas.Option.{slice_get-get_or}
use Rattle.p21_stream_store.proofs.StoredTextLemmas.{got, within, within_other}
use Rattle.p21_stream_store.specs.StoredTexts.{HeldLines}
use Rattle.p21_stream_store.proofs.stored_texts.StoredTexts.membership.Goals as goal

pub get-requires : goal.get-requires
get-requires c = within _ _ _ (ap (λ (held : HeldLines). held.lines) c.self.view_is) c.self.invariant c.args.index c.requires

pub returns : goal.returns
returns c = (
  _,
  got _ _ _ (ap (λ (held : HeldLines). held.lines) c.self.view_is) c.args.index _ _ c.get.ensures
      (slice_get-get_or _ c.args.index [] (within_other _ _ _ (ap (λ (held : HeldLines). held.lines) c.self.view_is) c.self.invariant
      c.args.index c.requires)),
)
