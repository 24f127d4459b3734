use Rattle.std.proofs.Common.{◌∙◌, length, ap, refl, arith}
use Rattle.p21_stream_store.proofs.BlockLemmas.{end_within, next_firsts, next_same}
use Rattle.p21_stream_store.proofs.RoomLemmas.{pushed}
use Rattle.p21_stream_store.specs.Texts.{HeldTexts}
use Rattle.p21_stream_store.proofs.texts.Texts.reserve.Goals as goal

pub overflow_add-self : goal.overflow_add-self
overflow_add-self c =
    let sum = end_within _ _ _ _ _ c.self.invariant (ap (λ (held : HeldTexts). held.texts) c.self.view_is)
    (c.len-count.ensures ∙ ap length c.in-Ok-false.ensures.same) in
    omega (arith, sum, c.requires)

pub invariant_of-self-2 : goal.invariant_of-self-2
invariant_of-self-2 c =
    next_firsts _ _ _ _ (record { first = c.self.inside.end; block = c.replace.result }) refl
    (ap (λ (held : HeldTexts). held.texts) c.replace.ensures.value ∙ c.close.ensures ∙ c.in-Ok-false.ensures.same)
    (pushed _ _ _ _ c.push_reserved.ensures.items c.in_ok-make_room.ensures.items) c.len-count.result
    (c.len-count.ensures ∙ ap length c.in-Ok-false.ensures.same) c.self.invariant

pub returns-clause-same : goal.returns-clause-same
returns-clause-same c =
    next_same _ _ _ _ (record { first = c.self.inside.end; block = c.replace.result }) refl
    (ap (λ (held : HeldTexts). held.texts) c.replace.ensures.value ∙ c.close.ensures ∙ c.in-Ok-false.ensures.same)
    (pushed _ _ _ _ c.push_reserved.ensures.items c.in_ok-make_room.ensures.items) _
    (ap (λ (held : HeldTexts). held.texts) c.replace.ensures.after ∙ c.in-Ok-true-reserve.ensures.same ∙ c.new-block.ensures)
    ∙ ap (λ (held : HeldTexts). held.texts) c.self.view_is
