use Rattle.std.proofs.Common.{ℕ, ◌≤◌, subst, sym}
use Rattle.p21_stream_store.proofs.SeenLemmas.{noted_others}
use Rattle.p21_stream_store.proofs.seen.note.Goals as goal

pub returns-clause-others : goal.returns-clause-others
returns-clause-others c = noted_others _ _ _ _ c.in-Ok.ensures.same c.set_bit.ensures.bits c.set_bit.ensures.words

pub returns-clause-room : goal.returns-clause-room
returns-clause-room c = λ m old most. subst (λ (room : ℕ). room ≤ m) (sym c.set_bit.ensures.room) (c.make_word.ensures.room m old most)
