use Rattle.std.specs.Prelude.{length}
use Rattle.std.proofs.Common.{arith, ap, inl, inr}
use Rattle.p21_express_graph.proofs.sharing.others_of.Goals as goal

pub outside_of-requires : goal.outside_of-requires
outside_of-requires c e among = let below = c.requires.list e among in omega (arith, below, c.note_positions.ensures.size, ap length c.deref.ensures.value)

pub returns-clause-within : goal.returns-clause-within
returns-clause-within c f among = c.in_ok-outside.ensures.within f ((c.rising_numbers.ensures.same f).0 among)

pub returns-clause-rest : goal.returns-clause-rest
returns-clause-rest c f among = elim (c.in_ok-outside.ensures.rest f among) [
  | inl h ↦ inl h
  | inr other ↦ elim other [ inl h ↦ inr (inl ((c.rising_numbers.ensures.same f).1 h)) | inr same ↦ inr (inr same) ]
]
