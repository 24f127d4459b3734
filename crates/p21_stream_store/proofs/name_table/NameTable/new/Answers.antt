use Rattle.std.proofs.Common.{[], refl, arith}
use Rattle.p21_stream_store.proofs.PositionLemmas.{none_found}
use Rattle.p21_stream_store.proofs.name_table.NameTable.new.Goals as goal

pub invariant_of-result : goal.invariant_of-result
invariant_of-result c = (
  omega arith,
  (
    (
      [],
      (
        refl,
        none_found c.new.result c.new-2.result c.new-3.result c.new.ensures (c.new-2.ensures 0)
            (λ name. search),
      ),
    ),
    tt,
  ),
)
