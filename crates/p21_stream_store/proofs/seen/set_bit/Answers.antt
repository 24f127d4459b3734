use Rattle.std.proofs.Common.{◌∙◌}
use Rattle.std.proofs.lemmas.List.{get_or_default}
use Rattle.p21_stream_store.proofs.SeenLemmas.{bit_kept, bit_set}
use Rattle.p21_stream_store.proofs.seen.set_bit.Goals as goal

pub returns-clause-set : goal.returns-clause-set
returns-clause-set c = bit_set _ _ _ _ c.requires.word c.requires.bit

pub returns-clause-bits : goal.returns-clause-bits
returns-clause-bits c = bit_kept _ _ _ _ c.requires.word c.requires.bit (c.index_mut.ensures.value ∙ get_or_default _ _ _ 0 c.requires.word)
