-- The laws, from the theorems.
use Rattle.p21_spec_pairing.proofs.Alone.{same-are_paired}
use Rattle.p21_spec_pairing.proofs.Partners.{nothing-in_same, pairs-one_to_one, same-if_none}
use Rattle.p21_spec_pairing.proofs.laws.pairing_laws.Goals as goal

pub returns : goal.returns
returns c = record { pairs = pairs-one_to_one; same = same-if_none; nothing = nothing-in_same; paired = same-are_paired }
