use Rattle.std.proofs.Common.{List, ℕ, arith, ap, get_or, length}
use Rattle.p21_spec_exchange.proofs.BitSpellings.{length_spelled}
use Rattle.p21_values.proofs.BitsLemmas.{length_token}
use Rattle.p21_values.proofs.bits.Bits.len.Goals as goal

pub returns : goal.returns
returns c =
    let s = c.self.invariant in
    let token = length_token _ _ 0 s in
    let padding = ap (λ (bytes : List ℕ). get_or bytes 1 0) c.deref.ensures in
    omega (arith, token, length_spelled _ _ s, ap length c.self.view_is, padding)
