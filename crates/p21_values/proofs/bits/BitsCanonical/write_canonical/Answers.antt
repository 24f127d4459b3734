use Rattle.std.proofs.Common.{◌++◌, ◌∙◌, List, ℕ, ap}
use Rattle.p21_spec_exchange.proofs.BitSpellings.{bits_spelled_once}
use Rattle.p21_spec_exchange.specs.Spelling.{bits_spelling}
use Rattle.p21_values.proofs.bits.BitsCanonical.write_canonical.Goals as goal

pub returns-clause-ok : goal.returns-clause-ok
returns-clause-ok c =
    let token = bits_spelled_once _ _ c.self.invariant ∙ ap bits_spelling c.self.view_is in
    c.in_ok-extend_from_slice.ensures.items ∙ ap (λ (bytes : List ℕ). c.args.out.now.items ++ bytes) (c.deref.ensures ∙ token)
