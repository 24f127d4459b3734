use Rattle.p21_scan.specs.Text.{IsUnitAt}
use Rattle.p21_spec_exchange.specs.Text.{alphabet_a}
use Rattle.p21_shorter_tokens.proofs.Respelling.{alphabet_respelled}
use Rattle.p21_shorter_tokens.proofs.directive.append_directive.Goals as goal

pub append_latin-requires : goal.append_latin-requires
append_latin-requires c = rw c.in-Latin.is at (c.in_ok-directive.ensures {u = tt})

pub returns-in-Alphabet-clause-some : goal.returns-in-Alphabet-clause-some
returns-in-Alphabet-clause-some c =
    let stands : IsUnitAt c.args.rest.now alphabet_a c.in_ok-directive.behind.now = rw c.in-Alphabet.is at (c.in_ok-directive.ensures {u = tt}) in
    alphabet_respelled _ _ _ stands
