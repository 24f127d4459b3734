use Rattle.std.proofs.Common.{◌≡◌, ℕ, ◌-◌, ◌+◌, List, length, length-append, ap, subst, sym, arith}
use Rattle.p21_spec_basics.specs.Digits.{number as value_of}
use Rattle.p21_spec_exchange.specs.Token as meaning
use Rattle.p21_tokens.proofs.LeadingTokens.{leads_name}
use Rattle.p21_tokens.specs.Prefix.{ReachesWaitingToken}
use Rattle.p21_tokens.proofs.prefix.leading_name.Goals as goal

pub returns : goal.returns
returns c =
    let bytes = c.args.bytes.now in
    let digits = c.in_ok-digits.digits.now in
    let rest = c.in_ok-digits.rest.now in
    let at = c.in_ok-digits.ensures.some in
    let value = c.in_ok-number.ensures.some in
    let count : length digits + 1 ≡ length bytes - length rest = omega (arith, ap (λ (x : List ℕ). length x) at.bytes_are, length-append digits rest) in
    subst (λ n. ReachesWaitingToken bytes (length bytes - length rest) (meaning.name n)) (sym value)
    (subst (λ (k : ℕ). ReachesWaitingToken bytes k (meaning.name (value_of digits))) count (leads_name bytes digits _ _ _ at c.in_ok-_byte.ensures.cases.0 (omega (arith, value))))
