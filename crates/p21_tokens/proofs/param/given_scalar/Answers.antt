use Rattle.std.proofs.Common.{◌≡◌, ◌<◌, ℕ, List, length, true, false, arith, ◌==◌, subst}
use Rattle.std.proofs.lemmas.Bool.Decides.{nat_tests}
use Rattle.p21_tokens.proofs.OneScalar.{empty-rest}
use Rattle.p21_tokens.specs.Finding.{PendingBytes}
use Rattle.p21_tokens.proofs.param.given_scalar.Goals as goal

some : (rest : List ℕ) → false ≡ (length rest == 0) → 0 < length rest
some rest test = grind (arith, nat_tests)

none : (rest : List ℕ) → true ≡ (length rest == 0) → length rest ≡ 0
none rest test = grind (arith, nat_tests)

pub take_scalar-requires : goal.take_scalar-requires
take_scalar-requires c = some c.loop-rest.rest.now c.loop-rest-test.ensures

pub returns-in-Err : goal.returns-in-Err
returns-in-Err c = c.in-Err.ensures.pending c.args.text.now c.loop-rest.invariant

pub loop-rest-preserved : goal.loop-rest-preserved
loop-rest-preserved c = c.in-Ok.ensures.pending c.args.text.now c.loop-rest.invariant

pub returns : goal.returns
returns c =
    let ends = empty-rest c.loop-rest.lexer c.args.text.now c.loop-rest.rest.now c.loop-rest.found c.loop-rest.invariant (none c.loop-rest.rest.now c.loop-rest-test.ensures) in
    subst (λ (rest : List ℕ). PendingBytes c.loop-rest.lexer c.args.text.now rest c.loop-rest.found) ends c.loop-rest.invariant
