use Rattle.std.proofs.Common.{◌≡◌, ℤ, subst, arith, to_z, of_z}
use Rattle.std.proofs.lemmas.Int.{ints}
use mir.Syntax.{w32}
use Rattle.p21_spec_exchange.specs.Spelling.{exponent_spelling}
use Rattle.p21_shorter_tokens.proofs.RealTokens.{normalised-part}
use Rattle.p21_shorter_tokens.specs.Appending.{AppendsAllOrSome}
use Rattle.p21_shorter_tokens.proofs.real.append_normalised.Goals as goal

pub returns : goal.returns
returns c =
    let k = c.args.exponent in
    let back : to_z w32 (of_z w32 k) ≡ k = omega (arith, ints) in
    let r = c.append_exponent.result in
    let spelled = subst (λ (x : ℤ). AppendsAllOrSome r (exponent_spelling x) c.append_pointed.new.draft c.append_exponent.new.draft) back c.append_exponent.ensures in
    normalised-part r c.args.negative _ k c.args.draft.now c.append_pointed.new.draft c.append_exponent.new.draft (omega (arith, ints), omega (arith, ints)) (c.if-not-append_pointed.ensures {u = tt}) spelled
