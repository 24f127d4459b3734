use Rattle.std.proofs.Common.{◌≡◌, ◌++◌, Bool, ℤ, subst, to_z, of_z, arith}
use Rattle.std.proofs.lemmas.Int.{ints}
use mir.Syntax.{w32}
use Rattle.p21_spec_exchange.specs.Spelling.{exponent_spelling}
use Rattle.p21_shorter_tokens.specs.Appending.{AppendsAllOrNone}
use Rattle.p21_shorter_tokens.specs.Significands.{significand}
use Rattle.p21_shorter_tokens.proofs.real.append_at_power.Goals as goal

pub returns-clause-whole : goal.returns-clause-whole
returns-clause-whole c = λ is.
    let p = c.args.places.now in
    let k = c.args.power in
    let digits = significand c.args.negative c.args.unsigned.now 0 p.point p.first p.behind in
    let back : to_z w32 (of_z w32 k) ≡ k = omega (arith, ints) in
    let written = subst (λ (r : Bool). AppendsAllOrNone r (digits ++ exponent_spelling (to_z w32 (of_z w32 k))) c.args.draft.now c.append_scaled.new.draft) is c.append_scaled.ensures in (
      (omega (arith, ints), omega (arith, ints)),
      subst (λ (z : ℤ). c.append_scaled.new.draft ≡ c.args.draft.now ++ (digits ++ exponent_spelling z)) back written,
    )
