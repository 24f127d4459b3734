use Rattle.std.proofs.Common.{refl, ◌≡◌, ℤ, true, drop, subst, to_z, of_z, arith}
use Rattle.std.proofs.lemmas.Int.{ints}
use mir.Syntax.{w32}
use Rattle.p21_spec_basics.proofs.Members.{rest_is}
use Rattle.p21_shorter_tokens.specs.Numbers.{AppendsNumber, EndsReal}
use Rattle.p21_shorter_tokens.specs.Significands.{placed_ratio}
use Rattle.p21_shorter_tokens.proofs.real.append_near.Goals as goal

pub returns-clause-some : goal.returns-clause-some
returns-clause-some c =
    let p = c.args.places.now in
    let bytes = c.args.unsigned.now in
    let k = c.in_ok-exponent.exponent in
    let rest = c.in_ok-exponent.rest.now in
    let end : EndsReal (drop p.end bytes) k rest = subst (λ x. EndsReal x k rest) (rest_is bytes p.end) (c.in_ok-exponent.ensures {u = tt}) in
    let back : to_z w32 (of_z w32 k) ≡ k = omega (arith, ints, end.small) in
    let written : AppendsNumber true (placed_ratio c.args.negative bytes 0 p.point p.end (to_z w32 (of_z w32 k))) c.args.draft.now c.append_placed.new.draft = c.if-not-append_placed.ensures.whole refl in
    (k, end, subst (λ (z : ℤ). AppendsNumber true (placed_ratio c.args.negative bytes 0 p.point p.end z) c.args.draft.now c.append_placed.new.draft) back written)
