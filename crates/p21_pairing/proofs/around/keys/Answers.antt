use Rattle.std.specs.Global.{Vec}
use Rattle.std.specs.Prelude.{◌≡◌, ℕ, List, length}
use Rattle.std.proofs.Common.{arith, ap}
use Rattle.p21_pairing.proofs.around.keys.Goals as goal

pub returns-clause-size : goal.returns-clause-size
returns-clause-size c =
    let rows = ap (λ (vs : List (Vec ℕ)). length vs) c.deref.ensures.value in
    omega (arith, rows, c.in_ok-keys.ensures.size, c.loop-k.invariant, c.loop-k-test.false, c.loop-k.auto.k-end)

pub returns-clause-within : goal.returns-clause-within
returns-clause-within c k low =
    let rows = ap (λ (vs : List (Vec ℕ)). length vs) c.deref.ensures.value in
    let size : length c.deref.result.now ≡ length c.args.kinds.now =
    omega (arith, rows, c.loop-k.invariant, c.loop-k-test.false, c.loop-k.auto.k-end) in
    let below = c.in_ok-keys.ensures.within k (omega (arith, low, size)) in
    omega (arith, below, size)
