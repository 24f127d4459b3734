use Rattle.std.specs.Prelude.{◌≡◌, ℕ, List, length}
use Rattle.std.proofs.Common.{arith, ap}
use Rattle.p21_pairing.proofs.around.labels.Goals as goal
use denote.Ref.{Bor}

pub returns-clause-size : goal.returns-clause-size
returns-clause-size c =
    let rows = ap (λ (vs : List (Bor (List ℕ))). length vs) c.deref.ensures.value in
    omega (arith, rows, c.in_ok-labels.ensures.size, c.loop-node.invariant, c.loop-node-test.false, c.loop-node.auto.node-index-end)

pub returns-clause-within : goal.returns-clause-within
returns-clause-within c k low =
    let rows = ap (λ (vs : List (Bor (List ℕ))). length vs) c.deref.ensures.value in
    let size : length c.deref.result.now ≡ length c.args.nodes.now =
    omega (arith, rows, c.loop-node.invariant, c.loop-node-test.false, c.loop-node.auto.node-index-end) in
    let below = c.in_ok-labels.ensures.within k (omega (arith, low, size)) in
    omega (arith, below, size)
