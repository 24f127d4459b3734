use Rattle.std.specs.Prelude.{◌≡◌, ◌+◌, ◌-◌, ◌<◌, ℕ, Some, length, slice_get, slice_set, refl}
use Rattle.std.proofs.Common.{arith, ap, ◌∙◌, subst, get_or}
use Rattle.std.proofs.lemmas.List.{get_or-map, length-set}
use Rattle.std.proofs.lemmas.Option.{slice_get-get_or}
use Rattle.p21_express_graph.specs.Indexes.{HaveFirstPositions}
use Rattle.p21_express_graph.specs.Orders.{numbers}
use Rattle.p21_express_graph.proofs.indexes.note_positions.Goals as goal
use Rattle.p21_express_graph.proofs.Gatherings.{mapped-length, numbered-at}
use Rattle.p21_express_graph.proofs.FirstPositions.{more-first, none-first}

pub loop-past-init : goal.loop-past-init
loop-past-init c = (refl, none-first (numbers c.args.run.now) c.args.places.now.items (length c.args.run.now - 0) (omega (arith, mapped-length (λ e. e.0) c.args.run.now)))

pub index_mut-requires : goal.index_mut-requires
index_mut-requires c =
    let below = c.requires _ (numbered-at (λ e. e.0) c.args.run.now (length c.args.run.now - 1 - c.loop-past.past) record { 0 = 0 } (omega (arith, c.loop-past-test.true))) in
    omega (arith, below, c.loop-past.invariant.0, c.loop-past.places.ok.0)

pub loop-past-preserved : goal.loop-past-preserved
loop-past-preserved c =
    let k : ℕ = c.loop-past.past in
    let count : ℕ = length c.args.run.now in
    let place : ℕ = count - 1 - k in
    let run = numbers c.args.run.now in
    let places = c.loop-past.places.items in
    let x : ℕ = (get_or c.args.run.now place record { 0 = 0 }).0 in
    let low : place < length c.args.run.now = omega (arith, c.loop-past-test.true) in
    let at : slice_get run place ≡ Some x = slice_get-get_or run place 0 (omega (arith, low, mapped-length (λ e. e.0) c.args.run.now)) ∙ ap Some (get_or-map (λ e. e.0) c.args.run.now place record { 0 = 0 } 0 low) in
    let next : count - k ≡ place + 1 = omega (arith, c.loop-past-test.true) in
    let done : place ≡ count - (k + 1) = omega (arith, c.loop-past-test.true) in
    let below = c.requires x (numbered-at (λ e. e.0) c.args.run.now place record { 0 = 0 } low) in
    let P : ℕ → Type 0 = λ n. HaveFirstPositions run places n in
    let Q : ℕ → Type 0 = λ n. HaveFirstPositions run (slice_set places x place) n in
    (length-set places x place ∙ c.loop-past.invariant.0, subst Q done (more-first run places place x at (omega (arith, below, c.loop-past.invariant.0)) (subst P next c.loop-past.invariant.1)))

pub returns-clause-first : goal.returns-clause-first
returns-clause-first c =
    let none : length c.args.run.now - c.loop-past.past ≡ 0 = omega (arith, c.loop-past-test.false) in
    let P : ℕ → Type 0 = λ n. HaveFirstPositions (numbers c.args.run.now) c.loop-past.places.items n in
    subst P none c.loop-past.invariant.1
