use Rattle.std.specs.Prelude.{◌≡◌, ◌<◌, ◌∷◌, [], ℕ, Bool, true, false, List, Some, Contains, length, refl}
use Rattle.std.proofs.Common.{arith, ap, sym, ◌∙◌, subst, get_or, length-append}
use Rattle.std.proofs.lemmas.Option.{slice_get-get_or, slice_get_read}
use Rattle.p21_express_graph.specs.Indexes.{IsIndex}
use Rattle.p21_express_graph.specs.Orders.{numbers, number_lists}
use Rattle.p21_express_graph.specs.SettledOrder.{nexts_of}
use Rattle.p21_express_graph.proofs.indexes.indexes_of.Goals as goal
use Rattle.p21_express_graph.proofs.FirstPositions.{IsIndexWhere, index-more}
use Rattle.p21_express_graph.proofs.Walks.{nexts_at}

-- what is read is what stands there
read-is : (used : List Bool) (k : ℕ) (read : Bool) → k < length used → read ≡ get_or used k read → get_or used k false ≡ true → read ≡ true
read-is used k read below is marked =
    let here : Some read ≡ Some (get_or used k false) = sym (slice_get_read used (length used) k read refl below is) ∙ slice_get-get_or used k false below in
    let same : read ≡ get_or used k false = cc in
    same ∙ marked

pub index_where-requires : goal.index_where-requires
index_where-requires c e among =
    let k : ℕ = c.loop-at.at in
    let low : k < length c.args.runs.now = c.loop-at-test.true in
    let is : nexts_of (number_lists c.args.runs.now) k ≡ numbers c.deref.result.now = nexts_at (λ v. numbers v.items) c.args.runs.now k c.index-runs-at.result (numbers c.deref.result.now) low c.index-runs-at.is (ap numbers c.deref.ensures.value) in
    let P : List ℕ → Type 0 = λ es. Contains es e in
    let below = c.requires.below k e (subst P (sym is) among) in
    omega (arith, below, c.loop-at.invariant.0)

pub loop-at-preserved : goal.loop-at-preserved
loop-at-preserved c =
    let k : ℕ = c.loop-at.at in
    let low : k < length c.args.runs.now = c.loop-at-test.true in
    let is : nexts_of (number_lists c.args.runs.now) k ≡ numbers c.deref.result.now = nexts_at (λ v. numbers v.items) c.args.runs.now k c.index-runs-at.result (numbers c.deref.result.now) low c.index-runs-at.is (ap numbers c.deref.ensures.value) in
    let index = c.in_ok-index.index in
    let used : List Bool = c.in_ok-used.used.items in
    let P : ℕ → Type 0 = λ n. IsIndexWhere (number_lists c.args.runs.now) used n index in
    let Q : List ℕ → Type 0 = λ run. IsIndex run index.numbers.items index.places.items in
    let here : IsIndexWhere (number_lists c.args.runs.now) used k index = λ marked.
    subst Q (sym is) (c.in_ok-index.ensures.index (read-is used k c.index.result.now (omega (arith, low, c.in_ok-used.ensures.size)) c.index.ensures marked)) in (
      c.in_ok-index.ensures.size ∙ c.loop-at.invariant.0,
      omega (arith, ap length c.in_ok-push.ensures.items, length-append c.loop-at.indexes.items (index ∷ []), c.loop-at.invariant.1),
      index-more (number_lists c.args.runs.now) used c.loop-at.indexes.items c.push.new.self.items index c.in_ok-push.ensures.items c.loop-at.invariant.2 (subst P (sym c.loop-at.invariant.1) here),
    )
