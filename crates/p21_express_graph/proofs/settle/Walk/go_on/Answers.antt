use Rattle.std.specs.Prelude.{◌<◌, length, reverse, Contains, ℕ, Bool, List, ◌∷◌, slice_set, true}
use Rattle.std.proofs.Common.{arith, subst, sym, ap}
use Rattle.p21_express_graph.specs.SettledOrder.{lists_of, IsNext}
use Rattle.p21_express_graph.specs.Walk.{IsDone, Walks, work}
use Rattle.p21_express_graph.proofs.settle.Walk.go_on.Goals as goal
use Rattle.p21_express_graph.proofs.Walks.{nexts_at, next_of, open_of, circles, goes, finishes, go-falls, finish-falls, turned, turned-length, listed-length}

pub first_open-requires : goal.first_open-requires
first_open-requires c x among =
    let below : c.args.top < length c.args.nexts.now = (let n = listed-length (λ x. x.items) c.args.nexts.now in let b = c.requires.stands.is_way.0 in omega (arith, n, b)) in
    let same = nexts_at (λ x. x.items) c.args.nexts.now c.args.top c.index-nexts-top.result c.deref.result.now below c.index-nexts-top.is c.deref.ensures.value in
    let P : List ℕ → Type 0 = λ xs. Contains xs x in
    let lt = c.requires.within c.args.top x (subst P (sym same) among) in
    omega (arith, lt, c.requires.stands.size, ap length c.deref-2.ensures.value)

pub returns-then-len-nexts : goal.returns-then-len-nexts
returns-then-len-nexts c =
    let two = turned-length c.args.self.now.way.items c.push.new.self.items c.push-in-Some.new.self.items c.args.top c.in-Some.next c.in_ok-push-in-Some.ensures.items c.in_ok-push-in-Some-2.ensures.items in
    circles (lists_of c.args.nexts.now) c.args.self.now.done.items c.args.self.now.listed.items (reverse c.args.self.now.way.items) c.args.self.now.passed c.args.top c.in-Some.next
    c.requires.within c.requires.stands (next_of (λ x. x.items) c.args.nexts.now c.args.top c.index-nexts-top.result c.deref.result.now c.in-Some.next c.requires.stands.is_way.0 c.index-nexts-top.is c.deref.ensures.value c.in-Some.ensures.0) (open_of c.args.self.now.done.items c.deref-2.result.now c.in-Some.next c.deref-2.ensures.value c.in-Some.ensures.1)
    (let n = listed-length (λ x. x.items) c.args.nexts.now in omega (arith, two, n, c.len.ensures, c.if-len-nexts.true))

pub returns-else-len-nexts : goal.returns-else-len-nexts
returns-else-len-nexts c =
    let lists = lists_of c.args.nexts.now in
    let old = c.args.self.now in
    let two = turned-length old.way.items c.push.new.self.items c.push-in-Some.new.self.items c.args.top c.in-Some.next c.in_ok-push-in-Some.ensures.items c.in_ok-push-in-Some-2.ensures.items in
    let is = turned old.way.items c.push.new.self.items c.push-in-Some.new.self.items c.args.top c.in-Some.next c.in_ok-push-in-Some.ensures.items c.in_ok-push-in-Some-2.ensures.items in
    let P : List ℕ → Type 0 = λ way. Walks lists old.done.items old.listed.items way old.passed × (work (length lists) old.done.items way old.passed < work (length lists) old.done.items (c.args.top ∷ reverse old.way.items) old.passed) in
    let n = listed-length (λ x. x.items) c.args.nexts.now in
    subst P (sym is) (
      goes lists old.done.items old.listed.items (reverse old.way.items) old.passed c.args.top c.in-Some.next c.requires.within c.requires.stands (next_of (λ x. x.items) c.args.nexts.now c.args.top c.index-nexts-top.result c.deref.result.now c.in-Some.next c.requires.stands.is_way.0 c.index-nexts-top.is c.deref.ensures.value c.in-Some.ensures.0) (open_of c.args.self.now.done.items c.deref-2.result.now c.in-Some.next c.deref-2.ensures.value c.in-Some.ensures.1) (omega (arith, two, n, c.len.ensures, c.if-len-nexts.false)),
      go-falls (length lists) old.done.items (c.args.top ∷ reverse old.way.items) old.passed c.in-Some.next (omega (arith, two, n, c.len.ensures, c.if-len-nexts.false)),
    )

pub returns-in_ok-push-in-None : goal.returns-in_ok-push-in-None
returns-in_ok-push-in-None c =
    let lists = lists_of c.args.nexts.now in
    let old = c.args.self.now in
    let below : c.args.top < length c.args.nexts.now = (let n = listed-length (λ x. x.items) c.args.nexts.now in let b = c.requires.stands.is_way.0 in omega (arith, n, b)) in
    let same = nexts_at (λ x. x.items) c.args.nexts.now c.args.top c.index-nexts-top.result c.deref.result.now below c.index-nexts-top.is c.deref.ensures.value in
    let P : List ℕ → Type 0 = λ listed. Walks lists (slice_set old.done.items c.args.top true) listed (reverse old.way.items) old.passed in
    let Q : List Bool → Type 0 = λ d. (x : ℕ) → IsNext lists c.args.top x → IsDone d x in
    let R : List ℕ → Type 0 = λ xs. (x : ℕ) → Contains xs x → IsDone c.deref-2.result.now x in
    let all : (x : ℕ) → IsNext lists c.args.top x → IsDone old.done.items x = subst Q c.deref-2.ensures.value (subst R (sym same) c.in-None.ensures) in (
      subst P (sym c.in_ok-push-in-None.ensures.items) (finishes lists old.done.items old.listed.items (reverse old.way.items) old.passed c.args.top c.requires.stands all),
      finish-falls (length lists) old.done.items (reverse old.way.items) old.passed c.args.top c.requires.stands.is_way.1,
    )
