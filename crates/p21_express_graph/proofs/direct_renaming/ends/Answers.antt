use Rattle.std.specs.Prelude.{◌≡◌, ◌+◌, ℕ, List, Some, suc, slice_get, slice_set, take}
use Rattle.std.proofs.Common.{arith, sym, subst, get_or}
use Rattle.std.proofs.lemmas.List.{take_all}
use Rattle.std.proofs.lemmas.Option.{slice_get-get_or}
use Rattle.p21_spec_basics.proofs.Members.{Contains-found, Contains-none}
use Rattle.p21_express_graph.specs.SchemaContents.{defined, schema_of}
use Rattle.p21_express_graph.specs.DirectRenaming.{IsEnd, direct_renaming}
use Rattle.p21_express_graph.specs.Resolved.{IsType}
use Rattle.p21_express_graph.proofs.direct_renaming.ends.Goals as goal
use Rattle.p21_express_graph.proofs.Ends.{AreSoFar, all-ends, ends-more, next-known}
use Rattle.p21_express_graph.proofs.Gatherings.{mapped-length}

pub loop-number-init : goal.loop-number-init
loop-number-init c =
    let n = mapped-length defined c.args.parts.now.types.items in
    record { size = omega (arith, n, c.in_ok-ends.ensures.len, c.in_ok-ends.ends.ok.0, c.len.ensures, c.args.parts.now.types.ok.0); each = λ t among. absurd (Contains-none t among) }

pub end_of-end-requires-clause-of : goal.end_of-end-requires-clause-of
end_of-end-requires-clause-of c =
    let s = schema_of c.args.parts.now in
    let x : ℕ = get_or c.args.listed.now c.loop-number.number-index 0 in
    let below = c.requires.settled_order.within x (Contains-found c.args.listed.now c.loop-number.number-index x (slice_get-get_or c.args.listed.now c.loop-number.number-index 0 c.loop-number-test.true)) in
    omega (arith, below, mapped-length (λ y. direct_renaming y.kind) s.types)

pub end_of-end-requires-clause-next : goal.end_of-end-requires-clause-next
end_of-end-requires-clause-next c t is =
    let s = schema_of c.args.parts.now in
    let k : ℕ = c.loop-number.number-index in
    let P : List ℕ → Type 0 = λ ends. IsEnd s t (get_or ends t 0) in
    subst P (sym c.deref.ensures.value) (next-known s c.args.listed.now c.requires.settled_order c.loop-number.ends.items k (get_or c.args.listed.now k 0) (slice_get-get_or c.args.listed.now k 0 c.loop-number-test.true) c.loop-number.invariant t is)

pub index_mut-requires : goal.index_mut-requires
index_mut-requires c =
    let s = schema_of c.args.parts.now in
    let x : ℕ = get_or c.args.listed.now c.loop-number.number-index 0 in
    let below = c.requires.settled_order.within x (Contains-found c.args.listed.now c.loop-number.number-index x (slice_get-get_or c.args.listed.now c.loop-number.number-index 0 c.loop-number-test.true)) in
    omega (arith, below, mapped-length (λ y. direct_renaming y.kind) s.types, c.loop-number.invariant.size, c.loop-number.ends.ok.0)

pub loop-number-preserved : goal.loop-number-preserved
loop-number-preserved c =
    let s = schema_of c.args.parts.now in
    let k : ℕ = c.loop-number.number-index in
    let x : ℕ = get_or c.args.listed.now k 0 in
    let at : slice_get c.args.listed.now k ≡ Some x = slice_get-get_or c.args.listed.now k 0 c.loop-number-test.true in
    let below = c.requires.settled_order.within x (Contains-found c.args.listed.now k x at) in
    let is_type : IsType s x = omega (arith, below, mapped-length (λ y. direct_renaming y.kind) s.types) in
    let next : suc k ≡ k + 1 = omega arith in
    let P : ℕ → Type 0 = λ n. AreSoFar s (slice_set c.loop-number.ends.items x c.end_of-end.result) (take n c.args.listed.now) in
    subst P next (ends-more s c.args.listed.now c.requires.settled_order c.loop-number.ends.items k x at c.loop-number.invariant c.end_of-end.result is_type c.end_of-end.ensures)

pub returns : goal.returns
returns c =
    let s = schema_of c.args.parts.now in
    let P : List ℕ → Type 0 = λ xs. AreSoFar s c.loop-number.ends.items xs in
    all-ends s c.args.listed.now c.loop-number.ends.items c.requires.settled_order (subst P (take_all c.loop-number.number-index c.args.listed.now c.loop-number-test.false) c.loop-number.invariant)
