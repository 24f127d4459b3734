-- Edges in order, each once.
use Rattle.std.specs.Prelude.{◌≡◌, ◌↔◌, ◌⊎◌, ℕ, zero, suc, ◌<◌, ◌≤◌, Bool, true, false, List, [], ◌∷◌, ◌&&◌, nat_eq, Contains, refl}
use Rattle.std.specs.Cmp.{IsEquivalence, IsTotalOrder, nat_cmp_is}
use Rattle.std.specs.List.{dedup}
use Rattle.std.specs.List.Sorted.{IsNonDecreasingBy, IsPermutation, IsSorted, IsStrictlySortedBy}
use Rattle.std.specs.Ordering.{nat_cmp, is_eq, is_lt, ordering_then, eq_by_cmp}
use Rattle.std.proofs.Common.{Ordering, Less, Equal, Greater, arith, ap, sym, subst, ◌∙◌, inl, inr, get_or, true≢false}
use Rattle.std.proofs.lemmas.Bool.{eqb-true}
use Rattle.std.proofs.lemmas.Bool.Decides.{nat_tests}
use Rattle.std.proofs.lemmas.Cmp.{and_equiv, on_equiv, on_total, nat_cmp_total, nat_eq_equiv, then_total, tied_itself}
use Rattle.std.proofs.lemmas.List.Elements.{Contains-get_or}
use Rattle.std.proofs.lemmas.List.Kept.{Contains-dedup, Contains-from_dedup, IsStrictlySortedBy-dedup}
use Rattle.std.proofs.lemmas.List.Sorted.{Contains-permutation, IsPermutation-sym}
use Rattle.p21_spec_basics.proofs.Members.{Each-member}
use Rattle.p21_spec_basics.proofs.Shuffles.{NoneTwice}
use Rattle.p21_numbering.specs.Arrays.{Edge, entry_cmp}
use Rattle.p21_numbering.specs.Edges.{AreOrdered}

edge_total : IsTotalOrder entry_cmp
edge_total = then_total (then_total (on_total (λ (e : Edge). e.0) nat_cmp_total) (on_total (λ (e : Edge). e.1) nat_cmp_total))
    (on_total (λ (e : Edge). e.2) nat_cmp_total)

abbrev pub edge_eq : Edge → Edge → Bool
edge_eq x y = (nat_eq x.0 y.0 && nat_eq x.1 y.1) && nat_eq x.2 y.2

edge_equiv : IsEquivalence edge_eq
edge_equiv = and_equiv (and_equiv (on_equiv (λ (e : Edge). e.0) nat_eq_equiv) (on_equiv (λ (e : Edge). e.1) nat_eq_equiv))
    (on_equiv (λ (e : Edge). e.2) nat_eq_equiv)

edge_ties : (x y : Edge) → edge_eq x y ≡ eq_by_cmp entry_cmp x y
edge_ties x y = by (nat_cmp x.0 y.0) (nat_cmp x.1 y.1) (nat_cmp x.2 y.2) (nat_eq x.0 y.0) (nat_eq x.1 y.1) (nat_eq x.2 y.2) (tie x.0 y.0)
    (tie x.1 y.1) (tie x.2 y.2)
  where
    tie : (m n : ℕ) → nat_eq m n ≡ is_eq (nat_cmp m n)
    tie m n = grind (arith, nat_tests)

    by : (o p q : Ordering) (a b c : Bool) → a ≡ is_eq o → b ≡ is_eq p → c ≡ is_eq q
        → ((a && b) && c) ≡ is_eq (ordering_then (ordering_then o p) q)
    by Less p q a b c e f g = ap (λ (z : Bool). (z && b) && c) e
    by Greater p q a b c e f g = ap (λ (z : Bool). (z && b) && c) e
    by Equal Less q a b c e f g = ap (λ (z : Bool). (z && b) && c) e ∙ ap (λ (z : Bool). z && c) f
    by Equal Greater q a b c e f g = ap (λ (z : Bool). (z && b) && c) e ∙ ap (λ (z : Bool). z && c) f
    by Equal Equal q a b c e f g = ap (λ (z : Bool). (z && b) && c) e ∙ ap (λ (z : Bool). z && c) f ∙ g

edge_same : (x y : Edge) → edge_eq x y ≡ true → x ≡ y
edge_same x y same = by (nat_eq x.0 y.0) (nat_eq x.1 y.1) (nat_eq x.2 y.2) refl refl refl same
  where
    by : (a b c : Bool) → nat_eq x.0 y.0 ≡ a → nat_eq x.1 y.1 ≡ b → nat_eq x.2 y.2 ≡ c → ((a && b) && c) ≡ true → x ≡ y
    by true true true e f g h = ap (λ k. (k, x.1, x.2)) (eqb-true x.0 y.0 e) ∙ ap (λ k. (y.0, k, x.2)) (eqb-true x.1 y.1 f)
        ∙ ap (λ k. (y.0, y.1, k)) (eqb-true x.2 y.2 g)
    by false b c e f g h = absurd (true≢false (sym h))
    by true false c e f g h = absurd (true≢false (sym h))
    by true true false e f g h = absurd (true≢false (sym h))

strict-once : (es : List Edge) → IsStrictlySortedBy entry_cmp es → NoneTwice es
unfolding IsStrictlySortedBy
strict-once [] rises = tt
strict-once (e ∷ es) rises = (
  λ among. let less : entry_cmp e e ≡ Less = Each-member (λ (f : Edge). entry_cmp e f ≡ Less) es e rises.0 among in
      true≢false (ap is_lt (sym less ∙ tied_itself edge_total e)),
  strict-once es rises.1,
)

first-low : (e f : Edge) → entry_cmp e f ≡ Less → e.0 ≤ f.0
first-low e f less = elim (either e.0 f.0) [
  | inl up ↦ up
  | inr down ↦ (let above : Greater ≡ nat_cmp e.0 f.0 = nat_cmp_is e.0 f.0 Greater down in
      absurd (true≢false (ap is_lt (sym less ∙ ap (λ (o : Ordering). ordering_then (ordering_then o (nat_cmp e.1 f.1)) (nat_cmp e.2 f.2))
      (sym above)))))
]
  where
    either : (x y : ℕ) → (x ≤ y) ⊎ (y < x)
    either x y = grind arith

strict-rise : (es : List Edge) → IsStrictlySortedBy entry_cmp es → IsNonDecreasingBy (λ (e : Edge). e.0) es
unfolding IsStrictlySortedBy
strict-rise [] rises i j d up low = absurd (omega (arith, low))
strict-rise (e ∷ es) rises zero zero d up low = omega arith
strict-rise (e ∷ es) rises zero (suc j) d up low =
    first-low e (get_or es j d) (Each-member (λ (f : Edge). entry_cmp e f ≡ Less) es (get_or es j d) rises.0
    (Contains-get_or es j d (omega (arith, low))))
strict-rise (e ∷ es) rises (suc i) zero d up low = absurd (omega (arith, up))
strict-rise (e ∷ es) rises (suc i) (suc j) d up low = strict-rise es rises.1 i j d (omega (arith, up)) (omega (arith, low))

pub sorted-ordered : (sorted es : List Edge) → IsSorted entry_cmp sorted → es ≡ dedup edge_eq sorted → AreOrdered es
sorted-ordered sorted es rises is =
    let strict : IsStrictlySortedBy entry_cmp (dedup edge_eq sorted) = IsStrictlySortedBy-dedup edge_total edge_ties sorted rises in
    let P : List Edge → Type 0 = λ fs. IsStrictlySortedBy entry_cmp fs in
    record { rise = strict-rise es (subst P (sym is) strict); once = strict-once es (subst P (sym is) strict) }

pub sorted-members : (edges sorted es : List Edge) → IsPermutation edges sorted → es ≡ dedup edge_eq sorted → (e : Edge) → Contains es e
    ↔ Contains edges e
sorted-members edges sorted es moved is e = (
  λ among. let P : List Edge → Type 0 = λ fs. Contains fs e in
      Contains-permutation sorted edges e (IsPermutation-sym edges sorted moved) (Contains-from_dedup edge_eq sorted e (subst P is among)),
  λ among. let P : List Edge → Type 0 = λ fs. Contains fs e in
      subst P (sym is) (Contains-dedup edge_equiv edge_same sorted e (Contains-permutation edges sorted e moved among)),
)
