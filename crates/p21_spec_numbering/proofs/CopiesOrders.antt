-- Orders by the numbers of parts count copies in one sequence.
use Rattle.std.specs.Prelude.{◌≡◌, ◌<◌, ◌+◌, ℕ, Bool, true, false, cond, List, [], ◌∷◌, map, filter, length, ◌&&◌, ltb, Contains, refl, nat_eq, if◌then◌else◌}
use Rattle.std.specs.List.{AllByRecursion as Each}
use Rattle.std.proofs.Common.{arith, ap, sym, subst, ◌∙◌, inl, inr, true≢false}
use Rattle.std.proofs.lemmas.Bool.{eqb-true, eq-eqb, lt-ltb, le-ltb, ltb-true}
use Rattle.std.proofs.lemmas.List.{length-map}
use Rattle.p21_spec_basics.proofs.Members.{Contains-none, Contains-cases, Contains-mapped, Contains-unmapped, Contains-filter, Contains-unfiltered, Each-member}
use Rattle.p21_spec_basics.proofs.Shuffles.{AreMembers, NoneTwice, distinct-none_twice}
use Rattle.p21_spec_file.specs.File.{FileMeaning}
use Rattle.p21_spec_numbering.proofs.Lists.{members-shuffled, Shuffled-length}
use Rattle.p21_spec_numbering.proofs.Moved.{none_twice-mapped}
use Rattle.p21_spec_numbering.proofs.Uses.{passes}
use Rattle.p21_spec_numbering.specs.Copies.{Shares, RefersTo, copy, RisesByPart, AreParts}
use Rattle.p21_spec_numbering.specs.Graph.{how_many}
use Rattle.p21_spec_numbering.specs.Laws.{PartsGiveOrders}
use Rattle.p21_spec_numbering.specs.Ordered.{Ranking, IsOrder}
use Rattle.p21_spec_numbering.specs.Renamed.{names, IsInjectiveOn}

-- ---- tests

both-first : (b c : Bool) → b && c ≡ true → b ≡ true
both-first true c e = refl
both-first false c e = absurd (true≢false (sym e))

both-second : (b c : Bool) → b && c ≡ true → c ≡ true
both-second true c e = e
both-second false c e = absurd (true≢false (sym e))

-- ---- copies are those of the rank in parts with lower numbers

abbrev is_before : (ℕ → ℕ) → (ℕ → ℕ) → ℕ → ℕ → Bool
is_before r part n j = nat_eq (r j) (r n) && ltb (part j) (part n)

none-before : (r part : ℕ → ℕ) (n : ℕ) (ns : List ℕ) → Each (λ m. r n ≡ r m → part n < part m) ns → how_many (is_before r part n) ns ≡ 0
none-before r part n [] each = refl
none-before r part n (m ∷ ns) each =
    let rest : how_many (is_before r part n) ns ≡ 0 = none-before r part n ns each.1 in
    let first : ◌≡◌ {A = ℕ} (cond (is_before r part n m) 1 0) 0 = ap (λ (b : Bool). cond b 1 0) (by (nat_eq (r m) (r n)) refl) in
    omega (arith, first, rest)
  where
    by : (b : Bool) → nat_eq (r m) (r n) ≡ b → b && ltb (part m) (part n) ≡ false
    by true e = let low = each.0 (sym (eqb-true (r m) (r n) e)) in le-ltb (part m) (part n) (omega (arith, low))
    by false e = refl

copy-counted : (r part : ℕ → ℕ) (ns : List ℕ) (n : ℕ) → Contains ns n → RisesByPart r part ns
    → copy r ns n ≡ how_many (is_before r part n) ns
copy-counted r part [] n among rises = absurd (Contains-none n among)
copy-counted r part (m ∷ ns) n among rises = by_test (nat_eq m n) refl (λ at. copy-counted r part ns n at rises.1)
  where
    by_test : (b : Bool) → nat_eq m n ≡ b → (Contains ns n → copy r ns n ≡ how_many (is_before r part n) ns)
        → (if b then 0 else (cond (nat_eq (r m) (r n)) 1 0 + copy r ns n)) ≡ cond (is_before r part n m) 1 0 + how_many (is_before r part n) ns
    by_test true e more =
        let same : m ≡ n = eqb-true m n e in
        let P : ℕ → Type 0 = λ k. Each (λ z. r k ≡ r z → part k < part z) ns in
        let own : is_before r part n m ≡ false = ap (λ k. is_before r part n k) same ∙ ap (λ (b : Bool). b && ltb (part n) (part n)) (eq-eqb (r n) (r n) refl) ∙ le-ltb (part n) (part n) (omega arith) in
        let first : ◌≡◌ {A = ℕ} (cond (is_before r part n m) 1 0) 0 = ap (λ (b : Bool). cond b 1 0) own in
        let rest : how_many (is_before r part n) ns ≡ 0 = none-before r part n ns (subst P same rises.0) in
        omega (arith, first, rest)
    by_test false e more = elim (Contains-cases m ns n among) [
      | inl h ↦ absurd (true≢false (sym (eq-eqb m n h) ∙ e))
      | inr h ↦ ap (λ (b : Bool). cond b 1 0 + copy r ns n) (before (nat_eq (r m) (r n)) refl h) ∙ ap (λ k. cond (is_before r part n m) 1 0 + k) (more h)
    ]
      where
        before : (b : Bool) → nat_eq (r m) (r n) ≡ b → Contains ns n → b ≡ b && ltb (part m) (part n)
        before true e_ at =
            sym (lt-ltb (part m) (part n) (Each-member (λ z. r m ≡ r z → part m < part z) ns n rises.0 at (eqb-true (r m) (r n) e_)))
        before false e_ at = refl

-- ---- as many in one rank as in the other

pub none_twice-filter : (test : ℕ → Bool) (ns : List ℕ) → NoneTwice ns → NoneTwice (filter test ns)
none_twice-filter test [] none = tt
none_twice-filter test (n ∷ ns) none = by (test n) (none_twice-filter test ns none.1)
  where
    by : (b : Bool) → NoneTwice (filter test ns) → NoneTwice (cond b (n ∷ filter test ns) (filter test ns))
    by true more = (λ among. none.0 (Contains-unfiltered test ns n among), more)
    by false more = more

pub count-filter : (test : ℕ → Bool) (ns : List ℕ) → how_many test ns ≡ length (filter test ns)
count-filter test [] = refl
count-filter test (n ∷ ns) = by (test n) (count-filter test ns)
  where
    by : (b : Bool) → how_many test ns ≡ length (filter test ns)
        → cond b 1 0 + how_many test ns ≡ length (cond b (n ∷ filter test ns) (filter test ns))
    by true more = omega (arith, more)
    by false more = omega (arith, more)

module _ (ranking : Ranking) (m : FileMeaning) (part : ℕ → ℕ) (parts : AreParts ranking m part) (order : List ℕ) (is : IsOrder ranking m order) where
  abbrev r : ℕ → ℕ
  r = ranking m

  numbers : (n : ℕ) → List ℕ
  numbers n = map part (filter (is_before r part n) order)

  count-numbers : (n : ℕ) → how_many (is_before r part n) order ≡ length (numbers n)
  unfolding numbers
  count-numbers n = count-filter (is_before r part n) order ∙ sym (length-map (filter (is_before r part n) order) part)

  numbers-none_twice : (n : ℕ) → NoneTwice (numbers n)
  unfolding numbers
  numbers-none_twice n = none_twice-mapped part (filter (is_before r part n) order) injective (none_twice-filter (is_before r part n) order (distinct-none_twice order is.once))
    where
      ranked : (j : ℕ) → Contains (filter (is_before r part n) order) j → ranking m j ≡ ranking m n
      ranked j at = eqb-true (ranking m j) (ranking m n) (both-first (nat_eq (ranking m j) (ranking m n)) (ltb (part j) (part n)) (passes (is_before r part n) order j at))

      injective : IsInjectiveOn (filter (is_before r part n) order) part
      injective j k at at_ one =
          parts.one_of_each j k ((is.all j).1 (Contains-unfiltered (is_before r part n) order j at)) ((is.all k).1 (Contains-unfiltered (is_before r part n) order k at_)) (ranked j at ∙ sym (ranked k at_)) one

  -- where each of one rank has one of the other in its part
  numbers-within : (n t : ℕ) → part n ≡ part t
      → ((j : ℕ) → Contains (names m) j → r j ≡ r n → (k : ℕ) × Contains (names m) k × (r k ≡ r t) × (part k ≡ part j))
      → AreMembers (numbers n) (numbers t)
  unfolding numbers
  numbers-within n t same each z among =
      let (j, at, is_z) = Contains-unmapped part (filter (is_before r part n) order) z among in
      let test = passes (is_before r part n) order j at in
      let ranked : r j ≡ r n = eqb-true (r j) (r n) (both-first (nat_eq (r j) (r n)) (ltb (part j) (part n)) test) in
      let low : part j < part n = ltb-true (part j) (part n) (both-second (nat_eq (r j) (r n)) (ltb (part j) (part n)) test) in
      let (k, at_k, ranked_k, one) = each j ((is.all j).1 (Contains-unfiltered (is_before r part n) order j at)) ranked in
      let passes_k : is_before r part t k ≡ true = ap (λ (b : Bool). b && ltb (part k) (part t)) (eq-eqb (r k) (r t) ranked_k) ∙ lt-ltb (part k) (part t) (omega (arith, low, one, same)) in
      let P : ℕ → Type 0 = λ w. Contains (map part (filter (is_before r part t) order)) w in
      subst P (one ∙ is_z) (Contains-mapped part (filter (is_before r part t) order) k (Contains-filter (is_before r part t) order k passes_k ((is.all k).0 at_k)))

  as-many : (n t : ℕ) → RefersTo m n t → Shares ranking m n → Shares ranking m t
      → how_many (is_before r part n) order ≡ how_many (is_before r part t) order
  as-many n t refers shares shares_t =
      let same : part n ≡ part t = parts.hangs n t refers shares shares_t in
      count-numbers n
      ∙ Shuffled-length (numbers n) (numbers t)
      (members-shuffled (numbers n) (numbers t) (numbers-none_twice n) (numbers-none_twice t) (numbers-within n t same (parts.onto n t refers shares shares_t)) (numbers-within t n (sym same) (parts.back n t refers shares shares_t)))
      ∙ sym (count-numbers t)

pub parts-give_orders : PartsGiveOrders
parts-give_orders ranking m proper part parts order is rises = record { is_order = is; aligned = aligned }
  where
    aligned : (n t : ℕ) → RefersTo m n t → Shares ranking m n → Shares ranking m t → copy (ranking m) order n ≡ copy (ranking m) order t
    aligned n t (x, at, target) shares shares_t =
        copy-counted (ranking m) part order n ((is.all n).0 (Contains-mapped (λ i. i.0) m.instances (n, x) at)) rises
        ∙ as-many ranking m part parts order is n t (x, at, target) shares shares_t
        ∙ sym (copy-counted (ranking m) part order t ((is.all t).0 (proper.0.closed n x at t target)) rises)
