-- A closed set is the closure of one entity exactly where that has an order as long as the set.
use Rattle.std.proofs.Common.{◌≡◌, ◌≢◌, ℕ, suc, ◌≤◌, Bool, true, false, List, [], ◌∷◌, ◌++◌, length, Contains, arith, refl, ap, sym, subst, ◌∙◌, inl, inr, true≢false}
use Rattle.std.specs.List.{filter, flat_map}
use Rattle.std.specs.Prelude.{nat_eq, not, cond}
use Rattle.std.proofs.lemmas.Bool.{eq-eqb}
use Rattle.p21_spec_basics.proofs.Members.{Contains-none, Contains-first, Contains-later, Contains-cases, Contains-unfiltered}
use Rattle.p21_spec_basics.proofs.Shuffles.{AreMembers, NoneTwice, Taken, taken_first, taken_later, Contains-taken, Taken-other, distinct-none_twice}
use Rattle.p21_spec_laws.proofs.Leaves.{leaf-closure}
use Rattle.p21_spec_file.specs.CanonicalRecord.{HasOneLeaf}
use Rattle.p21_spec_schema.proofs.Orders.{order-has, order-is, order_within-only}
use Rattle.p21_spec_schema.specs.Order.{first_occurrences, order}
use Rattle.p21_spec_schema.specs.Schema.{Schema}
use Rattle.p21_spec_schema.specs.Supertype.{supertypes_of}
use Rattle.p21_spec_schema.specs.WellFormed.{IsWellFormed}
use Rattle.p21_canon.specs.StatementTexts.{IsClosedSet, IsClosureOf}

-- ---- lists of one length

taken-length : {X : Type 0} (x : X) (ys rest : List X) → Taken x ys rest → length ys ≡ suc (length rest)
taken-length x ys rest (taken_first y _ same) = refl
taken-length x ys rest (taken_later y more rest_ taken) = ap suc (taken-length x more rest_ taken)

within-taken : {X : Type 0} (x : X) (xs ys rest : List X) → Taken x ys rest → NoneTwice (x ∷ xs) → AreMembers (x ∷ xs) ys
    → AreMembers xs rest
within-taken {X} x xs ys rest taken none within z among = elim (Taken-other x ys rest taken z (within z (Contains-later x xs z among))) [
  | inl same ↦ absurd (none.0 (let P : X → Type 0 = λ w. Contains xs w in subst P (sym same) among))
  | inr more ↦ more
]

-- what is within another list, with none twice, is no longer than it
pub within-length : {X : Type 0} (xs ys : List X) → NoneTwice xs → AreMembers xs ys → length xs ≤ length ys
within-length [] ys none within = omega arith
within-length (x ∷ xs) ys none within =
    let (rest, taken) = Contains-taken ys x (within x (Contains-first x xs)) in
    let long = within-length xs rest none.1 (within-taken x xs ys rest taken none within) in
    omega (arith, taken-length x ys rest taken, long)

-- and has all of it where it is as long
pub within-all : {X : Type 0} (xs ys : List X) → NoneTwice xs → AreMembers xs ys → length ys ≤ length xs → AreMembers ys xs
within-all [] [] none within short y among = among
within-all [] (z ∷ ys) none within short y among = absurd (omega (arith, short))
within-all {X} (x ∷ xs) ys none within short y among =
    let (rest, taken) = Contains-taken ys x (within x (Contains-first x xs)) in
    elim (Taken-other x ys rest taken y among) [
      | inl same ↦ (0, omega arith, same)
      | inr more ↦ Contains-later x xs y (within-all xs rest none.1 (within-taken x xs ys rest taken none within)
          (omega (arith, short, taken-length x ys rest taken)) y more)
    ]

-- ---- the order has none twice

filtered-passes : (test : ℕ → Bool) (xs : List ℕ) (y : ℕ) → Contains (filter test xs) y → test y ≡ true
filtered-passes test [] y among = absurd (Contains-none y among)
filtered-passes test (x ∷ xs) y among = by_test (test x) refl (λ h. filtered-passes test xs y h) among
  where
    by_test : (b : Bool) → test x ≡ b → (Contains (filter test xs) y → test y ≡ true)
        → Contains (cond b (x ∷ filter test xs) (filter test xs)) y → test y ≡ true
    by_test true is rest found = elim (Contains-cases x (filter test xs) y found) [ inl h ↦ sym (ap test h) ∙ is | inr h ↦ rest h ]
    by_test false is rest found = rest found

filtered-none_twice : (test : ℕ → Bool) (xs : List ℕ) → NoneTwice xs → NoneTwice (filter test xs)
filtered-none_twice test [] none = tt
filtered-none_twice test (x ∷ xs) none = by_test (test x) (filtered-none_twice test xs none.1)
  where
    by_test : (b : Bool) → NoneTwice (filter test xs) → NoneTwice (cond b (x ∷ filter test xs) (filter test xs))
    by_test true rest = (λ among. none.0 (Contains-unfiltered test xs x among), rest)
    by_test false rest = rest

firsts-none_twice : (xs : List ℕ) → NoneTwice (first_occurrences xs)
firsts-none_twice [] = tt
firsts-none_twice (x ∷ xs) = (
  λ among.
      let passes : not (nat_eq x x) ≡ true = filtered-passes (λ f. not (nat_eq x f)) (first_occurrences xs) x among in
      let itself : nat_eq x x ≡ true = eq-eqb x x refl in
      true≢false (sym passes ∙ ap not itself),
  filtered-none_twice (λ f. not (nat_eq x f)) (first_occurrences xs) (firsts-none_twice xs),
)

order-none_twice : (s : Schema) → IsWellFormed s → (e : ℕ) → NoneTwice (order s e)
order-none_twice s formed e = subst NoneTwice (sym (order-is s formed.supertypes_are formed.supertypes_end e))
    (firsts-none_twice (flat_map (order s) (supertypes_of s e) ++ e ∷ []))

-- ---- the closure of an entity by its order

order-within : (s : Schema) → (entities : List ℕ) → IsClosedSet s entities → (e : ℕ) → Contains entities e → AreMembers (order s e) entities
order-within s entities set e among f found = set.closed f (e, among, order_within-only s (length s.entities) e f found)

pub long-closure : (s : Schema) → IsWellFormed s → (entities : List ℕ) → IsClosedSet s entities → (e : ℕ) → Contains entities e
    → length (order s e) ≡ length entities → IsClosureOf s entities e
long-closure s formed entities set e among long f = (
  λ found. order_within-only s (length s.entities) e f
      (within-all (order s e) entities (order-none_twice s formed e) (order-within s entities set e among) (omega (arith, long)) f found),
  λ is. set.closed f (e, among, is),
)

pub closure-long : (s : Schema) → IsWellFormed s → (entities : List ℕ) → IsClosedSet s entities → (e : ℕ) → Contains entities e
    → IsClosureOf s entities e → length (order s e) ≡ length entities
closure-long s formed entities set e among closure =
    let short = within-length (order s e) entities (order-none_twice s formed e) (order-within s entities set e among) in
    let long = within-length entities (order s e) (distinct-none_twice entities set.distinct)
    (λ f found. order-has s formed.supertypes_are formed.supertypes_end e f ((closure f).0 found)) in
    omega (arith, short, long)

-- a set of which none has an order as long has no leaf or several
pub no_order-no_leaf : (s : Schema) → IsWellFormed s → (entities : List ℕ) → IsClosedSet s entities
    → ((e : ℕ) → Contains entities e → length (order s e) ≢ length entities) → ¬ HasOneLeaf s entities
no_order-no_leaf s formed entities set none leaf =
    none leaf.0 leaf.1.0 (closure-long s formed entities set leaf.0 leaf.1.0 (leaf-closure s formed entities set.closed leaf))
