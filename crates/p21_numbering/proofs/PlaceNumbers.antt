-- Texts by their ranks: ranks are ordered as the texts are, and each leads back to its text.
use Rattle.std.specs.Prelude.{◌≡◌, ℕ, ◌+◌, ◌<◌, ◌≤◌, Bool, true, false, cond, List, [], ◌∷◌, nat_eq, Contains, if◌then◌else◌, refl}
use Rattle.std.specs.Cmp.{nat_cmp_is}
use Rattle.std.specs.Cmp.Lexicographic.{slice_cmp}
use Rattle.std.specs.Ordering.{nat_cmp, is_lt, ordering_reverse}
use Rattle.std.proofs.Common.{Ordering, Less, Equal, Greater, arith, ap, sym, subst, ◌∙◌, inl, inr, true≢false}
use Rattle.std.proofs.lemmas.Bool.{eqb-true, eq-eqb}
use Rattle.std.proofs.lemmas.Cmp.{nat_list_cmp_total}
use Rattle.p21_spec_basics.proofs.Comparing.{level-equal}
use Rattle.p21_spec_basics.proofs.Members.{Contains-none, Contains-first, Contains-later, Contains-cases}
use Rattle.p21_spec_basics.proofs.RisingLists.{less_is}
use Rattle.p21_spec_file.specs.Sorting.{is_below}
use Rattle.p21_spec_laws.proofs.Sorting.{below-itself}
use Rattle.p21_spec_numbering.specs.Graph.{how_many}
use Rattle.p21_numbering.specs.Rows.{rank_among}

count-less : {X : Type 0} (p q : X → Bool) (xs : List X) → ((x : X) → p x ≡ true → q x ≡ true) → how_many p xs ≤ how_many q xs
count-less p q [] more = omega arith
count-less p q (x ∷ xs) more = by_tests (p x) (q x) refl refl (count-less p q xs more)
  where
    by_tests : (b c : Bool) → p x ≡ b → q x ≡ c → how_many p xs ≤ how_many q xs → cond b 1 0 + how_many p xs ≤ cond c 1 0 + how_many q xs
    by_tests true true e f rest = omega (arith, rest)
    by_tests true false e f rest = absurd (true≢false (sym (more x e) ∙ f))
    by_tests false true e f rest = omega (arith, rest)
    by_tests false false e f rest = omega (arith, rest)

count-strictly : {X : Type 0} (p q : X → Bool) (xs : List X) (x : X) → ((y : X) → p y ≡ true → q y ≡ true) → Contains xs x → p x ≡ false
    → q x ≡ true → how_many p xs < how_many q xs
count-strictly p q [] x more among fail pass = absurd (Contains-none x among)
count-strictly {X} p q (y ∷ ys) x more among fail pass = elim (Contains-cases y ys x among) [
  | inl same ↦ (let P : X → Type 0 = λ z. p z ≡ false in let Q : X → Type 0 = λ z. q z ≡ true in
      let none : ◌≡◌ {A = ℕ} (cond (p y) 1 0) 0 = ap (λ (b : Bool). cond b 1 0) (subst P (sym same) fail) in
      let one : ◌≡◌ {A = ℕ} (cond (q y) 1 0) 1 = ap (λ (b : Bool). cond b 1 0) (subst Q (sym same) pass) in
      omega (arith, none, one, count-less p q ys more))
  | inr later ↦ by_tests (p y) (q y) refl refl (count-strictly p q ys x more later fail pass)
]
  where
    by_tests : (b c : Bool) → p y ≡ b → q y ≡ c → how_many p ys < how_many q ys → cond b 1 0 + how_many p ys < cond c 1 0 + how_many q ys
    by_tests true true e f rest = omega (arith, rest)
    by_tests true false e f rest = absurd (true≢false (sym (more y e) ∙ f))
    by_tests false true e f rest = omega (arith, rest)
    by_tests false false e f rest = omega (arith, rest)

module _ (all : List (List ℕ)) where
  rank-less : (p q : List ℕ) → Contains all p → slice_cmp nat_cmp p q ≡ Less → rank_among all p < rank_among all q
  rank-less p q among less =
      count-strictly (λ r. is_below r p) (λ r. is_below r q) all p
      (λ r below. ap is_lt (nat_list_cmp_total.trans r p q (less_is (slice_cmp nat_cmp r p) below) less)) among (below-itself p)
      (ap is_lt less)

  -- ranks are ordered as the texts are
  pub ranks-ordered : (p q : List ℕ) → Contains all p → Contains all q
      → slice_cmp nat_cmp p q ≡ nat_cmp (rank_among all p) (rank_among all q)
  ranks-ordered p q among among_ = by_order (slice_cmp nat_cmp p q) refl
    where
      by_order : (o : Ordering) → slice_cmp nat_cmp p q ≡ o → slice_cmp nat_cmp p q ≡ nat_cmp (rank_among all p) (rank_among all q)
      by_order Less e = e ∙ nat_cmp_is (rank_among all p) (rank_among all q) Less (rank-less p q among e)
      by_order Equal e =
          let back : slice_cmp nat_cmp q p ≡ Equal = nat_list_cmp_total.antisymm q p ∙ ap ordering_reverse e in
          let same : p ≡ q = level-equal p q (ap is_lt e) (ap is_lt back) in
          e ∙ nat_cmp_is (rank_among all p) (rank_among all q) Equal (ap (rank_among all) same)
      by_order Greater e =
          let back : slice_cmp nat_cmp q p ≡ Less = nat_list_cmp_total.antisymm q p ∙ ap ordering_reverse e in
          e ∙ nat_cmp_is (rank_among all p) (rank_among all q) Greater (rank-less q p among_ back)

  -- texts with one rank are one
  rank-apart : (p q : List ℕ) → Contains all p → Contains all q → rank_among all p ≡ rank_among all q → p ≡ q
  rank-apart p q among among_ same =
      let equal : Equal ≡ nat_cmp (rank_among all p) (rank_among all q) = nat_cmp_is (rank_among all p) (rank_among all q) Equal same in
      let here : slice_cmp nat_cmp p q ≡ Equal = ranks-ordered p q among among_ ∙ sym equal in
      level-equal p q (ap is_lt here) (ap is_lt (nat_list_cmp_total.antisymm q p ∙ ap ordering_reverse here))

  abbrev pub text_in : List (List ℕ) → ℕ → List ℕ
  text_in [] i = []
  text_in (p ∷ ps) i = if nat_eq (rank_among all p) i then p else text_in ps i

  -- the text of this rank
  abbrev pub text_of : ℕ → List ℕ
  text_of i = text_in all i

  -- a rank leads back to its text
  pub text-is : (p : List ℕ) → Contains all p → text_of (rank_among all p) ≡ p
  text-is p among = found all (λ q h. h) among
    where
      found : (rest : List (List ℕ)) → ((q : List ℕ) → Contains rest q → Contains all q) → Contains rest p
          → text_in rest (rank_among all p) ≡ p
      found [] within at = absurd (Contains-none p at)
      found (q ∷ qs) within at = by_test (nat_eq (rank_among all q) (rank_among all p)) refl
          (λ later. found qs (λ r h. within r (Contains-later q qs r h)) later)
        where
          by_test : (b : Bool) → nat_eq (rank_among all q) (rank_among all p) ≡ b → (Contains qs p → text_in qs (rank_among all p) ≡ p)
              → (if b then q else text_in qs (rank_among all p)) ≡ p
          by_test true e more = rank-apart q p (within q (Contains-first q qs)) among (eqb-true (rank_among all q) (rank_among all p) e)
          by_test false e more = elim (Contains-cases q qs p at) [
            | inl same ↦ absurd (true≢false (sym (eq-eqb (rank_among all q) (rank_among all p) (ap (rank_among all) same)) ∙ e))
            | inr later ↦ more later
          ]
