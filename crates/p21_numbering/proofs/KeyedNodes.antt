-- Keys of the nodes that a round may tell from others.
use Rattle.std.specs.Prelude.{◌≡◌, ◌≢◌, ◌⊎◌, ℕ, ◌<◌, Bool, true, false, cond, List, [], ◌∷◌, ◌++◌, length, nat_eq, slice_index_or, Contains, refl}
use Rattle.std.specs.List.{flat_map, range_with_len}
use Rattle.std.specs.List.Sorted.{IsPermutation, IsSorted}
use Rattle.std.proofs.Common.{arith, ap, sym, subst, ◌∙◌, inl, inr, true≢false}
use Rattle.std.proofs.lemmas.Bool.{eqb-true, eq-eqb}
use Rattle.p21_spec_basics.proofs.Members.{Contains-none, Contains-cases}
use Rattle.p21_spec_numbering.specs.Fresh.{Ranks}
use Rattle.p21_spec_numbering.specs.Graph.{how_many}
use Rattle.p21_numbering.specs.Arrays.{Entry, Use, IsKey, entries_at, entry_cmp, numbers}
use Rattle.p21_numbering.specs.Keyed.{IsKeyed}
use Rattle.p21_numbering.proofs.Counts.{Contains-range, range-none_twice, some-counted}
use Rattle.p21_numbering.proofs.ToldRanks.{whole, IsHeaded}
use Rattle.p21_spec_basics.proofs.Shuffles.{NoneTwice}

-- what a test of the length says
pub none-left : {X : Type 0} (xs : List X) (len : ℕ) → len ≡ length xs → nat_eq len 0 ≡ true → xs ≡ []
none-left [] len long e = refl
none-left (x ∷ xs) len long e = absurd (omega (arith, long, eqb-true len 0 e))

pub some-left : {X : Type 0} (xs : List X) (len : ℕ) → len ≡ length xs → nat_eq len 0 ≡ false → 0 < length xs
some-left [] len long e = absurd (true≢false (sym (eq-eqb len 0 long) ∙ e))
some-left (x ∷ xs) len long e = omega arith

-- no entry, no key
pub keyed-none : (rank many : ℕ) (c : Ranks) (uses users : List Use) (entries : List Entry) → entries ≡ []
    → IsPermutation (entries_at 0 c.fresh c.rank uses ++ entries_at 1 c.fresh c.rank users) entries → IsSorted entry_cmp entries
    → IsKeyed rank many c uses users []
keyed-none rank many c uses users entries none permuted rises =
    let P : List Entry → Type 0 = λ es. IsPermutation (entries_at 0 c.fresh c.rank uses ++ entries_at 1 c.fresh c.rank users) es in
    let Q : List Entry → Type 0 = λ es. IsSorted entry_cmp es in
    inr (record { entries = []; key_is = refl; entries_are = subst P none permuted; entries_rise = subst Q none rises })

-- the key of what has an entry
pub keyed-some : (rank many : ℕ) (c : Ranks) (uses users : List Use) (entries : List Entry) (key : List ℕ) → 0 < length entries
    → key ≡ rank ∷ flat_map numbers entries
    → IsPermutation (entries_at 0 c.fresh c.rank uses ++ entries_at 1 c.fresh c.rank users) entries → IsSorted entry_cmp entries
    → IsKeyed rank many c uses users key
keyed-some rank many c uses users [] key some is permuted rises = absurd (omega (arith, some))
keyed-some rank many c uses users (e ∷ es) key some is permuted rises =
    let P : List ℕ → Type 0 = λ k. IsKeyed rank many c uses users k in
    subst P (sym is) (record { entries = e ∷ es; key_is = refl; entries_are = permuted; entries_rise = rises }, omega arith)

-- ---- what a key is

pub keyed-headed : (rank many : ℕ) (c : Ranks) (uses users : List Use) (key : List ℕ) → IsKeyed rank many c uses users key
    → IsHeaded rank key
keyed-headed rank many c uses users [] keyed = tt
keyed-headed rank many c uses users (k ∷ ks) keyed = (first k ks keyed.0.entries keyed.0.key_is, keyed.1)
  where
    first : (k : ℕ) (ks : List ℕ) (es : List Entry) → k ∷ ks ≡ rank ∷ flat_map numbers es → k ≡ rank
    first k ks es same = ap (λ (xs : List ℕ). slice_index_or xs 0 0) same

-- the whole key, or the rank of one that is alone
pub keyed-whole : (rank many : ℕ) (c : Ranks) (uses users : List Use) (key : List ℕ) → IsKeyed rank many c uses users key
    → IsKey rank c uses users (whole rank key) ⊎ ((many < 2) × (whole rank key ≡ rank ∷ []))
keyed-whole rank many c uses users [] keyed = elim keyed [ inl few ↦ inr (few, refl) | inr key ↦ inl key ]
keyed-whole rank many c uses users (k ∷ ks) keyed = inl keyed.0

-- ---- one of its rank alone

none-twice-counted : (p : ℕ → Bool) (ms : List ℕ) → NoneTwice ms → (m n : ℕ) → Contains ms m → Contains ms n → m ≢ n → p m ≡ true
    → p n ≡ true → 1 < how_many p ms
none-twice-counted p [] none m n among among_ differ pass pass_ = absurd (Contains-none m among)
none-twice-counted p (k ∷ ks) none m n among among_ differ pass pass_ = elim (Contains-cases k ks m among) [
  | inl same ↦ elim (Contains-cases k ks n among_) [
    | inl same_ ↦ absurd (differ (sym same ∙ same_))
    | inr later_ ↦ (
        let one : ◌≡◌ {A = ℕ} (cond (p k) 1 0) 1 = ap (λ i. cond (p i) 1 0) same ∙ ap (λ (b : Bool). cond b 1 0) pass in
        let rest = some-counted p ks n later_ pass_ in
        omega (arith, one, rest))
  ]
  | inr later ↦ elim (Contains-cases k ks n among_) [
    | inl same_ ↦ (
        let one : ◌≡◌ {A = ℕ} (cond (p k) 1 0) 1 = ap (λ i. cond (p i) 1 0) same_ ∙ ap (λ (b : Bool). cond b 1 0) pass_ in
        let rest = some-counted p ks m later pass in
        omega (arith, one, rest))
    | inr later_ ↦ (
        let rest = none-twice-counted p ks none.1 m n later later_ differ pass pass_ in
        omega (arith, rest))
  ]
]

-- no other node has a rank that fewer than two have
pub alone-is : (count : ℕ) (rank : ℕ → ℕ) (n : ℕ) → n < count → how_many (λ m. nat_eq (rank m) (rank n)) (range_with_len 0 count) < 2
    → (m : ℕ) → m < count → rank m ≡ rank n → m ≡ n
alone-is count rank n low few m low_ same = by_test (nat_eq m n) refl
  where
    test : ℕ → Bool
    test k = nat_eq (rank k) (rank n)

    by_test : (b : Bool) → nat_eq m n ≡ b → m ≡ n
    by_test true e = eqb-true m n e
    by_test false e =
        let differ : m ≢ n = λ h. true≢false (sym (eq-eqb m n h) ∙ e) in
        let more = none-twice-counted test (range_with_len 0 count) (range-none_twice count) m n (Contains-range count m low_)
        (Contains-range count n low) differ (eq-eqb (rank m) (rank n) same) (eq-eqb (rank n) (rank n) refl) in
        absurd (omega (arith, more, few))
