-- The names that are found loose tell whether values spread.
use Rattle.std.specs.Prelude.{◌≡◌, ◌≢◌, ◌⊎◌, ◌<◌, ℕ, Bool, true, false, List, [], ◌∷◌, ◌++◌, Option, Some, None, cond, filter, length, nat_eq, Contains, refl}
use Rattle.std.specs.List.{flat_map, AllByRecursion as Each}
use Rattle.std.proofs.Common.{arith, ap, sym, subst, ◌∙◌, inl, inr, true≢false}
use Rattle.std.proofs.lemmas.Bool.{cases_eq, eqb-true, eq-eqb, lt-ltb, ltb-true}
use Rattle.std.proofs.lemmas.List.Elements.{Contains-append_left, Contains-append_right}
use Rattle.p21_spec_basics.proofs.Members.{Contains-none, Contains-cases, Contains-first, Contains-later, Contains-filter, Contains-unfiltered}
use Rattle.p21_spec_basics.proofs.Shuffles.{AreMembers, NoneTwice}
use Rattle.p21_spec_file.specs.File.{FileMeaning}
use Rattle.p21_spec_file.specs.SameValue.{Same, same_references, Among, here, there}
use Rattle.p21_spec_file.specs.Value.{Value, whole, real, number, text, bits, item, reference, derived, missing, list, array, set, bag, typed, Values, no_values, value}
use Rattle.p21_spec_numbering.proofs.CopiesOrders.{none_twice-filter, count-filter}
use Rattle.p21_spec_numbering.proofs.CopiesRules.{all-taken}
use Rattle.p21_spec_numbering.proofs.Lists.{members-shuffled, Shuffled-length}
use Rattle.p21_spec_numbering.proofs.Moved.{names-none_twice}
use Rattle.p21_spec_numbering.proofs.Uses.{passes}
use Rattle.p21_spec_numbering.specs.Copies.{Shares, many as many_in, IsOfWholeRank, Spreads, AllSpread, SpreadAmong}
use Rattle.p21_spec_numbering.specs.Laws.{IsProper}
use Rattle.p21_spec_numbering.specs.Ordered.{Ranking}
use Rattle.p21_spec_numbering.specs.Renamed.{names, targets, targets_in}
use Rattle.p21_spec_numbering.specs.Settled.{IsSettled, AreSettled, AreApart}
use Rattle.p21_numbering.specs.Standing.{Standing, IsStanding, many, is_shared, listed, plain_name, plain_names, of_rank, fills, first_of, loose_value, loose_in, loose_among, loose_element, loose_rows}

-- ---- plain references

plain-is : (v : Value) (n : ℕ) → plain_name v ≡ Some n → v ≡ reference n
plain-is (whole z) n is = cc
plain-is (real d) n is = cc
plain-is (number d) n is = cc
plain-is (text chars) n is = cc
plain-is (bits bs) n is = cc
plain-is (item word) n is = cc
plain-is (reference k) n is = let same : k ≡ n = cc in ap reference same
plain-is derived n is = cc
plain-is missing n is = cc
plain-is (list vs) n is = cc
plain-is (array vs) n is = cc
plain-is (set vs) n is = cc
plain-is (bag vs) n is = cc
plain-is (typed t v) n is = cc

-- the names of plain references, where the first element's is known
abbrev front : Option ℕ → List ℕ → List ℕ
front o ns = listed o ++ ns

plain-among : (vs : Values) (t : ℕ) → Contains (plain_names vs) t → Among (reference t) vs
plain-among no_values t among = absurd (Contains-none t among)
plain-among (value v vs) t among = by (plain_name v) refl (plain-among vs t) among
  where
    by : (o : Option ℕ) → plain_name v ≡ o → (Contains (plain_names vs) t → Among (reference t) vs) → Contains (front o (plain_names vs)) t
        → Among (reference t) (value v vs)
    by None is more at = there (reference t) v vs (more at)
    by (Some n) is more at = elim (Contains-cases n (plain_names vs) t at) [
      | inl h ↦
          let P : Value → Type 0 = λ w. Same (reference t) w in
          let same : reference t ≡ v = ap reference (sym h) ∙ sym (plain-is v n is) in
          here (reference t) v vs (subst P same (same_references t))
      | inr h ↦ there (reference t) v vs (more h)
    ]

referred : (v : Value) (t : ℕ) → Same (reference t) v → v ≡ reference t
referred v t (same_references _) = refl

among-plain : (vs : Values) (t : ℕ) → Among (reference t) vs → Contains (plain_names vs) t
among-plain no_values t among = elim among [ ]
among-plain (value v vs) t (here _ _ _ same) =
    let P : Option ℕ → Type 0 = λ o. Contains (front o (plain_names vs)) t in
    subst P (ap plain_name (sym (referred v t same))) (Contains-first t (plain_names vs))
among-plain (value v vs) t (there _ _ _ among) = by (plain_name v) (among-plain vs t among)
  where
    by : (o : Option ℕ) → Contains (plain_names vs) t → Contains (front o (plain_names vs)) t
    by None at = at
    by (Some n) at = Contains-later n (plain_names vs) t at

plain-target : (vs : Values) (t : ℕ) → Contains (plain_names vs) t → Contains (targets_in vs) t
plain-target no_values t among = among
plain-target (value v vs) t among = by (plain_name v) refl (plain-target vs t) among
  where
    by : (o : Option ℕ) → plain_name v ≡ o → (Contains (plain_names vs) t → Contains (targets_in vs) t)
        → Contains (front o (plain_names vs)) t → Contains (targets v ++ targets_in vs) t
    by None is more at = Contains-append_right (targets v) (targets_in vs) t (more at)
    by (Some n) is more at = elim (Contains-cases n (plain_names vs) t at) [
      | inl h ↦
          let P : Value → Type 0 = λ w. Contains (targets w) t in
          let Q : ℕ → Type 0 = λ k. Contains (n ∷ []) k in
          Contains-append_left (targets v) (targets_in vs) t (subst P (sym (plain-is v n is)) (subst Q h (Contains-first n [])))
      | inr h ↦ Contains-append_right (targets v) (targets_in vs) t (more h)
    ]

plain-once : (vs : Values) → AreApart vs → NoneTwice (plain_names vs)
plain-once no_values apart = tt
plain-once (value v vs) apart = by (plain_name v) refl (plain-once vs apart.1)
  where
    by : (o : Option ℕ) → plain_name v ≡ o → NoneTwice (plain_names vs) → NoneTwice (front o (plain_names vs))
    by None is more = more
    by (Some n) is more = (
      λ among. apart.0 (let P : Value
          → Type 0 = λ w. Among w vs in subst P (sym (plain-is v n is)) (plain-among vs n among)),
      more,
    )

-- ---- counts

two-within : (ns : List ℕ) (j k : ℕ) → Contains ns j → Contains ns k → j ≢ k → 1 < length ns
two-within [] j k at at_ differ = absurd (Contains-none j at)
two-within (a ∷ []) j k at at_ differ = absurd (differ (only j at ∙ sym (only k at_)))
  where
    only : (n : ℕ) → Contains (a ∷ []) n → n ≡ a
    only n among = elim (Contains-cases a [] n among) [
      | inl h ↦ sym h
      | inr h ↦ absurd (Contains-none n h)
    ]
two-within (a ∷ b ∷ ns) j k at at_ differ = omega arith

another : (ns : List ℕ) (n : ℕ) → NoneTwice ns → 1 < length ns → (k : ℕ) × Contains ns k × (k ≢ n)
another [] n once long = absurd (omega (arith, long))
another (a ∷ []) n once long = absurd (omega (arith, long))
another (a ∷ b ∷ ns) n once long = elim (cases_eq a n) [
  | inl same ↦ (
    b,
    Contains-later a (b ∷ ns) b (Contains-first b ns),
    λ other. once.0 (let P : ℕ → Type 0 = λ z. Contains (b ∷ ns) z in subst P (other ∙ sym same) (Contains-first b ns)),
  )
  | inr differ ↦ (a, Contains-first a (b ∷ ns), differ)
]

-- nothing is found where this holds; else one of these names is, which passes the test
abbrev pub Tells : (ℕ → Bool) → Type 0 → List ℕ → Option ℕ → Type 0
Tells test Holds ts None = Holds
Tells test Holds ts (Some n) = Contains ts n × (test n ≡ true) × ¬ Holds

module _ (ranking : Ranking) (m : FileMeaning) (proper : IsProper m) where
  -- the names of its rank
  abbrev like : ℕ → List ℕ
  like n = filter (λ k. nat_eq (ranking m k) (ranking m n)) (names m)

  like-once : (n : ℕ) → NoneTwice (like n)
  like-once n = none_twice-filter (λ k. nat_eq (ranking m k) (ranking m n)) (names m) (names-none_twice m proper.0)

  like-is : (n k : ℕ) → Contains (like n) k → Contains (names m) k × (ranking m k ≡ ranking m n)
  like-is n k at = (
    Contains-unfiltered (λ j. nat_eq (ranking m j) (ranking m n)) (names m) k at,
    eqb-true (ranking m k) (ranking m n) (passes (λ j. nat_eq (ranking m j) (ranking m n)) (names m) k at),
  )

  is-like : (n k : ℕ) → Contains (names m) k → ranking m k ≡ ranking m n → Contains (like n) k
  is-like n k at one = Contains-filter (λ j. nat_eq (ranking m j) (ranking m n)) (names m) k (eq-eqb (ranking m k) (ranking m n) one) at

  pub shares-many : (n : ℕ) → Contains (names m) n → Shares ranking m n → 1 < many_in ranking m n
  shares-many n among (k, among_, differ, one) =
      let long = two-within (like n) k n (is-like n k among_ one) (is-like n n among refl) differ in
      omega (arith, long, count-filter (λ j. nat_eq (ranking m j) (ranking m n)) (names m))

  pub many-shares : (n : ℕ) → 1 < many_in ranking m n → Shares ranking m n
  many-shares n high =
      let (k, at, differ) = another (like n) n (like-once n)
      (omega (arith, high, count-filter (λ j. nat_eq (ranking m j) (ranking m n)) (names m))) in
      let (among, one) = like-is n k at in
      (k, among, differ, one)

  module _ (st : Standing) (are : IsStanding ranking m st) where
    pub shared-is : (n : ℕ) → Contains (names m) n → is_shared st n ≡ true → Shares ranking m n
    shared-is n among shared = many-shares n (let P : ℕ → Type 0 = λ k. 1 < k in subst P (are.many n among) (ltb-true 1 (many st n) shared))

    pub is-shared : (n : ℕ) → Contains (names m) n → Shares ranking m n → is_shared st n ≡ true
    is-shared n among shares = lt-ltb 1 (many st n) (let P : ℕ
        → Type 0 = λ k. 1 < k in subst P (sym (are.many n among)) (shares-many n among shares))

    pub not-shared : (n : ℕ) → Contains (names m) n → is_shared st n ≡ false → ¬ Shares ranking m n
    not-shared n among alone shares = true≢false (sym (is-shared n among shares) ∙ alone)

    abbrev pub AreNames : List ℕ → Type 0
    AreNames ts = (t : ℕ) → Contains ts t → Contains (names m) t

    -- ---- a set has all of a rank

    module _ (all : Values) (apart : AreApart all) (closed : AreNames (targets_in all)) (t : ℕ) (among : Contains (names m) t) where
      -- its plain references to the rank
      abbrev there_ : List ℕ
      there_ = filter (λ n. nat_eq (st.rank n) (st.rank t)) (plain_names all)

      there-once : NoneTwice there_
      there-once = none_twice-filter (λ n. nat_eq (st.rank n) (st.rank t)) (plain_names all) (plain-once all apart)

      there-like : AreMembers there_ (like t)
      there-like k at =
          let named : Contains (names m) k = closed k (plain-target all k
          (Contains-unfiltered (λ n. nat_eq (st.rank n) (st.rank t)) (plain_names all) k at)) in
          is-like t k named (sym (are.rank k named) ∙ eqb-true (st.rank k) (st.rank t)
          (passes (λ n. nat_eq (st.rank n) (st.rank t)) (plain_names all) k at) ∙ are.rank t among)

      counted : (length there_ ≡ of_rank st (plain_names all) (st.rank t)) × (length (like t) ≡ many st t)
      counted = (
        sym (count-filter (λ n. nat_eq (st.rank n) (st.rank t)) (plain_names all)),
        sym (are.many t among ∙ count-filter (λ j. nat_eq (ranking m j) (ranking m t)) (names m)),
      )

      full-whole : fills st (plain_names all) (Some t) ≡ true → (u : ℕ) → Contains (names m) u → ranking m u ≡ ranking m t
          → Among (reference u) all
      full-whole full u at one =
          let even = eqb-true (of_rank st (plain_names all) (st.rank t)) (many st t) full in
          let back = all-taken there_ (like t) there-once there-like (omega (arith, even, counted.0, counted.1)) in
          plain-among all u (Contains-unfiltered (λ n. nat_eq (st.rank n) (st.rank t)) (plain_names all) u (back u (is-like t u at one)))

      whole-full : ((u : ℕ) → Contains (names m) u → ranking m u ≡ ranking m t → Among (reference u) all)
          → fills st (plain_names all) (Some t) ≡ true
      whole-full each =
          let back : AreMembers (like t) there_ = λ u at.
          (let (named, one) = like-is t u at in
          Contains-filter (λ n. nat_eq (st.rank n) (st.rank t)) (plain_names all) u
          (eq-eqb (st.rank u) (st.rank t) (are.rank u named ∙ one ∙ sym (are.rank t among))) (among-plain all u (each u named one))) in
          let even = Shuffled-length there_ (like t) (members-shuffled there_ (like t) there-once (like-once t) there-like back) in
          eq-eqb (of_rank st (plain_names all) (st.rank t)) (many st t) (omega (arith, even, counted.0, counted.1))

    -- ---- what is found tells

    first-tells : (A B : Type 0) (ts us : List ℕ) (a b : Option ℕ) → Tells (is_shared st) A ts a → Tells (is_shared st) B us b
        → Tells (is_shared st) (A × B) (ts ++ us) (first_of a b)
    first-tells A B ts us None None holds more = (holds, more)
    first-tells A B ts us None (Some n) holds (at, shared, not_) = (Contains-append_right ts us n at, shared, λ both. not_ both.1)
    first-tells A B ts us (Some n) b (at, shared, not_) more = (Contains-append_left ts us n at, shared, λ both. not_ both.0)

    element-tells : (all : Values) → AreApart all → AreNames (targets_in all) → (v : Value) → AreNames (targets v)
        → Tells (is_shared st) (Spreads ranking m v) (targets v) (loose_value st v)
        → Tells (is_shared st) (Spreads ranking m v ⊎ IsOfWholeRank ranking m all v) (targets v) (loose_element st (plain_names all) v)
    element-tells all apart complete v own tells = by (fills st (plain_names all) (plain_name v)) refl
      where
        P : ℕ → Value → Type 0
        P t w = Contains (targets w) t

        named : (t : ℕ) → v ≡ reference t → Contains (names m) t
        named t is = own t (subst (P t) (sym is) (Contains-first t []))

        found : (o : Option ℕ) → plain_name v ≡ o → fills st (plain_names all) o ≡ true → IsOfWholeRank ranking m all v
        found None is full = absurd (true≢false (sym full))
        found (Some t) is full = (t, plain-is v t is, full-whole all apart complete t (named t (plain-is v t is)) full)

        not_whole : fills st (plain_names all) (plain_name v) ≡ false → ¬ IsOfWholeRank ranking m all v
        not_whole lacks (t, is, each) =
            let full : fills st (plain_names all) (plain_name v) ≡ true = ap (λ (w : Value). fills st (plain_names all) (plain_name w)) is
            ∙ whole-full all apart complete t (named t is) each in
            true≢false (sym full ∙ lacks)

        rest : (o : Option ℕ) → ¬ IsOfWholeRank ranking m all v → Tells (is_shared st) (Spreads ranking m v) (targets v) o
            → Tells (is_shared st) (Spreads ranking m v ⊎ IsOfWholeRank ranking m all v) (targets v) o
        rest None other tells_ = inl tells_
        rest (Some n) other (at, shared, not_) = (at, shared, λ either. elim either [ inl h ↦ not_ h | inr h ↦ other h ])

        by : (b : Bool) → fills st (plain_names all) (plain_name v) ≡ b
            → Tells (is_shared st) (Spreads ranking m v ⊎ IsOfWholeRank ranking m all v) (targets v) (cond b None (loose_value st v))
        by true full = inr (found (plain_name v) refl full)
        by false lacks = rest (loose_value st v) (not_whole lacks) tells

    mutual
      value-tells : (v : Value) → IsSettled v → AreNames (targets v)
          → Tells (is_shared st) (Spreads ranking m v) (targets v) (loose_value st v)
      value-tells (whole z) settled closed = tt
      value-tells (real d) settled closed = tt
      value-tells (number d) settled closed = tt
      value-tells (text chars) settled closed = tt
      value-tells (bits bs) settled closed = tt
      value-tells (item word) settled closed = tt
      value-tells (reference n) settled closed = by (is_shared st n) refl
        where
          named : Contains (names m) n
          named = closed n (Contains-first n [])

          by : (b : Bool) → is_shared st n ≡ b → Tells (is_shared st) (¬ Shares ranking m n) (n ∷ []) (cond b (Some n) None)
          by true shared = (Contains-first n [], shared, λ alone. alone (shared-is n named shared))
          by false alone = not-shared n named alone
      value-tells derived settled closed = tt
      value-tells missing settled closed = tt
      value-tells (list vs) settled closed = values-tell vs settled closed
      value-tells (array vs) settled closed = values-tell vs settled closed
      value-tells (set vs) settled closed = among-tell vs settled.0 closed vs settled.1 closed
      value-tells (bag vs) settled closed = values-tell vs settled closed
      value-tells (typed t v) settled closed = value-tells v settled closed

      values-tell : (vs : Values) → AreSettled vs → AreNames (targets_in vs)
          → Tells (is_shared st) (AllSpread ranking m vs) (targets_in vs) (loose_in st vs)
      values-tell no_values settled closed = tt
      values-tell (value v vs) settled closed =
          first-tells (Spreads ranking m v) (AllSpread ranking m vs) (targets v) (targets_in vs) (loose_value st v) (loose_in st vs)
          (value-tells v settled.0 (λ t at. closed t (Contains-append_left (targets v) (targets_in vs) t at)))
          (values-tell vs settled.1 (λ t at. closed t (Contains-append_right (targets v) (targets_in vs) t at)))

      among-tell : (all : Values) → AreApart all → AreNames (targets_in all) → (vs : Values) → AreSettled vs → AreNames (targets_in vs)
          → Tells (is_shared st) (SpreadAmong ranking m all vs) (targets_in vs) (loose_among st (plain_names all) vs)
      among-tell all apart complete no_values settled closed = tt
      among-tell all apart complete (value v vs) settled closed =
          first-tells (Spreads ranking m v ⊎ IsOfWholeRank ranking m all v) (SpreadAmong ranking m all vs) (targets v) (targets_in vs)
          (loose_element st (plain_names all) v) (loose_among st (plain_names all) vs)
          (element-tells all apart complete v own (value-tells v settled.0 own))
          (among-tell all apart complete vs settled.1 (λ t at. closed t (Contains-append_right (targets v) (targets_in vs) t at)))
        where
          own : AreNames (targets v)
          own t at = closed t (Contains-append_left (targets v) (targets_in vs) t at)

    pub rows-tell : (rows : List Values) → Each AreSettled rows → AreNames (flat_map targets_in rows)
        → Tells (is_shared st) (Each (AllSpread ranking m) rows) (flat_map targets_in rows) (loose_rows st rows)
    rows-tell [] settled closed = tt
    rows-tell (vs ∷ rows) settled closed =
        first-tells (AllSpread ranking m vs) (Each (AllSpread ranking m) rows) (targets_in vs) (flat_map targets_in rows) (loose_in st vs)
        (loose_rows st rows)
        (values-tell vs settled.0 (λ t at. closed t (Contains-append_left (targets_in vs) (flat_map targets_in rows) t at)))
        (rows-tell rows settled.1 (λ t at. closed t (Contains-append_right (targets_in vs) (flat_map targets_in rows) t at)))
