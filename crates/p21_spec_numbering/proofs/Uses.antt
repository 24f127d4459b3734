-- Uses: with other names, and of values that are the same.
use Rattle.std.specs.Prelude.{◌≡◌, ℕ, ◌+◌, Bool, true, false, List, [], ◌∷◌, ◌++◌, map, filter, cond, Contains, refl, nat_eq, if◌then◌else◌}
use Rattle.std.specs.List.{AllZip}
use Rattle.std.specs.Str.{bytes_eq}
use Rattle.std.proofs.Common.{ap, sym, subst, ◌∙◌, inl, inr, true≢false}
use Rattle.std.proofs.lemmas.Bool.{eqb-true, eq-eqb, ne_eqb}
use Rattle.std.proofs.lemmas.List.Elements.{Contains-append_left, Contains-append_right, Contains-append_cases}
use Rattle.std.proofs.lemmas.Slice.Eq.{bytes_eq-Decides}
use Rattle.std.proofs.lemmas.List.{map-append}
use Rattle.p21_spec_basics.proofs.Members.{Contains-none, Contains-first, Contains-later, Contains-cases, Contains-mapped, Contains-unmapped, Contains-filter, Contains-unfiltered}
use Rattle.p21_spec_basics.proofs.Comparing.{bytes_eq-apart}
use Rattle.p21_spec_basics.proofs.Shuffles.{AreMembers, NoneTwice}
use Rattle.p21_spec_file.specs.Meaning.{Typed}
use Rattle.p21_spec_file.specs.SameFile.{SameTyped}
use Rattle.p21_spec_file.specs.SameValue.{Same, same_wholes, same_reals, same_numbers, same_texts, same_bits, same_items, same_references, both_derived, both_missing, same_lists, same_arrays, same_sets, same_bags, same_typed, SameInOrder, both_end, both_next, Among, here, there, EachAmong, none_left, each_next, SamePaired, both_empty, paired, Without, without_first, without_later}
use Rattle.p21_spec_file.specs.Sorting.{sort_texts}
use Rattle.p21_spec_file.specs.Value.{Value, whole, real, number, text, bits, item, reference, derived, missing, list, array, set, bag, typed, Values, no_values, value}
use Rattle.p21_spec_laws.proofs.Sorting.{sort-members}
use Rattle.p21_spec_numbering.proofs.Lists.{map-mapped}
use Rattle.p21_spec_numbering.specs.Renamed.{renamed_value, renamed_values, renamed_typed}
use Rattle.p21_spec_numbering.specs.Uses.{Use, within, value_uses, uses_from, uses_among, rows_uses, typed_uses, is_among, once, places_to}

-- ---- with other names

-- the same place, and the other name
abbrev pub moved_use : (ℕ → ℕ) → Use → Use
moved_use f u = (u.0, f u.1)

within-moved : (f : ℕ → ℕ) (k : ℕ) (us vs : List Use) → vs ≡ map (moved_use f) us
    → map (within k) vs ≡ map (moved_use f) (map (within k) us)
within-moved f k us vs is = ap (map (within k)) is ∙ map-mapped (within k) (moved_use f) us ∙ sym (map-mapped (moved_use f) (within k) us)

joined-moved : (f : ℕ → ℕ) (us us_ vs vs_ : List Use) → us_ ≡ map (moved_use f) us → vs_ ≡ map (moved_use f) vs
    → us_ ++ vs_ ≡ map (moved_use f) (us ++ vs)
joined-moved f us us_ vs vs_ is is_ =
    ap (λ (xs : List Use). xs ++ vs_) is ∙ ap (λ (xs : List Use). map (moved_use f) us ++ xs) is_ ∙ sym (map-append (moved_use f) us vs)

mutual
  value_uses-renamed : (f : ℕ → ℕ) (v : Value) → value_uses (renamed_value f v) ≡ map (moved_use f) (value_uses v)
  value_uses-renamed f (whole z) = refl
  value_uses-renamed f (real d) = refl
  value_uses-renamed f (number d) = refl
  value_uses-renamed f (text chars) = refl
  value_uses-renamed f (bits bs) = refl
  value_uses-renamed f (item word) = refl
  value_uses-renamed f (reference n) = refl
  value_uses-renamed f derived = refl
  value_uses-renamed f missing = refl
  value_uses-renamed f (list vs) = uses_from-renamed f 1 vs
  value_uses-renamed f (array vs) = uses_from-renamed f 1 vs
  value_uses-renamed f (set vs) = uses_among-renamed f vs
  value_uses-renamed f (bag vs) = uses_among-renamed f vs
  value_uses-renamed f (typed t v) = value_uses-renamed f v

  uses_from-renamed : (f : ℕ → ℕ) (k : ℕ) (vs : Values) → uses_from k (renamed_values f vs) ≡ map (moved_use f) (uses_from k vs)
  uses_from-renamed f k no_values = refl
  uses_from-renamed f k (value v vs) =
      joined-moved f (map (within k) (value_uses v)) (map (within k) (value_uses (renamed_value f v))) (uses_from (k + 1) vs) (uses_from (k + 1) (renamed_values f vs))
      (within-moved f k (value_uses v) (value_uses (renamed_value f v)) (value_uses-renamed f v)) (uses_from-renamed f (k + 1) vs)

  uses_among-renamed : (f : ℕ → ℕ) (vs : Values) → uses_among (renamed_values f vs) ≡ map (moved_use f) (uses_among vs)
  uses_among-renamed f no_values = refl
  uses_among-renamed f (value v vs) =
      joined-moved f (map (within 0) (value_uses v)) (map (within 0) (value_uses (renamed_value f v))) (uses_among vs) (uses_among (renamed_values f vs))
      (within-moved f 0 (value_uses v) (value_uses (renamed_value f v)) (value_uses-renamed f v)) (uses_among-renamed f vs)

rows_uses-renamed : (f : ℕ → ℕ) (k : ℕ) (rows : List Values)
    → rows_uses k (map (renamed_values f) rows) ≡ map (moved_use f) (rows_uses k rows)
rows_uses-renamed f k [] = refl
rows_uses-renamed f k (vs ∷ rows) =
    joined-moved f (map (within k) (uses_from 0 vs)) (map (within k) (uses_from 0 (renamed_values f vs))) (rows_uses (k + 1) rows) (rows_uses (k + 1) (map (renamed_values f) rows))
    (within-moved f k (uses_from 0 vs) (uses_from 0 (renamed_values f vs)) (uses_from-renamed f 0 vs)) (rows_uses-renamed f (k + 1) rows)

pub typed_uses-renamed : (f : ℕ → ℕ) (x : Typed) → typed_uses (renamed_typed f x) ≡ map (moved_use f) (typed_uses x)
typed_uses-renamed f x = rows_uses-renamed f 0 x.values

-- the uses that lead to an instance, where no other becomes the same
filter-moved : (f : ℕ → ℕ) (n : ℕ) (us : List Use) → ((u : Use) → Contains us u → f u.1 ≡ f n → u.1 ≡ n)
    → map (λ (u : Use). u.0) (filter (λ (u : Use). nat_eq u.1 (f n)) (map (moved_use f) us)) ≡ map (λ (u : Use). u.0) (filter (λ (u : Use). nat_eq u.1 n) us)
filter-moved f n [] one = refl
filter-moved f n (u ∷ us) one =
    ap (λ (b : Bool). map (λ (w : Use). w.0) (cond b (moved_use f u ∷ filter (λ (w : Use). nat_eq w.1 (f n)) (map (moved_use f) us)) (filter (λ (w : Use). nat_eq w.1 (f n)) (map (moved_use f) us)))) (tests (nat_eq u.1 n) refl)
    ∙ by (nat_eq u.1 n) (filter-moved f n us (λ w among. one w (Contains-later u us w among)))
  where
    tests : (b : Bool) → nat_eq u.1 n ≡ b → nat_eq (f u.1) (f n) ≡ nat_eq u.1 n
    tests true e = eq-eqb (f u.1) (f n) (ap f (eqb-true u.1 n e)) ∙ sym e
    tests false e = ne_eqb (f u.1) (f n) (λ same. true≢false (sym (eq-eqb u.1 n (one u (Contains-first u us) same)) ∙ e)) ∙ sym e

    by : (b : Bool)
        → map (λ (w : Use). w.0) (filter (λ (w : Use). nat_eq w.1 (f n)) (map (moved_use f) us)) ≡ map (λ (w : Use). w.0) (filter (λ (w : Use). nat_eq w.1 n) us)
        → map (λ (w : Use). w.0) (cond b (moved_use f u ∷ filter (λ (w : Use). nat_eq w.1 (f n)) (map (moved_use f) us)) (filter (λ (w : Use). nat_eq w.1 (f n)) (map (moved_use f) us)))
        ≡ map (λ (w : Use). w.0) (cond b (u ∷ filter (λ (w : Use). nat_eq w.1 n) us) (filter (λ (w : Use). nat_eq w.1 n) us))
    by true more = ap (λ (ps : List (List ℕ)). u.0 ∷ ps) more
    by false more = more

pub places_to-moved : (f : ℕ → ℕ) (n : ℕ) (us : List Use) → ((u : Use) → Contains us u → f u.1 ≡ f n → u.1 ≡ n)
    → places_to (f n) (map (moved_use f) us) ≡ places_to n us
places_to-moved f n us one = ap (λ (ps : List (List ℕ)). sort_texts (once ps)) (filter-moved f n us one)

-- ---- of values that are the same

mapped : {X Y : Type 0} (g : X → Y) (xs ys : List X) → AreMembers xs ys → AreMembers (map g xs) (map g ys)
mapped {X} {Y} g xs ys to z among =
    let (x, at, is) = Contains-unmapped g xs z among in
    let P : Y → Type 0 = λ w. Contains (map g ys) w in
    subst P is (Contains-mapped g ys x (to x at))

joined : {X : Type 0} (xs ys us vs : List X) → AreMembers xs ys → AreMembers us vs → AreMembers (xs ++ us) (ys ++ vs)
joined xs ys us vs to to_ z among = elim (Contains-append_cases xs us z among) [
  | inl h ↦ Contains-append_left ys vs z (to z h)
  | inr h ↦ Contains-append_right ys vs z (to_ z h)
]

gathered : {X : Type 0} (xs us ys : List X) → AreMembers xs ys → AreMembers us ys → AreMembers (xs ++ us) ys
gathered xs us ys to to_ z among = elim (Contains-append_cases xs us z among) [ inl h ↦ to z h | inr h ↦ to_ z h ]

mutual
  pub Same-uses : (v w : Value) → Same v w → AreMembers (value_uses v) (value_uses w)
  Same-uses v w (same_wholes a) u among = among
  Same-uses v w (same_reals a b ratio) u among = among
  Same-uses v w (same_numbers a b ratio) u among = among
  Same-uses v w (same_texts a) u among = among
  Same-uses v w (same_bits a) u among = among
  Same-uses v w (same_items a) u among = among
  Same-uses v w (same_references a) u among = among
  Same-uses v w both_derived u among = among
  Same-uses v w both_missing u among = among
  Same-uses v w (same_lists vs ws same) u among = InOrder-uses 1 vs ws same u among
  Same-uses v w (same_arrays vs ws same) u among = InOrder-uses 1 vs ws same u among
  Same-uses v w (same_sets vs ws onto back) u among = EachAmong-uses vs ws onto u among
  Same-uses v w (same_bags vs ws same) u among = Paired-uses vs ws same u among
  Same-uses v w (same_typed t a b same) u among = Same-uses a b same u among

  pub InOrder-uses : (k : ℕ) (vs ws : Values) → SameInOrder vs ws → AreMembers (uses_from k vs) (uses_from k ws)
  InOrder-uses k vs ws both_end u among = among
  InOrder-uses k vs ws (both_next a b as_ bs same more) u among =
      joined (map (within k) (value_uses a)) (map (within k) (value_uses b)) (uses_from (k + 1) as_) (uses_from (k + 1) bs)
      (mapped (within k) (value_uses a) (value_uses b) (Same-uses a b same)) (InOrder-uses (k + 1) as_ bs more) u among

  Among-uses : (v : Value) (ws : Values) → Among v ws → AreMembers (map (within 0) (value_uses v)) (uses_among ws)
  Among-uses v ws (here _ w more same) u among = Contains-append_left (map (within 0) (value_uses w)) (uses_among more) u (mapped (within 0) (value_uses v) (value_uses w) (Same-uses v w same) u among)
  Among-uses v ws (there _ w more among_) u among =
      Contains-append_right (map (within 0) (value_uses w)) (uses_among more) u (Among-uses v more among_ u among)

  EachAmong-uses : (vs ws : Values) → EachAmong vs ws → AreMembers (uses_among vs) (uses_among ws)
  EachAmong-uses vs ws (none_left _) u among = absurd (Contains-none u among)
  EachAmong-uses vs ws (each_next v more _ among_ each) u among = gathered (map (within 0) (value_uses v)) (uses_among more) (uses_among ws) (Among-uses v ws among_) (EachAmong-uses more ws each) u among

  Paired-uses : (vs ws : Values) → SamePaired vs ws → AreMembers (uses_among vs) (uses_among ws)
  Paired-uses vs ws both_empty u among = among
  Paired-uses vs ws (paired v more _ rest without pairs) u among =
      gathered (map (within 0) (value_uses v)) (uses_among more) (uses_among ws) (Without-uses v ws rest without) (λ w at. Without-rest v ws rest without w (Paired-uses more rest pairs w at)) u among

  Without-uses : (v : Value) (ws rest : Values) → Without v ws rest → AreMembers (map (within 0) (value_uses v)) (uses_among ws)
  Without-uses v ws rest (without_first _ w more same) u among = Contains-append_left (map (within 0) (value_uses w)) (uses_among more) u (mapped (within 0) (value_uses v) (value_uses w) (Same-uses v w same) u among)
  Without-uses v ws rest (without_later _ w more rest_ without) u among =
      Contains-append_right (map (within 0) (value_uses w)) (uses_among more) u (Without-uses v more rest_ without u among)

  Without-rest : (v : Value) (ws rest : Values) → Without v ws rest → AreMembers (uses_among rest) (uses_among ws)
  Without-rest v ws rest (without_first _ w more same) u among =
      Contains-append_right (map (within 0) (value_uses w)) (uses_among more) u among
  Without-rest v ws rest (without_later _ w more rest_ without) u among =
      joined (map (within 0) (value_uses w)) (map (within 0) (value_uses w)) (uses_among rest_) (uses_among more) (λ z at. at) (Without-rest v more rest_ without) u among

rows-same : (k : ℕ) (xs ys : List Values) → AllZip SameInOrder xs ys → AreMembers (rows_uses k xs) (rows_uses k ys)
rows-same k [] [] all u among = among
rows-same k [] (y ∷ ys) all u among = absurd all
rows-same k (x ∷ xs) [] all u among = absurd all
rows-same k (x ∷ xs) (y ∷ ys) all u among =
    joined (map (within k) (uses_from 0 x)) (map (within k) (uses_from 0 y)) (rows_uses (k + 1) xs) (rows_uses (k + 1) ys)
    (mapped (within k) (uses_from 0 x) (uses_from 0 y) (InOrder-uses 0 x y all.0)) (rows-same (k + 1) xs ys all.1) u among

pub typed_uses-same : (x y : Typed) → SameTyped x y → AreMembers (typed_uses x) (typed_uses y)
typed_uses-same x y same = rows-same 0 x.values y.values same.1

-- ---- the places of the same uses

any-none : (x : List ℕ) (xs : List (List ℕ)) → is_among x xs ≡ false → ¬ Contains xs x
any-none x [] e among = Contains-none x among
any-none x (y ∷ ys) e among = by_test (bytes_eq x y) refl e (any-none x ys)
  where
    by_test : (b : Bool) → bytes_eq x y ≡ b → (if b then true else is_among x ys) ≡ false → (is_among x ys ≡ false → ¬ Contains ys x) → ⊥
    by_test true p q more = true≢false q
    by_test false p q more = elim (Contains-cases y ys x among) [
      | inl h ↦ bytes_eq-apart x y p (sym h)
      | inr h ↦ more q h
    ]

any-some : (x : List ℕ) (xs : List (List ℕ)) → is_among x xs ≡ true → Contains xs x
any-some x [] e = absurd (true≢false (sym e))
any-some x (y ∷ ys) e = by_test (bytes_eq x y) refl e (any-some x ys)
  where
    by_test : (b : Bool) → bytes_eq x y ≡ b → (if b then true else is_among x ys) ≡ true → (is_among x ys ≡ true → Contains ys x)
        → Contains (y ∷ ys) x
    by_test true p q more =
        let P : List ℕ → Type 0 = λ w. Contains (y ∷ ys) w in subst P (sym ((bytes_eq-Decides x y).0 p)) (Contains-first y ys)
    by_test false p q more = Contains-later y ys x (more q)

pub once-members : (xs : List (List ℕ)) → AreMembers (once xs) xs
once-members [] z among = among
once-members (x ∷ xs) z among = by_test (is_among x xs) (once-members xs z) among
  where
    by_test : (b : Bool) → (Contains (once xs) z → Contains xs z) → Contains (if b then once xs else x ∷ once xs) z → Contains (x ∷ xs) z
    by_test true more at = Contains-later x xs z (more at)
    by_test false more at = elim (Contains-cases x (once xs) z at) [
      | inl h ↦ let P : List ℕ → Type 0 = λ w. Contains (x ∷ xs) w in subst P h (Contains-first x xs)
      | inr h ↦ Contains-later x xs z (more h)
    ]

pub members-once : (xs : List (List ℕ)) → AreMembers xs (once xs)
members-once [] z among = among
members-once (x ∷ xs) z among = by_test (is_among x xs) refl (members-once xs z)
  where
    by_test : (b : Bool) → is_among x xs ≡ b → (Contains xs z → Contains (once xs) z) → Contains (if b then once xs else x ∷ once xs) z
    by_test true e more = elim (Contains-cases x xs z among) [
      | inl h ↦ more (let P : List ℕ → Type 0 = λ w. Contains xs w in subst P h (any-some x xs e))
      | inr h ↦ more h
    ]
    by_test false e more = elim (Contains-cases x xs z among) [
      | inl h ↦ let P : List ℕ → Type 0 = λ w. Contains (x ∷ once xs) w in subst P h (Contains-first x (once xs))
      | inr h ↦ Contains-later x (once xs) z (more h)
    ]

pub once-none_twice : (xs : List (List ℕ)) → NoneTwice (once xs)
once-none_twice [] = tt
once-none_twice (x ∷ xs) = by_test (is_among x xs) refl (once-none_twice xs)
  where
    by_test : (b : Bool) → is_among x xs ≡ b → NoneTwice (once xs) → NoneTwice (if b then once xs else x ∷ once xs)
    by_test true e more = more
    by_test false e more = (λ among. any-none x xs e (once-members xs x among), more)

pub sort-once : (xs ys : List (List ℕ)) → AreMembers xs ys → AreMembers ys xs → sort_texts (once xs) ≡ sort_texts (once ys)
sort-once xs ys to back =
    sort-members (once xs) (once ys) (once-none_twice xs) (once-none_twice ys) (λ z among. members-once ys z (to z (once-members xs z among))) (λ z among. members-once xs z (back z (once-members ys z among)))

pub passes : {X : Type 0} (test : X → Bool) (xs : List X) (x : X) → Contains (filter test xs) x → test x ≡ true
passes test [] x among = absurd (Contains-none x among)
passes {X} test (y ∷ ys) x among = by_test (test y) refl (passes test ys x) among
  where
    by_test : (b : Bool) → test y ≡ b → (Contains (filter test ys) x → test x ≡ true)
        → Contains (cond b (y ∷ filter test ys) (filter test ys)) x → test x ≡ true
    by_test true e more at = elim (Contains-cases y (filter test ys) x at) [
      | inl h ↦ ap test (sym h) ∙ e
      | inr h ↦ more h
    ]
    by_test false e more at = more at

pub places_to-members : (n : ℕ) (us vs : List Use) → AreMembers us vs → AreMembers vs us → places_to n us ≡ places_to n vs
places_to-members n us vs to back =
    let at : List Use → List Use = filter (λ (u : Use). nat_eq u.1 n) in
    sort-once (map (λ (u : Use). u.0) (at us)) (map (λ (u : Use). u.0) (at vs))
    (mapped (λ (u : Use). u.0) (at us) (at vs) (kept us vs to)) (mapped (λ (u : Use). u.0) (at vs) (at us) (kept vs us back))
  where
    kept : (xs ys : List Use) → AreMembers xs ys
        → AreMembers (filter (λ (u : Use). nat_eq u.1 n) xs) (filter (λ (u : Use). nat_eq u.1 n) ys)
    kept xs ys into u among = Contains-filter (λ (w : Use). nat_eq w.1 n) ys u (passes (λ (w : Use). nat_eq w.1 n) xs u among) (into u (Contains-unfiltered (λ (w : Use). nat_eq w.1 n) xs u among))
