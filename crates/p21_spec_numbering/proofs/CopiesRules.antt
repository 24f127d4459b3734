-- What is decided: values that spread are kept by each exchange, and what hangs together is one copy.
use Rattle.std.specs.Prelude.{◌≡◌, ◌≢◌, ◌⊎◌, ◌≤◌, ℕ, suc, Bool, true, false, List, [], ◌∷◌, map, length, Contains, refl, nat_eq}
use Rattle.std.specs.List.{flat_map, AllZip, AllByRecursion as Each}
use Rattle.std.proofs.Common.{arith, ap, sym, subst, ◌∙◌, inl, inr, true≢false}
use Rattle.std.proofs.lemmas.Bool.{eqb-true, eq-eqb}
use Rattle.std.proofs.lemmas.List.{length-map}
use Rattle.std.proofs.lemmas.List.Elements.{Contains-append_left, Contains-append_right}
use Rattle.p21_spec_basics.proofs.Members.{Contains-first, Contains-later, Contains-unmapped}
use Rattle.p21_spec_basics.proofs.Shuffles.{AreMembers, NoneTwice, Taken, taken_first, taken_later, Contains-taken, Taken-other}
use Rattle.p21_spec_file.specs.File.{FileMeaning}
use Rattle.p21_spec_file.specs.SameValue.{Same, same_references, same_lists, same_arrays, same_sets, same_bags, same_typed, SameInOrder, both_end, both_next, Among, here, there, EachAmong, none_left, each_next, SamePaired, both_empty, paired, without_first}
use Rattle.p21_spec_file.specs.Value.{Value, whole, real, number, text, bits, item, reference, derived, missing, list, array, set, bag, typed, Values, no_values, value}
use Rattle.p21_spec_file.proofs.Sameness.{Same-reflexive, Same-symmetric}
use Rattle.p21_spec_numbering.proofs.Copies.{copy-injective}
use Rattle.p21_spec_numbering.proofs.Moved.{names-none_twice, none_twice-mapped}
use Rattle.p21_spec_numbering.proofs.Renaming.{Among-renamed}
use Rattle.p21_spec_numbering.specs.Copies.{Shares, copy, HangTogether, at_once, by_use, by_user, IsAligned, IsExchange, IsOfWholeRank, Spreads, AllSpread, SpreadAmong}
use Rattle.p21_spec_numbering.specs.Laws.{IsProper, SpreadIsKept, OneOfEachRankHangsTogether}
use Rattle.p21_spec_numbering.specs.Ordered.{Ranking}
use Rattle.p21_spec_numbering.specs.Renamed.{renamed_value, renamed_values, names, targets, targets_in}

-- ---- an exchange leaves out none

taken-length : {X : Type 0} (x : X) (ys rest : List X) → Taken x ys rest → length ys ≡ suc (length rest)
taken-length x ys rest (taken_first y _ same) = refl
taken-length x ys rest (taken_later y more rest_ taken) = ap suc (taken-length x more rest_ taken)

-- as many members, none twice, are all of them
pub all-taken : (xs ys : List ℕ) → NoneTwice xs → AreMembers xs ys → length ys ≤ length xs → AreMembers ys xs
all-taken [] [] none to short y among = among
all-taken [] (z ∷ ys) none to short y among = absurd (omega (arith, short))
all-taken (x ∷ xs) ys none to short y among =
    let (rest, taken) = Contains-taken ys x (to x (Contains-first x xs)) in
    let long = taken-length x ys rest taken in
    let within : AreMembers xs rest = λ z at. elim (Taken-other x ys rest taken z (to z (Contains-later x xs z at))) [
      | inl h ↦ absurd (none.0 (let P : ℕ → Type 0 = λ w. Contains xs w in subst P (sym h) at))
      | inr h ↦ h
    ] in
    elim (Taken-other x ys rest taken y among) [
      | inl h ↦ let P : ℕ → Type 0 = λ w. Contains (x ∷ xs) w in subst P h (Contains-first x xs)
      | inr h ↦ Contains-later x xs y (all-taken xs rest none.1 within (omega (arith, short, long)) y h)
    ]

decide : (m n : ℕ) → (m ≡ n) ⊎ (m ≢ n)
decide m n = by (nat_eq m n) refl
  where
    by : (b : Bool) → nat_eq m n ≡ b → (m ≡ n) ⊎ (m ≢ n)
    by true e = inl (eqb-true m n e)
    by false e = inr (λ same. true≢false (sym (eq-eqb m n same) ∙ e))

-- one that shares its rank with no other keeps its name
stays : (ranking : Ranking) (m : FileMeaning) (f : ℕ → ℕ) → IsExchange ranking m f → (n : ℕ) → Contains (names m) n
    → ¬ Shares ranking m n → f n ≡ n
stays ranking m f is n among alone = elim (decide (f n) n) [
  | inl same ↦ same
  | inr other ↦ absurd (alone (f n, is.among n among, other, is.ranks n among))
]

was_named : (ranking : Ranking) (m : FileMeaning) → IsProper m → (f : ℕ → ℕ) → IsExchange ranking m f → (n : ℕ) → Contains (names m) n
    → (k : ℕ) × Contains (names m) k × (f k ≡ n)
was_named ranking m proper f is n among =
    let long : length (map f (names m)) ≡ length (names m) = length-map (names m) f in
    Contains-unmapped f (names m) n (all-taken (map f (names m)) (names m) (none_twice-mapped f (names m) is.injective (names-none_twice m proper.0)) within (omega (arith, long)) n among)
  where
    within : AreMembers (map f (names m)) (names m)
    within z at = let (k, at_, is_z) = Contains-unmapped f (names m) z at in let P : ℕ → Type 0 = λ j. Contains (names m) j in subst P is_z (is.among k at_)

-- ---- values that spread

module _ (ranking : Ranking) (m : FileMeaning) (proper : IsProper m) (f : ℕ → ℕ) (is : IsExchange ranking m f) where
  abbrev AreNames : List ℕ → Type 0
  AreNames ts = (t : ℕ) → Contains ts t → Contains (names m) t

  whole-onto : (all : Values) (v : Value) → IsOfWholeRank ranking m all v → AreNames (targets v) → Among (renamed_value f v) all
  whole-onto all v (t, is_t, each) are =
      let P : Value → Type 0 = λ w. AreNames (targets w) in
      let Q : Value → Type 0 = λ w. Among (renamed_value f w) all in
      let among : Contains (names m) t = subst P is_t are t (Contains-first t []) in
      subst Q (sym is_t) (each (f t) (is.among t among) (is.ranks t among))

  whole-back : (all : Values) (v : Value) → IsOfWholeRank ranking m all v → AreNames (targets v) → Among v (renamed_values f all)
  whole-back all v (t, is_t, each) are =
      let P : Value → Type 0 = λ w. AreNames (targets w) in
      let Q : Value → Type 0 = λ w. Among w (renamed_values f all) in
      let R : ℕ → Type 0 = λ k. Among (reference k) (renamed_values f all) in
      let among : Contains (names m) t = subst P is_t are t (Contains-first t []) in
      let (u, at, is_u) = was_named ranking m proper f is t among in
      let rank_ : ranking m u ≡ ranking m t = sym (is.ranks u at) ∙ ap (ranking m) is_u in
      subst Q (sym is_t) (subst R is_u (Among-renamed f (reference u) all (each u at rank_)))

  mutual
    value-kept : (v : Value) → AreNames (targets v) → Spreads ranking m v → Same (renamed_value f v) v
    value-kept (whole z) are spreads = Same-reflexive (whole z)
    value-kept (real d) are spreads = Same-reflexive (real d)
    value-kept (number d) are spreads = Same-reflexive (number d)
    value-kept (text chars) are spreads = Same-reflexive (text chars)
    value-kept (bits bs) are spreads = Same-reflexive (bits bs)
    value-kept (item word) are spreads = Same-reflexive (item word)
    value-kept (reference n) are spreads =
        let P : ℕ → Type 0 = λ k. Same (reference k) (reference n) in
        subst P (sym (stays ranking m f is n (are n (Contains-first n [])) spreads)) (same_references n)
    value-kept derived are spreads = Same-reflexive derived
    value-kept missing are spreads = Same-reflexive missing
    value-kept (list vs) are spreads = same_lists (renamed_values f vs) vs (values-kept vs are spreads)
    value-kept (array vs) are spreads = same_arrays (renamed_values f vs) vs (values-kept vs are spreads)
    value-kept (set vs) are spreads =
        same_sets (renamed_values f vs) vs (onto-kept vs vs are spreads (λ w at. at)) (back-kept vs vs are spreads (λ w at. at))
    value-kept (bag vs) are spreads = same_bags (renamed_values f vs) vs (paired-kept vs are spreads)
    value-kept (typed t v) are spreads = same_typed t (renamed_value f v) v (value-kept v are spreads)

    values-kept : (vs : Values) → AreNames (targets_in vs) → AllSpread ranking m vs → SameInOrder (renamed_values f vs) vs
    values-kept no_values are spread = both_end
    values-kept (value v vs) are spread =
        both_next (renamed_value f v) v (renamed_values f vs) vs
        (value-kept v (λ t at. are t (Contains-append_left (targets v) (targets_in vs) t at)) spread.0)
        (values-kept vs (λ t at. are t (Contains-append_right (targets v) (targets_in vs) t at)) spread.1)

    paired-kept : (vs : Values) → AreNames (targets_in vs) → AllSpread ranking m vs → SamePaired (renamed_values f vs) vs
    paired-kept no_values are spread = both_empty
    paired-kept (value v vs) are spread =
        paired (renamed_value f v) (renamed_values f vs) (value v vs) vs
        (without_first (renamed_value f v) v vs (value-kept v (λ t at. are t (Contains-append_left (targets v) (targets_in vs) t at)) spread.0))
        (paired-kept vs (λ t at. are t (Contains-append_right (targets v) (targets_in vs) t at)) spread.1)

    -- each element becomes one of all
    onto-kept : (all vs : Values) → AreNames (targets_in vs) → SpreadAmong ranking m all vs → ((w : Value) → Among w vs → Among w all)
        → EachAmong (renamed_values f vs) all
    onto-kept all no_values are spread within = none_left all
    onto-kept all (value v vs) are spread within =
        each_next (renamed_value f v) (renamed_values f vs) all
        (elim spread.0 [
          | inl h ↦ within (renamed_value f v) (here (renamed_value f v) v vs (value-kept v (λ t at. are t (Contains-append_left (targets v) (targets_in vs) t at)) h))
          | inr h ↦ whole-onto all v h (λ t at. are t (Contains-append_left (targets v) (targets_in vs) t at))
        ])
        (onto-kept all vs (λ t at. are t (Contains-append_right (targets v) (targets_in vs) t at)) spread.1 (λ w at. within w (there w v vs at)))

    -- and each is what one of all becomes
    back-kept : (all vs : Values) → AreNames (targets_in vs) → SpreadAmong ranking m all vs
        → ((w : Value) → Among w (renamed_values f vs) → Among w (renamed_values f all)) → EachAmong vs (renamed_values f all)
    back-kept all no_values are spread within = none_left (renamed_values f all)
    back-kept all (value v vs) are spread within =
        each_next v vs (renamed_values f all)
        (elim spread.0 [
          | inl h ↦ within v (here v (renamed_value f v) (renamed_values f vs) (Same-symmetric (renamed_value f v) v (value-kept v (λ t at. are t (Contains-append_left (targets v) (targets_in vs) t at)) h)))
          | inr h ↦ whole-back all v h (λ t at. are t (Contains-append_left (targets v) (targets_in vs) t at))
        ])
        (back-kept all vs (λ t at. are t (Contains-append_right (targets v) (targets_in vs) t at)) spread.1 (λ w at. within w (there w (renamed_value f v) (renamed_values f vs) at)))

  rows-spread : (rows : List Values) → AreNames (flat_map targets_in rows) → Each (AllSpread ranking m) rows
      → AllZip SameInOrder (map (renamed_values f) rows) rows
  rows-spread [] are spread = tt
  rows-spread (vs ∷ rows) are spread =
      (values-kept vs (λ t at. are t (Contains-append_left (targets_in vs) (flat_map targets_in rows) t at)) spread.0, rows-spread rows (λ t at. are t (Contains-append_right (targets_in vs) (flat_map targets_in rows) t at)) spread.1)

pub spread-is_kept : SpreadIsKept
spread-is_kept ranking m proper n x at spread f is =
    (refl, rows-spread ranking m proper f is x.values (λ t target. proper.0.closed n x at t target) spread)

-- ---- what hangs together

hang-alike : (ranking : Ranking) (m : FileMeaning) (order : List ℕ) → IsAligned ranking m order → (j k : ℕ) → HangTogether ranking m j k
    → copy (ranking m) order j ≡ copy (ranking m) order k
hang-alike ranking m order is j k (at_once _) = refl
hang-alike ranking m order is j k (by_use _ t _ refers shares shares_t more) =
    is.aligned j t refers shares shares_t ∙ hang-alike ranking m order is t k more
hang-alike ranking m order is j k (by_user _ n _ refers shares shares_t more) =
    sym (is.aligned n j refers shares shares_t) ∙ hang-alike ranking m order is n k more

pub one-hangs_together : OneOfEachRankHangsTogether
one-hangs_together ranking m decided j k among among_ hang one =
    let is : IsAligned ranking m decided.order = decided.aligned in
    copy-injective (ranking m) decided.order j k ((is.is_order.all j).0 among) ((is.is_order.all k).0 among_) one (hang-alike ranking m decided.order is j k hang)
