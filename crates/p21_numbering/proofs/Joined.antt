-- Parts that become one, and parts of all pairs so far.
use Rattle.std.specs.Prelude.{◌≡◌, ◌≢◌, ◌⊎◌, ◌<◌, ◌+◌, ℕ, zero, suc, take, Bool, true, false, List, [], ◌∷◌, ◌++◌, map, length, nat_eq, slice_set, if◌then◌else◌, Contains, refl}
use Rattle.std.specs.List.{range_with_len}
use Rattle.std.proofs.Common.{arith, ap, sym, subst, ◌∙◌, inl, inr, true≢false, length-set, map-id}
use Rattle.std.proofs.lemmas.Bool.{cases_eq, eqb-true, eq-eqb, ne_eqb}
use Rattle.std.proofs.lemmas.List.{get_or-set_same, get_or-set_other, get_or-map, length-map}
use Rattle.std.proofs.lemmas.List.Elements.{Contains-append_left, Contains-append_right, Contains-append_cases}
use Rattle.std.proofs.lemmas.List.FromFn.{length-range_with_len, get_or-range_with_len, map-range_with_len_more}
use Rattle.p21_spec_basics.proofs.Members.{Contains-none, Contains-first, Contains-later, Contains-cases}
use Rattle.p21_numbering.specs.Joining.{AreAbsorbed, AreJoined, ArePartition, Connected, itself, by_pair, by_other, number_at, row_at}

-- one more number
pub range-push : (n : ℕ) → range_with_len 0 (n + 1) ≡ range_with_len 0 n ++ n ∷ []
range-push n =
    let none : 0 + n ≡ n = omega arith in
    sym (map-id (range_with_len 0 (n + 1))) ∙ map-range_with_len_more (λ k. k) 0 n n none
    ∙ ap (λ (ks : List ℕ). ks ++ n ∷ []) (map-id (range_with_len 0 n))

range-at : (count k : ℕ) → k < count → number_at (range_with_len 0 count) k ≡ k
range-at count k low = let none : 0 + k ≡ k = omega arith in get_or-range_with_len 0 count k 0 low ∙ none

pub Contains-take : {X : Type 0} (n : ℕ) (xs : List X) (x : X) → Contains (take n xs) x → Contains xs x
Contains-take {X} zero xs x among = absurd (Contains-none x among)
Contains-take {X} (suc n) [] x among = absurd (Contains-none x among)
Contains-take {X} (suc n) (y ∷ ys) x among = elim (Contains-cases y (take n ys) x among) [
  | inl h ↦ let P : X → Type 0 = λ z. Contains (y ∷ ys) z in subst P h (Contains-first y ys)
  | inr h ↦ Contains-later y ys x (Contains-take n ys x h)
]

-- ---- each alone

pub alone : (count : ℕ) → ArePartition count (range_with_len 0 count) (map (λ k. k ∷ []) (range_with_len 0 count))
alone count = record {
  long = length-range_with_len 0 count;
  rows = length-map (range_with_len 0 count) (λ k. k ∷ []) ∙ length-range_with_len 0 count;
  within = λ k low. omega (arith, low, own k low);
  listed = λ k low.
      let P : List ℕ → Type 0 = λ xs. Contains xs k in
      subst P (sym (row (number_at (range_with_len 0 count) k) (omega (arith, low, own k low)) ∙ ap (λ j. j ∷ []) (own k low)))
      (Contains-first k []);
  only = λ p k low among.
      let P : List ℕ → Type 0 = λ xs. Contains xs k in
      let same : p ≡ k = elim (Contains-cases p [] k (subst P (row p low) among)) [ inl h ↦ h | inr h ↦ absurd (Contains-none k h) ] in
      (omega (arith, low, same), own k (omega (arith, low, same)) ∙ sym same);
}
  where
    own : (k : ℕ) → k < count → number_at (range_with_len 0 count) k ≡ k
    own k low = range-at count k low

    row : (k : ℕ) → k < count → row_at (map (λ j. j ∷ []) (range_with_len 0 count)) k ≡ k ∷ []
    row k low = get_or-map (λ j. j ∷ []) (range_with_len 0 count) k 0 [] (omega (arith, low, length-range_with_len 0 count))
        ∙ ap (λ j. j ∷ []) (own k low)

-- ---- one part goes into another

module _ (of : List ℕ) (members : List (List ℕ)) (small large : ℕ) (are : ArePartition (length of) of members) (low : small < length of)
    (low_ : large < length of) (differ : small ≢ large) (more_of : List ℕ) (same_long : length more_of ≡ length of)
    (moved : (k : ℕ) → Contains (row_at members small) k → number_at more_of k ≡ large)
    (others : (k : ℕ) → ¬ Contains (row_at members small) k → number_at more_of k ≡ number_at of k) (more_members : List (List ℕ))
    (more_is : more_members ≡ slice_set (slice_set members small []) large
    (row_at (slice_set members small []) large ++ row_at members small)) where
  abbrev emptied : List (List ℕ)
  emptied = slice_set members small []

  at_large : row_at more_members large ≡ row_at members large ++ row_at members small
  at_large =
      ap (λ (rows : List (List ℕ)). row_at rows large) more_is
      ∙ get_or-set_same emptied large (row_at emptied large ++ row_at members small) []
      (omega (arith, low_, are.rows, length-set members small []))
      ∙ ap (λ (xs : List ℕ). xs ++ row_at members small) (get_or-set_other members small large [] [] (λ same. differ (sym same)))

  at_other : (p : ℕ) → p ≢ large → row_at more_members p ≡ row_at emptied p
  at_other p other = ap (λ (rows : List (List ℕ)). row_at rows p) more_is
      ∙ get_or-set_other emptied large p (row_at emptied large ++ row_at members small) [] other

  at_small : row_at more_members small ≡ []
  at_small = at_other small differ ∙ get_or-set_same members small [] [] (omega (arith, low, are.rows))

  at_rest : (p : ℕ) → p ≢ large → p ≢ small → row_at more_members p ≡ row_at members p
  at_rest p other other_ = at_other p other ∙ get_or-set_other members small p [] [] other_

  gone : (k : ℕ) → k < length of → number_at of k ≡ small → number_at more_of k ≡ large
  gone k below is = let P : ℕ → Type 0 = λ p. Contains (row_at members p) k in moved k (subst P is (are.listed k below))

  stayed : (k : ℕ) → number_at of k ≢ small → number_at more_of k ≡ number_at of k
  stayed k other = others k (λ among. other (are.only small k low among).1)

  each : (k : ℕ) → k < length of → number_at more_of k ≡ (if nat_eq (number_at of k) small then large else number_at of k)
  each k below = by (nat_eq (number_at of k) small) refl
    where
      by : (b : Bool) → nat_eq (number_at of k) small ≡ b → number_at more_of k ≡ (if b then large else number_at of k)
      by true e = gone k below (eqb-true (number_at of k) small e)
      by false e = stayed k (λ same. true≢false (sym (eq-eqb (number_at of k) small same) ∙ e))

  pub absorbed-is : AreAbsorbed small large of more_of more_members
  absorbed-is = record { partition = record { long = same_long; rows = rows; within = within; listed = listed; only = only }; each = each }
    where
      rows : length more_members ≡ length of
      rows = ap length more_is ∙ length-set emptied large (row_at emptied large ++ row_at members small) ∙ length-set members small []
          ∙ are.rows

      within : (k : ℕ) → k < length of → number_at more_of k < length of
      within k below = elim (cases_eq (number_at of k) small) [
        | inl is ↦ omega (arith, gone k below is, low_)
        | inr other ↦ omega (arith, stayed k other, are.within k below)
      ]

      listed : (k : ℕ) → k < length of → Contains (row_at more_members (number_at more_of k)) k
      listed k below =
          let P : ℕ → Type 0 = λ p. Contains (row_at more_members p) k in
          let Q : List ℕ → Type 0 = λ xs. Contains xs k in
          let R : ℕ → Type 0 = λ p. Contains (row_at members p) k in
          elim (cases_eq (number_at of k) small) [
            | inl is ↦ subst P (sym (gone k below is)) (subst Q (sym at_large)
                (Contains-append_right (row_at members large) (row_at members small) k (subst R is (are.listed k below))))
            | inr other ↦ subst P (sym (stayed k other)) (elim (cases_eq (number_at of k) large) [
              | inl is ↦ subst P (sym is) (subst Q (sym at_large)
                  (Contains-append_left (row_at members large) (row_at members small) k (subst R is (are.listed k below))))
              | inr other_ ↦ subst Q (sym (at_rest (number_at of k) other_ other)) (are.listed k below)
            ])
          ]

      only : (p k : ℕ) → p < length of → Contains (row_at more_members p) k → (k < length of) × (number_at more_of k ≡ p)
      only p k below among =
          let P : ℕ → Type 0 = λ q. Contains (row_at more_members q) k in
          let Q : List ℕ → Type 0 = λ xs. Contains xs k in
          elim (cases_eq p large) [
            | inl is ↦ elim (Contains-append_cases (row_at members large) (row_at members small) k (subst Q at_large (subst P is among))) [
              | inl h ↦ let (under, own) = are.only large k low_ h in (under, stayed k (λ same. differ (sym same ∙ own)) ∙ own ∙ sym is)
              | inr h ↦ let (under, own) = are.only small k low h in (under, gone k under own ∙ sym is)
            ]
            | inr other ↦ elim (cases_eq p small) [
              | inl is ↦ absurd (Contains-none k (subst Q at_small (subst P is among)))
              | inr other_ ↦ let (under, own) = are.only p k below (subst Q (at_rest p other other_) among) in
                  (under, stayed k (λ same. other_ (sym own ∙ same)) ∙ own)
            ]
          ]

-- ---- so two positions are in one part

module _ (of : List ℕ) (small large : ℕ) (more_of : List ℕ) (more_members : List (List ℕ))
    (are : AreAbsorbed small large of more_of more_members) where
  was-small : (k : ℕ) → k < length of → number_at of k ≡ small → number_at more_of k ≡ large
  was-small k below is = are.each k below ∙ ap (λ (b : Bool). if b then large else number_at of k) (eq-eqb (number_at of k) small is)

  was-other : (k : ℕ) → k < length of → number_at of k ≢ small → number_at more_of k ≡ number_at of k
  was-other k below other = are.each k below ∙ ap (λ (b : Bool). if b then large else number_at of k) (ne_eqb (number_at of k) small other)

  same-kept : (j k : ℕ) → j < length of → k < length of → number_at of j ≡ number_at of k → number_at more_of j ≡ number_at more_of k
  same-kept j k below below_ same = are.each j below ∙ ap (λ p. if nat_eq p small then large else p) same ∙ sym (are.each k below_)

  -- what became equal stood in the two
  from-two : (j k : ℕ) → j < length of → k < length of → number_at more_of j ≡ number_at more_of k
      → (number_at of j ≡ number_at of k) ⊎ (((number_at of j ≡ small) × (number_at of k ≡ large))
      ⊎ ((number_at of j ≡ large) × (number_at of k ≡ small)))
  from-two j k below below_ same = elim (cases_eq (number_at of j) small) [
    | inl is ↦ elim (cases_eq (number_at of k) small) [
      | inl is_ ↦ inl (is ∙ sym is_)
      | inr other ↦ inr (inl (is, sym (was-other k below_ other) ∙ sym same ∙ was-small j below is))
    ]
    | inr other ↦ elim (cases_eq (number_at of k) small) [
      | inl is_ ↦ inr (inr (sym (was-other j below other) ∙ same ∙ was-small k below_ is_, is_))
      | inr other_ ↦ inl (sym (was-other j below other) ∙ same ∙ was-other k below_ other_)
    ]
  ]

  pub joined-into_second : (one other : ℕ) → one < length of → other < length of → number_at of one ≡ small → number_at of other ≡ large
      → small ≢ large
      → AreJoined one other of more_of more_members
  joined-into_second one other below below_ is is_ differ = record {
    partition = are.partition;
    together = was-small one below is ∙ sym is_ ∙ sym (was-other other below_ (λ same. differ (sym same ∙ is_)));
    kept = same-kept;
    nothing_else = λ j k under under_ same. elim (from-two j k under under_ same) [
      | inl h ↦ inl h
      | inr (inl (h, h_)) ↦ inr (inl (h ∙ sym is, h_ ∙ sym is_))
      | inr (inr (h, h_)) ↦ inr (inr (h ∙ sym is_, h_ ∙ sym is))
    ];
  }

  pub joined-into_first : (one other : ℕ) → one < length of → other < length of → number_at of one ≡ large → number_at of other ≡ small
      → small ≢ large
      → AreJoined one other of more_of more_members
  joined-into_first one other below below_ is is_ differ = record {
    partition = are.partition;
    together = was-other one below (λ same. differ (sym same ∙ is)) ∙ is ∙ sym (was-small other below_ is_);
    kept = same-kept;
    nothing_else = λ j k under under_ same. elim (from-two j k under under_ same) [
      | inl h ↦ inl h
      | inr (inl (h, h_)) ↦ inr (inr (h ∙ sym is_, h_ ∙ sym is))
      | inr (inr (h, h_)) ↦ inr (inl (h ∙ sym is, h_ ∙ sym is_))
    ];
  }

pub joined-already : (of : List ℕ) (members : List (List ℕ)) (one other : ℕ) → ArePartition (length of) of members
    → number_at of one ≡ number_at of other
    → AreJoined one other of of members
joined-already of members one other are same =
    record { partition = are; together = same; kept = λ j k below below_ h. h; nothing_else = λ j k below below_ h. inl h }

-- ---- the parts of all pairs so far

pub record AreParts (count : ℕ) (pairs : List (ℕ × ℕ)) (of : List ℕ) (members : List (List ℕ)) : Type 0 where
  pub partition : ArePartition count of members
  pub joined : (p : ℕ × ℕ) → Contains pairs p → number_at of p.0 ≡ number_at of p.1
  pub connected : (j k : ℕ) → j < count → k < count → number_at of j ≡ number_at of k → Connected pairs j k

connected-then : (pairs : List (ℕ × ℕ)) (j k l : ℕ) → Connected pairs j k → Connected pairs k l → Connected pairs j l
connected-then pairs j k l (itself _) more_ = more_
connected-then pairs j k l (by_pair _ t _ among more) more_ = by_pair j t l among (connected-then pairs t k l more more_)
connected-then pairs j k l (by_other n _ _ among more) more_ = by_other n j l among (connected-then pairs n k l more more_)

connected-more : (pairs more : List (ℕ × ℕ)) (j k : ℕ) → Connected pairs j k → Connected (pairs ++ more) j k
connected-more pairs more j k (itself _) = itself j
connected-more pairs more j k (by_pair _ t _ among rest) =
    by_pair j t k (Contains-append_left pairs more (j, t) among) (connected-more pairs more t k rest)
connected-more pairs more j k (by_other n _ _ among rest) =
    by_other n j k (Contains-append_left pairs more (n, j) among) (connected-more pairs more n k rest)

pub no-pairs : (count : ℕ) → AreParts count [] (range_with_len 0 count) (map (λ k. k ∷ []) (range_with_len 0 count))
no-pairs count = record {
  partition = alone count;
  joined = λ p among. absurd (Contains-none p among);
  connected = λ j k low low_ same.
      let one : j ≡ k = sym (range-at count j low) ∙ same ∙ range-at count k low_ in
      let P : ℕ → Type 0 = λ n. Connected [] j n in
      subst P one (itself j);
}

pub one-pair_more : (count : ℕ) (pairs : List (ℕ × ℕ)) (of : List ℕ) (members : List (List ℕ)) (one other : ℕ) (more_of : List ℕ)
    (more_members : List (List ℕ))
    → AreParts count pairs of members → ((p : ℕ × ℕ) → Contains pairs p → (p.0 < count) × (p.1 < count)) → one < count → other < count
    → AreJoined one other of more_of more_members → AreParts count (pairs ++ (one, other) ∷ []) more_of more_members
one-pair_more count pairs of members one other more_of more_members are low below below_ step =
    record { partition = partition; joined = joined; connected = connected }
  where
    long : length of ≡ count
    long = are.partition.long

    partition : ArePartition count more_of more_members
    partition = let P : ℕ → Type 0 = λ n. ArePartition n more_of more_members in subst P long step.partition

    joined : (p : ℕ × ℕ) → Contains (pairs ++ (one, other) ∷ []) p → number_at more_of p.0 ≡ number_at more_of p.1
    joined p among = elim (Contains-append_cases pairs ((one, other) ∷ []) p among) [
      | inl h ↦ let (under, under_) = low p h in step.kept p.0 p.1 (omega (arith, under, long)) (omega (arith, under_, long))
          (are.joined p h)
      | inr h ↦ elim (Contains-cases (one, other) [] p h) [
        | inl is ↦ let P : ℕ × ℕ → Type 0 = λ q. number_at more_of q.0 ≡ number_at more_of q.1 in subst P is step.together
        | inr h_ ↦ absurd (Contains-none p h_)
      ]
    ]

    last : Contains (pairs ++ (one, other) ∷ []) (one, other)
    last = Contains-append_right pairs ((one, other) ∷ []) (one, other) (Contains-first (one, other) [])

    before : (j k : ℕ) → j < count → k < count → number_at of j ≡ number_at of k → Connected (pairs ++ (one, other) ∷ []) j k
    before j k under under_ same = connected-more pairs ((one, other) ∷ []) j k (are.connected j k under under_ same)

    connected : (j k : ℕ) → j < count → k < count → number_at more_of j ≡ number_at more_of k → Connected (pairs ++ (one, other) ∷ []) j k
    connected j k under under_ same = elim (step.nothing_else j k (omega (arith, under, long)) (omega (arith, under_, long)) same) [
      | inl h ↦ before j k under under_ h
      | inr (inl (h, h_)) ↦ connected-then (pairs ++ (one, other) ∷ []) j one k (before j one under below h)
          (by_pair one other k last (before other k below_ under_ (sym h_)))
      | inr (inr (h, h_)) ↦ connected-then (pairs ++ (one, other) ∷ []) j other k (before j other under below_ h)
          (by_other one other k last (before one k below under_ (sym h_)))
    ]

-- ---- positions that got one number

pub record AreRelabelled (moved : List ℕ) (number : ℕ) (before after : List ℕ) : Type 0 where
  pub size : length after ≡ length before
  pub changed : (k : ℕ) → Contains moved k → number_at after k ≡ number
  pub others : (k : ℕ) → ¬ Contains moved k → number_at after k ≡ number_at before k

pub none-relabelled : (number : ℕ) (before : List ℕ) → AreRelabelled [] number before before
none-relabelled number before = record { size = refl; changed = λ k among. absurd (Contains-none k among); others = λ k none. refl }

pub one-relabelled : (moved : List ℕ) (number : ℕ) (before after : List ℕ) (one : ℕ) → AreRelabelled moved number before after
    → one < length before
    → AreRelabelled (moved ++ one ∷ []) number before (slice_set after one number)
one-relabelled moved number before after one are low =
    record { size = length-set after one number ∙ are.size; changed = changed; others = others }
  where
    here : number_at (slice_set after one number) one ≡ number
    here = get_or-set_same after one number 0 (omega (arith, low, are.size))

    there : (k : ℕ) → k ≢ one → number_at (slice_set after one number) k ≡ number_at after k
    there k other = get_or-set_other after one k number 0 other

    changed : (k : ℕ) → Contains (moved ++ one ∷ []) k → number_at (slice_set after one number) k ≡ number
    changed k among = elim (cases_eq k one) [
      | inl same ↦ (let P : ℕ → Type 0 = λ j. number_at (slice_set after one number) j ≡ number in subst P (sym same) here)
      | inr other ↦ there k other ∙ elim (Contains-append_cases moved (one ∷ []) k among) [
        | inl h ↦ are.changed k h
        | inr h ↦ elim (Contains-cases one [] k h) [ inl same ↦ absurd (other (sym same)) | inr h_ ↦ absurd (Contains-none k h_) ]
      ]
    ]

    others : (k : ℕ) → ¬ Contains (moved ++ one ∷ []) k → number_at (slice_set after one number) k ≡ number_at before k
    others k none =
        let P : ℕ → Type 0 = λ j. Contains (moved ++ one ∷ []) j in
        there k (λ same. none (subst P (sym same) (Contains-append_right moved (one ∷ []) one (Contains-first one []))))
        ∙ are.others k (λ among. none (Contains-append_left moved (one ∷ []) k among))
