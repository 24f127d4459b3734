-- What is left of each key, and pairs of it.
use Rattle.std.specs.Prelude.{◌≡◌, ◌≢◌, ◌⊎◌, ◌<◌, ◌≤◌, ◌+◌, ℕ, List, [], ◌∷◌, ◌++◌, Option, Some, None, length, slice_set, Contains, refl}
use Rattle.std.proofs.Common.{arith, ap, sym, subst, ◌∙◌, inl, inr, length-set}
use Rattle.std.proofs.lemmas.Bool.{cases_eq}
use Rattle.std.proofs.lemmas.List.{get_or-set_same, get_or-set_other}
use Rattle.std.proofs.lemmas.List.Elements.{Contains-append_cases, Contains-append_left, Contains-append_right}
use Rattle.std.proofs.lemmas.Option.{none-some}
use Rattle.p21_spec_basics.proofs.Members.{Contains-none, Contains-first, Contains-cases}
use Rattle.p21_numbering.specs.Arrays.{rank_at}
use Rattle.p21_numbering.specs.Joining.{row_at}
use Rattle.p21_pairing.specs.Left.{AreListed, NoneLeft, SayKinds}
use Rattle.p21_pairing.specs.Pairs.{AreJoined, AreMore, ArePairs, IsFree, partner_at}
use Rattle.p21_pairing.proofs.MorePairs.{free-before, free_owner-before, has-or_free, kept-owners, more-more, same-more}

split_last : (m n : ℕ) → m < n + 1 → (m < n) ⊎ (m ≡ n)
split_last m n low = grind arith

split_first : (m n : ℕ) → m ≤ n → (m + 1 ≤ n) ⊎ (n ≡ m)
split_first m n low = grind arith

nothing-in : (row : List ℕ) → ((j : ℕ) → Contains row j → Contains [] j) → row ≡ []
nothing-in [] none = refl
nothing-in (x ∷ xs) none = absurd (Contains-none x (none x (Contains-first x xs)))

-- ---- rows of all that are free

pub nothing-listed : (keys : List ℕ) (start : ℕ) (owners : List (Option ℕ)) (rows : List (List ℕ)) → length rows ≡ length keys
    → ((key : ℕ) → row_at rows key ≡ []) → AreListed keys start owners (length owners) rows
nothing-listed keys start owners rows long none = record {
  long = long;
  within = λ key j among. absurd (Contains-none j (let P : List ℕ → Type 0 = λ xs. Contains xs j in subst P (none key) among));
  all = λ j past free. absurd (let low = free.0 in omega (arith, past, low));
}

pub passed-listed : (keys : List ℕ) (start : ℕ) (owners : List (Option ℕ)) (one beginning : ℕ) (rows : List (List ℕ)) → one + 1 ≡ beginning
    → ¬ IsFree owners one → AreListed keys start owners beginning rows → AreListed keys start owners one rows
passed-listed keys start owners one beginning rows next taken are = record {
  long = are.long;
  within = are.within;
  all = λ j past free. elim (split_first one j past) [
    | inl behind ↦ are.all j (omega (arith, behind, next)) free
    | inr same ↦ absurd (taken (let P : ℕ → Type 0 = λ k. IsFree owners k in subst P same free))
  ];
}

pub more-listed : (keys : List ℕ) (start : ℕ) (owners : List (Option ℕ)) (one beginning : ℕ) (rows : List (List ℕ)) → one + 1 ≡ beginning
    → one < length owners → rank_at keys (start + one) < length keys → AreListed keys start owners beginning rows
    → AreListed keys start owners one (slice_set rows (rank_at keys (start + one)) (row_at rows (rank_at keys (start + one)) ++ one ∷ []))
more-listed keys start owners one beginning rows next low small are =
    record { long = length-set rows own (row_at rows own ++ one ∷ []) ∙ are.long; within = within; all = all }
  where
    own : ℕ
    own = rank_at keys (start + one)

    more : List (List ℕ)
    more = slice_set rows own (row_at rows own ++ one ∷ [])

    at-own : row_at more own ≡ row_at rows own ++ one ∷ []
    at-own = get_or-set_same rows own (row_at rows own ++ one ∷ []) [] (omega (arith, small, are.long))

    at-other : (key : ℕ) → key ≢ own → row_at more key ≡ row_at rows key
    at-other key differ = get_or-set_other rows own key (row_at rows own ++ one ∷ []) [] differ

    within : (key j : ℕ) → Contains (row_at more key) j → j < length owners
    within key j among =
        let P : List ℕ → Type 0 = λ xs. Contains xs j in
        elim (cases_eq key own) [
          | inl same ↦ elim (Contains-append_cases (row_at rows own) (one ∷ []) j (subst P (ap (row_at more) same ∙ at-own) among)) [
            | inl before ↦ are.within own j before
            | inr last ↦ elim (Contains-cases one [] j last) [
              | inl is ↦ omega (arith, is, low)
              | inr none ↦ absurd (Contains-none j none)
            ]
          ]
          | inr differ ↦ are.within key j (subst P (at-other key differ) among)
        ]

    all : (j : ℕ) → one ≤ j → IsFree owners j → Contains (row_at more (rank_at keys (start + j))) j
    all j past free =
        let P : List ℕ → Type 0 = λ xs. Contains xs j in
        elim (split_first one j past) [
          | inl behind ↦
              let before : Contains (row_at rows (rank_at keys (start + j))) j = are.all j (omega (arith, behind, next)) free in
              elim (cases_eq (rank_at keys (start + j)) own) [
                | inl same ↦ subst P (sym (ap (row_at more) same ∙ at-own))
                    (Contains-append_left (row_at rows own) (one ∷ []) j (subst P (ap (row_at rows) same) before))
                | inr differ ↦ subst P (sym (at-other (rank_at keys (start + j)) differ)) before
              ]
          | inr same ↦
              let Q : ℕ → Type 0 = λ k. Contains (row_at more (rank_at keys (start + k))) k in
              let R : List ℕ → Type 0 = λ xs. Contains xs one in
              subst Q (sym same) (subst R (sym at-own) (Contains-append_right (row_at rows own) (one ∷ []) one (Contains-first one [])))
        ]

-- ---- one instance that tries a row

-- what is gone from the row isn't free, or of another kind
pub record IsTried (kinds : List ℕ) (one : ℕ) (ps os : List (Option ℕ)) (whole_row : List ℕ) (qs rs : List (Option ℕ)) (row : List ℕ) : Type
    0 where
  pub more : AreMore kinds ps os qs rs
  pub fewer : (j : ℕ) → Contains row j → Contains whole_row j
  pub kept : (j : ℕ) → Contains whole_row j → partner_at rs j ≡ None → rank_at kinds one ≡ rank_at kinds (length ps + j) → Contains row j

module _ (kinds : List ℕ) (one : ℕ) (ps os : List (Option ℕ)) (whole_row : List ℕ) where
  pub none-tried : ArePairs kinds ps os → IsTried kinds one ps os whole_row ps os whole_row
  none-tried pairs = record { more = same-more kinds ps os pairs; fewer = λ j among. among; kept = λ j among free alike. among }

  pub one-tried : (qs rs more_qs more_rs : List (Option ℕ)) (row rest : List ℕ) (other : ℕ) → IsTried kinds one ps os whole_row qs rs row
      → row ≡ rest ++ other ∷ [] → partner_at qs one ≡ None → AreJoined kinds one other qs rs more_qs more_rs
      → IsTried kinds one ps os whole_row more_qs more_rs rest
  one-tried qs rs more_qs more_rs row rest other tried is free joined = record {
    more = more-more kinds ps os qs rs more_qs more_rs tried.more joined.more;
    fewer = λ j among. tried.fewer j (let P : List ℕ → Type 0 = λ xs. Contains xs j in
        subst P (sym is) (Contains-append_left rest (other ∷ []) j among));
    kept = λ j among free_ alike.
        let before : partner_at rs j ≡ None = elim (has-or_free (partner_at rs j)) [
          | inl none ↦ none
          | inr (i, at) ↦ absurd (none-some i (sym free_ ∙ kept-owners kinds qs rs more_qs more_rs tried.more.pairs joined.more j i at))
        ] in
        let P : List ℕ → Type 0 = λ xs. Contains xs j in
        elim (Contains-append_cases rest (other ∷ []) j (subst P is (tried.kept j among before alike))) [
          | inl earlier ↦ earlier
          | inr last ↦ elim (Contains-cases other [] j last) [
            | inl same ↦ (
                let taken : partner_at more_rs other ≡ Some one = joined.more.pairs.there one other
                (joined.joined free (ap (partner_at rs) same ∙ before)
                (alike ∙ ap (λ n. rank_at kinds (n + j)) (sym tried.more.as_many)
                ∙ ap (λ n. rank_at kinds (length qs + n)) (sym same))) in
                absurd (none-some one (sym free_ ∙ ap (partner_at more_rs) (sym same) ∙ taken)))
            | inr none ↦ absurd (Contains-none j none)
          ]
        ];
  }

-- ---- one instance after the other

-- each free one of the second file is listed still, and those of the first that were passed and are free have empty rows
pub record AreLeft (keys kinds : List ℕ) (ps os : List (Option ℕ)) (count : ℕ) (qs rs : List (Option ℕ)) (rows : List (List ℕ)) : Type
    0 where
  pub more : AreMore kinds ps os qs rs
  pub long : length rows ≡ length keys
  pub within : (key j : ℕ) → Contains (row_at rows key) j → j < length os
  pub all : SayKinds keys kinds → (j : ℕ) → IsFree rs j → Contains (row_at rows (rank_at keys (length ps + j))) j
  pub empty : (i : ℕ) → i < count → IsFree qs i → row_at rows (rank_at keys i) ≡ []

module _ (keys kinds : List ℕ) (ps os : List (Option ℕ)) where
  pub all-left : ArePairs kinds ps os → (rows : List (List ℕ)) → AreListed keys (length ps) os 0 rows
      → AreLeft keys kinds ps os 0 ps os rows
  all-left pairs rows are = record {
    more = same-more kinds ps os pairs;
    long = are.long;
    within = are.within;
    all = λ say j free. are.all j (omega arith) free;
    empty = λ i below. absurd (omega (arith, below));
  }

  pub one-left : (count : ℕ) (qs rs more_qs more_rs : List (Option ℕ)) (rows more : List (List ℕ)) (row : List ℕ) → count < length ps
      → length keys ≡ length ps + length os → AreLeft keys kinds ps os count qs rs rows
      → length more ≡ length keys → row_at more (rank_at keys count) ≡ row
      → ((key : ℕ) → key ≢ rank_at keys count → row_at more key ≡ row_at rows key)
      → AreMore kinds qs rs more_qs more_rs → ((j : ℕ) → Contains row j → Contains (row_at rows (rank_at keys count)) j)
      → ((j : ℕ) → Contains (row_at rows (rank_at keys count)) j → partner_at more_rs j ≡ None
      → rank_at kinds count ≡ rank_at kinds (length qs + j) → Contains row j)
      → (partner_at more_qs count ≡ None → row ≡ []) → AreLeft keys kinds ps os (count + 1) more_qs more_rs more
  one-left count qs rs more_qs more_rs rows more row low sizes left long at-own at-other grown fewer kept found = record {
    more = more-more kinds ps os qs rs more_qs more_rs left.more grown;
    long = long;
    within = λ key j among.
        let P : List ℕ → Type 0 = λ xs. Contains xs j in
        elim (cases_eq key own) [
          | inl same ↦ left.within own j (fewer j (subst P (ap (row_at more) same ∙ at-own) among))
          | inr differ ↦ left.within key j (subst P (at-other key differ) among)
        ];
    all = λ say j free.
        let P : List ℕ → Type 0 = λ xs. Contains xs j in
        let below = free.0 in
        let before = left.all say j (free_owner-before kinds qs rs more_qs more_rs left.more.pairs grown j free) in
        elim (cases_eq (rank_at keys (length ps + j)) own) [
          | inl same ↦ (
              let in_file : length ps + j < length keys = omega (arith, below, grown.as_many_owners, left.more.as_many_owners, sizes) in
              let alike : rank_at kinds count ≡ rank_at kinds (length ps + j) =
              say count (length ps + j) (omega (arith, low, sizes)) in_file (sym same) in
              subst P (sym (ap (row_at more) same ∙ at-own)) (kept j (subst P (ap (row_at rows) same) before) free.1
              (alike ∙ ap (λ n. rank_at kinds (n + j)) (sym left.more.as_many))))
          | inr differ ↦ subst P (sym (at-other (rank_at keys (length ps + j)) differ)) before
        ];
    empty = λ i below free. elim (split_last i count below) [
      | inl before ↦ (
          let none = left.empty i before (free-before kinds qs rs more_qs more_rs grown i free) in
          elim (cases_eq (rank_at keys i) own) [
            | inl same ↦ ap (row_at more) same ∙ at-own ∙ nothing-in row
                (λ j among. let P : List ℕ → Type 0 = λ xs. Contains xs j in subst P (ap (row_at rows) (sym same) ∙ none) (fewer j among))
            | inr differ ↦ at-other (rank_at keys i) differ ∙ none
          ])
      | inr same ↦ ap (λ k. row_at more (rank_at keys k)) same ∙ at-own ∙ found (ap (partner_at more_qs) (sym same) ∙ free.1)
    ];
  }
    where
      own : ℕ
      own = rank_at keys count

  pub none-left : (qs rs : List (Option ℕ)) (rows : List (List ℕ)) (count : ℕ) → length ps ≤ count
      → AreLeft keys kinds ps os count qs rs rows → SayKinds keys kinds → NoneLeft keys (length ps) qs rs
  none-left qs rs rows count whole_ left say i j free free_ same =
      let low = free.0 in
      let P : List ℕ → Type 0 = λ xs. Contains xs j in
      Contains-none j (subst P (ap (row_at rows) (sym same) ∙ left.empty i (omega (arith, low, left.more.as_many, whole_)) free)
      (left.all say j free_))
