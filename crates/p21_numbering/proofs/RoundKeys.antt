-- Rows that are keys compare as the keys of the definition, so their ranks are those behind a round.
use Rattle.std.specs.Prelude.{◌≡◌, ◌≢◌, ◌⊎◌, ℕ, ◌+◌, ◌<◌, nat_eq, Bool, true, false, List, [], ◌∷◌, ◌++◌, map, filter, length, if◌then◌else◌, refl}
use Rattle.std.specs.Cmp.Lexicographic.{slice_cmp}
use Rattle.std.specs.List.{flat_map, range_with_len, AllByRecursion as Each}
use Rattle.std.specs.List.Sorted.{IsSorted}
use Rattle.std.specs.Ordering.{nat_cmp, is_lt, ordering_then, ordering_reverse}
use Rattle.std.specs.Cmp.{nat_cmp_is}
use Rattle.std.proofs.lemmas.Cmp.{lists_total, nat_list_cmp_total}
use Rattle.std.proofs.Common.{Ordering, Less, Equal, Greater, Contains, inl, inr, true≢false, arith, ap, sym, subst, ◌∙◌, get_or, append_assoc}
use Rattle.std.proofs.lemmas.Bool.{eqb-true, eq-eqb}
use Rattle.std.proofs.lemmas.List.{append-nil, get_or-map, length-map, map-append}
use Rattle.std.proofs.lemmas.List.Elements.{Contains-get_or, Contains-append_left, Contains-append_right, Contains-append_cases}
use Rattle.std.proofs.lemmas.List.Sorted.{IsPermutation-map, IsPermutation-sym, Contains-permutation}
use Rattle.p21_spec_basics.proofs.Members.{flat_map-same, Contains-unmapped, Contains-unfiltered, Each-member, Each-of_members}
use Rattle.p21_spec_basics.proofs.Shuffles.{Shuffled, no_more, one_more, taken_first, taken_later, Shuffled-reflexive, Shuffled-transitive, Shuffled-joined, Shuffled-flat_map}
use Rattle.p21_spec_file.specs.CanonicalRecord.{AreTextsRising}
use Rattle.p21_spec_file.specs.Sorting.{is_below, sort_texts}
use Rattle.p21_spec_laws.proofs.Sorting.{below-itself, sort-permutation, sort-rising}
use Rattle.p21_spec_numbering.specs.Fresh.{Ranks, entry, entries, fresh_uses, fresh_key}
use Rattle.p21_spec_numbering.specs.Graph.{Graph, how_many, rank_by}
use Rattle.p21_spec_numbering.proofs.Lists.{count-agree, sort-shuffled}
use Rattle.p21_numbering.specs.declared.adjacency.Adjacency.{Adjacency}
use Rattle.p21_numbering.specs.Arrays.{Use, PlacedUse, placed, beside, uses_of, Represents, Entry, entry_cmp, as_entry, entries_at, numbers, IsKey, IsPlace}
use Rattle.p21_numbering.proofs.Counts.{range-below}
use Rattle.p21_numbering.proofs.Gathering.{used}
use Rattle.p21_numbering.proofs.Terminated.{ends-compare, then-equal, then-then}
use Rattle.p21_numbering.proofs.Walks.{flat_map-joined}

-- ---- lists

Shuffled-swapped : {X : Type 0} (xs ys zs : List X) → Shuffled (xs ++ (ys ++ zs)) (ys ++ (xs ++ zs))
Shuffled-swapped {X} xs ys zs =
    let turned : Shuffled (xs ∷ ys ∷ zs ∷ []) (ys ∷ xs ∷ zs ∷ []) =
    one_more xs (ys ∷ zs ∷ []) (ys ∷ xs ∷ zs ∷ []) (ys ∷ zs ∷ [])
    (taken_later ys (xs ∷ zs ∷ []) (zs ∷ []) (taken_first xs (zs ∷ []) refl)) (Shuffled-reflexive (ys ∷ zs ∷ [])) in
    let P : List X → Type 0 = λ ws. Shuffled (xs ++ (ys ++ ws)) (ys ++ (xs ++ ws)) in
    subst P (append-nil zs) (Shuffled-flat_map (λ (ws : List X). ws) (xs ∷ ys ∷ zs ∷ []) (ys ∷ xs ∷ zs ∷ []) turned)

-- what two functions give, one list behind the other or element by element
Shuffled-both : {X Y : Type 0} (f g : X → List Y) (xs : List X) → Shuffled (flat_map f xs ++ flat_map g xs) (flat_map (λ x. f x ++ g x) xs)
Shuffled-both f g [] = no_more
Shuffled-both {X} {Y} f g (x ∷ xs) =
    let fs : List Y = flat_map f xs in
    let gs : List Y = flat_map g xs in
    let swapped : Shuffled (fs ++ (g x ++ gs)) (g x ++ (fs ++ gs)) = Shuffled-swapped fs (g x) gs in
    let first : Shuffled (f x ++ (fs ++ (g x ++ gs))) (f x ++ (g x ++ (fs ++ gs))) =
    Shuffled-joined (f x) (f x) (fs ++ (g x ++ gs)) (g x ++ (fs ++ gs)) (Shuffled-reflexive (f x)) swapped in
    let rest : Shuffled ((f x ++ g x) ++ (fs ++ gs)) ((f x ++ g x) ++ flat_map (λ y. f y ++ g y) xs) =
    Shuffled-joined (f x ++ g x) (f x ++ g x) (fs ++ gs) (flat_map (λ y. f y ++ g y) xs) (Shuffled-reflexive (f x ++ g x))
    (Shuffled-both f g xs) in
    let P : List Y → Type 0 = λ zs. Shuffled zs (f x ++ (g x ++ (fs ++ gs))) in
    let Q : List Y → Type 0 = λ zs. Shuffled ((f x ++ fs) ++ (g x ++ gs)) zs in
    let both : Shuffled ((f x ++ fs) ++ (g x ++ gs)) ((f x ++ g x) ++ (fs ++ gs)) =
    subst Q (sym (append_assoc (f x) (g x) (fs ++ gs))) (subst P (sym (append_assoc (f x) fs (g x ++ gs))) first) in
    Shuffled-transitive ((f x ++ fs) ++ (g x ++ gs)) ((f x ++ g x) ++ (fs ++ gs)) ((f x ++ g x) ++ flat_map (λ y. f y ++ g y) xs) both rest

-- ---- entries as texts

module _ (place : ℕ → List ℕ) where
  abbrev as_text : Entry → List ℕ
  as_text e = entry e.0 e.2 (place e.1)

  module _ (test : ℕ → Bool) (rank : ℕ → ℕ) (side : ℕ) where
    abbrev passing : PlacedUse → List (List ℕ)
    passing q = if test q.0 then entry side (rank q.0) q.1 ∷ [] else []

    passing-beside : (m : ℕ) (ps : List (List ℕ)) → flat_map passing
        (map (beside m) ps) ≡ (if test m then map (entry side (rank m)) ps else [])
    passing-beside m ps = by_test (test m) refl
      where
        all : (ps : List (List ℕ)) → test m ≡ true → flat_map passing (map (beside m) ps) ≡ map (entry side (rank m)) ps
        all [] e = refl
        all (p ∷ ps) e = ap (λ (b : Bool). (if b then entry side (rank m) p ∷ [] else []) ++ flat_map passing (map (beside m) ps)) e
            ∙ ap (λ (qs : List (List ℕ)). entry side (rank m) p ∷ qs) (all ps e)

        none : (ps : List (List ℕ)) → test m ≡ false → flat_map passing (map (beside m) ps) ≡ []
        none [] e = refl
        none (p ∷ ps) e = ap (λ (b : Bool). (if b then entry side (rank m) p ∷ [] else []) ++ flat_map passing (map (beside m) ps)) e
            ∙ none ps e

        by_test : (b : Bool) → test m ≡ b → flat_map passing (map (beside m) ps) ≡ (if test m then map (entry side (rank m)) ps else [])
        by_test true e = all ps e ∙ ap (λ (b : Bool). if b then map (entry side (rank m)) ps else []) (sym e)
        by_test false e = none ps e ∙ ap (λ (b : Bool). if b then map (entry side (rank m)) ps else []) (sym e)

    passing-graph : (at : ℕ → List (List ℕ)) (nodes : List ℕ)
        → flat_map passing (flat_map (λ m. map (beside m) (at m)) nodes) ≡ flat_map
        (λ m. if test m then map (entry side (rank m)) (at m) else []) nodes
    passing-graph at [] = refl
    passing-graph at (m ∷ nodes) =
        flat_map-joined passing (map (beside m) (at m)) (flat_map (λ k. map (beside k) (at k)) nodes)
        ∙ ap (λ (ps : List (List ℕ)). ps ++ flat_map passing (flat_map (λ k. map (beside k) (at k)) nodes)) (passing-beside m (at m))
        ∙ ap (λ (ps : List (List ℕ)). (if test m then map (entry side (rank m)) (at m) else []) ++ ps) (passing-graph at nodes)

    passing-uses : (us : List Use) → flat_map passing (map (placed place) us) ≡ map as_text (entries_at side test rank us)
    passing-uses [] = refl
    passing-uses (u ∷ us) = by_test (test u.0) (passing-uses us)
      where
        by_test : (b : Bool) → flat_map passing (map (placed place) us) ≡ map as_text (entries_at side test rank us)
            → (if b then entry side (rank u.0) (place u.1) ∷ [] else [])
            ++ flat_map passing (map (placed place) us) ≡ map as_text
            (map (as_entry side rank) (if b then u ∷ filter (λ (v : Use). test v.0) us else filter (λ (v : Use). test v.0) us))
        by_test true rest = ap (λ (ps : List (List ℕ)). entry side (rank u.0) (place u.1) ∷ ps) rest
        by_test false rest = rest

    -- the entries of one side
    side-is : (us : List Use) (at : ℕ → List (List ℕ)) (nodes : List ℕ)
        → Shuffled (map (placed place) us) (flat_map (λ m. map (beside m) (at m)) nodes)
        → Shuffled (map as_text (entries_at side test rank us))
        (flat_map (λ m. if test m then map (entry side (rank m)) (at m) else []) nodes)
    side-is us at nodes same =
        let P : List (List ℕ) → Type 0 = λ xs. Shuffled xs
        (flat_map (λ m. if test m then map (entry side (rank m)) (at m) else []) nodes) in
        let Q : List (List ℕ) → Type 0 = λ xs. Shuffled (flat_map passing (map (placed place) us)) xs in
        subst P (passing-uses us) (subst Q (passing-graph at nodes)
        (Shuffled-flat_map passing (map (placed place) us) (flat_map (λ m. map (beside m) (at m)) nodes) same))

-- ---- texts and rows compare as entries

module _ (place : ℕ → List ℕ) (IsKnown : ℕ → Type 0)
    (ordered : (i j : ℕ) → IsKnown i → IsKnown j → slice_cmp nat_cmp (place i) (place j) ≡ nat_cmp i j) where
  abbrev AreKnown : List Entry → Type 0
  AreKnown es = Each (λ (e : Entry). IsKnown e.1) es

  entry-compare : (d e : Entry) → IsKnown d.1 → IsKnown e.1 → slice_cmp nat_cmp (as_text place d) (as_text place e) ≡ entry_cmp d e
  entry-compare d e known known_ =
      ap (ordering_then (nat_cmp d.0 e.0)) (ends-compare (place d.1) (place e.1) (d.2 ∷ []) (e.2 ∷ [])
      ∙ ap (ordering_then (slice_cmp nat_cmp (place d.1) (place e.1))) (then-equal (nat_cmp d.2 e.2))
      ∙ ap (λ (o : Ordering). ordering_then o (nat_cmp d.2 e.2)) (ordered d.1 e.1 known known_))
      ∙ sym (then-then (nat_cmp d.0 e.0) (nat_cmp d.1 e.1) (nat_cmp d.2 e.2))

  numbers-compare : (d e : Entry) (xs ys : List ℕ) → slice_cmp nat_cmp (numbers d ++ xs) (numbers e ++ ys) ≡ ordering_then (entry_cmp d e)
      (slice_cmp nat_cmp xs ys)
  numbers-compare d e xs ys =
      sym (then-then (ordering_then (nat_cmp d.0 e.0) (nat_cmp d.1 e.1)) (nat_cmp d.2 e.2) (slice_cmp nat_cmp xs ys)
      ∙ then-then (nat_cmp d.0 e.0) (nat_cmp d.1 e.1) (ordering_then (nat_cmp d.2 e.2) (slice_cmp nat_cmp xs ys)))

  rests-compare : (ds es : List Entry) → AreKnown ds → AreKnown es
      → slice_cmp (slice_cmp nat_cmp) (map (as_text place) ds) (map (as_text place) es) ≡ slice_cmp nat_cmp (flat_map numbers ds)
      (flat_map numbers es)
  rests-compare [] [] known known_ = refl
  rests-compare [] (e ∷ es) known known_ = refl
  rests-compare (d ∷ ds) [] known known_ = refl
  rests-compare (d ∷ ds) (e ∷ es) known known_ =
      ap (λ (o : Ordering). ordering_then o (slice_cmp (slice_cmp nat_cmp) (map (as_text place) ds) (map (as_text place) es)))
      (entry-compare d e known.0 known_.0)
      ∙ ap (ordering_then (entry_cmp d e)) (rests-compare ds es known.1 known_.1)
      ∙ sym (numbers-compare d e (flat_map numbers ds) (flat_map numbers es))

  keys-compare : (a b : ℕ) (ds es : List Entry) → AreKnown ds → AreKnown es
      → slice_cmp (slice_cmp nat_cmp) ((a ∷ []) ∷ map (as_text place) ds) ((b ∷ []) ∷ map (as_text place) es) ≡ slice_cmp nat_cmp
      (a ∷ flat_map numbers ds) (b ∷ flat_map numbers es)
  keys-compare a b ds es known known_ =
      ap (λ (o : Ordering). ordering_then o (slice_cmp (slice_cmp nat_cmp) (map (as_text place) ds) (map (as_text place) es)))
      (then-equal (nat_cmp a b))
      ∙ ap (ordering_then (nat_cmp a b)) (rests-compare ds es known known_)

  texts-rise : (es : List Entry) → AreKnown es → IsSorted entry_cmp es → AreTextsRising (map (as_text place) es)
  texts-rise [] known rises k d low high = absurd (omega (arith, high))
  texts-rise (first ∷ rest) known rises k d low high =
      let es : List Entry = first ∷ rest in
      let long : k + 1 < length es = omega (arith, high, length-map rest (as_text place)) in
      let at = λ (i : ℕ) (within : i < length es). get_or-map (as_text place) es i first d within in
      let known_at = λ (i : ℕ) (within : i < length es). Each-member (λ (e : Entry). IsKnown e.1) es (get_or es i first) known
      (Contains-get_or es i first within) in
      rw (at (k + 1) long, at k (omega (arith, long))) (ap is_lt
      (entry-compare (get_or es (k + 1) first) (get_or es k first) (known_at (k + 1) long) (known_at k (omega (arith, long))))
      ∙ rises k first low long)

  -- ---- keys

  -- a key of the definition, and a row that compares like it
  record IsRowOf (key : List (List ℕ)) (row : List ℕ) : Type 0 where
    rank : ℕ
    entries : List Entry
    known : AreKnown entries
    row_is : row ≡ rank ∷ flat_map numbers entries
    key_is : key ≡ (rank ∷ []) ∷ map (as_text place) entries

  rows-compare : (key other : List (List ℕ)) (row row_ : List ℕ) → IsRowOf key row → IsRowOf other row_
      → is_lt (slice_cmp (slice_cmp nat_cmp) key other) ≡ is_below row row_
  rows-compare key other row row_ r s =
      ap (λ (k : List (List ℕ)). is_lt (slice_cmp (slice_cmp nat_cmp) k other)) r.key_is
      ∙ ap (λ (k : List (List ℕ)). is_lt (slice_cmp (slice_cmp nat_cmp) ((r.rank ∷ []) ∷ map (as_text place) r.entries) k)) s.key_is
      ∙ ap is_lt (keys-compare r.rank s.rank r.entries s.entries r.known s.known)
      ∙ ap (λ (x : List ℕ). is_below x (s.rank ∷ flat_map numbers s.entries)) (sym r.row_is)
      ∙ ap (λ (x : List ℕ). is_below row x) (sym s.row_is)

-- ---- keys of nodes whose ranks differ

three : (i j : ℕ) → (i < j) ⊎ ((i ≡ j) ⊎ (j < i))
three i j = grind arith

apart : (a b : ℕ) (o : Ordering) → a ≢ b → ordering_then (nat_cmp a b) o ≡ nat_cmp a b
apart a b o differ = elim (three a b) [
  | inl low ↦ ap (λ (r : Ordering). ordering_then r o) (sym (nat_cmp_is a b Less low)) ∙ nat_cmp_is a b Less low
  | inr other ↦ elim other [
    | inl same ↦ absurd (differ same)
    | inr high ↦ ap (λ (r : Ordering). ordering_then r o) (sym (nat_cmp_is a b Greater high)) ∙ nat_cmp_is a b Greater high
  ]
]

keys-apart : (a b : ℕ) (xs ys : List (List ℕ)) → a ≢ b → slice_cmp (slice_cmp nat_cmp) ((a ∷ []) ∷ xs) ((b ∷ []) ∷ ys) ≡ nat_cmp a b
keys-apart a b xs ys differ =
    ap (λ (o : Ordering). ordering_then o (slice_cmp (slice_cmp nat_cmp) xs ys)) (then-equal (nat_cmp a b))
    ∙ apart a b (slice_cmp (slice_cmp nat_cmp) xs ys) differ

key-itself : (key : List (List ℕ)) → is_lt (slice_cmp (slice_cmp nat_cmp) key key) ≡ false
key-itself key = turned (slice_cmp (slice_cmp nat_cmp) key key) ((lists_total nat_list_cmp_total).antisymm key key)
  where
    turned : (r : Ordering) → r ≡ ordering_reverse r → is_lt r ≡ false
    turned Less h = absurd (true≢false (ap is_lt h))
    turned Equal h = refl
    turned Greater h = refl

module _ (g : Graph) (place : ℕ → List ℕ) (count : ℕ) (uses users : Adjacency) (stands : Represents g place count uses users)
    (c : Ranks) where
  abbrev IsRow : List (List ℕ) → List ℕ → Type 0
  IsRow = IsRowOf place (IsPlace uses users) stands.ordered

  -- the places of entries are places of the arrays
  known-entry : (side : ℕ) (us : List Use) → ((u : Use) → Contains us u → Contains (uses.uses.items ++ users.uses.items) u) → (e : Entry)
      → Contains (entries_at side c.fresh c.rank us) e → IsPlace uses users e.1
  known-entry side us all e among =
      let (u, at, is) = Contains-unmapped (as_entry side c.rank) (filter (λ (v : Use). c.fresh v.0) us) e among in
      (u, all u (Contains-unfiltered (λ (v : Use). c.fresh v.0) us u at), ap (λ (x : Entry). x.1) is)

  abbrev onto_at : ℕ → ℕ → List (List ℕ)
  onto_at n m = if c.fresh m then map (entry 0 (c.rank m)) (g.places n m) else []

  abbrev from_at : ℕ → ℕ → List (List ℕ)
  from_at n m = if c.fresh m then map (entry 1 (c.rank m)) (g.places m n) else []

  both-at : (n m : ℕ) → onto_at n m ++ from_at n m ≡ (if c.fresh m then entries g (c.rank m) n m else [])
  both-at n m = by_test (c.fresh m)
    where
      by_test : (b : Bool) → (if b then map (entry 0 (c.rank m)) (g.places n m) else [])
          ++ (if b then map (entry 1 (c.rank m)) (g.places m n) else []) ≡ (if b then entries g (c.rank m) n m else [])
      by_test true = refl
      by_test false = refl

  key-is_row : (n : ℕ) (row : List ℕ) → n < count → IsKey (c.rank n) c (uses_of uses n) (uses_of users n) row → IsRow (fresh_key g c n) row
  key-is_row n row low key =
      let onto : List Entry = entries_at 0 c.fresh c.rank (uses_of uses n) in
      let from : List Entry = entries_at 1 c.fresh c.rank (uses_of users n) in
      let text : Entry → List ℕ = as_text place in
      let onto_is = side-is place c.fresh c.rank 0 (uses_of uses n) (λ m. g.places n m) g.nodes (stands.onto n low) in
      let from_is = side-is place c.fresh c.rank 1 (uses_of users n) (λ m. g.places m n) g.nodes (stands.from n low) in
      let joined : Shuffled (map text onto ++ map text from) (flat_map (onto_at n) g.nodes ++ flat_map (from_at n) g.nodes) =
      Shuffled-joined (map text onto) (flat_map (onto_at n) g.nodes) (map text from) (flat_map (from_at n) g.nodes) onto_is from_is in
      let all : Shuffled (map text onto ++ map text from) (flat_map (λ m. onto_at n m ++ from_at n m) g.nodes) =
      Shuffled-transitive (map text onto ++ map text from) (flat_map (onto_at n) g.nodes ++ flat_map (from_at n) g.nodes)
      (flat_map (λ m. onto_at n m ++ from_at n m) g.nodes) joined (Shuffled-both (onto_at n) (from_at n) g.nodes) in
      let each : (e : Entry) → Contains (onto ++ from) e
      → IsPlace uses users e.1 = λ e among. elim (Contains-append_cases onto from e among) [
        | inl h ↦ known-entry 0 (uses_of uses n) (λ u at. Contains-append_left uses.uses.items users.uses.items u (used uses n u at)) e h
        | inr h ↦ known-entry 1 (uses_of users n) (λ u at. Contains-append_right uses.uses.items users.uses.items u (used users n u at)) e h
      ] in
      let known : Each (λ (e : Entry). IsPlace uses users e.1) key.entries =
      Each-of_members (λ (e : Entry). IsPlace uses users e.1) key.entries
      (λ e among. each e (Contains-permutation key.entries (onto ++ from) e
      (IsPermutation-sym (onto ++ from) key.entries key.entries_are) among)) in
      let texts : map text key.entries ≡ fresh_uses g c n =
      sym (sort-rising (map text key.entries) (texts-rise place (IsPlace uses users) stands.ordered key.entries known key.entries_rise))
      ∙ sort-permutation (map text (onto ++ from)) (map text key.entries)
      (IsPermutation-map text (onto ++ from) key.entries key.entries_are)
      ∙ ap sort_texts (map-append text onto from)
      ∙ sort-shuffled (map text onto ++ map text from) (flat_map (λ m. onto_at n m ++ from_at n m) g.nodes) all
      ∙ ap sort_texts (flat_map-same (λ m. onto_at n m ++ from_at n m) (λ m. if c.fresh m then entries g (c.rank m) n m else []) g.nodes
      (λ m among. both-at n m)) in
      record {
        rank = c.rank n;
        entries = key.entries;
        known = known;
        row_is = key.key_is;
        key_is =
            ap (λ (xs : List (List ℕ)). (c.rank n ∷ []) ∷ xs) (sym texts);
      }

  -- ---- rows of nodes that are told by their ranks alone

  -- a row that has the rank alone, which no other node has
  pub record IsAlone (n : ℕ) (row : List ℕ) : Type 0 where
    pub row_is : row ≡ c.rank n ∷ []
    pub alone : (m : ℕ) → m < count → c.rank m ≡ c.rank n → m ≡ n

  -- the row of the key, or one that has the rank alone
  abbrev pub IsOwn : ℕ → List ℕ → Type 0
  IsOwn n row = IsKey (c.rank n) c (uses_of uses n) (uses_of users n) row ⊎ IsAlone n row

  pub own-alone : (n : ℕ) → ((m : ℕ) → m < count → c.rank m ≡ c.rank n → m ≡ n) → IsOwn n (c.rank n ∷ [])
  own-alone n alone = inr (record { row_is = refl; alone = alone })

  own-begins : (n : ℕ) (row : List ℕ) → IsOwn n row → (xs : List ℕ) × (row ≡ c.rank n ∷ xs)
  own-begins n row own = elim own [ inl key ↦ (flat_map numbers key.entries, key.key_is) | inr alone ↦ ([], alone.row_is) ]

  -- ranks that differ tell keys and rows apart
  apart-compare : (m n : ℕ) (row row_ : List ℕ) → IsOwn m row → IsOwn n row_ → c.rank m ≢ c.rank n
      → is_lt (slice_cmp (slice_cmp nat_cmp) (fresh_key g c m) (fresh_key g c n)) ≡ is_below row row_
  apart-compare m n row row_ own own_ differ =
      let (xs, is) = own-begins m row own in
      let (ys, is_) = own-begins n row_ own_ in
      ap is_lt (keys-apart (c.rank m) (c.rank n) (fresh_uses g c m) (fresh_uses g c n) differ
      ∙ sym (apart (c.rank m) (c.rank n) (slice_cmp nat_cmp xs ys) differ))
      ∙ ap (λ (x : List ℕ). is_below x (c.rank n ∷ ys)) (sym is)
      ∙ ap (is_below row) (sym is_)

  -- one of them has its rank alone
  alone-compare : (m n : ℕ) (row row_ : List ℕ) → IsOwn m row → IsOwn n row_ → (c.rank m ≡ c.rank n → m ≡ n) → (m ≡ n → row ≡ row_)
      → is_lt (slice_cmp (slice_cmp nat_cmp) (fresh_key g c m) (fresh_key g c n)) ≡ is_below row row_
  alone-compare m n row row_ own own_ alone same = by_test (nat_eq (c.rank m) (c.rank n)) refl
    where
      by_test : (b : Bool) → nat_eq (c.rank m) (c.rank n) ≡ b
          → is_lt (slice_cmp (slice_cmp nat_cmp) (fresh_key g c m) (fresh_key g c n)) ≡ is_below row row_
      by_test true e =
          let is : m ≡ n = alone (eqb-true (c.rank m) (c.rank n) e) in
          ap (λ k. is_lt (slice_cmp (slice_cmp nat_cmp) (fresh_key g c m) (fresh_key g c k))) (sym is)
          ∙ key-itself (fresh_key g c m)
          ∙ sym (ap (is_below row) (sym (same is)) ∙ below-itself row)
      by_test false e = apart-compare m n row row_ own own_ (λ h. true≢false (sym (eq-eqb (c.rank m) (c.rank n) h) ∙ e))

  own-compare : (m n : ℕ) (row row_ : List ℕ) → m < count → n < count → IsOwn m row → IsOwn n row_ → (m ≡ n → row ≡ row_)
      → is_lt (slice_cmp (slice_cmp nat_cmp) (fresh_key g c m) (fresh_key g c n)) ≡ is_below row row_
  own-compare m n row row_ low low_ (inl key) (inl key_) same =
      rows-compare place (IsPlace uses users) stands.ordered (fresh_key g c m) (fresh_key g c n) row row_ (key-is_row m row low key)
      (key-is_row n row_ low_ key_)
  own-compare m n row row_ low low_ (inl key) (inr alone) same =
      alone-compare m n row row_ (inl key) (inr alone) (λ e. alone.alone m low e) same
  own-compare m n row row_ low low_ (inr alone) own same =
      alone-compare m n row row_ (inr alone) own (λ e. sym (alone.alone n low_ (sym e))) same

  pub ranks-told : (at : ℕ → List ℕ) → ((n : ℕ) → n < count → IsOwn n (at n))
      → (n : ℕ) → n < count → how_many (λ m. is_below (at m) (at n)) (range_with_len 0 count) ≡ rank_by (fresh_key g c) g.nodes n
  ranks-told at own n low =
      count-agree (λ m. is_below (at m) (at n)) (λ m. is_lt (slice_cmp (slice_cmp nat_cmp) (fresh_key g c m) (fresh_key g c n)))
      (range_with_len 0 count)
      (λ m among. let within = range-below count m among in
      sym (own-compare m n (at m) (at n) within low (own m within) (own n low) (λ same. ap at same)))
      ∙ ap (how_many (λ m. is_lt (slice_cmp (slice_cmp nat_cmp) (fresh_key g c m) (fresh_key g c n)))) (sym stands.nodes)
