-- Values that spread do so in files that are the same but for names.
use Rattle.std.specs.Prelude.{◌≡◌, ◌⊎◌, ℕ, List, [], ◌∷◌, map, Contains, refl}
use Rattle.std.specs.List.{flat_map, AllZip, AllByRecursion as Each}
use Rattle.std.proofs.Common.{ap, sym, subst, ◌∙◌, inl, inr}
use Rattle.std.proofs.lemmas.List.Elements.{Contains-append_left, Contains-append_right}
use Rattle.p21_spec_basics.proofs.Members.{Contains-first, Contains-mapped, Contains-unmapped}
use Rattle.p21_spec_file.specs.File.{FileMeaning}
use Rattle.p21_spec_file.specs.Meaning.{Typed}
use Rattle.p21_spec_file.specs.SameFile.{SameFileMeaning, SameTyped}
use Rattle.p21_spec_file.specs.SameValue.{Same, same_wholes, same_reals, same_numbers, same_texts, same_bits, same_items, same_references, both_derived, both_missing, same_lists, same_arrays, same_sets, same_bags, same_typed, SameInOrder, both_end, both_next, Among, here, there, EachAmong, none_left, each_next, SamePaired, both_empty, paired, Without, without_first, without_later}
use Rattle.p21_spec_file.specs.Value.{Value, whole, real, number, text, bits, item, reference, derived, missing, list, array, set, bag, typed, Values, no_values, value}
use Rattle.p21_spec_file.proofs.SameFiles.{SameTyped-symmetric}
use Rattle.p21_spec_numbering.proofs.CopiesMoved.{shares-was, shares-is, as_many-moved, decided-moved}
use Rattle.p21_spec_numbering.proofs.CopiesRules.{spread-is_kept}
use Rattle.p21_spec_numbering.proofs.Renaming.{Among-renamed, old-name}
use Rattle.p21_spec_numbering.proofs.Settled.{among-same}
use Rattle.p21_spec_numbering.proofs.Targets.{one-typed}
use Rattle.p21_spec_numbering.specs.Copies.{Shares, many, RefersTo, NoChoiceCounts, IsOfWholeRank, Spreads, AllSpread, SpreadAmong}
use Rattle.p21_spec_numbering.specs.Laws.{IsProper, NoChoiceOfDecidedCounts, SameAreDecidedAlike}
use Rattle.p21_spec_numbering.specs.Ordered.{Ranking}
use Rattle.p21_spec_numbering.specs.Renamed.{renamed_value, renamed_values, renamed_typed, renamed_instance, renamed, names, IsInjectiveOn, targets, targets_in}

-- ---- with other names

module _ (ranking : Ranking) (f : ℕ → ℕ) (a b : FileMeaning) (proper : IsProper a) (proper_ : IsProper b) (injective : IsInjectiveOn (names a) f) (same : SameFileMeaning (renamed f a) b) (agree : (n : ℕ) → Contains (names a) n → ranking b (f n) ≡ ranking a n) where
  abbrev AreNames : List ℕ → Type 0
  AreNames ts = (t : ℕ) → Contains ts t → Contains (names a) t

  whole-moved : (all : Values) (v : Value) → AreNames (targets v) → IsOfWholeRank ranking a all v
      → IsOfWholeRank ranking b (renamed_values f all) (renamed_value f v)
  whole-moved all v are (t, is_t, each) = (f t, ap (renamed_value f) is_t, all_of)
    where
      all_of : (u : ℕ) → Contains (names b) u → ranking b u ≡ ranking b (f t) → Among (reference u) (renamed_values f all)
      all_of u among one =
          let P : Value → Type 0 = λ w. AreNames (targets w) in
          let Q : ℕ → Type 0 = λ k. Among (reference k) (renamed_values f all) in
          let among_t : Contains (names a) t = subst P is_t are t (Contains-first t []) in
          let (k, at, is_u) = old-name f a b same u among in
          subst Q is_u (Among-renamed f (reference k) all (each k at (sym (agree k at) ∙ ap (ranking b) is_u ∙ one ∙ agree t among_t)))

  mutual
    value-moved : (v : Value) → AreNames (targets v) → Spreads ranking a v → Spreads ranking b (renamed_value f v)
    value-moved (whole z) are spreads = tt
    value-moved (real d) are spreads = tt
    value-moved (number d) are spreads = tt
    value-moved (text chars) are spreads = tt
    value-moved (bits bs) are spreads = tt
    value-moved (item word) are spreads = tt
    value-moved (reference n) are spreads =
        λ shares. spreads (shares-was ranking f a b proper proper_ injective same agree n (are n (Contains-first n [])) shares)
    value-moved derived are spreads = tt
    value-moved missing are spreads = tt
    value-moved (list vs) are spreads = values-moved vs are spreads
    value-moved (array vs) are spreads = values-moved vs are spreads
    value-moved (set vs) are spreads = among-moved vs vs are spreads
    value-moved (bag vs) are spreads = values-moved vs are spreads
    value-moved (typed t v) are spreads = value-moved v are spreads

    values-moved : (vs : Values) → AreNames (targets_in vs) → AllSpread ranking a vs → AllSpread ranking b (renamed_values f vs)
    values-moved no_values are spread = tt
    values-moved (value v vs) are spread = (value-moved v (λ t at. are t (Contains-append_left (targets v) (targets_in vs) t at)) spread.0, values-moved vs (λ t at. are t (Contains-append_right (targets v) (targets_in vs) t at)) spread.1)

    among-moved : (all vs : Values) → AreNames (targets_in vs) → SpreadAmong ranking a all vs
        → SpreadAmong ranking b (renamed_values f all) (renamed_values f vs)
    among-moved all no_values are spread = tt
    among-moved all (value v vs) are spread = (
      elim spread.0 [
        | inl h ↦ inl (value-moved v (λ t at. are t (Contains-append_left (targets v) (targets_in vs) t at)) h)
        | inr h ↦ inr (whole-moved all v (λ t at. are t (Contains-append_left (targets v) (targets_in vs) t at)) h)
      ],
      among-moved all vs (λ t at. are t (Contains-append_right (targets v) (targets_in vs) t at)) spread.1,
    )

  rows-moved : (rows : List Values) → AreNames (flat_map targets_in rows) → Each (AllSpread ranking a) rows
      → Each (AllSpread ranking b) (map (renamed_values f) rows)
  rows-moved [] are spread = tt
  rows-moved (vs ∷ rows) are spread =
      (values-moved vs (λ t at. are t (Contains-append_left (targets_in vs) (flat_map targets_in rows) t at)) spread.0, rows-moved rows (λ t at. are t (Contains-append_right (targets_in vs) (flat_map targets_in rows) t at)) spread.1)

-- ---- of values that are the same

same-reference : (v : Value) (t : ℕ) → Same v (reference t) → v ≡ reference t
same-reference v t (same_references _) = refl

through : (ws vs : Values) → EachAmong ws vs → (x : Value) → Among x ws → Among x vs
through ws vs (none_left _) x among = elim among [ ]
through ws vs (each_next w more _ among_ each) x (here _ _ _ same) = among-same x w vs same among_
through ws vs (each_next w more _ among_ each) x (there _ _ _ among) = through more vs each x among

module _ (ranking : Ranking) (m : FileMeaning) where
  whole-same : (all others : Values) (v w : Value) → Same v w → ((x : Value) → Among x all → Among x others)
      → IsOfWholeRank ranking m all w → IsOfWholeRank ranking m others v
  whole-same all others v w same to (t, is_t, each) =
      let P : Value → Type 0 = λ z. Same v z in
      (t, same-reference v t (subst P is_t same), λ u among one. to (reference u) (each u among one))

  mutual
    Same-spread : (v w : Value) → Same v w → Spreads ranking m w → Spreads ranking m v
    Same-spread v w (same_wholes a) spreads = tt
    Same-spread v w (same_reals a b ratio) spreads = tt
    Same-spread v w (same_numbers a b ratio) spreads = tt
    Same-spread v w (same_texts a) spreads = tt
    Same-spread v w (same_bits a) spreads = tt
    Same-spread v w (same_items a) spreads = tt
    Same-spread v w (same_references a) spreads = spreads
    Same-spread v w both_derived spreads = tt
    Same-spread v w both_missing spreads = tt
    Same-spread v w (same_lists vs ws same) spreads = InOrder-spread vs ws same spreads
    Same-spread v w (same_arrays vs ws same) spreads = InOrder-spread vs ws same spreads
    Same-spread v w (same_sets vs ws onto back) spreads = EachAmong-spread ws vs vs ws onto (through ws vs back) spreads
    Same-spread v w (same_bags vs ws same) spreads = Paired-spread vs ws same spreads
    Same-spread v w (same_typed t x y same) spreads = Same-spread x y same spreads

    InOrder-spread : (vs ws : Values) → SameInOrder vs ws → AllSpread ranking m ws → AllSpread ranking m vs
    InOrder-spread vs ws both_end spread = tt
    InOrder-spread vs ws (both_next x y xs ys same more) spread = (Same-spread x y same spread.0, InOrder-spread xs ys more spread.1)

    EachAmong-spread : (all others vs ws : Values) → EachAmong vs ws → ((x : Value) → Among x all → Among x others)
        → SpreadAmong ranking m all ws → SpreadAmong ranking m others vs
    EachAmong-spread all others vs ws (none_left _) to spread = tt
    EachAmong-spread all others vs ws (each_next v more _ among each) to spread =
        (Among-spread all others v ws among to spread, EachAmong-spread all others more ws each to spread)

    Among-spread : (all others : Values) (v : Value) (ws : Values) → Among v ws → ((x : Value) → Among x all → Among x others)
        → SpreadAmong ranking m all ws → Spreads ranking m v ⊎ IsOfWholeRank ranking m others v
    Among-spread all others v ws (here _ w more same) to spread = elim spread.0 [
      | inl h ↦ inl (Same-spread v w same h)
      | inr h ↦ inr (whole-same all others v w same to h)
    ]
    Among-spread all others v ws (there _ w more among) to spread = Among-spread all others v more among to spread.1

    Paired-spread : (vs ws : Values) → SamePaired vs ws → AllSpread ranking m ws → AllSpread ranking m vs
    Paired-spread vs ws both_empty spread = tt
    Paired-spread vs ws (paired v more _ rest without pairs) spread =
        (Without-spread v ws rest without spread, Paired-spread more rest pairs (Without-rest v ws rest without spread))

    Without-spread : (v : Value) (ws rest : Values) → Without v ws rest → AllSpread ranking m ws → Spreads ranking m v
    Without-spread v ws rest (without_first _ w more same) spread = Same-spread v w same spread.0
    Without-spread v ws rest (without_later _ w more rest_ without) spread = Without-spread v more rest_ without spread.1

    Without-rest : (v : Value) (ws rest : Values) → Without v ws rest → AllSpread ranking m ws → AllSpread ranking m rest
    Without-rest v ws rest (without_first _ w more same) spread = spread.1
    Without-rest v ws rest (without_later _ w more rest_ without) spread = (spread.0, Without-rest v more rest_ without spread.1)

  rows-same : (xs ys : List Values) → AllZip SameInOrder xs ys → Each (AllSpread ranking m) ys → Each (AllSpread ranking m) xs
  rows-same [] [] all spread = tt
  rows-same [] (y ∷ ys) all spread = absurd all
  rows-same (x ∷ xs) [] all spread = absurd all
  rows-same (x ∷ xs) (y ∷ ys) all spread = (InOrder-spread x y all.0 spread.0, rows-same xs ys all.1 spread.1)

-- ---- the laws

pub decided-no_choice : NoChoiceOfDecidedCounts
decided-no_choice ranking m proper plain = record {
  alike = plain.alike;
  one_section = plain.one_section;
  kept = λ n x at alone f is. spread-is_kept ranking m proper n x at (plain.spread n x at alone) f is;
  order = plain.order;
  aligned = plain.aligned;
}

pub decided-alike : SameAreDecidedAlike
decided-alike ranking invariant a b proper proper_ (f, injective, same) plain =
    record { alike = other.alike; one_section = other.one_section; spread = spread; as_many = as_many; order = other.order; aligned = other.aligned }
  where
    agree : (n : ℕ) → Contains (names a) n → ranking b (f n) ≡ ranking a n
    agree = invariant f a b proper proper_ injective same

    other : NoChoiceCounts ranking b
    other = decided-moved ranking f a b proper proper_ injective same agree (decided-no_choice ranking a proper plain)

    as_many : (k u : ℕ) → RefersTo b k u → Shares ranking b k → Shares ranking b u → many ranking b k ≡ many ranking b u
    as_many = as_many-moved ranking f a b proper proper_ injective same agree plain.as_many

    spread : (k : ℕ) (y : Typed) → Contains b.instances (k, y) → ¬ Shares ranking b k → Each (AllSpread ranking b) y.values
    spread k y at alone =
        let (n, among, is_k) = old-name f a b same k (Contains-mapped (λ (i : ℕ × Typed). i.0) b.instances (k, y) at) in
        let P : ℕ → Type 0 = λ j. Shares ranking b j in
        let (x, own) = instance_at n among in
        let (z, found_, likeness) = same.onto (f n) (renamed_typed f x) (Contains-mapped (renamed_instance f) a.instances (n, x) own) in
        let Q : ℕ → Type 0 = λ j. Contains b.instances (j, z) in
        let R : Typed → Type 0 = λ w. SameTyped (renamed_typed f x) w in
        let like : SameTyped (renamed_typed f x) y = subst R (one-typed b proper_.0 k z y (subst Q is_k found_) at) likeness in
        let moved = rows-moved ranking f a b proper proper_ injective same agree x.values (λ t target. proper.0.closed n x own t target)
        (plain.spread n x own (λ shares. alone (subst P is_k (shares-is ranking f a b proper proper_ injective same agree n among shares)))) in
        rows-same ranking b y.values (map (renamed_values f) x.values) (SameTyped-symmetric (renamed_typed f x) y like).1 moved
      where
        instance_at : (n : ℕ) → Contains (names a) n → (x : Typed) × Contains a.instances (n, x)
        instance_at n among =
            let (i, at_, is_n) = Contains-unmapped (λ (i : ℕ × Typed). i.0) a.instances n among in
            let S : ℕ → Type 0 = λ j. Contains a.instances (j, i.1) in
            (i.1, subst S is_n at_)
