-- When instances by ranks have an order that counts copies in one sequence.
use Rattle.std.specs.Prelude.{◌≡◌, ◌≢◌, ◌<◌, ◌^◌, ℕ, zero, suc, List, [], ◌∷◌, map, length, Option, Some, None, slice_get, Contains, refl}
use Rattle.std.specs.List.{AllByRecursion as Each}
use Rattle.std.proofs.Common.{arith, ap, sym, subst, ◌∙◌, inl, inr, get_or}
use Rattle.std.proofs.lemmas.Bool.{cases_eq}
use Rattle.std.proofs.lemmas.List.Elements.{Contains-get_or}
use Rattle.p21_spec_basics.proofs.Members.{Contains-mapped, Contains-unmapped, Contains-at}
use Rattle.p21_spec_basics.proofs.Shuffles.{NoneTwice, Shuffled-none_twice, Shuffled-symmetric, Shuffled-members, one-keyed}
use Rattle.p21_spec_exchange.specs.DataSection.{Heading}
use Rattle.p21_spec_file.proofs.SameFiles.{SameTyped-reflexive}
use Rattle.p21_spec_file.specs.File.{FileMeaning, Reads}
use Rattle.p21_spec_file.specs.Meaning.{Typed}
use Rattle.p21_spec_file.specs.SameFile.{SameTyped}
use Rattle.p21_spec_schema.specs.Schema.{Schema}
use Rattle.p21_spec_schema.specs.WellFormed.{IsWellFormed}
use Rattle.p21_spec_numbering.proofs.CopiesOrders.{parts-give_orders}
use Rattle.p21_spec_numbering.proofs.CopiesParts.{alike-gives_parts}
use Rattle.p21_spec_numbering.proofs.CopiesRules.{one-hangs_together}
use Rattle.p21_spec_numbering.proofs.Decided.{decided-no_choice}
use Rattle.p21_spec_numbering.proofs.Moved.{names-none_twice}
use Rattle.p21_spec_numbering.proofs.Orders.{position-is}
use Rattle.p21_spec_numbering.proofs.Targets.{typed_targets, one-typed}
use Rattle.p21_spec_numbering.proofs.Theorems.{meanings-are_proper}
use Rattle.p21_spec_numbering.specs.Copies.{Shares, many, RefersTo, HangTogether, RisesByPart, AreParts, IsAligned, IsDecided, AllSpread}
use Rattle.p21_spec_numbering.specs.Copies as copies
use Rattle.p21_spec_numbering.specs.Laws.{IsProper}
use Rattle.p21_spec_numbering.specs.Ordered.{Ranking, IsOrder, position}
use Rattle.p21_spec_numbering.specs.Renamed.{names, renamed_typed, IsInjectiveOn}
use Rattle.p21_numbering.specs.Joining.{Connected, itself, by_pair, by_other, number_at}
use Rattle.p21_numbering.specs.Ranked.{AreRanked, IsLoose, Ranked, name_of, names_of, no_instance, ranked_at}
use Rattle.p21_numbering.specs.NodesOf.{row_of_texts}
use Rattle.p21_numbering.specs.Said.{said}
use Rattle.p21_numbering.proofs.SaidTexts.{IsMeant, meant-in, meant-renamed, rows-once, said-tells}

-- ---- positions

pub got : {X : Type 0} (xs : List X) (k : ℕ) (x d : X) → slice_get xs k ≡ Some x → (k < length xs) × (get_or xs k d ≡ x)
got [] k x d is = cc
got (y ∷ ys) zero x d is = let same : y ≡ x = cc in (omega arith, same)
got (y ∷ ys) (suc k) x d is = let (low, same) = got ys k x d is in (omega (arith, low), same)

get-mapped : {X Y : Type 0} (f : X → Y) (d : X) (xs : List X) (k : ℕ) → k < length xs → slice_get (map f xs) k ≡ Some (f (get_or xs k d))
get-mapped f d [] k low = absurd (omega (arith, low))
get-mapped f d (x ∷ xs) zero low = refl
get-mapped f d (x ∷ xs) (suc k) low = get-mapped f d xs k (omega (arith, low))

pub once-at : {X Y : Type 0} (f : X → Y) (d : X) (xs : List X) → NoneTwice (map f xs) → (j k : ℕ) → j < length xs → k < length xs
    → f (get_or xs j d) ≡ f (get_or xs k d) → j ≡ k
once-at f d [] none j k low low_ same = absurd (omega (arith, low))
once-at f d (x ∷ xs) none zero zero low low_ same = refl
once-at {Y = Y} f d (x ∷ xs) none zero (suc k) low low_ same =
    let P : Y → Type 0 = λ y. Contains (map f xs) y in
    absurd (none.0 (subst P (sym same) (Contains-mapped f xs (get_or xs k d) (Contains-get_or xs k d (omega (arith, low_))))))
once-at {Y = Y} f d (x ∷ xs) none (suc j) zero low low_ same =
    let P : Y → Type 0 = λ y. Contains (map f xs) y in
    absurd (none.0 (subst P same (Contains-mapped f xs (get_or xs j d) (Contains-get_or xs j d (omega (arith, low))))))
once-at f d (x ∷ xs) none (suc j) (suc k) low low_ same = ap suc (once-at f d xs none.1 j k (omega (arith, low)) (omega (arith, low_)) same)

-- the pairs of positions that hang together at once
pub record ArePairs (all : List Ranked) (pairs : List (ℕ × ℕ)) : Type 0 where
  pub sound : (p : ℕ × ℕ) → Contains pairs p → (p.0 < length all) × (p.1 < length all)
      × Contains (ranked_at all p.0).beside (name_of all p.1)
  pub complete : (j k : ℕ) → j < length all → k < length all → Contains (ranked_at all j).beside (name_of all k) → Contains pairs (j, k)

module _ (s : Schema) (formed : IsWellFormed s) (bytes : List ℕ) (m : FileMeaning) (reads : Reads s bytes m) (ranking : Ranking)
    (all : List Ranked) (are : AreRanked s ranking m all) where
  abbrev proper : IsProper m
  proper = meanings-are_proper s formed bytes m reads

  pub own : NoneTwice (names_of all)
  own = Shuffled-none_twice (names m) (names_of all) (Shuffled-symmetric (names_of all) (names m) are.names_are)
      (names-none_twice m proper.0)

  -- each name stands at a position
  pub record Stands (n : ℕ) : Type 0 where
    pub at : ℕ
    pub low : at < length all
    pub is : name_of all at ≡ n

  pub stands : (n : ℕ) → Contains (names m) n → Stands n
  stands n among =
      let (r, found, is) = Contains-unmapped (λ (r : Ranked). r.name) all n
      (Shuffled-members (names m) (names_of all) (Shuffled-symmetric (names_of all) (names m) are.names_are) n among) in
      let (k, at) = Contains-at all r found in
      let (low, same) = got all k r no_instance at in
      record { at = k; low = low; is = ap (λ (q : Ranked). q.name) same ∙ is }

  pub at-one : (j k : ℕ) → j < length all → k < length all → name_of all j ≡ name_of all k → j ≡ k
  at-one j k low low_ same = once-at (λ (r : Ranked). r.name) no_instance all own j k low low_ same

  pub member : (k : ℕ) → k < length all → Contains (names m) (name_of all k)
  member k low = let is = are.each k low in Contains-mapped (λ (i : ℕ × Typed). i.0) m.instances (name_of all k, is.typed) is.instance

  typed-at : (k : ℕ) (low : k < length all) (x : Typed) → Contains m.instances (name_of all k, x) → (are.each k low).typed ≡ x
  typed-at k low x at = one-typed m proper.0 (name_of all k) (are.each k low).typed x (are.each k low).instance at

  heading-at : (k : ℕ) (low : k < length all) (h : Heading) → Contains m.instance_sections (name_of all k, h) → (are.each k low).heading ≡ h
  heading-at k low h at =
      let P : List ℕ → Type 0 = λ ns. NoneTwice ns in
      ap (λ (i : ℕ × Heading). i.1) (one-keyed (λ (i : ℕ × Heading). i.0) m.instance_sections
      (subst P (sym proper.0.in_sections) (names-none_twice m proper.0)) (name_of all k, (are.each k low).heading) (name_of all k, h)
      (are.each k low).section at refl)

  shares-at : (j k : ℕ) → j < length all → k < length all → j ≢ k → ranking m (name_of all j) ≡ ranking m (name_of all k)
      → Shares ranking m (name_of all j)
  shares-at j k low low_ differ one = (name_of all k, member k low_, (λ same. differ (sym (at-one k j low_ low same))), sym one)

  target-small : (k : ℕ) (low : k < length all) (t : ℕ) → Contains (typed_targets (are.each k low).typed) t → ranking m t < 2 ^ 64
  target-small k low t among =
      let is = are.each k low in
      let there = stands t (proper.0.closed (name_of all k) is.typed is.instance t among) in
      let small = are.small there.at there.low in
      let same : ranking m t ≡ (ranked_at all there.at).rank = ap (ranking m) (sym there.is) ∙ sym (are.each there.at there.low).rank_is in
      omega (arith, small, same)

  -- what hangs together and has one rank is one
  abbrev OneOfEach : Type 0
  OneOfEach = (j k : ℕ) → Contains (names m) j → Contains (names m) k → HangTogether ranking m j k → ranking m j ≡ ranking m k → j ≡ k

  targets-once : OneOfEach → (k : ℕ) (low : k < length all) → Shares ranking m (name_of all k)
      → IsInjectiveOn (typed_targets (are.each k low).typed) (ranking m)
  targets-once once k low shares t u among among_ one =
      let is = are.each k low in
      let n : ℕ = name_of all k in
      let at_t : Contains (names m) t = proper.0.closed n is.typed is.instance t among in
      let at_u : Contains (names m) u = proper.0.closed n is.typed is.instance u among_ in
      elim (cases_eq t u) [
        | inl same ↦ same
        | inr other ↦
            let shares_t : Shares ranking m t = (u, at_u, (λ same. other (sym same)), sym one) in
            let shares_u : Shares ranking m u = (t, at_t, other, one) in
            once t u at_t at_u (copies.by_user t n u (is.typed, is.instance, among) shares shares_t
            (copies.by_use n u u (is.typed, is.instance, among_) shares shares_u (copies.at_once u))) one
      ]

  -- so the texts tell what two say by ranks
  texts-tell : OneOfEach → (j k : ℕ) (low : j < length all) (low_ : k < length all) → Shares ranking m (name_of all j)
      → Shares ranking m (name_of all k)
      → (SameTyped (renamed_typed (ranking m) (are.each j low).typed) (renamed_typed (ranking m) (are.each k low_).typed)
      × ((are.each j low).heading ≡ (are.each k low_).heading)
      → (ranked_at all j).said ≡ (ranked_at all k).said)
      × ((ranked_at all j).said ≡ (ranked_at all k).said
      → SameTyped (renamed_typed (ranking m) (are.each j low).typed) (renamed_typed (ranking m) (are.each k low_).typed)
      × ((are.each j low).heading ≡ (are.each k low_).heading))
  texts-tell once j k low low_ shares shares_ =
      let is = are.each j low in
      let is_ = are.each k low_ in
      let X : Typed = renamed_typed (ranking m) is.typed in
      let Y : Typed = renamed_typed (ranking m) is_.typed in
      let meant : IsMeant s X = meant-renamed s is.typed (ranking m) (meant-in s bytes m reads (name_of all j) is.typed is.instance)
      (targets-once once j low shares) (target-small j low) in
      let meant_ : IsMeant s Y = meant-renamed s is_.typed (ranking m) (meant-in s bytes m reads (name_of all k) is_.typed is_.instance)
      (targets-once once k low_ shares_) (target-small k low_) in
      let law = said-tells s formed X Y meant meant_ is.heading is_.heading in (
        λ same. is.said_is shares ∙ ap row_of_texts (law.0 same) ∙ sym (is_.said_is shares_),
        λ same. law.1 (rows-once (said s is.heading X) (said s is_.heading Y) (sym (is.said_is shares) ∙ same ∙ is_.said_is shares_)),
      )

  -- ---- what isn't decided

  decided-once : IsDecided ranking m → OneOfEach
  decided-once decided j k among among_ hang one = one-hangs_together ranking m (decided-no_choice ranking m proper decided) j k among
      among_ hang one

  pub not-said_alike : (j k : ℕ) → j < length all → k < length all → j ≢ k → (ranked_at all j).rank ≡ (ranked_at all k).rank
      → (ranked_at all j).said ≢ (ranked_at all k).said → ¬ IsDecided ranking m
  not-said_alike j k low low_ differ one other decided =
      let is = are.each j low in
      let is_ = are.each k low_ in
      let ranks : ranking m (name_of all j) ≡ ranking m (name_of all k) = sym is.rank_is ∙ one ∙ is_.rank_is in
      other ((texts-tell (decided-once decided) j k low low_ (shares-at j k low low_ differ ranks)
      (shares-at k j low_ low (λ same. differ (sym same)) (sym ranks))).0 (
        decided.alike (name_of all j) (name_of all k) is.typed is_.typed is.instance is_.instance ranks,
        decided.one_section (name_of all j)
            (name_of all k) is.heading is_.heading is.section is_.section ranks,
      ))

  module _ (pairs : List (ℕ × ℕ)) (are_pairs : ArePairs all pairs) (parts : List ℕ)
      (joined : (p : ℕ × ℕ) → Contains pairs p → number_at parts p.0 ≡ number_at parts p.1) where
    hang : (j k : ℕ) → Connected pairs j k → HangTogether ranking m (name_of all j) (name_of all k)
    hang j k (itself _) = copies.at_once (name_of all j)
    hang j k (by_pair _ t _ among more) =
        let (low, low_, beside) = are_pairs.sound (j, t) among in
        let is = are.each j low in
        let (target, shares, shares_t) = (is.beside_are (name_of all t)).0 beside in
        copies.by_use (name_of all j) (name_of all t) (name_of all k) (is.typed, is.instance, target) shares shares_t (hang t k more)
    hang j k (by_other n _ _ among more) =
        let (low, low_, beside) = are_pairs.sound (n, j) among in
        let is = are.each n low in
        let (target, shares, shares_t) = (is.beside_are (name_of all j)).0 beside in
        copies.by_user (name_of all j) (name_of all n) (name_of all k) (is.typed, is.instance, target) shares shares_t (hang n k more)

    pub not-in_one_part : (connected : (j k : ℕ) → j < length all → k < length all → number_at parts j ≡ number_at parts k
        → Connected pairs j k)
        → (j k : ℕ) → j < length all → k < length all → j ≢ k → (ranked_at all j).rank ≡ (ranked_at all k).rank
        → number_at parts j ≡ number_at parts k → ¬ IsDecided ranking m
    not-in_one_part connected j k low low_ differ one part_ decided =
        let ranks : ranking m (name_of all j) ≡ ranking m (name_of all k) = sym (are.each j low).rank_is ∙ one
        ∙ (are.each k low_).rank_is in
        differ (at-one j k low low_ (decided-once decided (name_of all j) (name_of all k) (member j low) (member k low_)
        (hang j k (connected j k low low_ part_)) ranks))

    -- ---- what is decided

    abbrev pub part : ℕ → ℕ
    part n = number_at parts (position (names_of all) n)

    pub part-at : (k : ℕ) → k < length all → part (name_of all k) ≡ number_at parts k
    part-at k low = ap (number_at parts) (position-is (names_of all) own k (name_of all k)
        (get-mapped (λ (r : Ranked). r.name) no_instance all k low))

    hangs : (n t : ℕ) → RefersTo m n t → Shares ranking m n → Shares ranking m t → part n ≡ part t
    hangs n t (x, at, target) shares shares_t =
        let here = stands n (Contains-mapped (λ (i : ℕ × Typed). i.0) m.instances (n, x) at) in
        let there = stands t (proper.0.closed n x at t target) in
        let P : ℕ → Type 0 = λ j. Contains m.instances (j, x) in
        let Q : Typed → Type 0 = λ y. Contains (typed_targets y) t in
        let R : ℕ → Type 0 = λ j. Shares ranking m j in
        let same : (are.each here.at here.low).typed ≡ x = typed-at here.at here.low x (subst P (sym here.is) at) in
        let beside : Contains (ranked_at all here.at).beside t =
        ((are.each here.at here.low).beside_are t).1 (subst Q (sym same) target, subst R (sym here.is) shares, shares_t) in
        let S : ℕ → Type 0 = λ j. Contains (ranked_at all here.at).beside j in
        ap part (sym here.is) ∙ part-at here.at here.low ∙ joined (here.at, there.at)
        (are_pairs.complete here.at there.at here.low there.low (subst S (sym there.is) beside)) ∙ sym (part-at there.at there.low)
        ∙ ap part there.is

    hang-part : (j k : ℕ) → HangTogether ranking m j k → part j ≡ part k
    hang-part j k (copies.at_once _) = refl
    hang-part j k (copies.by_use _ t _ refers shares shares_t more) = hangs j t refers shares shares_t ∙ hang-part t k more
    hang-part j k (copies.by_user _ n _ refers shares shares_t more) = sym (hangs n j refers shares shares_t) ∙ hang-part n k more

    pub decided-so : ((k : ℕ) → k < length all → (ranked_at all k).loose ≡ None)
        → ((j k : ℕ) → j < length all → k < length all → j ≢ k → (ranked_at all j).rank ≡ (ranked_at all k).rank
        → (number_at parts j ≢ number_at parts k) × ((ranked_at all j).said ≡ (ranked_at all k).said))
        → (order : List ℕ) → IsOrder ranking m order → RisesByPart (ranking m) part order → IsDecided ranking m × IsAligned ranking m order
    decided-so none told order is rises = (
      record {
        alike = alike;
        one_section = one_section;
        spread = spread;
        as_many = as_many;
        order =
            order;
        aligned = aligned;
      },
      aligned,
    )
      where
        one_of_each : (j k : ℕ) → Contains (names m) j → Contains (names m) k → ranking m j ≡ ranking m k → part j ≡ part k → j ≡ k
        one_of_each j k among among_ one same =
            let here = stands j among in
            let there = stands k among_ in
            elim (cases_eq here.at there.at) [
              | inl equal ↦ sym here.is ∙ ap (name_of all) equal ∙ there.is
              | inr differ ↦
                  let ranks : (ranked_at all here.at).rank ≡ (ranked_at all there.at).rank = (are.each here.at here.low).rank_is
                  ∙ ap (ranking m) here.is ∙ one ∙ ap (ranking m) (sym there.is) ∙ sym (are.each there.at there.low).rank_is in
                  absurd ((told here.at there.at here.low there.low differ ranks).0
                  (sym (part-at here.at here.low) ∙ ap part here.is ∙ same ∙ ap part (sym there.is) ∙ part-at there.at there.low))
            ]

        once : OneOfEach
        once j k among among_ hang_ one = one_of_each j k among among_ one (hang-part j k hang_)

        both : (a b : ℕ) (low : a < length all) (low_ : b < length all) → ranking m (name_of all a) ≡ ranking m (name_of all b)
            → SameTyped (renamed_typed (ranking m) (are.each a low).typed) (renamed_typed (ranking m) (are.each b low_).typed)
            × ((are.each a low).heading ≡ (are.each b low_).heading)
        both a b low low_ one = elim (cases_eq a b) [
          | inl equal ↦
              let N : ℕ → Type 0 = λ j. Contains m.instances (j, (are.each a low).typed) in
              let H : ℕ → Type 0 = λ j. Contains m.instance_sections (j, (are.each a low).heading) in
              let typed_ : (are.each b low_).typed ≡ (are.each a low).typed =
              typed-at b low_ (are.each a low).typed (subst N (ap (name_of all) equal) (are.each a low).instance) in
              let heading_ : (are.each b low_).heading ≡ (are.each a low).heading =
              heading-at b low_ (are.each a low).heading (subst H (ap (name_of all) equal) (are.each a low).section) in
              let P : Typed → Type 0 = λ y. SameTyped (renamed_typed (ranking m) (are.each a low).typed) (renamed_typed (ranking m) y) in
              (subst P (sym typed_) (SameTyped-reflexive (renamed_typed (ranking m) (are.each a low).typed)), sym heading_)
          | inr differ ↦
              (texts-tell once a b low low_ (shares-at a b low low_ differ one)
              (shares-at b a low_ low (λ same. differ (sym same)) (sym one))).1
              (told a b low low_ differ ((are.each a low).rank_is ∙ one ∙ sym (are.each b low_).rank_is)).1
        ]

        alike : (j k : ℕ) (x y : Typed) → Contains m.instances (j, x) → Contains m.instances (k, y) → ranking m j ≡ ranking m k
            → SameTyped (renamed_typed (ranking m) x) (renamed_typed (ranking m) y)
        alike j k x y at at_ one =
            let here = stands j (Contains-mapped (λ (i : ℕ × Typed). i.0) m.instances (j, x) at) in
            let there = stands k (Contains-mapped (λ (i : ℕ × Typed). i.0) m.instances (k, y) at_) in
            let N : ℕ → Type 0 = λ i. Contains m.instances (i, x) in
            let M : ℕ → Type 0 = λ i. Contains m.instances (i, y) in
            let first = typed-at here.at here.low x (subst N (sym here.is) at) in
            let second = typed-at there.at there.low y (subst M (sym there.is) at_) in
            let P : Typed → Type 0 = λ z. SameTyped (renamed_typed (ranking m) z) (renamed_typed (ranking m) y) in
            let Q : Typed → Type 0 = λ z. SameTyped (renamed_typed (ranking m) (are.each here.at here.low).typed)
            (renamed_typed (ranking m) z) in
            subst P first (subst Q second (both here.at there.at here.low there.low
            (ap (ranking m) here.is ∙ one ∙ ap (ranking m) (sym there.is))).0)

        in_names : (n : ℕ) (h : Heading) → Contains m.instance_sections (n, h) → Contains (names m) n
        in_names n h at = let P : List ℕ → Type 0 = λ ns. Contains ns n in
            subst P proper.0.in_sections (Contains-mapped (λ (i : ℕ × Heading). i.0) m.instance_sections (n, h) at)

        one_section : (j k : ℕ) (g h : Heading) → Contains m.instance_sections (j, g) → Contains m.instance_sections (k, h)
            → ranking m j ≡ ranking m k → g ≡ h
        one_section j k g h at at_ one =
            let here = stands j (in_names j g at) in
            let there = stands k (in_names k h at_) in
            let N : ℕ → Type 0 = λ i. Contains m.instance_sections (i, g) in
            let M : ℕ → Type 0 = λ i. Contains m.instance_sections (i, h) in
            sym (heading-at here.at here.low g (subst N (sym here.is) at))
            ∙ (both here.at there.at here.low there.low (ap (ranking m) here.is ∙ one ∙ ap (ranking m) (sym there.is))).1
            ∙ heading-at there.at there.low h (subst M (sym there.is) at_)

        settled : (k : ℕ) (low : k < length all) → IsLoose ranking m (name_of all k) (are.each k low).typed None
        settled k low = let P : Option (ℕ × ℕ) → Type 0 = λ o. IsLoose ranking m (name_of all k) (are.each k low).typed o in
            subst P (none k low) (are.each k low).loose_is

        spread : (n : ℕ) (x : Typed) → Contains m.instances (n, x) → ¬ Shares ranking m n → Each (AllSpread ranking m) x.values
        spread n x at alone =
            let here = stands n (Contains-mapped (λ (i : ℕ × Typed). i.0) m.instances (n, x) at) in
            let N : ℕ → Type 0 = λ i. Contains m.instances (i, x) in
            let P : ℕ → Type 0 = λ i. Shares ranking m i in
            let Q : Typed → Type 0 = λ y. Each (AllSpread ranking m) y.values in
            subst Q (typed-at here.at here.low x (subst N (sym here.is) at))
            ((settled here.at here.low).1 (λ shares. alone (subst P here.is shares)))

        as_many : (n t : ℕ) → RefersTo m n t → Shares ranking m n → Shares ranking m t → many ranking m n ≡ many ranking m t
        as_many n t (x, at, target) shares shares_t =
            let here = stands n (Contains-mapped (λ (i : ℕ × Typed). i.0) m.instances (n, x) at) in
            let N : ℕ → Type 0 = λ i. Contains m.instances (i, x) in
            let P : ℕ → Type 0 = λ i. Shares ranking m i in
            let Q : Typed → Type 0 = λ y. Contains (typed_targets y) t in
            ap (many ranking m) (sym here.is) ∙ (settled here.at here.low).0 (subst P (sym here.is) shares) t
            (subst Q (sym (typed-at here.at here.low x (subst N (sym here.is) at))) target) shares_t

        are_parts : AreParts ranking m part
        are_parts = alike-gives_parts ranking m proper alike part one_of_each hangs as_many

        aligned : IsAligned ranking m order
        aligned = parts-give_orders ranking m proper part are_parts order is rises
