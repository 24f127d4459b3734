-- An instance by the standings of its file is the one by its rank.
use Rattle.std.specs.Prelude.{◌≡◌, ◌↔◌, ℕ, Bool, true, false, List, Option, Some, None, map, Contains, refl}
use Rattle.std.specs.List.{AllByRecursion as Each}
use Rattle.std.proofs.Common.{ap, sym, subst, ◌∙◌}
use Rattle.p21_spec_basics.proofs.Members.{Contains-none, Contains-filter, Contains-mapped, Contains-unfiltered, Contains-unmapped}
use Rattle.p21_spec_file.specs.File.{FileMeaning}
use Rattle.p21_spec_file.specs.Meaning.{Typed}
use Rattle.p21_spec_file.specs.Value.{Values}
use Rattle.p21_spec_numbering.proofs.CopiesMoved.{typed-twice}
use Rattle.p21_spec_numbering.proofs.Moved.{rows_uses-target}
use Rattle.p21_spec_numbering.proofs.Renaming.{rows-kept}
use Rattle.p21_spec_numbering.proofs.Targets.{rows-use, typed_targets}
use Rattle.p21_spec_numbering.proofs.Uses.{passes}
use Rattle.p21_spec_numbering.specs.Copies.{Shares, IsDecided, AllSpread}
use Rattle.p21_spec_numbering.specs.Laws.{IsProper}
use Rattle.p21_spec_numbering.specs.Ordered.{Ranking}
use Rattle.p21_spec_numbering.specs.Renamed.{names, renamed_typed}
use Rattle.p21_spec_numbering.specs.Uses.{Use, typed_uses}
use Rattle.p21_spec_schema.specs.Schema.{Schema}
use Rattle.p21_numbering.specs.Instances.{Instance, IsInstanceOf}
use Rattle.p21_numbering.specs.NodesOf.{row_of_texts}
use Rattle.p21_numbering.specs.Ranked.{IsLoose, IsRanked, Ranked}
use Rattle.p21_numbering.specs.RankedBy.{FindsUneven, IsAlone, IsRankedBy, IsSharing, shared_targets, with_rank}
use Rattle.p21_numbering.specs.Said.{said, said_in}
use Rattle.p21_numbering.specs.Standing.{IsStanding, Standing, is_shared, loose_rows, many}
use Rattle.p21_numbering.proofs.LooseNames.{Tells, is-shared, not-shared, rows-tell, shared-is}

abbrev with_values : List ℕ → List Values → Typed
with_values es rows = record { entities = es; values = rows }

module _ (s : Schema) (ranking : Ranking) (m : FileMeaning) (proper : IsProper m) (st : Standing) (are : IsStanding ranking m st)
    (i : Instance) (stands : IsInstanceOf m i) where
  abbrev x : Typed
  x = i.typed

  named : Contains (names m) i.name
  named = Contains-mapped (λ (e : ℕ × Typed). e.0) m.instances (i.name, x) stands.instance

  closed : (t : ℕ) → Contains (typed_targets x) t → Contains (names m) t
  closed t among = proper.0.closed i.name x stands.instance t among

  -- with the ranks of the file for names
  by-rank : renamed_typed st.rank x ≡ renamed_typed (ranking m) x
  by-rank =
      let kept : renamed_typed (λ n. n) x ≡ x = ap (with_values x.entities) (rows-kept x.values) in
      ap (renamed_typed st.rank) (sym kept) ∙ typed-twice (λ n. n) st.rank (ranking m) x (λ t among. are.rank t (closed t among))

  -- a reference that shares its rank
  target-shared : (t : ℕ) → Contains (shared_targets st i) t → Contains (typed_targets x) t × Shares ranking m t
  target-shared t among =
      let (u, at, is) = Contains-unmapped (λ (v : Use). v.1) (typed_uses x) t
      (Contains-unfiltered (is_shared st) (map (λ (v : Use). v.1) (typed_uses x)) t among) in
      let P : ℕ → Type 0 = λ n. Contains (typed_targets x) n in
      let target : Contains (typed_targets x) t = subst P is (rows_uses-target 0 x.values u at) in (
        target,
        shared-is ranking m proper st are t (closed t target)
            (passes (is_shared st) (map (λ (v : Use). v.1) (typed_uses x)) t among),
      )

  shared-target : (t : ℕ) → Contains (typed_targets x) t → Shares ranking m t → Contains (shared_targets st i) t
  shared-target t target shares =
      let (p, at) = rows-use 0 x.values t target in
      Contains-filter (is_shared st) (map (λ (v : Use). v.1) (typed_uses x)) t
      (is-shared ranking m proper st are t (closed t target) shares) (Contains-mapped (λ (v : Use). v.1) (typed_uses x) (p, t) at)

  heading-said : said_in s i.heading (renamed_typed st.rank x) ≡ said s stands.section (renamed_typed (ranking m) x)
  heading-said = ap (λ (hs : List (List ℕ)). said_in s hs (renamed_typed st.rank x)) stands.heading_is ∙ ap (said s stands.section) by-rank

  -- ---- it shares its rank

  module _ (r : Ranked) (is : IsSharing s st i r) (shares : Shares ranking m i.name) where
    uneven-loose : (o : Option ℕ) → FindsUneven st (many st i.name) (shared_targets st i) o → IsLoose ranking m i.name x (with_rank st o)
    uneven-loose None even = (
      λ _ t target shares_t. sym (are.many i.name named) ∙ sym (even t (shared-target t target shares_t)) ∙ are.many t (closed t target),
      λ alone. absurd (alone shares),
    )
    uneven-loose (Some t) (among, other) =
        let (target, shares_t) = target-shared t among in
        let at : Contains (names m) t = closed t target in (
          at,
          shares_t,
          are.rank t at,
          λ (decided : IsDecided ranking m). other (are.many t at
              ∙ sym (decided.as_many i.name t (x, stands.instance, target) shares shares_t) ∙ sym (are.many i.name named)),
        )

    sharing-ranked : IsRanked s ranking m r
    sharing-ranked =
        let P : ℕ → Type 0 = λ n. Contains m.instances (n, x) in
        let Q : ℕ → Type 0 = λ n. Contains m.instance_sections (n, stands.section) in
        let R : ℕ → Type 0 = λ n. IsLoose ranking m n x r.loose in
        let L : Option (ℕ × ℕ) → Type 0 = λ o. IsLoose ranking m i.name x o in
        let F : List ℕ → Type 0 = λ ns. FindsUneven st (many st i.name) ns is.uneven in
        let S : ℕ → Type 0 = λ n. Shares ranking m n in
        let B : List ℕ → Type 0 = λ ns. (t : ℕ) → Contains ns t
        ↔ (Contains (typed_targets x) t × Shares ranking m r.name × Shares ranking m t) in
        record {
          typed = x;
          heading = stands.section;
          instance = subst P (sym is.name_is) stands.instance;
          section = subst Q (sym is.name_is) stands.in_section;
          rank_is = is.rank_is ∙ are.rank i.name named ∙ ap (ranking m) (sym is.name_is);
          said_is = λ _. is.said_is ∙ ap row_of_texts heading-said;
          beside_are = subst B (sym is.beside_are)
              (λ t. (
                λ among. (let (target, shares_t) = target-shared t among in (target, subst S (sym is.name_is) shares, shares_t)),
                λ (target, own, shares_t). shared-target t target shares_t,
              ));
          loose_is = subst R (sym is.name_is) (subst L (sym is.loose_is) (uneven-loose is.uneven (subst F is.beside_are is.uneven_is)));
        }

  -- ---- it doesn't

  module _ (r : Ranked) (is : IsAlone st i r) (alone : ¬ Shares ranking m i.name) where
    rows-loose : (o : Option ℕ) → loose_rows st x.values ≡ o → IsLoose ranking m i.name x (with_rank st o)
    rows-loose o found = by o (let P : Option ℕ → Type 0 =
        λ p. Tells (is_shared st) (Each (AllSpread ranking m) x.values) (typed_targets x) p in
        subst P found (rows-tell ranking m proper st are x.values (proper.1 i.name x stands.instance) closed))
      where
        by : (p : Option ℕ) → Tells (is_shared st) (Each (AllSpread ranking m) x.values) (typed_targets x) p
            → IsLoose ranking m i.name x (with_rank st p)
        by None spread = (λ shares. absurd (alone shares), λ _. spread)
        by (Some n) (target, shared, not_) =
            let at : Contains (names m) n = closed n target in (
              at,
              shared-is ranking m proper st are n at shared,
              are.rank n at,
              λ (decided : IsDecided ranking m). not_
                  (decided.spread i.name x stands.instance alone),
            )

    alone-ranked : IsRanked s ranking m r
    alone-ranked =
        let P : ℕ → Type 0 = λ n. Contains m.instances (n, x) in
        let Q : ℕ → Type 0 = λ n. Contains m.instance_sections (n, stands.section) in
        let R : ℕ → Type 0 = λ n. IsLoose ranking m n x r.loose in
        let L : Option (ℕ × ℕ) → Type 0 = λ o. IsLoose ranking m i.name x o in
        let A : ℕ → Type 0 = λ n. ¬ Shares ranking m n in
        let alone_r : ¬ Shares ranking m r.name = subst A (sym is.name_is) alone in
        let B : List ℕ → Type 0 = λ ns. (t : ℕ) → Contains ns t
        ↔ (Contains (typed_targets x) t × Shares ranking m r.name × Shares ranking m t) in
        record {
          typed = x;
          heading = stands.section;
          instance = subst P (sym is.name_is) stands.instance;
          section = subst Q (sym is.name_is) stands.in_section;
          rank_is = is.rank_is ∙ are.rank i.name named ∙ ap (ranking m) (sym is.name_is);
          said_is = λ shares. absurd (alone_r shares);
          beside_are = subst B (sym is.beside_are) (λ t. (
            λ among. absurd (Contains-none t among),
            λ (target, shares, shares_t). absurd
                (alone_r shares),
          ));
          loose_is = subst R (sym is.name_is) (subst L (sym is.loose_is) (rows-loose (loose_rows st x.values) refl));
        }

  pub ranked-is : (r : Ranked) → IsRankedBy s st i r → IsRanked s ranking m r
  ranked-is r is = by (is_shared st i.name) refl
    where
      by : (b : Bool) → is_shared st i.name ≡ b → IsRanked s ranking m r
      by true shared = sharing-ranked r (is.sharing shared) (shared-is ranking m proper st are i.name named shared)
      by false alone = alone-ranked r (is.alone alone) (not-shared ranking m proper st are i.name named alone)
