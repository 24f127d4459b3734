-- Memberships by the numbers of their sections and of their sets.
use Rattle.std.proofs.Common.{◌≡◌, ◌<◌, ℕ, List, [], ◌∷◌, ◌++◌, length, get_or, slice_get, Option, Some, None, IfSome, inl, inr, refl, sym, ap, subst, ◌∙◌, arith}
use Rattle.std.proofs.lemmas.List.{get_or_append_left, length-append, map-append}
use Rattle.std.proofs.lemmas.Map.Lookups.{CmpEqualImpliesEq, exact_pairs, exact_unsigned}
use Rattle.std.proofs.lemmas.Option.{get_or_from_slice_get, slice_get-get_or, slice_get_within}
use Rattle.std.specs.BTreeMap.{BTreeMap, IsEmpty, Updates, get_by}
use Rattle.std.specs.List.{Contains}
use Rattle.std.specs.Option.{IsSome}
use Rattle.std.specs.Ordering.{nat_cmp}
use Rattle.p21_spec_basics.proofs.Members.{Contains-unmapped, Each-append, Each-member, Each-weaker}
use Rattle.p21_stream_store.proofs.Numbering.{behind, is-absent, known, mapped-at, none-numbered, one-more}
use Rattle.p21_stream_store.specs.Memberships.{AreNumberedRows, HaveOneSet, HaveSets, Membership, by_pair, membership_in, memberships_in}
use Rattle.p21_stream_store.specs.Numbering.{AreNumbered, AreOnce, Interns}

abbrev Row : Type 0
Row = ℕ × ℕ

-- ---- rows

exact-rows : CmpEqualImpliesEq by_pair
exact-rows = exact_pairs nat_cmp nat_cmp exact_unsigned exact_unsigned

abbrev itself : Row → Row
itself row = row

pub no-rows : (rows : List Row) (numbers : BTreeMap Row ℕ) → rows ≡ [] → IsEmpty numbers → AreNumberedRows rows numbers
no-rows rows numbers no_row empty = none-numbered itself by_pair exact-rows rows numbers no_row empty

-- a row that is found has the number
pub row-found : (rows : List Row) (numbers : BTreeMap Row ℕ) (row : Row) (number : ℕ) → AreNumberedRows rows numbers
    → get_by (by_pair row) numbers ≡ Some number → Interns rows row number rows
row-found rows numbers row number are at = known rows row number (are.found row number at)

-- a row that isn't found stands behind the others
pub row-added : (rows after : List Row) (numbers : BTreeMap Row ℕ) (row : Row) (number : ℕ) → AreNumberedRows rows numbers
    → get_by (by_pair row) numbers ≡ None → number ≡ length rows → after ≡ rows ++ row ∷ [] → Interns rows row number after
row-added rows after numbers row number are none last is =
    behind rows after row number last is (is-absent itself by_pair exact-rows rows numbers row are none)

pub rows-numbered : (rows after : List Row) (numbers new : BTreeMap Row ℕ) (row : Row) (number : ℕ) → AreNumberedRows rows numbers
    → get_by (by_pair row) numbers ≡ None → number ≡ length rows → after ≡ rows ++ row ∷ [] → Updates by_pair numbers new row (Some number)
    → AreNumberedRows after new
rows-numbered rows after numbers new row number are none last is updates =
    let P : ℕ → Type 0 = λ n. Updates by_pair numbers new row (Some n) in
    subst (λ (rs : List Row). AreNumbered itself by_pair rs new) (sym is)
    (one-more itself by_pair exact-rows rows numbers new row are none (subst P last updates))

-- ---- memberships

-- the membership of a row, whose set is known
pub membership-at : (sets : List (List ℕ)) (rows : List Row) (number : ℕ) (row : Row) (membership : Membership)
    → slice_get rows number ≡ Some row → row.0 ≡ membership.section → slice_get sets row.1 ≡ Some membership.entities
    → slice_get (memberships_in sets rows) number ≡ Some membership
membership-at sets rows number row membership at section set =
    let entities : get_or sets row.1 [] ≡ membership.entities = get_or_from_slice_get sets row.1 membership.entities [] set in
    let same : membership_in sets row ≡ membership = λ i. record { section = section i; entities = entities i } in
    mapped-at (membership_in sets) rows number row at ∙ ap (λ (m : Membership). Some m) same

-- memberships whose rows have one set
pub one-set : (sets : List (List ℕ)) (rows : List Row) (number other : ℕ) (row its_row : Row) → slice_get rows number ≡ Some row
    → slice_get rows other ≡ Some its_row → row.1 ≡ its_row.1 → HaveOneSet (memberships_in sets rows) number other
one-set sets rows number other row its_row at there same = (
  membership_in sets row,
  membership_in sets its_row,
  mapped-at (membership_in sets) rows number row at,
  mapped-at (membership_in sets) rows other its_row there,
  ap (λ (set : ℕ). (membership_in sets (0, set)).entities) same,
)

-- a membership that is remembered, with its row
pub remembered-interned : (sets : List (List ℕ)) (rows : List Row) (number : ℕ) (row : Option Row) (membership : Membership)
    → IfSome row (λ r. slice_get rows number ≡ Some r) → IfSome row (λ r. r.0 ≡ membership.section)
    → IfSome row (λ r. slice_get sets r.1 ≡ Some membership.entities) → IsSome row
    → Interns (memberships_in sets rows) membership number (memberships_in sets rows)
remembered-interned sets rows number None membership at section set some = cc
remembered-interned sets rows number (Some row) membership at section set some =
    known (memberships_in sets rows) membership number (membership-at sets rows number row membership at section set)

-- sets that come behind change no membership
same-memberships : (sets more : List (List ℕ)) (rows : List Row) → HaveSets (length sets) rows
    → memberships_in (sets ++ more) rows ≡ memberships_in sets rows
same-memberships sets more [] have = refl
same-memberships sets more (row ∷ rows) have =
    let set : get_or (sets ++ more) row.1 [] ≡ get_or sets row.1 [] = get_or_append_left sets more [] row.1 have.0 in
    let first : membership_in (sets ++ more) row ≡ membership_in sets row = λ i. record { section = row.0; entities = set i } in
    ap (λ (m : Membership). m ∷ memberships_in (sets ++ more) rows) first
    ∙ ap (λ (ms : List Membership). membership_in sets row ∷ ms) (same-memberships sets more rows have.1)

module _ (sets grown : List (List ℕ)) (entities : List ℕ) (set : ℕ) (interned : Interns sets entities set grown) where
  pub memberships-stay : (rows : List Row) → HaveSets (length sets) rows → memberships_in grown rows ≡ memberships_in sets rows
  memberships-stay rows have = elim interned.1 [
    | inl same ↦ ap (λ (ss : List (List ℕ)). memberships_in ss rows) same
    | inr added ↦ ap (λ (ss : List (List ℕ)). memberships_in ss rows) added.0 ∙ same-memberships sets (entities ∷ []) rows have
  ]

  not-fewer : (many : ℕ) → many < length sets → many < length grown
  not-fewer many below = elim interned.1 [
    | inl same ↦ subst (λ (n : ℕ). many < n) (ap length (sym same)) below
    | inr added ↦ (let count = ap length added.0 ∙ length-append sets (entities ∷ []) in omega (arith, below, count))
  ]

  -- each row has its set, and so has one more
  pub sets-stay : (rows : List Row) → HaveSets (length sets) rows → HaveSets (length grown) rows
  sets-stay rows have = Each-weaker (λ (row : Row). row.1 < length sets) (λ (row : Row). row.1 < length grown)
      (λ row below. not-fewer row.1 below) rows have

  pub sets-more : (rows after : List Row) (section number : ℕ) → HaveSets (length sets) rows → Interns rows (section, set) number after
      → HaveSets (length grown) after
  sets-more rows after section number have more = elim more.1 [
    | inl same ↦ subst (HaveSets (length grown)) (sym same) (sets-stay rows have)
    | inr added ↦ subst (HaveSets (length grown)) (sym added.0)
        (Each-append (λ (row : Row). row.1 < length grown) rows ((section, set) ∷ []) (sets-stay rows have)
        (slice_get_within grown set entities interned.0, tt))
  ]

  -- the number of a row is that of its membership
  pub membership-interned : (rows after : List Row) (section number : ℕ) → AreOnce grown → HaveSets (length sets) rows
      → Interns rows (section, set) number after → Interns (memberships_in sets rows) (record { section = section; entities = entities })
      number (memberships_in grown after)
  membership-interned rows after section number once have more = (
    membership-at grown after number (section, set) membership more.0 refl interned.0,
    elim more.1 [
      | inl same ↦ inl (ap (memberships_in grown) same ∙ memberships-stay rows have)
      | inr added ↦ inr (is added.0, λ there. added.1 (among there))
    ],
  ) where
    membership : Membership
    membership = record { section = section; entities = entities }

    its_set : get_or grown set [] ≡ entities
    its_set = get_or_from_slice_get grown set entities [] interned.0

    is : after ≡ rows ++ (section, set) ∷ [] → memberships_in grown after ≡ memberships_in sets rows ++ membership ∷ []
    is behind_ =
        let last : membership_in grown (section, set) ≡ membership = λ i. record { section = section; entities = its_set i } in
        ap (memberships_in grown) behind_ ∙ map-append (membership_in grown) rows ((section, set) ∷ [])
        ∙ ap (λ (m : Membership). memberships_in grown rows ++ m ∷ []) last
        ∙ ap (λ (ms : List Membership). ms ++ membership ∷ []) (memberships-stay rows have)

    among : Contains (memberships_in sets rows) membership → Contains rows (section, set)
    among there =
        let (row, here, same) = Contains-unmapped (membership_in grown) rows membership
        (subst (λ (ms : List Membership). Contains ms membership) (sym (memberships-stay rows have)) there) in
        let within : row.1 < length grown = Each-member (λ (r : Row). r.1 < length grown) rows row (sets-stay rows have) here in
        let at : slice_get grown row.1 ≡ Some entities = slice_get-get_or grown row.1 [] within
        ∙ ap (λ (m : Membership). Some m.entities) same in
        let number_is : row.1 ≡ set = once entities row.1 set at interned.0 in
        let row_is : row ≡ (section, set) = λ i. (ap (λ (m : Membership). m.section) same i, number_is i) in
        subst (λ (r : Row). Contains rows r) row_is here
