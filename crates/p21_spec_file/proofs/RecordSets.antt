-- The set of a record is the set of what it means, and its parameters fit the places that they stand at.
use Rattle.std.specs.Prelude.{◌≡◌, ◌↔◌, ℕ, suc, List, [], ◌∷◌, length, Contains, refl}
use Rattle.std.specs.List.{AllZip, zip}
use Rattle.std.proofs.Common.{inl, inr, ap, sym, subst}
use Rattle.p21_spec_file.specs.Meaning.{Typed, FitsPlace, FitPlaces, PartMeans, NamesEntity, MeansByMapping, RecordMeans}
use Rattle.p21_spec_schema.specs.Order.{places, own_places}
use Rattle.p21_spec_exchange.specs.Parameter.{Param, Params, no_params, param, listed}
use Rattle.p21_spec_schema.specs.PlaceType.{PlaceType, derived_place, stored_place, two_redeclarations, IsDerivedIn, IsRedeclaredIn, IsRedeclared, Decides, TypeAt}
use Rattle.p21_spec_exchange.specs.Record.{Part, Record, simple, complex}
use Rattle.p21_spec_file.specs.RecordPlaces.{HasPart, IsInEntitySet, IsEntitySetOf, part_places, HasParamAt}
use Rattle.p21_spec_file.specs.Reference.{EntitySets}
use Rattle.p21_spec_schema.specs.Schema.{Schema, Place, Redeclared}
use Rattle.p21_spec_schema.specs.Supertype.{IsA, itself, InClosure}
use Rattle.p21_spec_schema.specs.WellFormed.{IsWellFormed, HasDistinctEntities}
use Rattle.p21_spec_basics.proofs.Members.{Contains-none, Contains-first, Contains-cases, Each-member, AllZip-member, AllZip-second_member}
use Rattle.p21_spec_file.proofs.OneMeaning.{NamesEntity-one}

-- two lists have the same members
abbrev pub HaveSameMembers : List ℕ → List ℕ → Type 0
HaveSameMembers es fs = (f : ℕ) → Contains es f ↔ Contains fs f

-- a simple record has one simple record
only-part : (only part : Part) → Contains (only ∷ []) part → only ≡ part
only-part only part among = Each-member (λ x. only ≡ x) (only ∷ []) part (refl, tt) among

-- in internal mapping the closure of the named entity is the set, whatever the parameters
pub internal-set : (s : Schema) → HasDistinctEntities s → (part : Part) (e : ℕ) (entities : List ℕ) → NamesEntity s part.key e → ((f : ℕ) → Contains entities f ↔ IsA s e f) → IsEntitySetOf s (simple part) entities
internal-set s distinct part e entities named closure f = (λ among. (part, e, (Contains-first part [], named), (closure f).0 among), back)
  where
    back : IsInEntitySet s (simple part) f → Contains entities f
    back (other, x, (among, named_), up) =
        let P : Part → Type 0 = λ y. NamesEntity s y.key x in
        let Q : ℕ → Type 0 = λ y. IsA s y f in
        (closure f).1 (subst Q (NamesEntity-one s distinct part.key x e (subst P (sym (only-part part other among)) named_) named) up)

-- in external mapping the closure of the named entities is
pub external-set : (s : Schema) → HasDistinctEntities s → (parts : List Part) (named entities : List ℕ) → AllZip (λ (part : Part) e. NamesEntity s part.key e) parts named → ((f : ℕ) → Contains entities f ↔ InClosure s named f) → IsEntitySetOf s (complex parts) entities
external-set s distinct parts named entities are_named closure f = (onto, back)
  where
    onto : Contains entities f → IsInEntitySet s (complex parts) f
    onto among =
        let (e, among_, up) = (closure f).0 among in
        let (part, has, is) = AllZip-second_member (λ (x : Part) y. NamesEntity s x.key y) parts named e are_named among_ in
        (part, e, (has, is), up)

    back : IsInEntitySet s (complex parts) f → Contains entities f
    back (part, e, (among, named_), up) =
        let (x, among_, is) = AllZip-member (λ (x : Part) y. NamesEntity s x.key y) parts named part are_named among in
        let P : ℕ → Type 0 = λ y. Contains named y in
        (closure f).1 (e, subst P (NamesEntity-one s distinct part.key x e is named_) among_, up)

-- the named entities themselves, where they are their own closure
pub closed-set : (s : Schema) → HasDistinctEntities s → (parts : List Part) (named : List ℕ) → AllZip (λ (part : Part) e. NamesEntity s part.key e) parts named → ((f : ℕ) → InClosure s named f → Contains named f) → IsEntitySetOf s (complex parts) named
closed-set s distinct parts named are_named closed = external-set s distinct parts named named are_named (λ f. (λ among. (f, among, itself f), closed f))

-- the set of what a record means is that of the record
pub meaning-set : (s : Schema) → IsWellFormed s → (kinds : EntitySets) (r : Record) (m : Typed) → MeansByMapping s kinds r m → IsEntitySetOf s r m.entities
meaning-set s formed kinds (simple part) m means f = internal-set s formed.entities_distinct part means.entity m.entities means.named means.closure f
meaning-set s formed kinds (complex parts) m means f = (onto, back)
  where
    onto : Contains m.entities f → IsInEntitySet s (complex parts) f
    onto among = let (part, among_, part_means) = AllZip-second_member (PartMeans s kinds m) parts means.entities f means.parts_mean ((means.same_entities f).1 among) in (part, f, (among_, part_means.0), itself f)

    back : IsInEntitySet s (complex parts) f → Contains m.entities f
    back (part, e, (among, named), up) =
        let (x, among_, part_means) = AllZip-member (PartMeans s kinds m) parts means.entities part means.parts_mean among in
        let P : ℕ → Type 0 = λ y. Contains means.entities y in
        (means.same_entities f).0 (means.closed f (e, subst P (NamesEntity-one s formed.entities_distinct part.key x e part_means.0 named) among_, up))

-- so each list of the set of a record has the members of the set of what it means
pub set-members : (s : Schema) → IsWellFormed s → (kinds : EntitySets) (r : Record) (m : Typed) (entities : List ℕ) → RecordMeans s kinds r m → IsEntitySetOf s r entities → HaveSameMembers entities m.entities
set-members s formed kinds r m entities means is f = (λ h. (meaning-set s formed kinds r m means.means f).1 ((is f).0 h), λ h. (is f).1 ((meaning-set s formed kinds r m means.means f).0 h))

-- the type at a place is that of the members of a set, in any order
pub TypeAt-members : (s : Schema) (es fs : List ℕ) → HaveSameMembers es fs → (place : Place) (at : PlaceType) → TypeAt s es place at → TypeAt s fs place at
TypeAt-members s es fs same place at is = by_type at is
  where
    derived_to : IsDerivedIn s es place → IsDerivedIn s fs place
    derived_to (e, x, among, at, has) = (e, x, (same e).0 among, at, has)

    derived_from : IsDerivedIn s fs place → IsDerivedIn s es place
    derived_from (e, x, among, at, has) = (e, x, (same e).1 among, at, has)

    in_to : (e : ℕ) (r : Redeclared) → IsRedeclaredIn s es place e r → IsRedeclaredIn s fs place e r
    in_to e r (among, redeclares, is) = ((same e).0 among, redeclares, is)

    in_from : (e : ℕ) (r : Redeclared) → IsRedeclaredIn s fs place e r → IsRedeclaredIn s es place e r
    in_from e r (among, redeclares, is) = ((same e).1 among, redeclares, is)

    decides_to : (r : Redeclared) → Decides s es place r → Decides s fs place r
    decides_to r (e, found, below) = (e, in_to e r found, λ f other found_. below f other (in_from f other found_))

    decides_from : (r : Redeclared) → Decides s fs place r → Decides s es place r
    decides_from r (e, found, below) = (e, in_from e r found, λ f other found_. below f other (in_to f other found_))

    none_to : ¬ IsRedeclared s es place → ¬ IsRedeclared s fs place
    none_to none (e, r, found) = none (e, r, in_from e r found)

    by_type : (at : PlaceType) → TypeAt s es place at → TypeAt s fs place at
    by_type derived_place is = derived_to is
    by_type (stored_place optional type) (underived, which) = (
      λ h. underived (derived_from h),
      elim which [
        | inl (r, decides, optional_is, type_is) ↦ inl (r, decides_to r decides, optional_is, type_is)
        | inr (none, declared) ↦ inr (none_to none, declared)
      ],
    )
    by_type two_redeclarations (underived, (e, r, found), undecided) = (λ h. underived (derived_from h), (e, r, in_to e r found), λ q decides. undecided q (decides_from q decides))

-- parameters that fit places stand at them one by one
zipped-fits : (s : Schema) (kinds : EntitySets) (m : Typed) (ps : List Place) (params : Params) (place : Place) (p : Param) → FitPlaces s kinds m ps params → Contains (zip ps (listed params)) (place, p) → FitsPlace s kinds m place p
zipped-fits s kinds m [] xs place p fit among = absurd (Contains-none (place, p) among)
zipped-fits s kinds m (q ∷ ps) no_params place p fit among = absurd fit
zipped-fits s kinds m (q ∷ ps) (param x xs) place p fit among = elim (Contains-cases (q, x) (zip ps (listed xs)) (place, p) among) [
  | inl h ↦ let P : Place × Param → Type 0 = λ y. FitsPlace s kinds m y.0 y.1 in subst P h fit.0
  | inr h ↦ zipped-fits s kinds m ps xs place p fit.1 h
]

-- and are as many
pub places-count : (s : Schema) (kinds : EntitySets) (m : Typed) (ps : List Place) (params : Params) → FitPlaces s kinds m ps params → length (listed params) ≡ length ps
places-count s kinds m [] no_params fit = refl
places-count s kinds m [] (param x xs) fit = absurd fit
places-count s kinds m (q ∷ ps) no_params fit = absurd fit
places-count s kinds m (q ∷ ps) (param x xs) fit = ap suc (places-count s kinds m ps xs fit.1)

-- the parameters of each simple record fit its places
pub part-fits : (s : Schema) → IsWellFormed s → (kinds : EntitySets) (r : Record) (m : Typed) → MeansByMapping s kinds r m → (part : Part) (e : ℕ) → HasPart s r part e → FitPlaces s kinds m (part_places s r e) part.params
part-fits s formed kinds (simple only) m means part e (among, named) = elim (Contains-cases only [] part among) [
  | inl h ↦
      let P : Part → Type 0 = λ x. NamesEntity s x.key e in
      let same : means.entity ≡ e = NamesEntity-one s formed.entities_distinct only.key means.entity e means.named (subst P (sym h) named) in
      let Q : Part → Type 0 = λ x. FitPlaces s kinds m (places s means.entity) x.params in
      let R : ℕ → Type 0 = λ x. FitPlaces s kinds m (places s x) part.params in
      subst R same (subst Q h means.fit)
  | inr h ↦ absurd (Contains-none part h)
]
part-fits s formed kinds (complex parts) m means part e (among, named) =
    let (f, among_, part_means) = AllZip-member (PartMeans s kinds m) parts means.entities part means.parts_mean among in
    let R : ℕ → Type 0 = λ x. FitPlaces s kinds m (own_places s x) part.params in
    subst R (NamesEntity-one s formed.entities_distinct part.key f e part_means.0 named) part_means.1

-- a parameter fits the place that it stands at
pub stands-fits : (s : Schema) → IsWellFormed s → (kinds : EntitySets) (r : Record) (m : Typed) → MeansByMapping s kinds r m → (place : Place) (p : Param) → HasParamAt s r place p → FitsPlace s kinds m place p
stands-fits s formed kinds r m means place p (part, e, has, among) = zipped-fits s kinds m (part_places s r e) part.params place p (part-fits s formed kinds r m means part e has) among
