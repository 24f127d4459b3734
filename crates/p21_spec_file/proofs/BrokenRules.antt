-- A record that breaks a rule means nothing, whatever the sets of the instances.
use Rattle.std.specs.Prelude.{◌≡◌, ℕ, zero, suc, true, List, [], ◌∷◌, slice_get, Some, Contains, refl, nat_eq, false}
use Rattle.std.specs.List.{AllZip, IsDistinct}
use Rattle.std.proofs.Common.{ap, sym, subst, ◌∙◌}
use Rattle.std.proofs.lemmas.Bool.{eq-eqb}
use Rattle.p21_spec_file.specs.BrokenRule.{HasUnknownEntity, HasAbstractLeaf, MissesPart, HasPartTwice, HasWrongCount, HasTwoRedeclarations, HasClash, HasBrokenPlace, Breaks, unknown_entity, abstract_leaf, part_missing, part_twice, wrong_count, open_place, one_of, at_place}
use Rattle.p21_spec_file.specs.Fits.{FitsAt}
use Rattle.p21_spec_file.specs.Meaning.{Typed, NamesEntity, PartMeans, HasPlaceTypes, MeansByMapping, RecordMeans}
use Rattle.p21_spec_schema.specs.Order.{own_places}
use Rattle.p21_spec_exchange.specs.Parameter as parameter
use Rattle.p21_spec_exchange.specs.Parameter.{listed}
use Rattle.p21_spec_schema.specs.PlaceType.{PlaceType, two_redeclarations, TypeAt}
use Rattle.p21_spec_exchange.specs.Record.{Part, Record, simple, complex, parts_of}
use Rattle.p21_spec_file.specs.RecordPlaces.{part_places}
use Rattle.p21_spec_file.specs.Reference.{EntitySets}
use Rattle.p21_spec_schema.specs.Schema.{Schema}
use Rattle.p21_spec_schema.specs.WellFormed.{IsWellFormed}
use Rattle.p21_spec_basics.proofs.Members.{Each-member, Each-at, AllZip-member, AllZip-second_member}
use Rattle.p21_spec_file.proofs.OneMeaning.{NamesEntity-one}
use Rattle.p21_spec_schema.proofs.PlaceTypes.{TypeAt-one}
use Rattle.p21_spec_file.proofs.RecordSets.{meaning-set, set-members, TypeAt-members, places-count, part-fits, stands-fits}
use Rattle.p21_spec_file.proofs.BrokenValues.{place-fits_nothing}

unknown_entity-means_nothing : (s : Schema) → IsWellFormed s → (kinds : EntitySets) (r : Record) (m : Typed) → HasUnknownEntity s r → RecordMeans s kinds r m → ⊥
unknown_entity-means_nothing s formed kinds r m (part, among, unknown) means = by r among means.means
  where
    by : (r : Record) → Contains (parts_of r) part → MeansByMapping s kinds r m → ⊥
    by (simple only) among means =
        let P : Part → Type 0 = λ x. NamesEntity s x.key means.entity in
        unknown means.entity (subst P (Each-member (λ x. only ≡ x) (only ∷ []) part (refl, tt) among) means.named)
    by (complex parts) among means = let (e, in_entities, part_means) = AllZip-member (PartMeans s kinds m) parts means.entities part means.parts_mean among in unknown e part_means.0

abstract-means_nothing : (s : Schema) → IsWellFormed s → (kinds : EntitySets) (r : Record) (m : Typed) → HasAbstractLeaf s r → RecordMeans s kinds r m → ⊥
abstract-means_nothing s formed kinds r m (entities, e, set_is, leaf, is_abstract) means =
    let same = set-members s formed kinds r m entities means set_is in
    means.no_abstract_leaf e ((same e).0 leaf.0, λ f among is. leaf.1 f ((same f).1 among) is) is_abstract

part_missing-means_nothing : (s : Schema) → IsWellFormed s → (kinds : EntitySets) (r : Record) (m : Typed) → MissesPart s r → RecordMeans s kinds r m → ⊥
part_missing-means_nothing s formed kinds (simple part) m missing_ means = missing_
part_missing-means_nothing s formed kinds (complex parts) m (f, in_set, missing_) means =
    let among = (means.means.same_entities f).1 ((meaning-set s formed kinds (complex parts) m means.means f).1 in_set) in
    let (part, has, part_means) = AllZip-second_member (PartMeans s kinds m) parts means.means.entities f means.means.parts_mean among in
    missing_ part (has, part_means.0)

-- what stands at a number beside another
AllZip-at : {X Y : Type 0} (R : X → Y → Type 0) (xs : List X) (ys : List Y) (i : ℕ) (x : X) → AllZip R xs ys → slice_get xs i ≡ Some x → (y : Y) × (slice_get ys i ≡ Some y) × R x y
AllZip-at R [] ys i x all at = cc
AllZip-at R (z ∷ xs) [] i x all at = absurd all
AllZip-at {X} R (z ∷ xs) (y ∷ ys) zero x all at = let same : z ≡ x = cc in let P : X → Type 0 = λ w. R w y in (y, refl, subst P same all.0)
AllZip-at R (z ∷ xs) (y ∷ ys) (suc i) x all at = AllZip-at R xs ys i x all.1 at

-- where all differ, the same stands at one number
distinct-at : (es : List ℕ) (i j e : ℕ) → IsDistinct nat_eq es → slice_get es i ≡ Some e → slice_get es j ≡ Some e → i ≡ j
unfolding IsDistinct
distinct-at [] i j e distinct at at_ = cc
distinct-at (x ∷ xs) zero zero e distinct at at_ = refl
distinct-at (x ∷ xs) zero (suc j) e distinct at at_ = let same : x ≡ e = cc in let h : true ≡ false = sym (eq-eqb x e same) ∙ Each-at (λ y. nat_eq x y ≡ false) xs j e distinct.0 at_ in cc
distinct-at (x ∷ xs) (suc i) zero e distinct at at_ = let same : x ≡ e = cc in let h : true ≡ false = sym (eq-eqb x e same) ∙ Each-at (λ y. nat_eq x y ≡ false) xs i e distinct.0 at in cc
distinct-at (x ∷ xs) (suc i) (suc j) e distinct at at_ = ap suc (distinct-at xs i j e distinct.1 at at_)

part_twice-means_nothing : (s : Schema) → IsWellFormed s → (kinds : EntitySets) (r : Record) (m : Typed) → HasPartTwice r → RecordMeans s kinds r m → ⊥
part_twice-means_nothing s formed kinds r m (i, j, part, other, differ, at, at_, same) means = by r at at_ means.means
  where
    only : (part_ x : Part) (k : ℕ) → slice_get (part_ ∷ []) k ≡ Some x → k ≡ 0
    only part_ x zero at = refl
    only part_ x (suc k) at = cc

    by : (r : Record) → slice_get (parts_of r) i ≡ Some part → slice_get (parts_of r) j ≡ Some other → MeansByMapping s kinds r m → ⊥
    by (simple one) at at_ means = differ (only one part i at ∙ sym (only one other j at_))
    by (complex parts) at at_ means =
        let (e, e_at, e_means) = AllZip-at (PartMeans s kinds m) parts means.entities i part means.parts_mean at in
        let (f, f_at, f_means) = AllZip-at (PartMeans s kinds m) parts means.entities j other means.parts_mean at_ in
        let P : parameter.Key → Type 0 = λ k. NamesEntity s k e in
        let one : f ≡ e = NamesEntity-one s formed.entities_distinct other.key f e f_means.0 (subst P same e_means.0) in
        let Q : ℕ → Type 0 = λ x. slice_get means.entities j ≡ Some x in
        differ (distinct-at means.entities i j e means.distinct e_at (subst Q one f_at))

wrong_count-means_nothing : (s : Schema) → IsWellFormed s → (kinds : EntitySets) (r : Record) (m : Typed) → HasWrongCount s r → RecordMeans s kinds r m → ⊥
wrong_count-means_nothing s formed kinds r m (part, e, has, differ) means = differ (places-count s kinds m (part_places s r e) part.params (part-fits s formed kinds r m means.means part e has))

open_place-means_nothing : (s : Schema) → IsWellFormed s → (kinds : EntitySets) (r : Record) (m : Typed) → HasTwoRedeclarations s r → RecordMeans s kinds r m → ⊥
open_place-means_nothing s formed kinds r m (entities, e, place, set_is, among, of_e, two) means =
    let same = set-members s formed kinds r m entities means set_is in
    Each-member (λ q. ¬ TypeAt s m.entities q two_redeclarations) (own_places s e) place (Each-member (HasPlaceTypes s m.entities) m.entities e means.place_types ((same e).0 among)) of_e
    (TypeAt-members s entities m.entities same place two_redeclarations two)

clash-means_nothing : (s : Schema) → IsWellFormed s → (kinds : EntitySets) (r : Record) (m : Typed) → HasClash s r → RecordMeans s kinds r m → ⊥
clash-means_nothing s formed kinds r m (entities, set_is, (listed, is_list, (e, f, e_listed, f_listed, differ, has_e, has_f))) means =
    let same = set-members s formed kinds r m entities means set_is in
    means.no_clash (listed, is_list, (e, f, e_listed, f_listed, differ, (same e).0 has_e, (same f).0 has_f))

place-means_nothing : (s : Schema) → IsWellFormed s → (kinds : EntitySets) (r : Record) (m : Typed) (number : ℕ) → HasBrokenPlace s r number → RecordMeans s kinds r m → ⊥
place-means_nothing s formed kinds r m number (entities, place, at, p, set_is, type_at, stands, broken) means =
    let (at_, v, type_at_, fit, has) = stands-fits s formed kinds r m means.means place p stands in
    let known : TypeAt s m.entities place at = TypeAt-members s entities m.entities (set-members s formed kinds r m entities means set_is) place at type_at in
    let same : at_ ≡ at = TypeAt-one s formed.supertypes_end formed.redeclares_once m.entities place at_ at type_at_ known in
    let P : PlaceType → Type 0 = λ x. FitsAt s kinds x p v in
    place-fits_nothing s formed.types_distinct kinds number at p v broken (subst P same fit)

-- a record that breaks a rule has no meaning, whatever the sets of the instances
pub broken-means_nothing : (s : Schema) → IsWellFormed s → (r : Record) (number : ℕ) → Breaks s r number → (kinds : EntitySets) (m : Typed) → RecordMeans s kinds r m → ⊥
broken-means_nothing s formed r number (unknown_entity h) kinds m means = unknown_entity-means_nothing s formed kinds r m h means
broken-means_nothing s formed r number (part_twice h) kinds m means = part_twice-means_nothing s formed kinds r m h means
broken-means_nothing s formed r number (part_missing h) kinds m means = part_missing-means_nothing s formed kinds r m h means
broken-means_nothing s formed r number (abstract_leaf h) kinds m means = abstract-means_nothing s formed kinds r m h means
broken-means_nothing s formed r number (one_of h) kinds m means = clash-means_nothing s formed kinds r m h means
broken-means_nothing s formed r number (open_place h) kinds m means = open_place-means_nothing s formed kinds r m h means
broken-means_nothing s formed r number (wrong_count h) kinds m means = wrong_count-means_nothing s formed kinds r m h means
broken-means_nothing s formed r number (at_place _ h) kinds m means = place-means_nothing s formed kinds r m number h means
