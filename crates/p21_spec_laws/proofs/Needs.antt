-- A record means what it means under some sets exactly under those that serve its needs.
use Rattle.std.specs.Prelude.{◌≡◌, ℕ, Bool, true, false, List, [], ◌∷◌, ◌++◌, Some, refl}
use Rattle.std.specs.List.{AllZip, AllByRecursion as Each}
use Rattle.std.proofs.Common.{sym, subst, ◌∙◌, map, ap}
use Rattle.std.proofs.lemmas.List.{map-append}
use Rattle.p21_spec_schema.specs.WellFormed.{IsWellFormed}
use Rattle.p21_spec_basics.proofs.Members.{Contains-first, Contains-later, Each-append, Each-front, Each-back}
use Rattle.p21_spec_file.proofs.OneValue.{alias_offers_nothing, dollar-fits_nothing}
use Rattle.p21_spec_schema.specs.WellFormed.{HasDistinctTypes}
use Rattle.p21_spec_schema.proofs.PlaceTypes.{TypeAt-one}
use Rattle.p21_spec_file.specs.Fits.{Fits, a_whole, a_real, a_number, a_whole_number, a_boolean, a_logical, a_text, a_binary, an_instance, as_underlying, an_item, a_chosen_instance, a_chosen_type, an_array, a_list, a_set, a_bag, FitEach, none_left, fits_next, empty_next, FitsAt, star, dollar, fits}
use Rattle.p21_spec_file.specs.Meaning.{Typed, FitPlaces, PartMeans, MeansByMapping, RecordMeans}
use Rattle.p21_spec_schema.specs.Order.{places, own_places}
use Rattle.p21_spec_exchange.specs.Parameter as parameter
use Rattle.p21_spec_exchange.specs.Parameter.{Param, Params, no_params, param}
use Rattle.p21_spec_schema.specs.PlaceType.{PlaceType}
use Rattle.p21_spec_exchange.specs.Record.{Part, Record, simple, complex}
use Rattle.p21_spec_file.specs.Reference.{EntitySets, Need, IsServed, param_references, references, record_references}
use Rattle.p21_spec_schema.specs.Schema as schema
use Rattle.p21_spec_schema.specs.Schema.{Schema, Place, TypeUse, alias, items}
use Rattle.p21_spec_file.specs.Value.{Value, Values}
use Rattle.p21_spec_file.proofs.OneMeaning.{NamesEntity-one}
use Rattle.p21_spec_laws.specs.Needs.{FitsWithNeeds, with_whole, with_real, with_number, with_whole_number, with_boolean, with_logical, with_text, with_binary, with_instance, with_underlying, with_item, with_chosen_instance, with_chosen_type, with_array, with_list, with_set, with_bag, FitEachWithNeeds, with_none, with_next, with_empty, FitsAtWithNeeds, with_star, with_dollar, with_fit, FitPlacesWithNeeds, AreNeedsOfParts, AreNeedsOfRecord, MeansWithNeeds}
use Rattle.p21_spec_file.proofs.Served.{MayBeServed}

abbrev pub AreServed : Schema → EntitySets → List Need → Type 0
AreServed s kinds needs = Each (IsServed s kinds) needs

-- ---- where the needs are served, the parameter fits

mutual
  pub served-fits : (s : Schema) (kinds : EntitySets) (type : TypeUse) (p : Param) (v : Value) (needs : List Need) → FitsWithNeeds s type p v needs → AreServed s kinds needs → Fits s kinds type p v
  served-fits s kinds type p v needs (with_whole z) served = a_whole z
  served-fits s kinds type p v needs (with_real d) served = a_real d
  served-fits s kinds type p v needs (with_number d) served = a_number d
  served-fits s kinds type p v needs (with_whole_number z d reduced range same) served = a_whole_number z d reduced range same
  served-fits s kinds type p v needs (with_boolean word among) served = a_boolean word among
  served-fits s kinds type p v needs (with_logical word among) served = a_logical word among
  served-fits s kinds type p v needs (with_text width chars within) served = a_text width chars within
  served-fits s kinds type p v needs (with_binary width bs within) served = a_binary width bs within
  served-fits s kinds type p v needs (with_instance e n) served = an_instance e n served.0
  served-fits s kinds type p v needs (with_underlying t under _ _ _ is fit) served = as_underlying t under p v is (served-fits s kinds under p v needs fit served)
  served-fits s kinds type p v needs (with_item t words word is among) served = an_item t words word is among
  served-fits s kinds type p v needs (with_chosen_instance t n e offers) served = a_chosen_instance t n served.0
  served-fits s kinds type p v needs (with_chosen_type t u name q x _ offers named fit) served = a_chosen_type t u name q x offers named (served-fits s kinds (schema.defined u) q x needs fit served)
  served-fits s kinds type p v needs (with_array low high optional unique element ps vs _ each counted distinct) served = an_array low high optional unique element ps vs (served-each s kinds optional element ps vs needs each served) counted distinct
  served-fits s kinds type p v needs (with_list low high unique element ps vs _ each bounded distinct) served = a_list low high unique element ps vs (served-each s kinds false element ps vs needs each served) bounded distinct
  served-fits s kinds type p v needs (with_set low high element ps vs _ each bounded distinct) served = a_set low high element ps vs (served-each s kinds false element ps vs needs each served) bounded distinct
  served-fits s kinds type p v needs (with_bag low high element ps vs _ each bounded) served = a_bag low high element ps vs (served-each s kinds false element ps vs needs each served) bounded

  pub served-each : (s : Schema) (kinds : EntitySets) (optional : Bool) (type : TypeUse) (ps : Params) (vs : Values) (needs : List Need) → FitEachWithNeeds s optional type ps vs needs → AreServed s kinds needs → FitEach s kinds optional type ps vs
  served-each s kinds optional type ps vs needs (with_none _ _) served = none_left optional type
  served-each s kinds optional type ps vs needs (with_next _ _ p v ps_ vs_ first more fit each) served =
      fits_next optional type p v ps_ vs_ (served-fits s kinds type p v first fit (Each-front (IsServed s kinds) first more served)) (served-each s kinds optional type ps_ vs_ more each (Each-back (IsServed s kinds) first more served))
  served-each s kinds optional type ps vs needs (with_empty _ ps_ vs_ _ each) served = empty_next type ps_ vs_ (served-each s kinds true type ps_ vs_ needs each served)

pub served-at : (s : Schema) (kinds : EntitySets) (at : PlaceType) (p : Param) (v : Value) (needs : List Need) → FitsAtWithNeeds s at p v needs → AreServed s kinds needs → FitsAt s kinds at p v
served-at s kinds at p v needs with_star served = star
served-at s kinds at p v needs (with_dollar type) served = dollar type
served-at s kinds at p v needs (with_fit optional type _ _ _ fit) served = fits optional type p v (served-fits s kinds type p v needs fit served)

-- ---- where it fits, the needs are served, whatever value it stands for

dollar-with_nothing : (s : Schema) (type : TypeUse) (v : Value) (needs : List Need) → FitsWithNeeds s type parameter.dollar v needs → ⊥
dollar-with_nothing s type v needs (with_underlying t under _ _ _ is fit) = dollar-with_nothing s under v needs fit

mutual
  pub fits-served : (s : Schema) → HasDistinctTypes s → (kinds : EntitySets) (type : TypeUse) (p : Param) (v w : Value) (needs : List Need) → FitsWithNeeds s type p v needs → Fits s kinds type p w → AreServed s kinds needs
  fits-served s distinct kinds type p v w needs (with_whole z) fit_ = tt
  fits-served s distinct kinds type p v w needs (with_real d) fit_ = tt
  fits-served s distinct kinds type p v w needs (with_number d) fit_ = tt
  fits-served s distinct kinds type p v w needs (with_whole_number z d reduced range same) fit_ = tt
  fits-served s distinct kinds type p v w needs (with_boolean word among) fit_ = tt
  fits-served s distinct kinds type p v w needs (with_logical word among) fit_ = tt
  fits-served s distinct kinds type p v w needs (with_text width chars within) fit_ = tt
  fits-served s distinct kinds type p v w needs (with_binary width bs within) fit_ = tt
  fits-served s distinct kinds type p v w needs (with_instance e n) (an_instance _ _ served) = (served, tt)
  fits-served s distinct kinds type p v w needs (with_underlying t under _ _ _ is fit) (as_underlying _ under_ _ _ is_ fit_) =
      let same : under_ ≡ under = let h : Some (alias under_) ≡ Some (alias under) = sym is_ ∙ is in cc in
      let P : TypeUse → Type 0 = λ u. Fits s kinds u p w in
      fits-served s distinct kinds under p v w needs fit (subst P same fit_)
  fits-served s distinct kinds type p v w needs (with_underlying t under _ _ _ is fit) (an_item _ words word is_ among) = let h : Some (alias under) ≡ Some (items words) = sym is ∙ is_ in cc
  fits-served s distinct kinds type p v w needs (with_underlying t under _ _ _ is fit) (a_chosen_instance _ n served) = absurd (alias_offers_nothing s t under (schema.entity_member served.2.0) is served.2.1)
  fits-served s distinct kinds type p v w needs (with_underlying t under _ _ _ is fit) (a_chosen_type _ u name _ _ offers named fit_) = absurd (alias_offers_nothing s t under (schema.type_member u) is offers)
  fits-served s distinct kinds type p v w needs (with_item t words word is among) fit_ = tt
  fits-served s distinct kinds type p v w needs (with_chosen_instance t n e offers) (as_underlying _ under _ _ is fit_) = absurd (alias_offers_nothing s t under (schema.entity_member e) is offers)
  fits-served s distinct kinds type p v w needs (with_chosen_instance t n e offers) (a_chosen_instance _ _ served) = (served, tt)
  fits-served s distinct kinds type p v w needs (with_chosen_type t u name _ _ _ offers named fit) (as_underlying _ under _ _ is fit_) = absurd (alias_offers_nothing s t under (schema.type_member u) is offers)
  fits-served s distinct kinds type p v w needs (with_chosen_type t u name q x _ offers named fit) (a_chosen_type _ u_ _ _ y offers_ named_ fit_) =
      let same : u_ ≡ u = distinct u_ u name named_ named in
      let P : ℕ → Type 0 = λ k. Fits s kinds (schema.defined k) q y in
      fits-served s distinct kinds (schema.defined u) q x y needs fit (subst P same fit_)
  fits-served s distinct kinds type p v w needs (with_array _ _ optional _ element ps vs _ each _ _) (an_array _ _ _ _ _ _ ws each_ _ _) = each-served s distinct kinds optional element ps vs ws needs each each_
  fits-served s distinct kinds type p v w needs (with_list _ _ _ element ps vs _ each _ _) (a_list _ _ _ _ _ ws each_ _ _) = each-served s distinct kinds false element ps vs ws needs each each_
  fits-served s distinct kinds type p v w needs (with_set _ _ element ps vs _ each _ _) (a_set _ _ _ _ ws each_ _ _) = each-served s distinct kinds false element ps vs ws needs each each_
  fits-served s distinct kinds type p v w needs (with_bag _ _ element ps vs _ each _) (a_bag _ _ _ _ ws each_ _) = each-served s distinct kinds false element ps vs ws needs each each_

  each-served : (s : Schema) → HasDistinctTypes s → (kinds : EntitySets) (optional : Bool) (type : TypeUse) (ps : Params) (vs ws : Values) (needs : List Need) → FitEachWithNeeds s optional type ps vs needs → FitEach s kinds optional type ps ws → AreServed s kinds needs
  each-served s distinct kinds optional type ps vs ws needs (with_none _ _) each_ = tt
  each-served s distinct kinds optional type ps vs ws needs (with_next _ _ p v ps_ vs_ first more fit each) (fits_next _ _ _ w _ ws_ fit_ each_) =
      Each-append (IsServed s kinds) first more (fits-served s distinct kinds type p v w first fit fit_) (each-served s distinct kinds optional type ps_ vs_ ws_ more each each_)
  each-served s distinct kinds optional type ps vs ws needs (with_next _ _ p v ps_ vs_ first more fit each) (empty_next _ _ _ _) = absurd (dollar-with_nothing s type v first fit)
  each-served s distinct kinds optional type ps vs ws needs (with_empty _ ps_ vs_ _ each) (fits_next _ _ _ w _ _ fit _) = absurd (dollar-fits_nothing s kinds type w fit)
  each-served s distinct kinds optional type ps vs ws needs (with_empty _ ps_ vs_ _ each) (empty_next _ _ ws_ each_) = each-served s distinct kinds true type ps_ vs_ ws_ needs each each_

pub at-served : (s : Schema) → HasDistinctTypes s → (kinds : EntitySets) (at : PlaceType) (p : Param) (v w : Value) (needs : List Need) → FitsAtWithNeeds s at p v needs → FitsAt s kinds at p w → AreServed s kinds needs
at-served s distinct kinds at p v w needs with_star fit_ = tt
at-served s distinct kinds at p v w needs (with_dollar type) fit_ = tt
at-served s distinct kinds at p v w needs (with_fit _ type _ _ _ fit) (dollar _) = absurd (dollar-with_nothing s type v needs fit)
at-served s distinct kinds at p v w needs (with_fit _ type _ _ _ fit) (fits _ _ _ _ fit_) = fits-served s distinct kinds type p v w needs fit fit_

-- ---- what fits has needs

mutual
  pub fits-needs : (s : Schema) (kinds : EntitySets) (type : TypeUse) (p : Param) (v : Value) → Fits s kinds type p v → (needs : List Need) × FitsWithNeeds s type p v needs
  fits-needs s kinds type p v (a_whole z) = ([], with_whole z)
  fits-needs s kinds type p v (a_real d) = ([], with_real d)
  fits-needs s kinds type p v (a_number d) = ([], with_number d)
  fits-needs s kinds type p v (a_whole_number z d reduced range same) = ([], with_whole_number z d reduced range same)
  fits-needs s kinds type p v (a_boolean word among) = ([], with_boolean word among)
  fits-needs s kinds type p v (a_logical word among) = ([], with_logical word among)
  fits-needs s kinds type p v (a_text width chars within) = ([], with_text width chars within)
  fits-needs s kinds type p v (a_binary width bs within) = ([], with_binary width bs within)
  fits-needs s kinds type p v (an_instance e n served) = (record { target = n; wanted = schema.entity_member e } ∷ [], with_instance e n)
  fits-needs s kinds type p v (as_underlying t under _ _ is fit) = let (needs, found) = fits-needs s kinds under p v fit in (needs, with_underlying t under p v needs is found)
  fits-needs s kinds type p v (an_item t words word is among) = ([], with_item t words word is among)
  fits-needs s kinds type p v (a_chosen_instance t n served) = (record { target = n; wanted = schema.type_member t } ∷ [], with_chosen_instance t n served.2.0 served.2.1)
  fits-needs s kinds type p v (a_chosen_type t u name q x offers named fit) = let (needs, found) = fits-needs s kinds (schema.defined u) q x fit in (needs, with_chosen_type t u name q x needs offers named found)
  fits-needs s kinds type p v (an_array low high optional unique element ps vs each counted distinct) = let (needs, found) = each-needs s kinds optional element ps vs each in (needs, with_array low high optional unique element ps vs needs found counted distinct)
  fits-needs s kinds type p v (a_list low high unique element ps vs each bounded distinct) = let (needs, found) = each-needs s kinds false element ps vs each in (needs, with_list low high unique element ps vs needs found bounded distinct)
  fits-needs s kinds type p v (a_set low high element ps vs each bounded distinct) = let (needs, found) = each-needs s kinds false element ps vs each in (needs, with_set low high element ps vs needs found bounded distinct)
  fits-needs s kinds type p v (a_bag low high element ps vs each bounded) = let (needs, found) = each-needs s kinds false element ps vs each in (needs, with_bag low high element ps vs needs found bounded)

  each-needs : (s : Schema) (kinds : EntitySets) (optional : Bool) (type : TypeUse) (ps : Params) (vs : Values) → FitEach s kinds optional type ps vs → (needs : List Need) × FitEachWithNeeds s optional type ps vs needs
  each-needs s kinds optional type ps vs (none_left _ _) = ([], with_none optional type)
  each-needs s kinds optional type ps vs (fits_next _ _ p v ps_ vs_ fit each) =
      let (first, found) = fits-needs s kinds type p v fit in
      let (more, rest) = each-needs s kinds optional type ps_ vs_ each in
      (first ++ more, with_next optional type p v ps_ vs_ first more found rest)
  each-needs s kinds optional type ps vs (empty_next _ ps_ vs_ each) = let (needs, found) = each-needs s kinds true type ps_ vs_ each in (needs, with_empty type ps_ vs_ needs found)

pub at-needs : (s : Schema) (kinds : EntitySets) (at : PlaceType) (p : Param) (v : Value) → FitsAt s kinds at p v → (needs : List Need) × FitsAtWithNeeds s at p v needs
at-needs s kinds at p v star = ([], with_star)
at-needs s kinds at p v (dollar type) = ([], with_dollar type)
at-needs s kinds at p v (fits optional type _ _ fit) = let (needs, found) = fits-needs s kinds type p v fit in (needs, with_fit optional type p v needs found)

-- ---- places

pub served-places : (s : Schema) (kinds : EntitySets) (m : Typed) (ps : List Place) (xs : Params) (needs : List Need) → FitPlacesWithNeeds s m ps xs needs → AreServed s kinds needs → FitPlaces s kinds m ps xs
served-places s kinds m [] no_params needs fit served = tt
served-places s kinds m [] (param x xs) needs fit served = absurd fit
served-places s kinds m (p ∷ ps) no_params needs fit served = absurd fit
served-places s kinds m (p ∷ ps) (param x xs) needs (first, more, is, (at, v, type_at, fit, has), rest) served =
    let both : AreServed s kinds (first ++ more) = subst (Each (IsServed s kinds)) is served in
    ((at, v, type_at, served-at s kinds at x v first fit (Each-front (IsServed s kinds) first more both), has), served-places s kinds m ps xs more rest (Each-back (IsServed s kinds) first more both))

places-served : (s : Schema) → IsWellFormed s → (kinds : EntitySets) (m : Typed) (ps : List Place) (xs : Params) (needs : List Need) → FitPlacesWithNeeds s m ps xs needs → FitPlaces s kinds m ps xs → AreServed s kinds needs
places-served s formed kinds m [] no_params needs fit fit_ = let P : List Need → Type 0 = λ ns. AreServed s kinds ns in subst P (sym fit) tt
places-served s formed kinds m [] (param x xs) needs fit fit_ = absurd fit
places-served s formed kinds m (p ∷ ps) no_params needs fit fit_ = absurd fit
places-served s formed kinds m (p ∷ ps) (param x xs) needs (first, more, is, (at, v, type_at, fit, has), rest) ((at_, w, type_at_, fit_, has_), rest_) =
    let one : at_ ≡ at = TypeAt-one s formed.supertypes_end formed.redeclares_once m.entities p at_ at type_at_ type_at in
    let Q : PlaceType → Type 0 = λ type. FitsAt s kinds type x w in
    let P : List Need → Type 0 = λ ns. AreServed s kinds ns in
    subst P (sym is) (Each-append (IsServed s kinds) first more (at-served s formed.types_distinct kinds at x v w first fit (subst Q one fit_)) (places-served s formed kinds m ps xs more rest rest_))

places-needs : (s : Schema) (kinds : EntitySets) (m : Typed) (ps : List Place) (xs : Params) → FitPlaces s kinds m ps xs → (needs : List Need) × FitPlacesWithNeeds s m ps xs needs
places-needs s kinds m [] no_params fit = ([], refl)
places-needs s kinds m [] (param x xs) fit = absurd fit
places-needs s kinds m (p ∷ ps) no_params fit = absurd fit
places-needs s kinds m (p ∷ ps) (param x xs) ((at, v, type_at, fit, has), rest) =
    let (first, found) = at-needs s kinds at x v fit in
    let (more, others) = places-needs s kinds m ps xs rest in
    (first ++ more, (first, more, refl, (at, v, type_at, found, has), others))

-- ---- records

served-parts : (s : Schema) → IsWellFormed s → (kinds others : EntitySets) (m : Typed) (parts : List Part) (es : List ℕ) (needs : List Need) → AllZip (PartMeans s kinds m) parts es → AreNeedsOfParts s m parts needs → AreServed s others needs → AllZip (PartMeans s others m) parts es
served-parts s formed kinds others m [] [] needs all need served = tt
served-parts s formed kinds others m [] (e ∷ es) needs all need served = absurd all
served-parts s formed kinds others m (p ∷ ps) [] needs all need served = absurd all
served-parts s formed kinds others m (p ∷ ps) (e ∷ es) needs all (first, more, is, (f, named, fit), rest) served =
    let both : AreServed s others (first ++ more) = subst (Each (IsServed s others)) is served in
    let fe : f ≡ e = NamesEntity-one s formed.entities_distinct p.key f e named all.0.0 in
    let P : ℕ → Type 0 = λ x. FitPlaces s others m (own_places s x) p.params in (
      (all.0.0, subst P fe (served-places s others m (own_places s f) p.params first fit (Each-front (IsServed s others) first more both))),
      served-parts s formed kinds others m ps es more all.1 rest (Each-back (IsServed s others) first more both),
    )

parts-served : (s : Schema) → IsWellFormed s → (kinds : EntitySets) (m : Typed) (parts : List Part) (es : List ℕ) (needs : List Need) → AreNeedsOfParts s m parts needs → AllZip (PartMeans s kinds m) parts es → AreServed s kinds needs
parts-served s formed kinds m [] es needs need all = let P : List Need → Type 0 = λ ns. AreServed s kinds ns in subst P (sym need) tt
parts-served s formed kinds m (p ∷ ps) [] needs need all = absurd all
parts-served s formed kinds m (p ∷ ps) (e ∷ es) needs (first, more, is, (f, named, fit), rest) all =
    let ef : e ≡ f = NamesEntity-one s formed.entities_distinct p.key e f all.0.0 named in
    let P : ℕ → Type 0 = λ x. FitPlaces s kinds m (own_places s x) p.params in
    let Q : List Need → Type 0 = λ ns. AreServed s kinds ns in
    subst Q (sym is) (Each-append (IsServed s kinds) first more (places-served s formed kinds m (own_places s f) p.params first fit (subst P ef all.0.1)) (parts-served s formed kinds m ps es more rest all.1))

parts-needs : (s : Schema) (kinds : EntitySets) (m : Typed) (parts : List Part) (es : List ℕ) → AllZip (PartMeans s kinds m) parts es → (needs : List Need) × AreNeedsOfParts s m parts needs
parts-needs s kinds m [] es all = ([], refl)
parts-needs s kinds m (p ∷ ps) [] all = absurd all
parts-needs s kinds m (p ∷ ps) (e ∷ es) all =
    let (first, found) = places-needs s kinds m (own_places s e) p.params all.0.1 in
    let (more, others) = parts-needs s kinds m ps es all.1 in
    (first ++ more, (first, more, refl, (e, all.0.0, found), others))

served-mapping : (s : Schema) → IsWellFormed s → (kinds others : EntitySets) (r : Record) (m : Typed) (needs : List Need) → MeansByMapping s kinds r m → AreNeedsOfRecord s r m needs → AreServed s others needs → MeansByMapping s others r m
served-mapping s formed kinds others (simple part) m needs means (e, named, fit) served =
    let same : e ≡ means.entity = NamesEntity-one s formed.entities_distinct part.key e means.entity named means.named in
    let P : ℕ → Type 0 = λ x. FitPlaces s others m (places s x) part.params in
    record { entity = means.entity; named = means.named; closure = means.closure; fit = subst P same (served-places s others m (places s e) part.params needs fit served) }
served-mapping s formed kinds others (complex parts) m needs means need served = record {
  some_parts = means.some_parts;
  entities = means.entities;
  distinct = means.distinct;
  same_entities = means.same_entities;
  closed = means.closed;
  parts_mean = served-parts s formed kinds others m parts means.entities needs means.parts_mean need served;
}

mapping-served : (s : Schema) → IsWellFormed s → (kinds : EntitySets) (r : Record) (m : Typed) (needs : List Need) → AreNeedsOfRecord s r m needs → MeansByMapping s kinds r m → AreServed s kinds needs
mapping-served s formed kinds (simple part) m needs (e, named, fit) means =
    let same : means.entity ≡ e = NamesEntity-one s formed.entities_distinct part.key means.entity e means.named named in
    let P : ℕ → Type 0 = λ x. FitPlaces s kinds m (places s x) part.params in
    places-served s formed kinds m (places s e) part.params needs fit (subst P same means.fit)
mapping-served s formed kinds (complex parts) m needs need means = parts-served s formed kinds m parts means.entities needs need means.parts_mean

-- where the needs are served the record means the same, whatever sets serve them
pub served-means : (s : Schema) → IsWellFormed s → (r : Record) (m : Typed) (needs : List Need) → MeansWithNeeds s r m needs → (kinds : EntitySets) → Each (IsServed s kinds) needs → RecordMeans s kinds r m
served-means s formed r m needs is kinds served = record {
  rising = is.means.rising;
  own_counts = is.means.own_counts;
  no_abstract_leaf = is.means.no_abstract_leaf;
  no_clash = is.means.no_clash;
  place_types = is.means.place_types;
  means = served-mapping s formed is.kinds kinds r m needs is.means.means is.needs_are served;
}

-- and where it means that the needs are served
pub means-served : (s : Schema) → IsWellFormed s → (r : Record) (m : Typed) (needs : List Need) → MeansWithNeeds s r m needs → (kinds : EntitySets) → RecordMeans s kinds r m → Each (IsServed s kinds) needs
means-served s formed r m needs is kinds means = mapping-served s formed kinds r m needs is.needs_are means.means

-- what a record means it means with some needs
pub has-needs : (s : Schema) (kinds : EntitySets) (r : Record) (m : Typed) → RecordMeans s kinds r m → (needs : List Need) × MeansWithNeeds s r m needs
has-needs s kinds (simple part) m means =
    let (needs, found) = places-needs s kinds m (places s means.means.entity) part.params means.means.fit in
    (needs, record { kinds = kinds; means = means; needs_are = (means.means.entity, means.means.named, found) })
has-needs s kinds (complex parts) m means = let (needs, found) = parts-needs s kinds m parts means.means.entities means.means.parts_mean in (needs, record { kinds = kinds; means = means; needs_are = found })

-- ---- some sets serve the needs

abbrev pub CanServeEach : Schema → List Need → Type 0
CanServeEach s needs = Each (MayBeServed s) needs

mutual
  pub fits-servable : (s : Schema) (type : TypeUse) (p : Param) (v : Value) (needs : List Need) → FitsWithNeeds s type p v needs → CanServeEach s needs
  fits-servable s type p v needs (with_instance e n) = ((e ∷ [], Contains-first e []), tt)
  fits-servable s type p v needs (with_chosen_instance t n e offers) = ((e ∷ [], (e, offers, Contains-first e [])), tt)
  fits-servable s type p v needs (with_underlying t under _ _ _ is fit) = fits-servable s under p v needs fit
  fits-servable s type p v needs (with_chosen_type t u name q x _ offers named fit) = fits-servable s (schema.defined u) q x needs fit
  fits-servable s type p v needs (with_array _ _ optional _ element ps vs _ each _ _) = each-servable s optional element ps vs needs each
  fits-servable s type p v needs (with_list _ _ _ element ps vs _ each _ _) = each-servable s false element ps vs needs each
  fits-servable s type p v needs (with_set _ _ element ps vs _ each _ _) = each-servable s false element ps vs needs each
  fits-servable s type p v needs (with_bag _ _ element ps vs _ each _) = each-servable s false element ps vs needs each
  fits-servable s type p v needs other = tt

  pub each-servable : (s : Schema) (optional : Bool) (type : TypeUse) (ps : Params) (vs : Values) (needs : List Need) → FitEachWithNeeds s optional type ps vs needs → CanServeEach s needs
  each-servable s optional type ps vs needs (with_none _ _) = tt
  each-servable s optional type ps vs needs (with_next _ _ p v ps_ vs_ first more fit each) = Each-append (MayBeServed s) first more (fits-servable s type p v first fit) (each-servable s optional type ps_ vs_ more each)
  each-servable s optional type ps vs needs (with_empty _ ps_ vs_ _ each) = each-servable s true type ps_ vs_ needs each

at-servable : (s : Schema) (at : PlaceType) (p : Param) (v : Value) (needs : List Need) → FitsAtWithNeeds s at p v needs → CanServeEach s needs
at-servable s at p v needs with_star = tt
at-servable s at p v needs (with_dollar type) = tt
at-servable s at p v needs (with_fit _ type _ _ _ fit) = fits-servable s type p v needs fit

places-servable : (s : Schema) (m : Typed) (ps : List Place) (xs : Params) (needs : List Need) → FitPlacesWithNeeds s m ps xs needs → CanServeEach s needs
places-servable s m [] no_params needs fit = let P : List Need → Type 0 = λ ns. CanServeEach s ns in subst P (sym fit) tt
places-servable s m [] (param x xs) needs fit = absurd fit
places-servable s m (p ∷ ps) no_params needs fit = absurd fit
places-servable s m (p ∷ ps) (param x xs) needs (first, more, is, (at, v, type_at, fit, has), rest) =
    let P : List Need → Type 0 = λ ns. CanServeEach s ns in
    subst P (sym is) (Each-append (MayBeServed s) first more (at-servable s at x v first fit) (places-servable s m ps xs more rest))

served-later : (s : Schema) (kinds : EntitySets) (entry : ℕ × List ℕ) (needs : List Need) → AreServed s kinds needs → AreServed s (entry ∷ kinds) needs
served-later s kinds entry [] served = tt
served-later s kinds entry (need ∷ needs) served =
    let (entities, at, serves) = served.0 in
    ((entities, Contains-later entry kinds (need.target, entities) at, serves), served-later s kinds entry needs served.1)

pub assignment : (s : Schema) (needs : List Need) → CanServeEach s needs → (kinds : EntitySets) × Each (IsServed s kinds) needs
assignment s [] can = ([], tt)
assignment s (need ∷ needs) can =
    let (kinds, served) = assignment s needs can.1 in
    let entities : List ℕ = can.0.0 in
    ((need.target, entities) ∷ kinds, ((entities, Contains-first (need.target, entities) kinds, can.0.1), served-later s kinds (need.target, entities) needs served))

parts-servable : (s : Schema) (m : Typed) (parts : List Part) (needs : List Need) → AreNeedsOfParts s m parts needs → CanServeEach s needs
parts-servable s m [] needs need = let P : List Need → Type 0 = λ ns. CanServeEach s ns in subst P (sym need) tt
parts-servable s m (part ∷ parts) needs (first, more, is, (e, named, fit), rest) =
    let P : List Need → Type 0 = λ ns. CanServeEach s ns in
    subst P (sym is) (Each-append (MayBeServed s) first more (places-servable s m (own_places s e) part.params first fit) (parts-servable s m parts more rest))

record-servable : (s : Schema) (r : Record) (m : Typed) (needs : List Need) → AreNeedsOfRecord s r m needs → CanServeEach s needs
record-servable s (simple part) m needs (e, named, fit) = places-servable s m (places s e) part.params needs fit
record-servable s (complex parts) m needs need = parts-servable s m parts needs need

pub needs-can_be_served : (s : Schema) (r : Record) (m : Typed) (needs : List Need) → AreNeedsOfRecord s r m needs → (kinds : EntitySets) × Each (IsServed s kinds) needs
needs-can_be_served s r m needs need = assignment s needs (record-servable s r m needs need)

-- ---- the targets are the references

abbrev targets : List Need → List ℕ
targets needs = map (λ (need : Need). need.target) needs

joined : (first more needs : List Need) (ns ms : List ℕ) → needs ≡ first ++ more → targets first ≡ ns → targets more ≡ ms → targets needs ≡ ns ++ ms
joined first more needs ns ms is firsts mores = ap targets is ∙ map-append (λ (need : Need). need.target) first more ∙ ap (λ (xs : List ℕ). xs ++ targets more) firsts ∙ ap (λ (xs : List ℕ). ns ++ xs) mores

mutual
  fits-references : (s : Schema) (type : TypeUse) (p : Param) (v : Value) (needs : List Need) → FitsWithNeeds s type p v needs → targets needs ≡ param_references p
  fits-references s type p v needs (with_underlying t under _ _ _ is fit) = fits-references s under p v needs fit
  fits-references s type p v needs (with_chosen_type t u name q x _ offers named fit) = fits-references s (schema.defined u) q x needs fit
  fits-references s type p v needs (with_array _ _ optional _ element ps vs _ each _ _) = each-references s optional element ps vs needs each
  fits-references s type p v needs (with_list _ _ _ element ps vs _ each _ _) = each-references s false element ps vs needs each
  fits-references s type p v needs (with_set _ _ element ps vs _ each _ _) = each-references s false element ps vs needs each
  fits-references s type p v needs (with_bag _ _ element ps vs _ each _) = each-references s false element ps vs needs each
  fits-references s type p v needs other = refl

  each-references : (s : Schema) (optional : Bool) (type : TypeUse) (ps : Params) (vs : Values) (needs : List Need) → FitEachWithNeeds s optional type ps vs needs → targets needs ≡ references ps
  each-references s optional type ps vs needs (with_none _ _) = refl
  each-references s optional type ps vs needs (with_next _ _ p v ps_ vs_ first more fit each) =
      joined first more needs (param_references p) (references ps_) refl (fits-references s type p v first fit) (each-references s optional type ps_ vs_ more each)
  each-references s optional type ps vs needs (with_empty _ ps_ vs_ _ each) = each-references s true type ps_ vs_ needs each

at-references : (s : Schema) (at : PlaceType) (p : Param) (v : Value) (needs : List Need) → FitsAtWithNeeds s at p v needs → targets needs ≡ param_references p
at-references s at p v needs with_star = refl
at-references s at p v needs (with_dollar type) = refl
at-references s at p v needs (with_fit _ type _ _ _ fit) = fits-references s type p v needs fit

places-references : (s : Schema) (m : Typed) (ps : List Place) (xs : Params) (needs : List Need) → FitPlacesWithNeeds s m ps xs needs → targets needs ≡ references xs
places-references s m [] no_params needs fit = ap targets fit
places-references s m [] (param x xs) needs fit = absurd fit
places-references s m (p ∷ ps) no_params needs fit = absurd fit
places-references s m (p ∷ ps) (param x xs) needs (first, more, is, (at, v, type_at, fit, has), rest) =
    joined first more needs (param_references x) (references xs) is (at-references s at x v first fit) (places-references s m ps xs more rest)

parts-references : (s : Schema) (m : Typed) (parts : List Part) (needs : List Need) → AreNeedsOfParts s m parts needs → targets needs ≡ record_references (complex parts)
parts-references s m [] needs need = ap targets need
parts-references s m (part ∷ parts) needs (first, more, is, (e, named, fit), rest) =
    joined first more needs (references part.params) (record_references (complex parts)) is (places-references s m (own_places s e) part.params first fit) (parts-references s m parts more rest)

pub needs-references : (s : Schema) (r : Record) (m : Typed) (needs : List Need) → AreNeedsOfRecord s r m needs → targets needs ≡ record_references r
needs-references s (simple part) m needs (e, named, fit) = places-references s m (places s e) part.params needs fit
needs-references s (complex parts) m needs need = parts-references s m parts needs need
