-- A record with other names means the meaning with these names.
use Rattle.std.specs.Prelude.{◌≡◌, ◌≢◌, ℕ, suc, zero, Bool, true, false, List, [], ◌∷◌, map, Contains, Some, refl}
use Rattle.std.specs.List.{AllZip, flat_map, zip}
use Rattle.std.proofs.Common.{arith, ap, sym, subst, ◌∙◌, inl, inr}
use Rattle.std.proofs.lemmas.List.{length-map}
use Rattle.std.proofs.lemmas.List.Elements.{Contains-append_left, Contains-append_right}
use Rattle.p21_spec_basics.proofs.Members.{Contains-none, Contains-first, Contains-later, Contains-cases, Contains-flat_map}
use Rattle.p21_spec_exchange.specs.Parameter.{Param, Params, no_params, param}
use Rattle.p21_spec_exchange.specs.Record.{Part, Record, simple, complex}
use Rattle.p21_spec_file.specs.Fits.{Fits, a_whole, a_real, a_number, a_whole_number, a_boolean, a_logical, a_text, a_binary, an_instance, as_underlying, an_item, a_chosen_instance, a_chosen_type, an_array, a_list, a_set, a_bag, FitEach, none_left, fits_next, empty_next, FitsAt, star as at_derived, dollar as at_empty, fits, IsWithinBounds}
use Rattle.p21_spec_file.specs.Meaning.{Typed, FitPlaces, PartMeans, MeansByMapping, HasOwnCount, RecordMeans}
use Rattle.p21_spec_file.specs.Reference.{EntitySets}
use Rattle.p21_spec_file.specs.SameValue.{Among, AreDistinct}
use Rattle.p21_spec_file.specs.Value.{Value, missing, Values, no_values, value, count, value_at}
use Rattle.p21_spec_schema.specs.Order.{places, own_places}
use Rattle.p21_spec_schema.specs.PlaceType.{PlaceType}
use Rattle.p21_spec_schema.specs.Schema as schema
use Rattle.p21_spec_schema.specs.Schema.{Schema, TypeUse, Place}
use Rattle.p21_spec_numbering.proofs.Renaming.{Among-renamed, value-twice, values-twice, value-kept, values-kept}
use Rattle.p21_spec_numbering.specs.Renamed.{renamed_value, renamed_values, renamed_typed, targets, targets_in}
use Rattle.p21_spec_numbering.specs.RenamedRecord.{renamed_param, renamed_params, renamed_part, renamed_record}

-- the second undoes the first at these names
abbrev pub Undoes : (ℕ → ℕ) → (ℕ → ℕ) → List ℕ → Type 0
Undoes g f ts = (t : ℕ) → Contains ts t → g (f t) ≡ t

-- the instances have the sets that they had under their old names
abbrev pub HaveSets : (ℕ → ℕ) → EntitySets → EntitySets → Type 0
HaveSets f kinds others = (n : ℕ) (es : List ℕ) → Contains kinds (n, es) → Contains others (f n, es)

count-renamed : (f : ℕ → ℕ) (vs : Values) → count (renamed_values f vs) ≡ count vs
count-renamed f no_values = refl
count-renamed f (value v vs) = ap suc (count-renamed f vs)

missing-renamed : (f : ℕ → ℕ) (v : Value) → v ≡ missing → renamed_value f v ≡ missing
missing-renamed f v is = ap (renamed_value f) is

distinct-renamed : (f g : ℕ → ℕ) (vs : Values) → Undoes g f (targets_in vs) → AreDistinct vs → AreDistinct (renamed_values f vs)
distinct-renamed f g no_values undoes distinct = tt
distinct-renamed f g (value v vs) undoes distinct = (none, distinct-renamed f g vs rest distinct.1)
  where
    rest : Undoes g f (targets_in vs)
    rest t among = undoes t (Contains-append_right (targets v) (targets_in vs) t among)

    none : renamed_value f v ≢ missing → ¬ Among (renamed_value f v) (renamed_values f vs)
    none some among =
        let P : Value → Type 0 = λ u. Among u (renamed_values g (renamed_values f vs)) in
        let Q : Values → Type 0 = λ us. Among v us in
        let one : renamed_value g (renamed_value f v) ≡ v = value-twice f g (λ n. n) v (λ t at. undoes t (Contains-append_left (targets v) (targets_in vs) t at)) ∙ value-kept v in
        let others : renamed_values g (renamed_values f vs) ≡ vs = values-twice f g (λ n. n) vs rest ∙ values-kept vs in
        distinct.0 (λ is. some (missing-renamed f v is)) (subst Q others (subst P one (Among-renamed g (renamed_value f v) (renamed_values f vs) among)))

mutual
  fits-renamed : (s : Schema) (kinds others : EntitySets) (f g : ℕ → ℕ) → HaveSets f kinds others
      → (type : TypeUse) (p : Param) (v : Value) → Fits s kinds type p v → Undoes g f (targets v)
      → Fits s others type (renamed_param f p) (renamed_value f v)
  fits-renamed s kinds others f g sets type p v (a_whole z) undoes = a_whole z
  fits-renamed s kinds others f g sets type p v (a_real d) undoes = a_real d
  fits-renamed s kinds others f g sets type p v (a_number d) undoes = a_number d
  fits-renamed s kinds others f g sets type p v (a_whole_number z d reduced range ratio) undoes = a_whole_number z d reduced range ratio
  fits-renamed s kinds others f g sets type p v (a_boolean word among) undoes = a_boolean word among
  fits-renamed s kinds others f g sets type p v (a_logical word among) undoes = a_logical word among
  fits-renamed s kinds others f g sets type p v (a_text width chars within) undoes = a_text width chars within
  fits-renamed s kinds others f g sets type p v (a_binary width bs within) undoes = a_binary width bs within
  fits-renamed s kinds others f g sets type p v (an_instance e n served) undoes =
      an_instance e (f n) (served.0, sets n served.0 served.1, served.2)
  fits-renamed s kinds others f g sets type p v (as_underlying t under _ _ is fit) undoes =
      as_underlying t under (renamed_param f p) (renamed_value f v) is (fits-renamed s kinds others f g sets under p v fit undoes)
  fits-renamed s kinds others f g sets type p v (an_item t words word is among) undoes = an_item t words word is among
  fits-renamed s kinds others f g sets type p v (a_chosen_instance t n served) undoes =
      a_chosen_instance t (f n) (served.0, sets n served.0 served.1, served.2)
  fits-renamed s kinds others f g sets type p v (a_chosen_type t u word q x offers named fit) undoes =
      a_chosen_type t u word (renamed_param f q) (renamed_value f x) offers named (fits-renamed s kinds others f g sets (schema.defined u) q x fit undoes)
  fits-renamed s kinds others f g sets type p v (an_array low high optional unique element ps vs each long differ) undoes =
      an_array low high optional unique element (renamed_params f ps) (renamed_values f vs) (fit_each-renamed s kinds others f g sets optional element ps vs each undoes)
      (let same = count-renamed f vs in omega (arith, long, same)) (λ wanted. distinct-renamed f g vs undoes (differ wanted))
  fits-renamed s kinds others f g sets type p v (a_list low high unique element ps vs each within differ) undoes =
      let P : ℕ → Type 0 = IsWithinBounds low high in
      a_list low high unique element (renamed_params f ps) (renamed_values f vs) (fit_each-renamed s kinds others f g sets false element ps vs each undoes)
      (subst P (sym (count-renamed f vs)) within) (λ wanted. distinct-renamed f g vs undoes (differ wanted))
  fits-renamed s kinds others f g sets type p v (a_set low high element ps vs each within differ) undoes =
      let P : ℕ → Type 0 = IsWithinBounds low high in
      a_set low high element (renamed_params f ps) (renamed_values f vs) (fit_each-renamed s kinds others f g sets false element ps vs each undoes) (subst P (sym (count-renamed f vs)) within) (distinct-renamed f g vs undoes differ)
  fits-renamed s kinds others f g sets type p v (a_bag low high element ps vs each within) undoes =
      let P : ℕ → Type 0 = IsWithinBounds low high in
      a_bag low high element (renamed_params f ps) (renamed_values f vs) (fit_each-renamed s kinds others f g sets false element ps vs each undoes) (subst P (sym (count-renamed f vs)) within)

  fit_each-renamed : (s : Schema) (kinds others : EntitySets) (f g : ℕ → ℕ) → HaveSets f kinds others
      → (optional : Bool) (type : TypeUse) (ps : Params) (vs : Values) → FitEach s kinds optional type ps vs
      → Undoes g f (targets_in vs)
      → FitEach s others optional type (renamed_params f ps) (renamed_values f vs)
  fit_each-renamed s kinds others f g sets optional type ps vs (none_left _ _) undoes = none_left optional type
  fit_each-renamed s kinds others f g sets optional type ps vs (fits_next _ _ p v ps_ vs_ fit each) undoes =
      fits_next optional type (renamed_param f p) (renamed_value f v) (renamed_params f ps_) (renamed_values f vs_)
      (fits-renamed s kinds others f g sets type p v fit (λ t among. undoes t (Contains-append_left (targets v) (targets_in vs_) t among)))
      (fit_each-renamed s kinds others f g sets optional type ps_ vs_ each (λ t among. undoes t (Contains-append_right (targets v) (targets_in vs_) t among)))
  fit_each-renamed s kinds others f g sets optional type ps vs (empty_next _ ps_ vs_ each) undoes = empty_next type (renamed_params f ps_) (renamed_values f vs_) (fit_each-renamed s kinds others f g sets true type ps_ vs_ each undoes)

at-renamed : (s : Schema) (kinds others : EntitySets) (f g : ℕ → ℕ) → HaveSets f kinds others → (at : PlaceType) (p : Param) (v : Value)
    → FitsAt s kinds at p v → Undoes g f (targets v) → FitsAt s others at (renamed_param f p) (renamed_value f v)
at-renamed s kinds others f g sets at p v at_derived undoes = at_derived
at-renamed s kinds others f g sets at p v (at_empty type) undoes = at_empty type
at-renamed s kinds others f g sets at p v (fits optional type _ _ fit) undoes =
    fits optional type (renamed_param f p) (renamed_value f v) (fits-renamed s kinds others f g sets type p v fit undoes)

-- ---- at places

value_at-renamed : (f : ℕ → ℕ) (vs : Values) (i : ℕ) (v : Value) → value_at vs i ≡ Some v
    → value_at (renamed_values f vs) i ≡ Some (renamed_value f v)
value_at-renamed f no_values i v at = cc
value_at-renamed f (value w vs) zero v at = let same : w ≡ v = cc in ap (λ (u : Value). Some (renamed_value f u)) same
value_at-renamed f (value w vs) (suc i) v at = value_at-renamed f vs i v at

value_at-target : (vs : Values) (i : ℕ) (v : Value) → value_at vs i ≡ Some v → (t : ℕ) → Contains (targets v) t → Contains (targets_in vs) t
value_at-target no_values i v at t among = cc
value_at-target (value w vs) zero v at t among =
    let same : w ≡ v = cc in
    let P : Value → Type 0 = λ u. Contains (targets u) t in
    Contains-append_left (targets w) (targets_in vs) t (subst P (sym same) among)
value_at-target (value w vs) (suc i) v at t among = Contains-append_right (targets w) (targets_in vs) t (value_at-target vs i v at t among)

zip-renamed : (f : ℕ → ℕ) (es : List ℕ) (rows : List Values) (e : ℕ) (vs : Values) → Contains (zip es rows) (e, vs)
    → Contains (zip es (map (renamed_values f) rows)) (e, renamed_values f vs)
zip-renamed f [] rows e vs among = absurd (Contains-none (e, vs) among)
zip-renamed f (x ∷ xs) [] e vs among = absurd (Contains-none (e, vs) among)
zip-renamed f (x ∷ xs) (w ∷ ws) e vs among = elim (Contains-cases (x, w) (zip xs ws) (e, vs) among) [
  | inl h ↦
      let renaming : ℕ × Values → ℕ × Values = λ i. (i.0, renamed_values f i.1) in
      let P : ℕ × Values → Type 0 = λ i. Contains ((x, renamed_values f w) ∷ zip xs (map (renamed_values f) ws)) i in
      subst P (ap renaming h) (Contains-first (x, renamed_values f w) (zip xs (map (renamed_values f) ws)))
  | inr h ↦ Contains-later (x, renamed_values f w) (zip xs (map (renamed_values f) ws)) (e, renamed_values f vs) (zip-renamed f xs ws e vs h)
]

zip-row : (es : List ℕ) (rows : List Values) (e : ℕ) (vs : Values) → Contains (zip es rows) (e, vs) → Contains rows vs
zip-row [] rows e vs among = absurd (Contains-none (e, vs) among)
zip-row (x ∷ xs) [] e vs among = absurd (Contains-none (e, vs) among)
zip-row (x ∷ xs) (w ∷ ws) e vs among = elim (Contains-cases (x, w) (zip xs ws) (e, vs) among) [
  | inl h ↦ (let P : Values → Type 0 = λ u. Contains (w ∷ ws) u in subst P (ap (λ (i : ℕ × Values). i.1) h) (Contains-first w ws))
  | inr h ↦ Contains-later w ws vs (zip-row xs ws e vs h)
]

counts-renamed : (s : Schema) (f : ℕ → ℕ) (es : List ℕ) (rows : List Values) → AllZip (HasOwnCount s) es rows
    → AllZip (HasOwnCount s) es (map (renamed_values f) rows)
counts-renamed s f [] [] all = tt
counts-renamed s f [] (w ∷ ws) all = absurd all
counts-renamed s f (e ∷ es) [] all = absurd all
counts-renamed s f (e ∷ es) (w ∷ ws) all = (count-renamed f w ∙ all.0, counts-renamed s f es ws all.1)

module _ (s : Schema) (kinds others : EntitySets) (f g : ℕ → ℕ) (sets : HaveSets f kinds others) (m : Typed) (undoes : Undoes g f (flat_map targets_in m.values)) where
  places-renamed : (ps : List Place) (params : Params) → FitPlaces s kinds m ps params
      → FitPlaces s others (renamed_typed f m) ps (renamed_params f params)
  places-renamed [] no_params fit = tt
  places-renamed [] (param p ps) fit = absurd fit
  places-renamed (place ∷ ps) no_params fit = absurd fit
  places-renamed (place ∷ ps) (param p params) ((at, v, type_at, fit, (vs, row, found)), more) = (
    (
      at,
      renamed_value f v,
      type_at,
      at-renamed s kinds others f g sets at p v fit (λ t among. undoes t (Contains-flat_map targets_in m.values vs t (zip-row m.entities m.values place.entity vs row) (value_at-target vs place.index v found t among))),
      (renamed_values f vs, zip-renamed f m.entities m.values place.entity vs row, value_at-renamed f vs place.index v found),
    ),
    places-renamed ps params more,
  )

  parts-renamed : (parts : List Part) (es : List ℕ) → AllZip (PartMeans s kinds m) parts es
      → AllZip (PartMeans s others (renamed_typed f m)) (map (renamed_part f) parts) es
  parts-renamed [] [] all = tt
  parts-renamed [] (e ∷ es) all = absurd all
  parts-renamed (part ∷ parts) [] all = absurd all
  parts-renamed (part ∷ parts) (e ∷ es) all = ((all.0.0, places-renamed (own_places s e) part.params all.0.1), parts-renamed parts es all.1)

  mapping-renamed : (r : Record) → MeansByMapping s kinds r m → MeansByMapping s others (renamed_record f r) (renamed_typed f m)
  mapping-renamed (simple part) means = record { entity = means.entity; named = means.named; closure = means.closure; fit = places-renamed (places s means.entity) part.params means.fit }
  mapping-renamed (complex parts) means = record {
    some_parts = let long = length-map parts (renamed_part f) in omega (arith, long, means.some_parts);
    entities = means.entities;
    distinct = means.distinct;
    same_entities = means.same_entities;
    closed = means.closed;
    parts_mean = parts-renamed parts means.entities means.parts_mean;
  }

  -- so the renamed meaning is meant by some record, too
  pub record-renamed : (r : Record) → RecordMeans s kinds r m → RecordMeans s others (renamed_record f r) (renamed_typed f m)
  record-renamed r means = record {
    rising = means.rising;
    own_counts = counts-renamed s f m.entities m.values means.own_counts;
    no_abstract_leaf = means.no_abstract_leaf;
    no_clash = means.no_clash;
    place_types = means.place_types;
    means = mapping-renamed r means.means;
  }
