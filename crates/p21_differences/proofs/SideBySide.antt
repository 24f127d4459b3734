-- The rows of two canonical records of one set of entities: they have the same places, and the texts at a place are equal exactly if the
-- values are the same.
use Rattle.std.specs.Prelude.{◌≡◌, ◌↔◌, ℕ, List, [], ◌∷◌, ◌++◌, length, map, Contains, refl}
use Rattle.std.specs.List.{AllZip, flat_map, zip, AllByRecursion as Each}
use Rattle.std.proofs.Common.{arith, ap, sym, subst, ◌∙◌, inl, inr}
use Rattle.std.proofs.lemmas.List.{map-append}
use Rattle.p21_differences.proofs.EntityLists.{lists-same, sets-same}
use Rattle.p21_differences.specs.OtherValues.{AreParamsAt, HaveOtherAt, TellsDifferences}
use Rattle.p21_differences.specs.declared.values.OtherValues.{OtherValues}
use Rattle.p21_express_graph.specs.Resolved.{HoldsTogether}
use Rattle.p21_model.proofs.EntitySets.{has-set}
use Rattle.p21_model.proofs.Meanings.{told}
use Rattle.p21_model.specs.EntitiesLeft.{AreEntitiesOf, ArePartEntities}
use Rattle.p21_model.specs.Left.{TellsRows}
use Rattle.p21_model.specs.Rows.{ArePartRows, ArePartsRows, AreRowsOf, Row}
use Rattle.p21_spec_basics.proofs.Members.{Contains-first, Contains-later, Contains-cases, Contains-none, Contains-flat_map, Contains-zip, Each-append, Each-member}
use Rattle.p21_spec_basics.proofs.Shuffles.{NoneTwice}
use Rattle.p21_spec_differences.proofs.NearValues.{param-once}
use Rattle.p21_spec_differences.proofs.Values.{IsMeantBy, entities-once, value-placed}
use Rattle.p21_spec_differences.specs.Difference.{HasOtherValue}
use Rattle.p21_spec_differences.specs.Near.{IsOneParamAt, IsParamAt}
use Rattle.p21_spec_exchange.specs.CanonicalText.{param_text}
use Rattle.p21_spec_exchange.specs.Parameter.{Param, Params, no_params, param, listed}
use Rattle.p21_spec_exchange.specs.Record.{Part, Record, simple, complex, record_tokens}
use Rattle.p21_spec_exchange.specs.Token.{IsSpelled, right}
use Rattle.p21_spec_file.proofs.OneMeaning.{NamesEntity-one}
use Rattle.p21_spec_file.proofs.Sameness.{Same-reflexive}
use Rattle.p21_spec_file.specs.CanonicalRecord.{AreCanonicalAt, IsCanonicalParam, IsCanonicalPart, IsCanonicalRecord}
use Rattle.p21_spec_file.specs.CanonicalTexts.{IsInstanceText}
use Rattle.p21_spec_file.specs.Fits.{FitsAt}
use Rattle.p21_spec_file.specs.Meaning.{FitPlaces, FitsPlace, HasValueAt, NamesEntity, PartMeans, RecordMeans, Typed}
use Rattle.p21_spec_file.specs.Reference.{EntitySets}
use Rattle.p21_spec_file.specs.SameValue.{Same}
use Rattle.p21_spec_file.specs.Value.{Value}
use Rattle.p21_spec_file.specs.ValueText.{value_text}
use Rattle.p21_spec_laws.proofs.CanonicalValue.{canonical_at-text}
use Rattle.p21_spec_laws.proofs.InstanceTexts.{canonical-written}
use Rattle.p21_spec_laws.proofs.OfType.{AreWritten}
use Rattle.p21_spec_laws.proofs.RecordOnce.{complex-written, part-written, value-once}
use Rattle.p21_spec_laws.proofs.SameTexts.{same-exactly_texts_at}
use Rattle.p21_spec_laws.specs.Written.{IsWritten}
use Rattle.p21_spec_schema.proofs.PlaceTypes.{TypeAt-one}
use Rattle.p21_spec_schema.specs.Order.{places, own_places}
use Rattle.p21_spec_schema.specs.PlaceType.{PlaceType, TypeAt}
use Rattle.p21_spec_schema.specs.Schema.{Place, Schema}
use Rattle.p21_spec_schema.specs.WellFormed.{IsWellFormed}

-- ---- the places of rows

abbrev pub row_places : List Row → List Place
row_places rows = map (λ (row : Row). row.0) rows

zip-places : (ps : List Place) (xs : List Param) → length ps ≡ length xs → row_places (zip ps xs) ≡ ps
zip-places [] [] many = refl
zip-places [] (x ∷ xs) many = absurd (omega (arith, many))
zip-places (p ∷ ps) [] many = absurd (omega (arith, many))
zip-places (p ∷ ps) (x ∷ xs) many = ap (λ (qs : List Place). p ∷ qs) (zip-places ps xs (omega (arith, many)))

part-places : (s : Schema) → IsWellFormed s → (places_of : ℕ → List Place) (part : Part) (rows : List Row) (e : ℕ)
    → ArePartRows s places_of part rows → NamesEntity s part.key e → row_places rows ≡ places_of e
part-places s formed places_of part rows e are named =
    ap row_places are.rows_are ∙ zip-places (places_of are.entity) (listed part.params) are.as_many
    ∙ ap places_of (NamesEntity-one s formed.entities_distinct part.key are.entity e are.named named)

parts-places : (s : Schema) → IsWellFormed s → (parts : List Part) (rows : List Row) (es : List ℕ) → ArePartsRows s parts rows
    → ArePartEntities s parts es → row_places rows ≡ flat_map (own_places s) es
parts-places s formed [] rows es are named = ap row_places are ∙ sym (ap (flat_map (own_places s)) named)
parts-places s formed (part ∷ parts) rows es (own, more, first, later, is) (e, es_, named, named_, es_is) =
    ap row_places is ∙ map-append (λ (row : Row). row.0) own more
    ∙ ap (λ (ps : List Place). ps ++ row_places more) (part-places s formed (own_places s) part own e first named)
    ∙ ap (λ (ps : List Place). own_places s e ++ ps) (parts-places s formed parts more es_ later named_)
    ∙ sym (ap (flat_map (own_places s)) es_is)

-- those of the entities of the record, in its order
record-places : (s : Schema) → IsWellFormed s → (r : Record) (rows : List Row) (es : List ℕ) → AreRowsOf s r rows → AreEntitiesOf s r es
    → row_places rows ≡ flat_map (own_places s) es
record-places s formed (simple part) rows es are (e, named, is) = part-places s formed (places s) part rows e are named
    ∙ sym (ap (flat_map (own_places s)) is)
record-places s formed (complex parts) rows es are named = parts-places s formed parts rows es are named

-- ---- what each row says

pub record IsGoodRow (s : Schema) (kinds : EntitySets) (m : Typed) (row : Row) : Type 0 where
  pub fit : FitsPlace s kinds m row.0 row.1
  pub written : IsWritten row.1
  pub meant : (v : Value) × HasValueAt m row.0 v × IsCanonicalParam row.1 v

good-zip : (s : Schema) (kinds : EntitySets) (m : Typed) (ps : List Place) (xs : Params) → FitPlaces s kinds m ps xs
    → AreCanonicalAt m ps xs → AreWritten xs → Each (IsGoodRow s kinds m) (zip ps (listed xs))
good-zip s kinds m [] no_params fit canonical written = tt
good-zip s kinds m [] (param x xs) fit canonical written = absurd fit
good-zip s kinds m (p ∷ ps) no_params fit canonical written = absurd fit
good-zip s kinds m (p ∷ ps) (param x xs) fit canonical written =
    (record { fit = fit.0; written = written.0; meant = canonical.0 }, good-zip s kinds m ps xs fit.1 canonical.1 written.1)

good-part : (s : Schema) → IsWellFormed s → (kinds : EntitySets) (m : Typed) (places_of : ℕ → List Place) (part : Part) (rows : List Row)
    (e f : ℕ) → ArePartRows s places_of part rows → NamesEntity s part.key e → FitPlaces s kinds m (places_of e) part.params
    → NamesEntity s part.key f → AreCanonicalAt m (places_of f) part.params → AreWritten part.params → Each (IsGoodRow s kinds m) rows
good-part s formed kinds m places_of part rows e f are named fit named_ canonical written =
    let F : ℕ → Type 0 = λ g. FitPlaces s kinds m (places_of g) part.params in
    let C : ℕ → Type 0 = λ g. AreCanonicalAt m (places_of g) part.params in
    let own = are.entity in
    let from : e ≡ own = NamesEntity-one s formed.entities_distinct part.key e own named are.named in
    let from_ : f ≡ own = NamesEntity-one s formed.entities_distinct part.key f own named_ are.named in
    subst (Each (IsGoodRow s kinds m)) (sym are.rows_are)
    (good-zip s kinds m (places_of own) part.params (subst F from fit) (subst C from_ canonical) written)

good-parts : (s : Schema) → IsWellFormed s → (kinds : EntitySets) (m : Typed) (parts : List Part) (rows : List Row) (es : List ℕ)
    → ArePartsRows s parts rows → AllZip (PartMeans s kinds m) parts es → Each (IsCanonicalPart s m) parts
    → Each (λ (part : Part). AreWritten part.params) parts → Each (IsGoodRow s kinds m) rows
good-parts s formed kinds m [] rows es are all canonical written = subst (Each (IsGoodRow s kinds m)) (sym are) tt
good-parts s formed kinds m (part ∷ parts) rows [] are all canonical written = absurd all
good-parts s formed kinds m (part ∷ parts) rows (e ∷ es) (own, more, first, later, is) all ((f, named, at), canonical) written =
    subst (Each (IsGoodRow s kinds m)) (sym is) (Each-append (IsGoodRow s kinds m) own more
    (good-part s formed kinds m (own_places s) part own e f first all.0.0 all.0.1 named at written.0)
    (good-parts s formed kinds m parts more es later all.1 canonical written.1))

good-rows : (s : Schema) → IsWellFormed s → (kinds : EntitySets) (m : Typed) (r : Record) (rows : List Row) → RecordMeans s kinds r m
    → IsCanonicalRecord s r m → Each IsSpelled (record_tokens r) → AreRowsOf s r rows → Each (IsGoodRow s kinds m) rows
good-rows s formed kinds m (simple part) rows means canonical spelled are =
    good-part s formed kinds m (places s) part rows means.means.entity canonical.params.0 are means.means.named means.means.fit
    canonical.params.1 canonical.params.2 (part-written part spelled)
good-rows s formed kinds m (complex parts) rows means canonical spelled are =
    good-parts s formed kinds m parts rows means.means.entities are means.means.parts_mean canonical.params
    (complex-written parts (right ∷ []) spelled.1)

-- its parameter is the canonical one of the value at its place
good-param : (s : Schema) → IsWellFormed s → (kinds : EntitySets) (m : Typed) → IsMeantBy s kinds m → (place : Place) (p : Param)
    → IsGoodRow s kinds m (place, p) → IsOneParamAt s m place p
good-param s formed kinds m once place p good = record { is = is; one = λ q other. param-once s formed m none place p q is other }
  where
    none : NoneTwice m.entities
    none = entities-once s kinds m once

    by : FitsPlace s kinds m place p → IsParamAt s m place p
    by (at, v, type_at, fit, has) = record {
      kinds = kinds;
      at = at;
      v = v;
      type_at = type_at;
      has = has;
      canonical = record {
        value = v;
        fit = fit;
        written = good.written;
        canonical = subst (IsCanonicalParam p) (value-once m none place good.meant.0 v good.meant.1 has) good.meant.2;
        same = Same-reflexive v;
      };
    }

    is : IsParamAt s m place p
    is = by good.fit

-- ---- rows beside rows

-- a member beside another one
zip-first : (xs ys : List Row) (x y : Row) → Contains (zip xs ys) (x, y) → Contains xs x
zip-first xs ys x y among = Contains-zip xs ys x y among

zip-second : (xs ys : List Row) (x y : Row) → Contains (zip xs ys) (x, y) → Contains ys y
zip-second [] ys x y among = absurd (Contains-none (x, y) among)
zip-second (u ∷ us) [] x y among = absurd (Contains-none (x, y) among)
zip-second (u ∷ us) (v ∷ vs) x y among = elim (Contains-cases (u, v) (zip us vs) (x, y) among) [
  | inl same ↦ let P : Row → Type 0 = λ w. Contains (v ∷ vs) w in subst P (ap (λ (i : Row × Row). i.1) same) (Contains-first v vs)
  | inr later ↦ Contains-later v vs y (zip-second us vs x y later)
]

-- what stands beside a place, where both have the same places
record StandsBeside (xs ys : List Row) (place : Place) : Type 0 where
  p : Param
  q : Param
  among : Contains (zip xs ys) ((place, p), (place, q))

beside-place : (xs ys : List Row) → row_places xs ≡ row_places ys → (place : Place) → Contains (row_places xs) place
    → StandsBeside xs ys place
beside-place [] ys same place among = absurd (Contains-none place among)
beside-place (x ∷ xs) [] same place among = absurd (let none : x.0 ∷ row_places xs ≡ [] = same in cc)
beside-place (x ∷ xs) (y ∷ ys) same place among =
    let first : x.0 ≡ y.0 = cc in
    let rest : row_places xs ≡ row_places ys = cc in
    elim (Contains-cases x.0 (row_places xs) place among) [
      | inl is ↦
          let P : Place → Type 0 = λ u. Contains ((x, y) ∷ zip xs ys) ((u, x.1), y) in
          let Q : Place → Type 0 = λ u. Contains ((x, y) ∷ zip xs ys) ((place, x.1), (u, y.1)) in
          record { p = x.1; q = y.1; among = subst Q (sym first ∙ is) (subst P is (Contains-first (x, y) (zip xs ys))) }
      | inr later ↦
          let found = beside-place xs ys rest place later in
          record { p = found.p; q = found.q; among = Contains-later (x, y) (zip xs ys) ((place, found.p), (place, found.q)) found.among }
    ]

-- ---- the two records

module _ (s : Schema) (formed : IsWellFormed s) (kinds others : EntitySets) (a b : Typed) (once : IsMeantBy s kinds a)
    (once_ : IsMeantBy s others b) (set : a.entities ≡ b.entities) where
  -- the texts of good rows at one place tell whether the values are the same
  texts-tell : (place : Place) (p q : Param) (v w : Value) → IsGoodRow s kinds a (place, p) → IsGoodRow s others b (place, q)
      → HasValueAt a place v → HasValueAt b place w → Same v w ↔ (param_text p ≡ param_text q)
  texts-tell place p q v w good good_ has has_ = by good.fit good_.fit
    where
      none : NoneTwice a.entities
      none = entities-once s kinds a once

      none_ : NoneTwice b.entities
      none_ = entities-once s others b once_

      by : FitsPlace s kinds a place p → FitsPlace s others b place q → Same v w ↔ (param_text p ≡ param_text q)
      by (at, x, type_at, fit, has_x) (at_, y, type_at_, fit_, has_y) =
          let v_is : x ≡ v = value-once a none place x v has_x has in
          let w_is : y ≡ w = value-once b none_ place y w has_y has_ in
          let T : List ℕ → Type 0 = λ es. TypeAt s es place at_ in
          let one_type : at_ ≡ at = TypeAt-one s formed.supertypes_end formed.redeclares_once a.entities place at_ at
          (subst T (sym set) type_at_) type_at in
          let F : Value → Type 0 = λ u. FitsAt s kinds at p u in
          let G : Value → Type 0 = λ u. FitsAt s others at q u in
          let H : PlaceType → Type 0 = λ t. FitsAt s others t q y in
          let fits_v : FitsAt s kinds at p v = subst F v_is fit in
          let fits_w : FitsAt s others at q w = subst G w_is (subst H one_type fit_) in
          let tell = same-exactly_texts_at s formed.types_distinct kinds others at p q v w fits_v fits_w good.written good_.written in
          let p_is : param_text p ≡ value_text s v = canonical_at-text s kinds at p v fits_v
          (subst (IsCanonicalParam p) (value-once a none place good.meant.0 v good.meant.1 has) good.meant.2) in
          let q_is : param_text q ≡ value_text s w = canonical_at-text s others at q w fits_w
          (subst (IsCanonicalParam q) (value-once b none_ place good_.meant.0 w good_.meant.1 has_) good_.meant.2) in
          (λ same. p_is ∙ tell.0 same ∙ sym q_is, λ same. tell.1 (sym p_is ∙ same ∙ q_is))

  pub rows-differ : (xs ys : List Row) → Each (IsGoodRow s kinds a) xs → Each (IsGoodRow s others b) ys → row_places xs ≡ row_places ys
      → ((place : Place) (v : Value) → HasValueAt a place v → Contains (row_places xs) place)
      → (place : Place) → HaveOtherAt xs ys place ↔ HasOtherValue a b place
  rows-differ xs ys good good_ same covers place = (there, back)
    where
      at-first : (p q : Param) → Contains (zip xs ys) ((place, p), (place, q)) → IsGoodRow s kinds a (place, p)
      at-first p q among = Each-member (IsGoodRow s kinds a) xs (place, p) good (zip-first xs ys (place, p) (place, q) among)

      at-second : (p q : Param) → Contains (zip xs ys) ((place, p), (place, q)) → IsGoodRow s others b (place, q)
      at-second p q among = Each-member (IsGoodRow s others b) ys (place, q) good_ (zip-second xs ys (place, p) (place, q) among)

      there : HaveOtherAt xs ys place → HasOtherValue a b place
      there (p, q, among, differ) =
          let first = at-first p q among in
          let second = at-second p q among in (
            first.meant.0,
            second.meant.0,
            first.meant.1,
            second.meant.1,
            λ alike. differ ((texts-tell place p q first.meant.0 second.meant.0 first second first.meant.1 second.meant.1).0 alike),
          )

      back : HasOtherValue a b place → HaveOtherAt xs ys place
      back (v, w, has, has_, differ) =
          let found = beside-place xs ys same place (covers place v has) in (
            found.p,
            found.q,
            found.among,
            λ equal. differ ((texts-tell place found.p found.q v w (at-first found.p found.q found.among)
                (at-second found.p found.q found.among) has has_).1 equal),
          )

  pub rows-stand : (xs ys : List Row) → Each (IsGoodRow s kinds a) xs → Each (IsGoodRow s others b) ys → AreParamsAt s a b xs ys
  rows-stand xs ys good good_ place p q among = (
    good-param s formed kinds a once place p
        (Each-member (IsGoodRow s kinds a) xs (place, p) good (zip-first xs ys (place, p) (place, q) among)),
    good-param s formed others b once_ place q
        (Each-member (IsGoodRow s others b) ys (place, q) good_ (zip-second xs ys (place, p) (place, q) among)),
  )

-- ---- two lines

abbrev meant-by : (s : Schema) (n : ℕ) (r : Record) (line : List ℕ) (stated : IsInstanceText s n r line)
    → IsMeantBy s stated.kinds stated.canonical_meaning
meant-by s n r line stated = record {
  record_ = stated.canonical;
  means = stated.canonical_means;
  spelled =
      canonical-written s n r line stated;
}

module _ (s : Schema) (formed : IsWellFormed s) (holds : HoldsTogether s) (n m : ℕ) (r q : Record) (line text : List ℕ)
    (first : IsInstanceText s n r line) (second : IsInstanceText s m q text) where
  one-list : (es fs : List ℕ) → AreEntitiesOf s first.canonical es → AreEntitiesOf s second.canonical fs
      → first.canonical_meaning.entities ≡ second.canonical_meaning.entities → es ≡ fs
  one-list es fs are are_ set =
      lists-same s formed holds first.kinds second.kinds first.canonical_meaning second.canonical_meaning first.canonical second.canonical
      first.canonical_means second.canonical_means first.is_canonical.form second.is_canonical.form set es fs are are_

  -- the lists of their entities tell whether the sets are one
  pub lists-tell : (es fs : List ℕ) → AreEntitiesOf s first.canonical es → AreEntitiesOf s second.canonical fs
      → ((f : ℕ) → Contains es f ↔ Contains first.canonical_meaning.entities f)
      → ((f : ℕ) → Contains fs f ↔ Contains second.canonical_meaning.entities f)
      → (first.canonical_meaning.entities ≡ second.canonical_meaning.entities) ↔ (es ≡ fs)
  lists-tell es fs are are_ same same_ = (
    one-list es fs are are_,
    sets-same s formed holds first.kinds second.kinds first.canonical_meaning second.canonical_meaning first.canonical second.canonical
        first.canonical_means second.canonical_means es fs same same_,
  )

  pub places-same : (xs ys : List Row) → AreRowsOf s first.canonical xs → AreRowsOf s second.canonical ys
      → first.canonical_meaning.entities ≡ second.canonical_meaning.entities → row_places xs ≡ row_places ys
  places-same xs ys are are_ set =
      let own = has-set s holds first.kinds first.canonical first.canonical_meaning first.canonical_means.means in
      let own_ = has-set s holds second.kinds second.canonical second.canonical_meaning second.canonical_means.means in
      record-places s formed first.canonical xs own.set are own.are
      ∙ ap (flat_map (own_places s)) (one-list own.set own_.set own.are own_.are set)
      ∙ sym (record-places s formed second.canonical ys own_.set are_ own_.are)

  good-first : (xs : List Row) → AreRowsOf s first.canonical xs → Each (IsGoodRow s first.kinds first.canonical_meaning) xs
  good-first xs are = good-rows s formed first.kinds first.canonical_meaning first.canonical xs first.canonical_means first.is_canonical
      (meant-by s n r line first).spelled are

  good-second : (ys : List Row) → AreRowsOf s second.canonical ys → Each (IsGoodRow s second.kinds second.canonical_meaning) ys
  good-second ys are = good-rows s formed second.kinds second.canonical_meaning second.canonical ys second.canonical_means
      second.is_canonical (meant-by s m q text second).spelled are

  pub lines-stand : (xs ys : List Row) → AreRowsOf s first.canonical xs → AreRowsOf s second.canonical ys
      → first.canonical_meaning.entities ≡ second.canonical_meaning.entities
      → AreParamsAt s first.canonical_meaning second.canonical_meaning xs ys
  lines-stand xs ys are are_ set =
      rows-stand s formed first.kinds second.kinds first.canonical_meaning second.canonical_meaning (meant-by s n r line first)
      (meant-by s m q text second) set xs ys (good-first xs are) (good-second ys are_)

  pub lines-differ : (xs ys : List Row) → AreRowsOf s first.canonical xs → AreRowsOf s second.canonical ys
      → first.canonical_meaning.entities ≡ second.canonical_meaning.entities
      → (place : Place) → HaveOtherAt xs ys place ↔ HasOtherValue first.canonical_meaning second.canonical_meaning place
  lines-differ xs ys are are_ set =
      let own = has-set s holds first.kinds first.canonical first.canonical_meaning first.canonical_means.means in
      let places_are : row_places xs ≡ flat_map (own_places s) own.set = record-places s formed first.canonical xs own.set are own.are in
      let by = meant-by s n r line first in
      let by_ = meant-by s m q text second in
      let In : List Place → Place → Type 0 = λ ps place. Contains ps place in
      rows-differ s formed first.kinds second.kinds first.canonical_meaning second.canonical_meaning by by_ set xs ys
      (good-first xs are) (good-second ys are_)
      (places-same xs ys are are_ set)
      (λ place v has.
      let (among, at) = value-placed s first.kinds first.canonical_meaning by place v has in
      subst (λ (ps : List Place). In ps place) (sym places_are)
      (Contains-flat_map (own_places s) own.set place.entity place ((own.same place.entity).1 among) at))

-- what is told of two lines, by the attributes of both
pub values-told : (s : Schema) → IsWellFormed s → HoldsTogether s
    → (n m : ℕ) (r q : Record) (line text : List ℕ) (first : IsInstanceText s n r line) (second : IsInstanceText s m q text)
    (values : OtherValues)
    → ((rows : List Row) → AreRowsOf s first.canonical rows → TellsRows values.first rows)
    → ((rows : List Row) → AreRowsOf s second.canonical rows → TellsRows values.second rows)
    → first.canonical_meaning.entities ≡ second.canonical_meaning.entities → TellsDifferences first second values
values-told s formed holds n m r q line text first second values tells tells_ set =
    let own = told s n r line first in
    let own_ = told s m q text second in
    record {
      rows = own.rows;
      others = own_.rows;
      tells = (tells own.rows own.told.are, tells_ own_.rows own_.told.are);
      beside = places-same s formed holds n m r q line text first second own.rows own_.rows own.told.are own_.told.are set;
      differ = lines-differ s formed holds n m r q line text first second own.rows own_.rows own.told.are own_.told.are set;
      params = lines-stand s formed holds n m r q line text first second own.rows own_.rows own.told.are own_.told.are set;
    }
