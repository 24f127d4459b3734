-- Instances of one set of entities have the same values exactly if none at a place is another.
use Rattle.std.specs.Prelude.{◌≡◌, ◌<◌, ℕ, zero, suc, List, [], ◌∷◌, length, Some, Contains, refl}
use Rattle.std.specs.List.{AllZip, zip, AllByRecursion as Each}
use Rattle.std.proofs.Common.{arith, sym, subst, ◌∙◌, inl, inr}
use Rattle.p21_spec_basics.proofs.Members.{AllZip-beside, Contains-none, Contains-first, Contains-later, Contains-cases, Contains-flat_map, Contains-zip, zip-along, some_is}
use Rattle.p21_spec_basics.proofs.Shuffles.{NoneTwice, zip-one}
use Rattle.p21_spec_exchange.specs.Parameter.{Param, Params, no_params, param}
use Rattle.p21_spec_exchange.specs.Record.{Part, Record, simple, complex, record_tokens}
use Rattle.p21_spec_exchange.specs.Token.{IsSpelled, right}
use Rattle.p21_spec_file.proofs.OneMeaning.{rising-none_twice}
use Rattle.p21_spec_file.specs.Fits.{FitsAt}
use Rattle.p21_spec_file.specs.Meaning.{Typed, FitPlaces, HasOwnCount, HasValueAt, MeansByMapping, PartMeans, RecordMeans}
use Rattle.p21_spec_file.specs.Reference.{EntitySets}
use Rattle.p21_spec_file.specs.SameFile.{SameTyped}
use Rattle.p21_spec_file.specs.SameValue.{Same, SameInOrder, both_end, both_next}
use Rattle.p21_spec_file.specs.Value.{Value, Values, no_values, value, count, value_at}
use Rattle.p21_spec_file.specs.ValueText.{value_text}
use Rattle.p21_spec_laws.proofs.OfType.{AreWritten}
use Rattle.p21_spec_laws.proofs.RecordOnce.{complex-written, part-written, value-once}
use Rattle.p21_spec_laws.proofs.SameTexts.{same-exactly_texts_at}
use Rattle.p21_spec_laws.specs.Written.{IsWritten}
use Rattle.p21_spec_schema.proofs.Orders.{order-has}
use Rattle.p21_spec_schema.proofs.OwnPlaces.{own_places-has}
use Rattle.p21_spec_schema.proofs.PlaceTypes.{TypeAt-one}
use Rattle.p21_spec_schema.specs.Order.{order, places, own_places}
use Rattle.p21_spec_schema.specs.PlaceType.{PlaceType, TypeAt}
use Rattle.p21_spec_schema.specs.Schema.{Schema, Place, attributes_of}
use Rattle.p21_spec_schema.specs.WellFormed.{IsWellFormed}
use Rattle.p21_spec_differences.proofs.Decided.{IsDecided, decided-as, settled, text-decided}
use Rattle.p21_spec_differences.specs.Difference.{HasOtherValue}

-- ---- a written parameter stands for the value at each place

pub record Stands (s : Schema) (kinds : EntitySets) (m : Typed) (place : Place) : Type 0 where
  pub at : PlaceType
  pub v : Value
  pub p : Param
  pub type_at : TypeAt s m.entities place at
  pub fit : FitsAt s kinds at p v
  pub written : IsWritten p
  pub has : HasValueAt m place v

places-stand : (s : Schema) (kinds : EntitySets) (m : Typed) (ps : List Place) (params : Params) → FitPlaces s kinds m ps params
    → AreWritten params → (place : Place) → Contains ps place → Stands s kinds m place
places-stand s kinds m [] _ fit written place among = absurd (Contains-none place among)
places-stand s kinds m (p ∷ ps) no_params fit written place among = absurd fit
places-stand s kinds m (p ∷ ps) (param x xs) ((at, v, type_at, fit, has), more) written place among =
    elim (Contains-cases p ps place among) [
      | inl h ↦
          let P : Place → Type 0 = λ q. Stands s kinds m q in
          subst P h (record { at = at; v = v; p = x; type_at = type_at; fit = fit; written = written.0; has = has })
      | inr h ↦ places-stand s kinds m ps xs more written.1 place h
    ]

parts-stand : (s : Schema) (kinds : EntitySets) (m : Typed) (parts : List Part) (es : List ℕ) → AllZip (PartMeans s kinds m) parts es
    → Each (λ (part : Part). AreWritten part.params) parts
    → (e : ℕ) (place : Place) → Contains es e → Contains (own_places s e) place → Stands s kinds m place
parts-stand s kinds m parts [] all written e place among of_e = absurd (Contains-none e among)
parts-stand s kinds m [] (x ∷ es) all written e place among of_e = absurd all
parts-stand s kinds m (part ∷ parts) (x ∷ es) all written e place among of_e = elim (Contains-cases x es e among) [
  | inl h ↦ let P : ℕ → Type 0 = λ z. Contains (own_places s z) place in places-stand s kinds m (own_places s x) part.params all.0.1 written.0 place (subst P (sym h) of_e)
  | inr h ↦ parts-stand s kinds m parts es all.1 written.1 e place h of_e
]

mapping-stands : (s : Schema) → IsWellFormed s → (kinds : EntitySets) (r : Record) (m : Typed) → MeansByMapping s kinds r m
    → Each IsSpelled (record_tokens r) → (place : Place) → Contains m.entities place.entity → Contains (own_places s place.entity) place
    → Stands s kinds m place
mapping-stands s formed kinds (simple part) m means spelled place among own =
    let in_order : Contains (order s means.entity) place.entity = order-has s formed.supertypes_are formed.supertypes_end means.entity place.entity ((means.closure place.entity).0 among) in
    places-stand s kinds m (places s means.entity) part.params means.fit (part-written part spelled) place
    (Contains-flat_map (own_places s) (order s means.entity) place.entity place in_order own)
mapping-stands s formed kinds (complex parts) m means spelled place among own =
    parts-stand s kinds m parts means.entities means.parts_mean (complex-written parts (right ∷ []) spelled.1) place.entity place ((means.same_entities place.entity).1 among) own

value-within : (vs : Values) (i : ℕ) (v : Value) → value_at vs i ≡ Some v → i < count vs
value-within no_values i v at = cc
value-within (value w vs) zero v at = omega arith
value-within (value w vs) (suc i) v at = let below = value-within vs i v at in omega (arith, below)

-- ---- two records

in_order-told : (vs ws : Values) → count vs ≡ count ws → ((i : ℕ) (v w : Value) → value_at vs i ≡ Some v → value_at ws i ≡ Some w → Same v w) → SameInOrder vs ws
in_order-told no_values no_values many same = both_end
in_order-told no_values (value w ws) many same = absurd (omega (arith, many))
in_order-told (value v vs) no_values many same = absurd (omega (arith, many))
in_order-told (value v vs) (value w ws) many same = both_next v w vs ws (same 0 v w refl refl) (in_order-told vs ws (omega (arith, many)) (λ i. same (suc i)))

in_order-beside : (vs ws : Values) → SameInOrder vs ws → (i : ℕ) (v w : Value) → value_at vs i ≡ Some v → value_at ws i ≡ Some w → Same v w
in_order-beside vs ws both_end i v w at at_ = cc
in_order-beside vs ws (both_next x y vs_ ws_ same more) zero v w at at_ =
    let P : Value → Type 0 = λ z. Same z w in
    let Q : Value → Type 0 = Same x in
    subst P (some_is x v at) (subst Q (some_is y w at_) same)
in_order-beside vs ws (both_next x y vs_ ws_ same more) (suc i) v w at at_ = in_order-beside vs_ ws_ more i v w at at_

rows-told : (s : Schema) (es : List ℕ) (rows others : List Values) → AllZip (HasOwnCount s) es rows → AllZip (HasOwnCount s) es others
    → ((e : ℕ) (vs ws : Values) → Contains (zip es rows) (e, vs) → Contains (zip es others) (e, ws) → count vs ≡ count ws → SameInOrder vs ws)
    → AllZip SameInOrder rows others
rows-told s [] [] [] counts counts_ same = tt
rows-told s [] [] (ws ∷ others) counts counts_ same = absurd counts_
rows-told s [] (vs ∷ rows) others counts counts_ same = absurd counts
rows-told s (e ∷ es) [] others counts counts_ same = absurd counts
rows-told s (e ∷ es) (vs ∷ rows) [] counts counts_ same = absurd counts_
rows-told s (e ∷ es) (vs ∷ rows) (ws ∷ others) counts counts_ same = (
  same e vs ws (Contains-first (e, vs) (zip es rows)) (Contains-first (e, ws) (zip es others)) (counts.0 ∙ sym counts_.0),
  rows-told s es rows others counts.1 counts_.1
      (λ f us ts at at_. same f us ts (Contains-later (e, vs) (zip es rows) (f, us) at) (Contains-later (e, ws) (zip es others) (f, ts) at_)),
)

-- a record that means this, and whose tokens have spellings
pub record IsMeantBy (s : Schema) (kinds : EntitySets) (m : Typed) : Type 0 where
  pub record_ : Record
  pub means : RecordMeans s kinds record_ m
  pub spelled : Each IsSpelled (record_tokens record_)

pub entities-once : (s : Schema) (kinds : EntitySets) (m : Typed) → IsMeantBy s kinds m → NoneTwice m.entities
entities-once s kinds m is = rising-none_twice s m.entities is.means.rising.0 is.means.rising.1 is.means.rising.2

-- a place that has a value is one of an entity of the set
pub value-placed : (s : Schema) (kinds : EntitySets) (m : Typed) → IsMeantBy s kinds m → (place : Place) (v : Value) → HasValueAt m place v
    → Contains m.entities place.entity × Contains (own_places s place.entity) place
value-placed s kinds m is place v (vs, row, at) =
    let below = value-within vs place.index v at in
    let long : count vs ≡ length (attributes_of s place.entity) = AllZip-beside (HasOwnCount s) m.entities m.values place.entity vs is.means.own_counts row in
    (Contains-zip m.entities m.values place.entity vs row, own_places-has s place.entity place.index (omega (arith, below, long)))

module _ (s : Schema) (formed : IsWellFormed s) where
  pub value-stands : (kinds : EntitySets) (m : Typed) → IsMeantBy s kinds m → (place : Place) (v : Value) → HasValueAt m place v → Stands s kinds m place
  value-stands kinds m is place v has =
      let (among, own) = value-placed s kinds m is place v has in
      mapping-stands s formed kinds is.record_ m is.means.means is.spelled place among own

  pub value-decided : (kinds others : EntitySets) (x y : Typed) → IsMeantBy s kinds x → IsMeantBy s others y → x.entities ≡ y.entities
      → (place : Place) (v w : Value) → HasValueAt x place v → HasValueAt y place w → IsDecided (Same v w)
  value-decided kinds others x y is is_ set place v w has has_ =
      let first = value-stands kinds x is place v has in
      let second = value-stands others y is_ place w has_ in
      let P : List ℕ → Type 0 = λ es. TypeAt s es place second.at in
      let Q : PlaceType → Type 0 = λ at. FitsAt s others at second.p second.v in
      let V : Value → Type 0 = λ u. IsDecided (Same u w) in
      let W : Value → Type 0 = λ u. IsDecided (Same first.v u) in
      let one_type : second.at ≡ first.at = TypeAt-one s formed.supertypes_end formed.redeclares_once x.entities place second.at first.at (subst P (sym set) second.type_at) first.type_at in
      let tell = same-exactly_texts_at s formed.types_distinct kinds others first.at first.p second.p first.v second.v first.fit (subst Q one_type second.fit) first.written second.written in
      subst V (value-once x (entities-once s kinds x is) place first.v v first.has has)
      (subst W (value-once y (entities-once s others y is_) place second.v w second.has has_)
      (decided-as (Same first.v second.v) (value_text s first.v ≡ value_text s second.v) tell.0 tell.1 (text-decided (value_text s first.v) (value_text s second.v))))

  pub typed-told : (kinds others : EntitySets) (x y : Typed) → IsMeantBy s kinds x → IsMeantBy s others y → x.entities ≡ y.entities
      → ((place : Place) → ¬ HasOtherValue x y place) → SameTyped x y
  typed-told kinds others x y is is_ set none =
      let Counted : List ℕ → Type 0 = λ es. AllZip (HasOwnCount s) es y.values in (
        set,
        rows-told s x.entities x.values y.values is.means.own_counts (subst Counted (sym set) is_.means.own_counts)
            (λ e vs ws row row_ many. in_order-told vs ws many
            (λ i v w at at_.
            let place : Place = record { entity = e; index = i } in
            let In : List ℕ → Type 0 = λ es. Contains (zip es y.values) (e, ws) in
            let has : HasValueAt x place v = (vs, row, at) in
            let has_ : HasValueAt y place w = (ws, subst In set row_, at_) in
            settled (Same v w) (value-decided kinds others x y is is_ set place v w has has_) (λ differ. none place (v, w, has, has_, differ)))),
      )

-- conversely
pub none-other : (x y : Typed) → NoneTwice y.entities → SameTyped x y → (place : Place) → ¬ HasOtherValue x y place
none-other x y once same place (v, w, (vs, row, at), (ws, row_, at_), differ) =
    let (us, beside, in_order) = zip-along SameInOrder x.entities x.values y.values same.1 place.entity vs row in
    let In : List ℕ → Type 0 = λ es. Contains (zip es y.values) (place.entity, us) in
    let one : us ≡ ws = zip-one y.entities y.values place.entity us ws once (subst In same.0 beside) row_ in
    let P : Values → Type 0 = λ ts. value_at ts place.index ≡ Some w in
    differ (in_order-beside vs us in_order place.index v w at (subst P (sym one) at_))
