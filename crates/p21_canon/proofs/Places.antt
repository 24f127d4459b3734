-- The canonical parameters of the rows of a meaning fit the places of their entities.
use Rattle.std.proofs.Common.{◌≡◌, ℕ, zero, suc, ◌+◌, ◌<◌, Bool, List, [], ◌∷◌, ◌++◌, length, Contains, arith, ap, sym, subst, inl, inr}
use Rattle.std.specs.List.{AllZip, flat_map, zip}
use Rattle.std.specs.Prelude.{if◌then◌else◌}
use Rattle.std.proofs.lemmas.Bool.{eq-eqb, ne_eqb, cases_eq}
use Rattle.p21_spec_basics.proofs.Members.{AllZip-beside, AllZip-second_member, Contains-cases, Contains-first, Contains-flat_map, Contains-later, Contains-none}
use Rattle.p21_spec_basics.proofs.Shuffles.{NoneTwice}
use Rattle.p21_spec_laws.proofs.CanonicalParam.{canonical_params}
use Rattle.p21_spec_laws.proofs.Existence.{canonical_value, canonical-is}
use Rattle.p21_spec_laws.proofs.Printing.{at-fits, canonical_typed, has-canonical_value}
use Rattle.p21_spec_laws.proofs.RecordOnce.{value-once}
use Rattle.p21_spec_exchange.specs.Parameter.{Param, Params, no_params, param, params_of}
use Rattle.p21_spec_exchange.specs.Record.{Record, simple, complex}
use Rattle.p21_express_graph.proofs.Lookups.{own-places-are}
use Rattle.p21_express_graph.specs.Lookups.{places_from}
use Rattle.p21_spec_file.proofs.OneMeaning.{rising-none_twice}
use Rattle.p21_spec_file.specs.CanonicalRecord.{AreCanonicalAt}
use Rattle.p21_spec_file.specs.Fits.{FitsAt}
use Rattle.p21_spec_file.specs.Meaning.{FitPlaces, FitsPlace, HasOwnCount, HasValueAt, HasValues, PartMeans, RecordMeans, Typed}
use Rattle.p21_spec_file.specs.Reference.{EntitySets}
use Rattle.p21_spec_file.specs.Value.{Value, Values, no_values, value, count, value_at}
use Rattle.p21_spec_schema.proofs.Orders.{order-has}
use Rattle.p21_spec_schema.specs.Order.{order, own_places, places}
use Rattle.p21_spec_schema.specs.Schema.{Place, Schema, attributes_of}
use Rattle.p21_spec_schema.specs.WellFormed.{IsWellFormed}
use Rattle.p21_canon.specs.StatementTexts.{row_among, row_of}

-- ---- a parameter at each place

abbrev pub place_at : ℕ → ℕ → Place
place_at e i = record { entity = e; index = i }

-- some parameter fits the place
abbrev HasParam : Schema → EntitySets → Typed → Place → Type 0
HasParam s kinds m place = (p : Param) × FitsPlace s kinds m place p

found-param : (s : Schema) (kinds : EntitySets) (m : Typed) (ps : List Place) (xs : Params) (place : Place) → FitPlaces s kinds m ps xs
    → Contains ps place → HasParam s kinds m place
found-param s kinds m [] xs place fit among = absurd (Contains-none place among)
found-param s kinds m (p ∷ ps) no_params place fit among = absurd fit
found-param s kinds m (p ∷ ps) (param x xs) place fit among = elim (Contains-cases p ps place among) [
  | inl h ↦ let P : Place → Type 0 = λ q. HasParam s kinds m q in subst P h (x, fit.0)
  | inr h ↦ found-param s kinds m ps xs place fit.1 h
]

Contains-from : (e k n i : ℕ) → i < n → Contains (places_from e k n) (place_at e (k + i))
Contains-from e k zero i below = absurd (omega (arith, below))
Contains-from e k (suc n) zero below = let same : k ≡ k + 0 = omega arith in (0, omega arith, ap (place_at e) same)
Contains-from e k (suc n) (suc i) below =
    let same : k + 1 + i ≡ k + suc i = omega arith in
    let P : ℕ → Type 0 = λ j. Contains (places_from e (k + 1) n) (place_at e j) in
    Contains-later (place_at e k) (places_from e (k + 1) n) (place_at e (k + suc i))
    (subst P same (Contains-from e (k + 1) n i (omega (arith, below))))

Contains-own : (s : Schema) (e i : ℕ) → i < length (attributes_of s e) → Contains (own_places s e) (place_at e i)
Contains-own s e i below =
    let same : 0 + i ≡ i = omega arith in
    let P : ℕ → Type 0 = λ j. Contains (places_from e 0 (length (attributes_of s e))) (place_at e j) in
    let Q : List Place → Type 0 = λ ps. Contains ps (place_at e i) in
    subst Q (own-places-are s e) (subst P same (Contains-from e 0 (length (attributes_of s e)) i below))

-- at each place of the set, whatever the form of the record
has-param : (s : Schema) → IsWellFormed s → (kinds : EntitySets) (r : Record) (m : Typed) → RecordMeans s kinds r m → (e i : ℕ)
    → Contains m.entities e → i < length (attributes_of s e) → HasParam s kinds m (place_at e i)
has-param s formed kinds (simple part) m means e i among below =
    let in_order : Contains (order s means.means.entity) e =
    order-has s formed.supertypes_are formed.supertypes_end means.means.entity e ((means.means.closure e).0 among) in
    found-param s kinds m (places s means.means.entity) part.params (place_at e i) means.means.fit
    (Contains-flat_map (own_places s) (order s means.means.entity) e (place_at e i) in_order (Contains-own s e i below))
has-param s formed kinds (complex parts) m means e i among below =
    let (part, at, part_means) = AllZip-second_member (PartMeans s kinds m) parts means.means.entities e means.means.parts_mean
    ((means.means.same_entities e).1 among) in
    found-param s kinds m (own_places s e) part.params (place_at e i) part_means.1 (Contains-own s e i below)

-- ---- the parameters of a row

-- they fit these places of the meaning with its sets and bags in order, and are canonical there
abbrev pub StandAt : Schema → EntitySets → Typed → List Place → List Param → Type 0
StandAt s kinds m ps xs = FitPlaces s kinds (canonical_typed s m) ps (params_of xs) × AreCanonicalAt (canonical_typed s m) ps (params_of xs)

-- the values of a row from one number on
abbrev IsRest : Values → ℕ → Values → Type 0
IsRest vs k ws = (i j : ℕ) → j ≡ k + i → value_at vs j ≡ value_at ws i

rest-next : (vs : Values) (k : ℕ) (w : Value) (ws : Values) → IsRest vs k (value w ws) → IsRest vs (k + 1) ws
rest-next vs k w ws rest i j is = rest (suc i) j (omega (arith, is))

rest-stand : (s : Schema) (kinds : EntitySets) (m : Typed) → NoneTwice m.entities → (e k : ℕ) (vs ws : Values) (n : ℕ) → HasValues m e vs
    → IsRest vs k ws → count ws ≡ n → ((i : ℕ) → i < k + n → HasParam s kinds m (place_at e i))
    → StandAt s kinds m (places_from e k n) (canonical_params s ws)
rest-stand s kinds m none e k vs no_values zero has rest long each = (tt, tt)
rest-stand s kinds m none e k vs no_values (suc n) has rest long each = absurd (omega (arith, long))
rest-stand s kinds m none e k vs (value w ws) zero has rest long each = absurd (omega (arith, long))
rest-stand s kinds m none e k vs (value w ws) (suc n) has rest long each =
    let place : Place = place_at e k in
    let (x, (at, v, type_at, fit, has_v)) = each k (omega arith) in
    let has_w : HasValueAt m place w = (vs, has, rest 0 k (omega arith)) in
    let same : v ≡ w = value-once m none place v w has_v has_w in
    let fit_w : FitsAt s kinds at x w = (let P : Value → Type 0 = λ u. FitsAt s kinds at x u in subst P same fit) in
    let there : HasValueAt (canonical_typed s m) place (canonical_value s w) = has-canonical_value s m place w has_w in
    let more = rest-stand s kinds m none e (k + 1) vs ws n has (rest-next vs k w ws rest) (omega (arith, long))
    (λ i below. each i (omega (arith, below))) in (
      ((at, canonical_value s w, type_at, at-fits s kinds at x w fit_w, there), more.0),
      ((canonical_value s w, there, canonical-is s w), more.1),
    )

-- each entity that the meaning has beside these values
pub row-stands : (s : Schema) → IsWellFormed s → (kinds : EntitySets) (r : Record) (m : Typed) → RecordMeans s kinds r m
    → (e : ℕ) (vs : Values) → Contains m.entities e → HasValues m e vs → StandAt s kinds m (own_places s e) (canonical_params s vs)
row-stands s formed kinds r m means e vs among has =
    let none = rising-none_twice s m.entities means.rising.0 means.rising.1 means.rising.2 in
    let long : count vs ≡ length (attributes_of s e) = AllZip-beside (HasOwnCount s) m.entities m.values e vs means.own_counts has in
    let P : List Place → Type 0 = λ ps. StandAt s kinds m ps (canonical_params s vs) in
    subst P (own-places-are s e)
    (rest-stand s kinds m none e 0 vs vs (length (attributes_of s e)) has
    (λ i j is. (let same : j ≡ i = omega (arith, is) in ap (value_at vs) same)) long
    (λ i below. has-param s formed kinds r m means e i among (omega (arith, below))))

-- ---- rows one behind the other

append-fit : (s : Schema) (kinds : EntitySets) (b : Typed) (ps qs : List Place) (xs ys : List Param) → FitPlaces s kinds b ps (params_of xs)
    → FitPlaces s kinds b qs (params_of ys) → FitPlaces s kinds b (ps ++ qs) (params_of (xs ++ ys))
append-fit s kinds b [] qs [] ys first second = second
append-fit s kinds b [] qs (x ∷ xs) ys first second = absurd first
append-fit s kinds b (p ∷ ps) qs [] ys first second = absurd first
append-fit s kinds b (p ∷ ps) qs (x ∷ xs) ys first second = (first.0, append-fit s kinds b ps qs xs ys first.1 second)

append-canonical : (b : Typed) (ps qs : List Place) (xs ys : List Param) → AreCanonicalAt b ps (params_of xs)
    → AreCanonicalAt b qs (params_of ys) → AreCanonicalAt b (ps ++ qs) (params_of (xs ++ ys))
append-canonical b [] qs [] ys first second = second
append-canonical b [] qs (x ∷ xs) ys first second = absurd first
append-canonical b (p ∷ ps) qs [] ys first second = absurd first
append-canonical b (p ∷ ps) qs (x ∷ xs) ys first second = (first.0, append-canonical b ps qs xs ys first.1 second)

-- the row of a member stands beside it
pub row-has : (R : ℕ → Values → Type 0) (es : List ℕ) (rows : List Values) (e : ℕ) → AllZip R es rows → Contains es e
    → Contains (zip es rows) (e, row_among es rows e)
row-has R [] rows e all among = absurd (Contains-none e among)
row-has R (f ∷ es) [] e all among = absurd all
row-has R (f ∷ es) (vs ∷ rows) e all among = elim (cases_eq f e) [
  | inl h ↦
      let P : Bool → Type 0 = λ b. Contains (zip (f ∷ es) (vs ∷ rows)) (e, if b then vs else row_among es rows e) in
      subst P (sym (eq-eqb f e h)) (0, omega arith, ap (λ (g : ℕ). (g, vs)) h)
  | inr h ↦
      let P : Bool → Type 0 = λ b. Contains (zip (f ∷ es) (vs ∷ rows)) (e, if b then vs else row_among es rows e) in
      let later : Contains es e = elim (Contains-cases f es e among) [ inl same ↦ absurd (h same) | inr more ↦ more ] in
      subst P (sym (ne_eqb f e h)) (Contains-later (f, vs) (zip es rows) (e, row_among es rows e) (row-has R es rows e all.1 later))
]

-- the parameters of the rows of some entities
abbrev pub rows_params : Schema → Typed → List ℕ → List Param
rows_params s m es = flat_map (λ e. canonical_params s (row_of m e)) es

pub rows-stand : (s : Schema) → IsWellFormed s → (kinds : EntitySets) (r : Record) (m : Typed) → RecordMeans s kinds r m → (es : List ℕ)
    → ((e : ℕ) → Contains es e → Contains m.entities e) → StandAt s kinds m (flat_map (own_places s) es) (rows_params s m es)
rows-stand s formed kinds r m means [] within = (tt, tt)
rows-stand s formed kinds r m means (e ∷ es) within =
    let among : Contains m.entities e = within e (Contains-first e es) in
    let first = row-stands s formed kinds r m means e (row_of m e) among
    (row-has (HasOwnCount s) m.entities m.values e means.own_counts among) in
    let more = rows-stand s formed kinds r m means es (λ f found. within f (Contains-later e es f found)) in (
      append-fit s kinds (canonical_typed s m) (own_places s e) (flat_map (own_places s) es) (canonical_params s (row_of m e))
          (rows_params s m es) first.0 more.0,
      append-canonical (canonical_typed s m) (own_places s e) (flat_map (own_places s) es) (canonical_params s (row_of m e))
          (rows_params s m es) first.1 more.1,
    )
