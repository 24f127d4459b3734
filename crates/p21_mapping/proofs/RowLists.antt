-- Parameters that fit the places of entities fit them in what the record means.
use Rattle.std.specs.Prelude.{◌≡◌, ℕ, zero, suc, ◌+◌, ◌-◌, ◌<◌, List, [], ◌∷◌, ◌++◌, length, map, slice_get, Some, Contains, refl}
use Rattle.std.specs.List.{AllByRecursion as Each, flat_map, zip}
use Rattle.std.proofs.Common.{arith, ap, sym, ◌∙◌, subst, append_assoc}
use Rattle.std.proofs.lemmas.List.{append-nil, map-append, length-append}
use Rattle.std.proofs.lemmas.Grind.{flat_map-append}
use Rattle.p21_spec_basics.proofs.Members.{Contains-first, Contains-later, Each-append}
use Rattle.p21_spec_laws.specs.Needs.{FitPlacesWithNeeds, AreNeedsOfParts}
use Rattle.p21_spec_exchange.specs.Parameter.{Param, Params, listed, params_of}
use Rattle.p21_spec_exchange.specs.Record.{Part}
use Rattle.p21_express_graph.specs.Lookups.{places_from}
use Rattle.p21_express_graph.proofs.Lookups.{own-places-are, places-more}
use Rattle.p21_spec_file.specs.Meaning.{Typed, HasValues}
use Rattle.p21_spec_file.specs.Reference.{Need}
use Rattle.p21_spec_file.specs.Value.{Value, Values, count, value_at}
use Rattle.p21_mapping.specs.Rows.{FittedParam, IsFitted, FitsHere, FitsRow, Row, IsRow, FitsRows, RowSoFar, TakesRow}
use Rattle.p21_mapping.proofs.Shapes.{own-count}
use Rattle.p21_mapping.specs.Shape.{AreNamed}
use Rattle.p21_mapping_values.specs.KnownTypes.{HaveKnownTypes}
use Rattle.p21_mapping_values.specs.View.{row_of_values}
use Rattle.p21_spec_schema.specs.Order.{own_places}
use Rattle.p21_spec_schema.specs.PlaceType.{TypeAt}
use Rattle.p21_spec_schema.specs.Schema.{Schema, Place, attributes_of}
use Rattle.p21_spec_exchange.proofs.Parameters.{params-listed}

-- ---- rows that grow

pub row-none : (s : Schema) (entities : List ℕ) → FitsRow s entities [] [] [] []
row-none s entities = record { fitted = []; each = tt; places_are = refl; params_are = refl; values_are = refl; needs_are = refl }

pub row-push : (s : Schema) (entities : List ℕ) (places : List Place) (ps : List Param) (vs : List Value) (needs : List Need)
    (f : FittedParam) → FitsRow s entities places ps vs needs → IsFitted s entities f
    → FitsRow s entities (places ++ f.place ∷ []) (ps ++ f.param ∷ []) (vs ++ f.value ∷ []) (needs ++ f.needs)
row-push s entities places ps vs needs f row one = record {
  fitted = row.fitted ++ f ∷ [];
  each = Each-append (IsFitted s entities) row.fitted (f ∷ []) row.each (one, tt);
  places_are = map-append (λ (g : FittedParam). g.place) row.fitted (f ∷ []) ∙ ap (λ xs. xs ++ f.place ∷ []) row.places_are;
  params_are = map-append (λ (g : FittedParam). g.param) row.fitted (f ∷ []) ∙ ap (λ xs. xs ++ f.param ∷ []) row.params_are;
  values_are = map-append (λ (g : FittedParam). g.value) row.fitted (f ∷ []) ∙ ap (λ xs. xs ++ f.value ∷ []) row.values_are;
  needs_are = flat_map-append (λ (g : FittedParam). g.needs) row.fitted (f ∷ [])
      ∙ ap (λ xs. flat_map (λ (g : FittedParam). g.needs) row.fitted ++ xs) (append-nil f.needs) ∙ ap (λ xs. xs ++ f.needs) row.needs_are;
}

pub rows-none : (s : Schema) (entities : List ℕ) → FitsRows s entities [] [] [] []
rows-none s entities = record { rows = []; each = tt; owners_are = refl; params_are = refl; values_are = refl; needs_are = refl }

pub rows-push : (s : Schema) (entities owners : List ℕ) (pss : List (List Param)) (vss : List Values) (needs : List Need) (row : Row)
    → FitsRows s entities owners pss vss needs → IsRow s entities row
    → FitsRows s entities (owners ++ row.owner ∷ []) (pss ++ row.params ∷ []) (vss ++ row_of_values row.values ∷ []) (needs ++ row.needs)
rows-push s entities owners pss vss needs row all one = record {
  rows = all.rows ++ row ∷ [];
  each = Each-append (IsRow s entities) all.rows (row ∷ []) all.each (one, tt);
  owners_are = map-append (λ (r : Row). r.owner) all.rows (row ∷ []) ∙ ap (λ xs. xs ++ row.owner ∷ []) all.owners_are;
  params_are = map-append (λ (r : Row). r.params) all.rows (row ∷ []) ∙ ap (λ xs. xs ++ row.params ∷ []) all.params_are;
  values_are = map-append (λ (r : Row). row_of_values r.values) all.rows (row ∷ [])
      ∙ ap (λ xs. xs ++ row_of_values row.values ∷ []) all.values_are;
  needs_are = flat_map-append (λ (r : Row). r.needs) all.rows (row ∷ [])
      ∙ ap (λ xs. flat_map (λ (r : Row). r.needs) all.rows ++ xs) (append-nil row.needs) ∙ ap (λ xs. xs ++ row.needs) all.needs_are;
}

-- ---- a row at its places

value_at-row_of_values : (vs : List Value) (i : ℕ) → value_at (row_of_values vs) i ≡ slice_get vs i
value_at-row_of_values [] i = refl
value_at-row_of_values (v ∷ vs) zero = refl
value_at-row_of_values (v ∷ vs) (suc i) = value_at-row_of_values vs i

fitted-places : (s : Schema) (m : Typed) (e : ℕ) (whole : Values) → HasValues m e whole → (k n : ℕ) (fitted : List FittedParam)
    → Each (IsFitted s m.entities) fitted → map (λ (f : FittedParam). f.place) fitted ≡ places_from e k n
    → ((i : ℕ) (v : Value) → slice_get (map (λ (f : FittedParam). f.value) fitted) i ≡ Some v → value_at whole (k + i) ≡ Some v)
    → FitPlacesWithNeeds s m (places_from e k n) (params_of (map (λ (f : FittedParam). f.param) fitted))
    (flat_map (λ (f : FittedParam). f.needs) fitted)
fitted-places s m e whole has k zero [] each same values = refl
fitted-places s m e whole has k zero (f ∷ fs) each same values = cc
fitted-places s m e whole has k (suc n) [] each same values = cc
fitted-places s m e whole has k (suc n) (f ∷ fs) each same values =
    let place_is : f.place ≡ record { entity = e; index = k } = cc in
    let rest_is : map (λ (g : FittedParam). g.place) fs ≡ places_from e (k + 1) n = cc in
    let (at, type_at, fit, known) = each.0 in
    let P : Place → Type 0 = λ place. TypeAt s m.entities place at in
    let here : k + 0 ≡ k = omega arith in
    let there : value_at whole k ≡ Some f.value = ap (value_at whole) (sym here) ∙ values 0 f.value refl in (
      f.needs,
      flat_map (λ (g : FittedParam). g.needs) fs,
      refl,
      (at, f.value, subst P place_is type_at, fit, (whole, has, there)),
      fitted-places s m e whole has (k + 1) n fs each.1 rest_is
          (λ i v is. let next : k + 1 + i ≡ k + suc i = omega arith in ap (value_at whole) next ∙ values (suc i) v is),
    )

-- the parameters of a row fit the places of its entity
pub row-fits : (s : Schema) (m : Typed) (row : Row) → IsRow s m.entities row → HasValues m row.owner (row_of_values row.values)
    → FitPlacesWithNeeds s m (own_places s row.owner) (params_of row.params) row.needs
row-fits s m row is has =
    let n : ℕ = length (attributes_of s row.owner) in
    let found = fitted-places s m row.owner (row_of_values row.values) has 0 n is.fitted is.each
    (is.places_are ∙ sym (own-places-are s row.owner))
    (λ i v at. let zero_ : 0 + i ≡ i = omega arith in ap (value_at (row_of_values row.values)) zero_
    ∙ value_at-row_of_values row.values i ∙ ap (λ vs. slice_get vs i) (sym is.values_are) ∙ at) in
    let P : List Place → Type 0 = λ places. FitPlacesWithNeeds s m places (params_of row.params) row.needs in
    let Q : List Param → Type 0 = λ ps. FitPlacesWithNeeds s m (places_from row.owner 0 n) (params_of ps) row.needs in
    let R : List Need → Type 0 = λ needs. FitPlacesWithNeeds s m (places_from row.owner 0 n)
    (params_of (map (λ (f : FittedParam). f.param) is.fitted)) needs in
    subst P (own-places-are s row.owner) (subst Q is.params_are (subst R is.needs_are found))

-- as many values as places
pub row-count : (s : Schema) (entities : List ℕ) (row : Row) → IsRow s entities row
    → count (row_of_values row.values) ≡ length (attributes_of s row.owner)
row-count s entities row is =
    counted row.values ∙ ap length (sym is.values_are) ∙ mapped (λ (f : FittedParam). f.value) is.fitted
    ∙ sym (mapped (λ (f : FittedParam). f.place) is.fitted) ∙ ap length is.places_are ∙ own-count s row.owner
  where
    counted : (vs : List Value) → count (row_of_values vs) ≡ length vs
    counted [] = refl
    counted (v ∷ vs) = ap suc (counted vs)

    mapped : {Y : Type 0} (g : FittedParam → Y) (fs : List FittedParam) → length (map g fs) ≡ length fs
    mapped g [] = refl
    mapped g (f ∷ fs) = ap suc (mapped g fs)

pub row-known : (s : Schema) (entities : List ℕ) (row : Row) → IsRow s entities row → HaveKnownTypes s (row_of_values row.values)
row-known s entities row is = let P : List Value → Type 0 = λ vs. HaveKnownTypes s (row_of_values vs) in
    subst P is.values_are (known is.fitted is.each)
  where
    known : (fs : List FittedParam) → Each (IsFitted s entities) fs
        → HaveKnownTypes s (row_of_values (map (λ (f : FittedParam). f.value) fs))
    known [] each = tt
    known (f ∷ fs) each = (each.0.3, known fs each.1)

-- ---- rows one behind the other

fit-joined : (s : Schema) (m : Typed) (places more : List Place) (ps qs : List Param) (needs others : List Need)
    → FitPlacesWithNeeds s m places (params_of ps) needs → FitPlacesWithNeeds s m more (params_of qs) others
    → FitPlacesWithNeeds s m (places ++ more) (params_of (ps ++ qs)) (needs ++ others)
fit-joined s m [] more [] qs needs others fit fits = let P : List Need
    → Type 0 = λ ns. FitPlacesWithNeeds s m more (params_of qs) (ns ++ others) in subst P (sym fit) fits
fit-joined s m [] more (p ∷ ps) qs needs others fit fits = absurd fit
fit-joined s m (place ∷ places) more [] qs needs others fit fits = absurd fit
fit-joined s m (place ∷ places) more (p ∷ ps) qs needs others (first, rest, is, here, later) fits = (
  first,
  rest ++ others,
  ap (λ ns. ns ++ others) is
      ∙ append_assoc first rest others,
  here,
  fit-joined s m places more ps qs rest others later fits,
)

-- each row has its values in what is meant
abbrev pub HaveValues : Typed → List Row → Type 0
HaveValues m rows = Each (λ (row : Row). HasValues m row.owner (row_of_values row.values)) rows

-- in internal mapping all parameters stand one behind the other
pub rows-joined : (s : Schema) (m : Typed) (rows : List Row) → Each (IsRow s m.entities) rows → HaveValues m rows
    → FitPlacesWithNeeds s m (flat_map (own_places s) (map (λ (row : Row). row.owner) rows))
    (params_of (flat_map (λ (ps : List Param). ps) (map (λ (row : Row). row.params) rows))) (flat_map (λ (row : Row). row.needs) rows)
rows-joined s m [] each has = refl
rows-joined s m (row ∷ rows) each has = fit-joined s m (own_places s row.owner) _ row.params _ row.needs _ (row-fits s m row each.0 has.0)
    (rows-joined s m rows each.1 has.1)

-- in external mapping each simple record has a row
pub rows-parts : (s : Schema) (m : Typed) (parts : List Part) (rows : List Row) → Each (IsRow s m.entities) rows → HaveValues m rows
    → AreNamed s parts (map (λ (row : Row). row.owner) rows)
    → map (λ (row : Row). row.params) rows ≡ map (λ (part : Part). listed part.params) parts
    → AreNeedsOfParts s m parts (flat_map (λ (row : Row). row.needs) rows)
rows-parts s m [] [] each has named same = refl
rows-parts s m [] (row ∷ rows) each has named same = absurd named
rows-parts s m (part ∷ parts) [] each has named same = absurd named
rows-parts s m (part ∷ parts) (row ∷ rows) each has named same =
    let here : row.params ≡ listed part.params = cc in
    let later : map (λ (r : Row). r.params) rows ≡ map (λ (p : Part). listed p.params) parts = cc in
    let P : Params → Type 0 = λ ps. FitPlacesWithNeeds s m (own_places s row.owner) ps row.needs in (
      row.needs,
      flat_map (λ (r : Row). r.needs) rows,
      refl,
      (row.owner, named.0, subst P (ap params_of here ∙ params-listed part.params) (row-fits s m row each.0 has.0)),
      rows-parts s m parts rows each.1 has.1 named.1 later,
    )

-- ---- a row that is read

pub row-begins : (s : Schema) (entities : List ℕ) (owner : ℕ) (before : List Param) (needs : List Need)
    → RowSoFar s entities owner 0 before before [] needs needs
row-begins s entities owner before needs = record {
  params = [];
  added = [];
  taken = refl;
  needed = sym (append-nil needs);
  fits =
      row-none s entities;
}

-- one parameter more
pub row-more : (s : Schema) (entities : List ℕ) (owner index : ℕ) (before now rest : List Param) (values after : List Value)
    (old new more : List Need) (p : Param) (v : Value) → RowSoFar s entities owner index before now values old new → now ≡ p ∷ rest
    → after ≡ values ++ v ∷ []
    → FitsHere s entities (record { entity = owner; index = index }) p v new more
    → RowSoFar s entities owner (index + 1) before rest after old more
row-more s entities owner index before now rest values after old new more p v row next pushed (added, more_is, fitted) =
    let zero_ : 0 + index ≡ index = omega arith in
    let P : List Place → Type 0 = λ places. FitsRow s entities places (row.params ++ p ∷ []) after (row.added ++ added) in
    let Q : List Value → Type 0 = λ vs. FitsRow s entities (places_from owner 0 index ++ record { entity = owner; index = index } ∷ [])
    (row.params ++ p ∷ []) vs (row.added ++ added) in
    record {
      params = row.params ++ p ∷ [];
      added = row.added ++ added;
      taken = row.taken ∙ ap (λ ps. row.params ++ ps) next ∙ sym (append_assoc row.params (p ∷ []) rest);
      needed = more_is ∙ ap (λ ns. ns ++ added) row.needed ∙ append_assoc old row.added added;
      fits = subst P (ap (λ k. places_from owner 0 index ++ record { entity = owner; index = k } ∷ []) (sym zero_)
          ∙ sym (places-more owner 0 index))
          (subst Q (sym pushed) (row-push s entities (places_from owner 0 index) row.params values row.added
          (record { place = record { entity = owner; index = index }; param = p; value = v; needs = added }) row.fits fitted));
    }

-- all places of the entity
pub row-ends : (s : Schema) (entities : List ℕ) (owner index : ℕ) (before after : List Param) (values : List Value) (old new : List Need)
    → index ≡ length (attributes_of s owner) → RowSoFar s entities owner index before after values old new
    → TakesRow s entities owner before after values old new
row-ends s entities owner index before after values old new all row =
    let P : List Place → Type 0 = λ places. FitsRow s entities places row.params values row.added in
    record {
      params = row.params;
      added = row.added;
      taken = row.taken;
      needed = row.needed;
      fits =
          subst P (ap (places_from owner 0) all ∙ own-places-are s owner) row.fits;
    }

zip-there : {X Y : Type 0} (xs more : List X) (ys rest : List Y) (x : X) (y : Y) → length xs ≡ length ys
    → Contains (zip (xs ++ x ∷ more) (ys ++ y ∷ rest)) (x, y)
zip-there [] more [] rest x y long = Contains-first (x, y) (zip more rest)
zip-there [] more (z ∷ ys) rest x y long = absurd (omega (arith, long))
zip-there (w ∷ xs) more [] rest x y long = absurd (omega (arith, long))
zip-there (w ∷ xs) more (z ∷ ys) rest x y long = Contains-later (w, z) (zip (xs ++ x ∷ more) (ys ++ y ∷ rest)) (x, y)
    (zip-there xs more ys rest x y (omega (arith, long)))

from-split : (e k i n m : ℕ) → n ≡ i + suc m → places_from e k n ≡ places_from e k i
    ++ record { entity = e; index = k + i } ∷ places_from e (k + i + 1) m
from-split e k zero zero m is = absurd (omega (arith, is))
from-split e k zero (suc n) m is =
    let same : k ≡ k + 0 = omega arith in
    let rest : n ≡ m = omega (arith, is) in
    ap (λ j. record { entity = e; index = k } ∷ places_from e (k + 1) j) rest
    ∙ ap (λ j. record { entity = e; index = j } ∷ places_from e (j + 1) m) same
from-split e k (suc i) zero m is = absurd (omega (arith, is))
from-split e k (suc i) (suc n) m is =
    let same : k + 1 + i ≡ k + suc i = omega arith in
    ap (λ ps. record { entity = e; index = k } ∷ ps) (from-split e (k + 1) i n m (omega (arith, is))
    ∙ ap (λ j. places_from e (k + 1) i ++ record { entity = e; index = j } ∷ places_from e (j + 1) m) same)

from-length : (e k n : ℕ) → length (places_from e k n) ≡ n
from-length e k zero = refl
from-length e k (suc n) = ap suc (from-length e (k + 1) n)

pub row-long : (s : Schema) (entities : List ℕ) (places : List Place) (ps : List Param) (vs : List Value) (needs : List Need)
    → FitsRow s entities places ps vs needs → length places ≡ length ps
row-long s entities places ps vs needs row = sym (ap length row.places_are) ∙ mapped (λ (f : FittedParam). f.place) row.fitted
    ∙ sym (mapped (λ (f : FittedParam). f.param) row.fitted) ∙ ap length row.params_are
  where
    mapped : {Y : Type 0} (g : FittedParam → Y) (fs : List FittedParam) → length (map g fs) ≡ length fs
    mapped g [] = refl
    mapped g (f ∷ fs) = ap suc (mapped g fs)

-- the next parameter stands at the next place
pub row-next : (s : Schema) (entities : List ℕ) (owner index : ℕ) (before now rest : List Param) (values : List Value) (old new : List Need)
    (p : Param) → index < length (attributes_of s owner) → RowSoFar s entities owner index before now values old new → now ≡ p ∷ rest
    → Contains (zip (own_places s owner) before) (record { entity = owner; index = index }, p)
row-next s entities owner index before now rest values old new p below row next =
    let n : ℕ = length (attributes_of s owner) in
    let m : ℕ = n - suc index in
    let zero_ : 0 + index ≡ index = omega arith in
    let whole : n ≡ index + suc m = omega (arith, below) in
    let places_are : own_places s owner ≡ places_from owner 0 index
    ++ record { entity = owner; index = index } ∷ places_from owner (0 + index + 1) m =
    sym (own-places-are s owner) ∙ from-split owner 0 index n m whole
    ∙ ap (λ k. places_from owner 0 index ++ record { entity = owner; index = k } ∷ places_from owner (0 + index + 1) m) zero_ in
    let P : List Place → Type 0 = λ places. Contains (zip places before) (record { entity = owner; index = index }, p) in
    let Q : List Param → Type 0 = λ ps. Contains (zip (places_from owner 0 index
    ++ record { entity = owner; index = index } ∷ places_from owner (0 + index + 1) m) ps)
    (record { entity = owner; index = index }, p) in
    subst P (sym places_are) (subst Q (sym (row.taken ∙ ap (λ ps. row.params ++ ps) next))
    (zip-there (places_from owner 0 index) (places_from owner (0 + index + 1) m) row.params rest (record { entity = owner; index = index })
    p (row-long s entities (places_from owner 0 index) row.params values row.added row.fits)))

-- so many are left
pub row-left : (s : Schema) (entities : List ℕ) (owner index : ℕ) (before now : List Param) (values : List Value) (old new : List Need)
    → RowSoFar s entities owner index before now values old new → length before ≡ index + length now
row-left s entities owner index before now values old new row =
    ap length row.taken ∙ length-append row.params now
    ∙ ap (λ n. n + length now) (sym (row-long s entities (places_from owner 0 index) row.params values row.added row.fits)
    ∙ from-length owner 0 index)
