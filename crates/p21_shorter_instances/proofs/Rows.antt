-- The values of places one behind the other, as a meaning has them: a row for each entity.
use Rattle.std.proofs.Common.{◌≡◌, ◌∙◌, ℕ, zero, suc, ◌+◌, List, [], ◌∷◌, ◌++◌, length, Contains, refl, ap, sym, subst, arith, inl, inr}
use Rattle.std.specs.List.{AllByRecursion as Each, AllZip, flat_map, zip}
use Rattle.std.specs.Prelude.{Some}
use Rattle.p21_spec_basics.proofs.Members.{AllZip-beside, Contains-cases, Contains-first, Contains-later, Contains-none, Contains-zip, Each-append, Each-weaker}
use Rattle.p21_spec_basics.proofs.Shuffles.{NoneTwice, zip-one}
use Rattle.p21_express_graph.proofs.Lookups.{own-places-are}
use Rattle.p21_express_graph.specs.Lookups.{places_from}
use Rattle.p21_spec_file.specs.Meaning.{HasOwnCount, HasValueAt}
use Rattle.p21_spec_file.specs.Value.{Values, no_values, value, count, value_at}
use Rattle.p21_spec_schema.specs.Order.{own_places}
use Rattle.p21_spec_schema.specs.Schema.{Place, Schema, attributes_of}
use Rattle.p21_shorter_instances.specs.TakenParameters.{PlacedParameter, places_at}

none-cons : {X : Type 0} (x : X) (xs : List X) → x ∷ xs ≡ [] → ⊥
none-cons x xs same = cc

-- ---- one row

abbrev row : List PlacedParameter → Values
row [] = no_values
row (p ∷ ps) = value p.value (row ps)

row-count : (e k n : ℕ) (ps : List PlacedParameter) → places_at ps ≡ places_from e k n → count (row ps) ≡ n
row-count e k zero [] same = refl
row-count e k zero (p ∷ ps) same = cc
row-count e k (suc n) [] same = cc
row-count e k (suc n) (p ∷ ps) same = let more : places_at ps ≡ places_from e (k + 1) n = cc in ap suc (row-count e (k + 1) n ps more)

-- the value stands at its place of the entity
abbrev IsIn : ℕ → Values → PlacedParameter → Type 0
IsIn e whole p = (p.place.entity ≡ e) × (value_at whole p.place.index ≡ Some p.value)

row-each : (e k n : ℕ) (whole : Values) (ps : List PlacedParameter) → places_at ps ≡ places_from e k n
    → ((i j : ℕ) → j ≡ k + i → value_at whole j ≡ value_at (row ps) i)
    → Each (IsIn e whole) ps
row-each e k zero whole [] same rest = tt
row-each e k zero whole (p ∷ ps) same rest = absurd (none-cons p.place (places_at ps) same)
row-each e k (suc n) whole [] same rest = tt
row-each e k (suc n) whole (p ∷ ps) same rest =
    let here : p.place ≡ record { entity = e; index = k } = cc in
    let more : places_at ps ≡ places_from e (k + 1) n = cc in (
      (ap (λ (q : Place). q.entity) here, ap (λ (q : Place). value_at whole q.index) here ∙ rest 0 k (omega arith)),
      row-each e (k + 1) n
          whole ps more (λ i j is. rest (suc i) j (omega (arith, is))),
    )

-- ---- a row for each entity

-- a list that is mapped onto two, one behind the other, is two
record Split (ps : List PlacedParameter) (front back : List Place) : Type 0 where
  first : List PlacedParameter
  second : List PlacedParameter
  all_are : ps ≡ first ++ second
  first_is : places_at first ≡ front
  second_is : places_at second ≡ back

split : (ps : List PlacedParameter) (front back : List Place) → places_at ps ≡ front ++ back → Split ps front back
split ps [] back same = record { first = []; second = ps; all_are = refl; first_is = refl; second_is = same }
split [] (q ∷ front) back same = absurd (none-cons q (front ++ back) (sym same))
split (p ∷ ps) (q ∷ front) back same =
    let here : p.place ≡ q = cc in
    let later : places_at ps ≡ front ++ back = cc in
    let more = split ps front back later in
    record {
      first = p ∷ more.first;
      second = more.second;
      all_are = ap (λ (xs : List PlacedParameter). p ∷ xs) more.all_are;
      first_is = ap (λ (x : Place). x ∷ places_at more.first) here ∙ ap (λ (xs : List Place). q ∷ xs) more.first_is;
      second_is = more.second_is;
    }

-- the value stands at its place of its entity
abbrev IsAmong : List ℕ → List Values → PlacedParameter → Type 0
IsAmong es rows p = (vs : Values) × Contains (zip es rows) (p.place.entity, vs) × (value_at vs p.place.index ≡ Some p.value)

record HasRows (s : Schema) (es : List ℕ) (ps : List PlacedParameter) : Type 0 where
  rows : List Values
  counts : AllZip (HasOwnCount s) es rows
  each : Each (IsAmong es rows) ps

rows-of : (s : Schema) (es : List ℕ) (ps : List PlacedParameter) → places_at ps ≡ flat_map (own_places s) es → HasRows s es ps
rows-of s [] [] same = record { rows = []; counts = tt; each = tt }
rows-of s [] (p ∷ ps) same = absurd (none-cons p.place (places_at ps) same)
rows-of s (e ∷ es) ps same =
    let cut = split ps (own_places s e) (flat_map (own_places s) es) same in
    let more = rows-of s es cut.second cut.second_is in
    let n : ℕ = length (attributes_of s e) in
    let vs : Values = row cut.first in
    let own : places_at cut.first ≡ places_from e 0 n = cut.first_is ∙ sym (own-places-are s e) in
    let each : Each (IsIn e vs) cut.first = row-each e 0 n vs cut.first own
    (λ i j is. (let zero_ : j ≡ i = omega (arith, is) in ap (value_at vs) zero_)) in
    let first : Each (IsAmong (e ∷ es) (vs ∷ more.rows)) cut.first =
    Each-weaker (IsIn e vs) (IsAmong (e ∷ es) (vs ∷ more.rows))
    (λ p (entity, at). (vs, (0, omega arith, ap (λ (f : ℕ). (f, vs)) (sym entity)), at)) cut.first each in
    let second : Each (IsAmong (e ∷ es) (vs ∷ more.rows)) cut.second =
    Each-weaker (IsAmong es more.rows) (IsAmong (e ∷ es) (vs ∷ more.rows))
    (λ p (ws, among, at). (ws, Contains-later (e, vs) (zip es more.rows) (p.place.entity, ws) among, at)) cut.second more.each in
    record {
      rows = vs ∷ more.rows;
      counts = (row-count e 0 n cut.first own, more.counts);
      each = subst (Each (IsAmong (e ∷ es) (vs ∷ more.rows))) (sym cut.all_are)
          (Each-append (IsAmong (e ∷ es) (vs ∷ more.rows)) cut.first cut.second first second);
    }

-- ---- in the order of a set

zip-has : (R : ℕ → Values → Type 0) (es : List ℕ) (rows : List Values) (e : ℕ) → AllZip R es rows → Contains es e
    → (vs : Values) × Contains (zip es rows) (e, vs)
zip-has R [] rows e all among = absurd (Contains-none e among)
zip-has R (f ∷ es) [] e all among = absurd all
zip-has R (f ∷ es) (vs ∷ rows) e all among = elim (Contains-cases f es e among) [
  | inl h ↦ (vs, (0, omega arith, ap (λ (g : ℕ). (g, vs)) h))
  | inr h ↦ let (ws, there) = zip-has R es rows e all.1 h in (ws, Contains-later (f, vs) (zip es rows) (e, ws) there)
]

-- what the rows of the set are, by those of the list
abbrev IsBeside : List ℕ → List Values → ℕ → Values → Type 0
IsBeside es rows f ws = Contains (zip es rows) (f, ws)

arranged_elements : (R : ℕ → Values → Type 0) (es : List ℕ) (rows : List Values) → AllZip R es rows → (fs : List ℕ)
    → ((f : ℕ) → Contains fs f → Contains es f)
    → (all : List Values) × AllZip (IsBeside es rows) fs all
arranged_elements R es rows zipped [] within = ([], tt)
arranged_elements R es rows zipped (f ∷ fs) within =
    let (vs, there) = zip-has R es rows f zipped (within f (Contains-first f fs)) in
    let (all, beside) = arranged_elements R es rows zipped fs (λ g among. within g (Contains-later f fs g among)) in
    (vs ∷ all, (there, beside))

weaker : (P Q : ℕ → Values → Type 0) → ((f : ℕ) (vs : Values) → P f vs → Q f vs) → (fs : List ℕ) (rows : List Values) → AllZip P fs rows
    → AllZip Q fs rows
weaker P Q follows [] [] all = tt
weaker P Q follows [] (vs ∷ rows) all = absurd all
weaker P Q follows (f ∷ fs) [] all = absurd all
weaker P Q follows (f ∷ fs) (vs ∷ rows) all = (follows f vs all.0, weaker P Q follows fs rows all.1)

-- what is meant by values at the places of some entities, as a set of these entities has it
pub record HasMeaning (s : Schema) (fs : List ℕ) (ps : List PlacedParameter) : Type 0 where
  pub values : List Values
  pub counts : AllZip (HasOwnCount s) fs values
  pub each : Each (λ (p : PlacedParameter). HasValueAt (record { entities = fs; values = values }) p.place p.value) ps

pub has-meaning : (s : Schema) (es fs : List ℕ) (ps : List PlacedParameter) → NoneTwice es → ((f : ℕ) → Contains es f → Contains fs f)
    → ((f : ℕ) → Contains fs f → Contains es f) → places_at ps ≡ flat_map (own_places s) es → HasMeaning s fs ps
has-meaning s es fs ps none onto back same =
    let h = rows-of s es ps same in
    let (all, beside) = arranged_elements (HasOwnCount s) es h.rows h.counts fs back in
    record {
      values = all;
      counts = weaker (IsBeside es h.rows) (HasOwnCount s) (λ f vs among. AllZip-beside (HasOwnCount s) es h.rows f vs h.counts among) fs
          all beside;
      each = Each-weaker (IsAmong es h.rows) (λ (p : PlacedParameter). HasValueAt (record { entities = fs; values = all }) p.place p.value)
          (λ p (vs, among, at).
          (let (ws, there) = zip-has (IsBeside es h.rows) fs all p.place.entity beside
          (onto p.place.entity (Contains-zip es h.rows p.place.entity vs among)) in
          let one : ws ≡ vs = zip-one es h.rows p.place.entity ws vs none
          (AllZip-beside (IsBeside es h.rows) fs all p.place.entity ws beside there) among in
          (vs, subst (λ (x : Values). Contains (zip fs all) (p.place.entity, x)) one there, at))) ps h.each;
    }
