-- Each record that means something has a canonical record of the same meaning.
use Rattle.std.specs.Prelude.{◌≡◌, ◌↔◌, ℕ, zero, suc, ◌≤◌, Bool, true, false, List, [], ◌∷◌, ◌++◌, map, codes, Some, Contains, refl, if◌then◌else◌}
use Rattle.std.specs.List.{AllZip, flat_map, zip, AllByRecursion as Each}
use Rattle.std.proofs.Common.{arith, ap, sym, subst, ◌∙◌, inl, inr}
use Rattle.p21_spec_schema.specs.WellFormed.{IsWellFormed}
use Rattle.p21_spec_basics.proofs.Members.{Contains-none, Contains-first, Contains-later, Contains-cases, Each-append}
use Rattle.p21_spec_file.specs.CanonicalRecord.{AreCanonicalAt, HasOneLeaf, IsCanonicalRecord}
use Rattle.p21_spec_exchange.specs.CanonicalText.{param_text}
use Rattle.p21_spec_file.specs.Fits.{FitsAt, star, dollar, fits}
use Rattle.p21_spec_exchange.specs.Grammar.{IsDataRecord, IsNoUserKeyword}
use Rattle.p21_spec_file.specs.Meaning.{Typed, HasOwnCount, HasValueAt, FitPlaces, NamesEntity, MeansByMapping, RecordMeans}
use Rattle.p21_spec_exchange.specs.Nesting.{IsShallow, depth}
use Rattle.p21_spec_schema.specs.Order.{places, own_places}
use Rattle.p21_spec_exchange.specs.Parameter as parameter
use Rattle.p21_spec_exchange.specs.Parameter.{Key, key_token, Param, Params, no_params, param, param_tokens, params_tokens, more_tokens, params_of}
use Rattle.p21_spec_schema.specs.PlaceType.{PlaceType}
use Rattle.p21_spec_exchange.specs.Record.{Part, Record, simple, part_tokens, record_tokens}
use Rattle.p21_spec_file.specs.Reference.{EntitySets}
use Rattle.p21_spec_file.specs.SameFile.{SameTyped}
use Rattle.p21_spec_file.specs.SameValue.{SameInOrder}
use Rattle.p21_spec_schema.specs.Schema.{Schema, Place}
use Rattle.p21_spec_schema.specs.Supertype.{IsA}
use Rattle.p21_spec_exchange.specs.Token as token
use Rattle.p21_spec_file.specs.Value.{Value, whole, real, number, text, bits, item, reference, derived, missing, list, array, set, bag, typed, Values, no_values, value, value_at}
use Rattle.p21_spec_laws.proofs.CanonicalParam.{canonical_param, canonical_params, canonical-written, insert_param, sort_params}
use Rattle.p21_spec_laws.proofs.Depths.{canonical-depth}
use Rattle.p21_spec_laws.proofs.Existence.{canonical_value, canonical_pairs, values_in, pairs-count, canonical-in_order, canonical-is, canonical-fits}
use Rattle.p21_spec_laws.proofs.Leaves.{closure-leaf}
use Rattle.p21_spec_laws.proofs.OfType.{AreWritten, fits-of}
use Rattle.p21_spec_laws.proofs.RecordOnce.{part-written}
use Rattle.p21_spec_file.specs.Sorting.{is_below}
use Rattle.p21_spec_laws.specs.Written.{IsWritten}
use Rattle.p21_spec_exchange.specs.Token.{IsSpelled}

-- ---- no user keywords

abbrev pub IsPlain : Param → Type 0
IsPlain p = Each IsNoUserKeyword (param_tokens p)

abbrev pub ArePlain : Params → Type 0
ArePlain no_params = Unit {0}
ArePlain (param p ps) = IsPlain p × ArePlain ps

more-plain : (ps : Params) → ArePlain ps → Each IsNoUserKeyword (more_tokens ps)
more-plain no_params plain = tt
more-plain (param p ps) plain = (tt, Each-append IsNoUserKeyword (param_tokens p) (more_tokens ps) plain.0 (more-plain ps plain.1))

params-plain : (ps : Params) → ArePlain ps → Each IsNoUserKeyword (params_tokens ps)
params-plain no_params plain = tt
params-plain (param p ps) plain = Each-append IsNoUserKeyword (param_tokens p) (more_tokens ps) plain.0 (more-plain ps plain.1)

pub list-plain : (ps : Params) → ArePlain ps → IsPlain (parameter.list ps)
list-plain ps plain = (tt, Each-append IsNoUserKeyword (params_tokens ps) (token.right ∷ []) (params-plain ps plain) (tt, tt))

insert-plain : (p : Param) (ps : List Param) → IsPlain p → ArePlain (params_of ps) → ArePlain (params_of (insert_param p ps))
insert-plain p [] first rest = (first, tt)
insert-plain p (q ∷ qs) first rest = by_test (is_below (param_text q) (param_text p)) (insert-plain p qs first rest.1)
  where
    by_test : (b : Bool) → ArePlain (params_of (insert_param p qs)) → ArePlain (params_of (if b then q ∷ insert_param p qs else p ∷ q ∷ qs))
    by_test true more = (rest.0, more)
    by_test false more = (first, rest)

sort-plain : (ps : List Param) → ArePlain (params_of ps) → ArePlain (params_of (sort_params ps))
sort-plain [] plain = tt
sort-plain (p ∷ ps) plain = insert-plain p (sort_params ps) plain.0 (sort-plain ps plain.1)

mutual
  canonical-plain : (s : Schema) (v : Value) → IsPlain (canonical_param s v)
  canonical-plain s (whole _) = (tt, tt)
  canonical-plain s (real _) = (tt, tt)
  canonical-plain s (number _) = (tt, tt)
  canonical-plain s (text _) = (tt, tt)
  canonical-plain s (bits _) = (tt, tt)
  canonical-plain s (item _) = (tt, tt)
  canonical-plain s (reference _) = (tt, tt)
  canonical-plain s derived = (tt, tt)
  canonical-plain s missing = (tt, tt)
  canonical-plain s (list vs) = list-plain (params_of (canonical_params s vs)) (all-plain s vs)
  canonical-plain s (array vs) = list-plain (params_of (canonical_params s vs)) (all-plain s vs)
  canonical-plain s (set vs) = list-plain (params_of (sort_params (canonical_params s vs))) (sort-plain (canonical_params s vs) (all-plain s vs))
  canonical-plain s (bag vs) = list-plain (params_of (sort_params (canonical_params s vs))) (sort-plain (canonical_params s vs) (all-plain s vs))
  canonical-plain s (typed _ v) = (tt, (tt, Each-append IsNoUserKeyword (param_tokens (canonical_param s v)) (token.right ∷ []) (canonical-plain s v) (tt, tt)))

  all-plain : (s : Schema) (vs : Values) → ArePlain (params_of (canonical_params s vs))
  all-plain s no_values = tt
  all-plain s (value v vs) = (canonical-plain s v, all-plain s vs)

-- ---- the meaning with its sets and bags in order

abbrev row : Schema → Values → Values
row s vs = values_in (canonical_pairs s vs)

abbrev pub canonical_typed : Schema → Typed → Typed
canonical_typed s a = record { entities = a.entities; values = map (row s) a.values }

rows-same : (s : Schema) (rows : List Values) → AllZip SameInOrder rows (map (row s) rows)
rows-same s [] = tt
rows-same s (vs ∷ rows) = (canonical-in_order s vs, rows-same s rows)

rows-count : (s : Schema) (es : List ℕ) (rows : List Values) → AllZip (HasOwnCount s) es rows → AllZip (HasOwnCount s) es (map (row s) rows)
rows-count s [] [] all = tt
rows-count s [] (vs ∷ rows) all = absurd all
rows-count s (e ∷ es) [] all = absurd all
rows-count s (e ∷ es) (vs ∷ rows) all = (pairs-count s vs ∙ all.0, rows-count s es rows all.1)

rows-zip : (s : Schema) (es : List ℕ) (rows : List Values) (e : ℕ) (vs : Values) → Contains (zip es rows) (e, vs) → Contains (zip es (map (row s) rows)) (e, row s vs)
rows-zip s [] rows e vs among = absurd (Contains-none (e, vs) among)
rows-zip s (x ∷ xs) [] e vs among = absurd (Contains-none (e, vs) among)
rows-zip s (x ∷ xs) (ws ∷ rows) e vs among = elim (Contains-cases (x, ws) (zip xs rows) (e, vs) among) [
  | inl h ↦ (0, omega arith, ap (λ (p : ℕ × Values). (p.0, row s p.1)) h)
  | inr h ↦ Contains-later (x, row s ws) (zip xs (map (row s) rows)) (e, row s vs) (rows-zip s xs rows e vs h)
]

row-at : (s : Schema) (vs : Values) (i : ℕ) (v : Value) → value_at vs i ≡ Some v → value_at (row s vs) i ≡ Some (canonical_value s v)
row-at s no_values i v at = cc
row-at s (value w ws) zero v at = let same : w ≡ v = cc in ap (λ (x : Value). Some (canonical_value s x)) same
row-at s (value w ws) (suc i) v at = row-at s ws i v at

pub has-canonical_value : (s : Schema) (a : Typed) (place : Place) (v : Value) → HasValueAt a place v → HasValueAt (canonical_typed s a) place (canonical_value s v)
has-canonical_value s a place v (vs, has, at) = (row s vs, rows-zip s a.entities a.values place.entity vs has, row-at s vs place.index v at)

-- ---- canonical parameters at places

pub record Printed (s : Schema) (kinds : EntitySets) (b : Typed) (ps : List Place) : Type 0 where
  pub params : Params
  pub fit : FitPlaces s kinds b ps params
  pub canonical : AreCanonicalAt b ps params
  pub written : AreWritten params
  pub plain : ArePlain params
  pub shallow : IsShallow params

pub at-fits : (s : Schema) (kinds : EntitySets) (at : PlaceType) (p : Param) (v : Value) → FitsAt s kinds at p v → FitsAt s kinds at (canonical_param s v) (canonical_value s v)
at-fits s kinds at p v star = star
at-fits s kinds at p v (dollar type) = dollar type
at-fits s kinds at p v (fits optional type _ _ fit) = fits optional type (canonical_param s v) (canonical_value s v) (canonical-fits s kinds type p v fit)

pub at-written : (s : Schema) (kinds : EntitySets) (at : PlaceType) (p : Param) (v : Value) → FitsAt s kinds at p v → IsWritten p → IsWritten (canonical_param s v)
at-written s kinds at p v star written = written
at-written s kinds at p v (dollar type) written = written
at-written s kinds at p v (fits optional type _ _ fit) written = canonical-written s type v (fits-of s kinds type p v fit written)

at-depth : (s : Schema) (kinds : EntitySets) (at : PlaceType) (p : Param) (v : Value) → FitsAt s kinds at p v → depth (canonical_param s v) ≤ depth p
at-depth s kinds at p v star = omega arith
at-depth s kinds at p v (dollar type) = omega arith
at-depth s kinds at p v (fits optional type _ _ fit) = canonical-depth s kinds type p v fit

pub printed-places : (s : Schema) (kinds : EntitySets) (a : Typed) (ps : List Place) (xs : Params) → FitPlaces s kinds a ps xs → AreWritten xs → IsShallow xs → Printed s kinds (canonical_typed s a) ps
printed-places s kinds a [] no_params fit written shallow = record { params = no_params; fit = tt; canonical = tt; written = tt; plain = tt; shallow = omega arith }
printed-places s kinds a [] (param x xs) fit written shallow = absurd fit
printed-places s kinds a (p ∷ ps) no_params fit written shallow = absurd fit
printed-places s kinds a (p ∷ ps) (param x xs) ((at, v, type_at, fit, has), more) written shallow =
    let rest = printed-places s kinds a ps xs more written.1 (omega (arith, shallow)) in
    let low = at-depth s kinds at x v fit in
    let has_ = has-canonical_value s a p v has in
    record {
      params = param (canonical_param s v) rest.params;
      fit = ((at, canonical_value s v, type_at, at-fits s kinds at x v fit, has_), rest.fit);
      canonical = ((canonical_value s v, has_, canonical-is s v), rest.canonical);
      written = (at-written s kinds at x v fit written.0, rest.written);
      plain = (canonical-plain s v, rest.plain);
      shallow = (let more_low = rest.shallow in omega (arith, shallow, low, more_low));
    }

-- one list of parameters behind the other
abbrev join : Params → Params → Params
join no_params ys = ys
join (param x xs) ys = param x (join xs ys)

join-fit : (s : Schema) (kinds : EntitySets) (b : Typed) (ps qs : List Place) (xs ys : Params) → FitPlaces s kinds b ps xs → FitPlaces s kinds b qs ys → FitPlaces s kinds b (ps ++ qs) (join xs ys)
join-fit s kinds b [] qs no_params ys first second = second
join-fit s kinds b [] qs (param x xs) ys first second = absurd first
join-fit s kinds b (p ∷ ps) qs no_params ys first second = absurd first
join-fit s kinds b (p ∷ ps) qs (param x xs) ys first second = (first.0, join-fit s kinds b ps qs xs ys first.1 second)

join-canonical : (b : Typed) (ps qs : List Place) (xs ys : Params) → AreCanonicalAt b ps xs → AreCanonicalAt b qs ys → AreCanonicalAt b (ps ++ qs) (join xs ys)
join-canonical b [] qs no_params ys first second = second
join-canonical b [] qs (param x xs) ys first second = absurd first
join-canonical b (p ∷ ps) qs no_params ys first second = absurd first
join-canonical b (p ∷ ps) qs (param x xs) ys first second = (first.0, join-canonical b ps qs xs ys first.1 second)

join-written : (xs ys : Params) → AreWritten xs → AreWritten ys → AreWritten (join xs ys)
join-written no_params ys first second = second
join-written (param x xs) ys first second = (first.0, join-written xs ys first.1 second)

join-plain : (xs ys : Params) → ArePlain xs → ArePlain ys → ArePlain (join xs ys)
join-plain no_params ys first second = second
join-plain (param x xs) ys first second = (first.0, join-plain xs ys first.1 second)

join-shallow : (xs ys : Params) → IsShallow xs → IsShallow ys → IsShallow (join xs ys)
join-shallow no_params ys first second = second
join-shallow (param x xs) ys first second = let more = join-shallow xs ys (omega (arith, first)) second in omega (arith, first, more)

printed-join : (s : Schema) (kinds : EntitySets) (b : Typed) (ps qs : List Place) → Printed s kinds b ps → Printed s kinds b qs → Printed s kinds b (ps ++ qs)
printed-join s kinds b ps qs first second = record {
  params = join first.params second.params;
  fit = join-fit s kinds b ps qs first.params second.params first.fit second.fit;
  canonical = join-canonical b ps qs first.params second.params first.canonical second.canonical;
  written = join-written first.params second.params first.written second.written;
  plain = join-plain first.params second.params first.plain second.plain;
  shallow = join-shallow first.params second.params first.shallow second.shallow;
}

pub printed-each : (s : Schema) (kinds : EntitySets) (b : Typed) (es : List ℕ) → ((e : ℕ) → Contains es e → Printed s kinds b (own_places s e)) → Printed s kinds b (flat_map (own_places s) es)
printed-each s kinds b [] each = record { params = no_params; fit = tt; canonical = tt; written = tt; plain = tt; shallow = omega arith }
printed-each s kinds b (e ∷ es) each = printed-join s kinds b (own_places s e) (flat_map (own_places s) es) (each e (Contains-first e es)) (printed-each s kinds b es (λ f among. each f (Contains-later e es f among)))

-- ---- records

-- a canonical record of this meaning, with its sets and bags in order
pub record HasCanonicalRecord (s : Schema) (kinds : EntitySets) (a : Typed) : Type 0 where
  pub record_ : Record
  pub means : RecordMeans s kinds record_ (canonical_typed s a)
  pub canonical : IsCanonicalRecord s record_ (canonical_typed s a)
  pub written : Each IsSpelled (record_tokens record_)
  pub data_record : IsDataRecord record_

pub canonical-same_typed : (s : Schema) (a : Typed) → SameTyped a (canonical_typed s a)
canonical-same_typed s a = (refl, rows-same s a.values)

pub means-with : (s : Schema) (kinds : EntitySets) (r q : Record) (a : Typed) → RecordMeans s kinds r a → MeansByMapping s kinds q (canonical_typed s a) → RecordMeans s kinds q (canonical_typed s a)
means-with s kinds r q a means mapping = record {
  rising = means.rising;
  own_counts = rows-count s a.entities a.values means.own_counts;
  no_abstract_leaf = means.no_abstract_leaf;
  no_clash = means.no_clash;
  place_types = means.place_types;
  means = mapping;
}

pub key-plain : (s : Schema) (key : Key) (e : ℕ) → NamesEntity s key e → IsNoUserKeyword (key_token key)
key-plain s key e (n, named, is) = let P : Key → Type 0 = λ k. IsNoUserKeyword (key_token k) in subst P (sym is) tt

pub written-tokens : (ps : Params) → AreWritten ps → Each IsSpelled (params_tokens ps)
written-tokens no_params written = tt
written-tokens (param p ps) written = Each-append IsSpelled (param_tokens p) (more_tokens ps) written.0 (more ps written.1)
  where
    more : (qs : Params) → AreWritten qs → Each IsSpelled (more_tokens qs)
    more no_params each = tt
    more (param q qs) each = ((codes ",", refl), Each-append IsSpelled (param_tokens q) (more_tokens qs) each.0 (more qs each.1))

pub part-said : (part : Part) → IsSpelled (key_token part.key) → AreWritten part.params → Each IsSpelled (part_tokens part)
part-said part key written = (key, ((codes "(", refl), Each-append IsSpelled (params_tokens part.params) (token.right ∷ []) (written-tokens part.params written) ((codes ")", refl), tt)))

pub part-plain : (part : Part) → IsNoUserKeyword (key_token part.key) → ArePlain part.params → Each IsNoUserKeyword (part_tokens part)
part-plain part key plain = (key, (tt, Each-append IsNoUserKeyword (params_tokens part.params) (token.right ∷ []) (params-plain part.params plain) (tt, tt)))

-- in internal mapping
pub print-simple : (s : Schema) (kinds : EntitySets) (r : Record) (a : Typed) → RecordMeans s kinds r a → (key : Key) (e : ℕ) → NamesEntity s key e → IsSpelled (key_token key) → ((f : ℕ) → Contains a.entities f ↔ IsA s e f) → HasOneLeaf s a.entities
    → Printed s kinds (canonical_typed s a) (places s e) → HasCanonicalRecord s kinds a
print-simple s kinds r a means key e named spelled closure leaf printed =
    let part : Part = record { key = key; params = printed.params } in
    record {
      record_ = simple part;
      means = means-with s kinds r (simple part) a means (record { entity = e; named = named; closure = closure; fit = printed.fit });
      canonical = record { form = leaf; params = (e, named, printed.canonical) };
      written = part-said part spelled printed.written;
      data_record = record { some_parts = omega arith; shallow = (printed.shallow, tt); no_user_keywords = part-plain part (key-plain s key e named) printed.plain };
    }

pub print-record : (s : Schema) → IsWellFormed s → (kinds : EntitySets) (part : Part) (a : Typed) → RecordMeans s kinds (simple part) a → Each IsSpelled (record_tokens (simple part)) → IsDataRecord (simple part) → HasCanonicalRecord s kinds a
print-record s formed kinds part a means written data_record =
    print-simple s kinds (simple part) a means part.key means.means.entity means.means.named written.0 means.means.closure (closure-leaf s formed a.entities means.means.entity means.means.closure)
    (printed-places s kinds a (places s means.means.entity) part.params means.means.fit (part-written part written) data_record.shallow.0)
