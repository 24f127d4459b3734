-- Rows that are read one behind the other.
use Rattle.std.specs.Prelude.{◌≡◌, ℕ, zero, suc, ◌+◌, ◌-◌, ◌<◌, ◌≤◌, List, [], ◌∷◌, ◌++◌, length, map, take, drop, slice_get, Some, Contains, refl}
use Rattle.std.specs.List.{AllByRecursion as Each, flat_map, zip}
use Rattle.std.proofs.Common.{arith, ap, sym, ◌∙◌, subst, inl, inr, append_assoc, get_or}
use Rattle.std.proofs.lemmas.List.{append-nil, map-append, length-append, take-append-drop, take_all}
use Rattle.std.proofs.lemmas.Grind.{flat_map-append}
use Rattle.std.proofs.lemmas.Slice.Zip.{AllZip-long}
use Rattle.p21_spec_basics.proofs.Members.{Contains-none, Contains-later, Contains-cases, Contains-found}
use Rattle.p21_spec_exchange.specs.Parameter.{Param, listed}
use Rattle.p21_spec_exchange.specs.Record.{Part, complex}
use Rattle.p21_express_graph.proofs.Lookups.{numbers-more}
use Rattle.p21_express_graph.specs.Orders.{numbers}
use Rattle.p21_express_graph.specs.declared.number.EntityId.{EntityId}
use Rattle.p21_spec_file.specs.Meaning.{NamesEntity}
use Rattle.p21_spec_file.specs.RecordPlaces.{HasPart}
use Rattle.p21_spec_file.specs.Reference.{Need}
use Rattle.p21_spec_file.specs.Value.{Value, Values}
use Rattle.p21_mapping.specs.Rows.{Row, IsRow, FitsRows, TakesRow, TakesRows, TakesParts, BreaksAmong}
use Rattle.p21_mapping.proofs.RowLists.{rows-none, rows-push, row-long}
use Rattle.p21_mapping.proofs.GrownLists.{flat_map-more, flat_map-front, AllZip-at_both, mapped-at}
use Rattle.p21_mapping.proofs.Shapes.{own-count}
use Rattle.p21_mapping.specs.Shape.{AreNamed}
use Rattle.p21_mapping_values.specs.declared.value.Values.{Values as Stored}
use Rattle.p21_mapping_values.specs.TypedView.{rows_view}
use Rattle.p21_mapping_values.specs.View.{row_of_values, list_of, view}
use Rattle.p21_spec_schema.specs.Order.{own_places}
use Rattle.p21_spec_schema.specs.Schema.{Schema, Place, attributes_of}

-- the parameters of rows, one behind the other
abbrev flat : List (List Param) → List Param
flat pss = flat_map (λ (ps : List Param). ps) pss

flat-push : (pss : List (List Param)) (ps : List Param) → flat (pss ++ ps ∷ []) ≡ flat pss ++ ps
flat-push pss ps = flat_map-append (λ (xs : List Param). xs) pss (ps ∷ []) ∙ ap (λ xs. flat pss ++ xs) (append-nil ps)

rows_view-push : (rows after : List Stored) (row : Stored) → after ≡ rows ++ row ∷ []
    → rows_view after ≡ rows_view rows ++ row_of_values (map view (list_of row)) ∷ []
rows_view-push rows after row pushed = ap rows_view pushed
    ∙ map-append (λ (x : Stored). row_of_values (map view (list_of x))) rows (row ∷ [])

-- as many parameters as places
rows-long : (s : Schema) (entities owners : List ℕ) (pss : List (List Param)) (vss : List Values) (needs : List Need)
    → FitsRows s entities owners pss vss needs → length (flat pss) ≡ length (flat_map (own_places s) owners)
rows-long s entities owners pss vss needs all = ap (λ xs. length (flat xs)) (sym all.params_are) ∙ long all.rows all.each
    ∙ ap (λ xs. length (flat_map (own_places s) xs)) all.owners_are
  where
    long : (rows : List Row) → Each (IsRow s entities) rows
        → length (flat (map (λ (row : Row). row.params) rows)) ≡ length (flat_map (own_places s) (map (λ (row : Row). row.owner) rows))
    long [] each = refl
    long (row ∷ rows) each =
        length-append row.params (flat (map (λ (r : Row). r.params) rows))
        ∙ ap (λ n. n + length (flat (map (λ (r : Row). r.params) rows)))
        (sym (row-long s entities (own_places s row.owner) row.params row.values row.needs each.0))
        ∙ ap (λ n. length (own_places s row.owner) + n) (long rows each.1)
        ∙ sym (length-append (own_places s row.owner) (flat_map (own_places s) (map (λ (r : Row). r.owner) rows)))

module _ (s : Schema) (entities : List ℕ) (owners : List EntityId) where
  -- ---- internal mapping

  pub rows-begin : (before : List Param) (needs : List Need) → TakesRows s entities [] before before [] needs needs
  rows-begin before needs = record { params = []; added = []; taken = refl; needed = sym (append-nil needs); fits = rows-none s entities }

  pub rows-more : (k : ℕ) (d : EntityId) (before now rest : List Param) (rows after : List Stored) (row : Stored) (old new more : List Need)
      → k < length owners → after ≡ rows ++ row ∷ []
      → TakesRows s entities (numbers (take k owners)) before now (rows_view rows) old new
      → TakesRow s entities (get_or owners k d).0 now rest (map view (list_of row)) new more
      → TakesRows s entities (numbers (take (k + 1) owners)) before rest (rows_view after) old more
  rows-more k d before now rest rows after row old new more below pushed all one =
      let e : ℕ = (get_or owners k d).0 in
      let P : List ℕ → Type 0 = λ es. FitsRows s entities es (all.params ++ one.params ∷ []) (rows_view after) (all.added ++ one.added) in
      let Q : List Values → Type 0 = λ vss. FitsRows s entities (numbers (take k owners) ++ e ∷ []) (all.params ++ one.params ∷ []) vss
      (all.added ++ one.added) in
      record {
        params = all.params ++ one.params ∷ [];
        added = all.added ++ one.added;
        taken = all.taken ∙ ap (λ ps. flat all.params ++ ps) one.taken ∙ sym (append_assoc (flat all.params) one.params rest)
            ∙ ap (λ ps. ps ++ rest) (sym (flat-push all.params one.params));
        needed = one.needed ∙ ap (λ ns. ns ++ one.added) all.needed ∙ append_assoc old all.added one.added;
        fits = subst P (sym (numbers-more (λ (x : EntityId). x.0) owners k d below))
            (subst Q (sym (rows_view-push rows after row pushed))
            (rows-push s entities (numbers (take k owners)) all.params (rows_view rows) all.added
            (record { owner = e; params = one.params; values = map view (list_of row); needs = one.added }) all.fits one.fits));
      }

  -- enough parameters are left
  pub rows-enough : (k : ℕ) (d : EntityId) (before now : List Param) (rows : List Values) (old new : List Need) → k < length owners
      → length before ≡ length (flat_map (own_places s) (numbers owners))
      → TakesRows s entities (numbers (take k owners)) before now rows old new
      → length (attributes_of s (get_or owners k d).0) ≤ length now
  rows-enough k d before now rows old new below whole all =
      let taken = ap length all.taken ∙ length-append (flat all.params) now in
      let long = rows-long s entities (numbers (take k owners)) all.params rows all.added all.fits in
      let more = flat_map-more (λ (x : EntityId). x.0) (own_places s) owners k d below in
      let front = flat_map-front (λ (x : EntityId). x.0) (own_places s) owners (k + 1) in
      let own = own-count s (get_or owners k d).0 in
      omega (arith, taken, long, more, front, own, whole)

  -- none is left behind the last
  pub rows-end : (k : ℕ) (before now : List Param) (rows : List Values) (old new : List Need) → length owners ≤ k
      → length before ≡ length (flat_map (own_places s) (numbers owners))
      → TakesRows s entities (numbers (take k owners)) before now rows old new
      → TakesRows s entities (numbers owners) before [] rows old new
  rows-end k before now rows old new past whole all =
      let taken = ap length all.taken ∙ length-append (flat all.params) now in
      let long = rows-long s entities (numbers (take k owners)) all.params rows all.added all.fits in
      let everything = ap (λ (es : List EntityId). length (flat_map (own_places s) (numbers es))) (take_all k owners past) in
      let none : now ≡ [] = empty now (omega (arith, taken, long, everything, whole)) in
      let P : List ℕ → Type 0 = λ es. FitsRows s entities es all.params rows all.added in
      record {
        params = all.params;
        added = all.added;
        taken = all.taken
            ∙ ap (λ ps. flat all.params ++ ps) none;
        needed = all.needed;
        fits = subst P (ap numbers (take_all k owners past)) all.fits;
      }
    where
      empty : (ps : List Param) → length ps ≡ 0 → ps ≡ []
      empty [] short = refl
      empty (p ∷ ps) short = absurd (omega (arith, short))

  zip-front : {X Y : Type 0} (xs more : List X) (ys : List Y) (p : X × Y) → Contains (zip xs ys) p → Contains (zip (xs ++ more) ys) p
  zip-front [] more ys p among = absurd (Contains-none p among)
  zip-front (x ∷ xs) more [] p among = absurd (Contains-none p among)
  zip-front (x ∷ xs) more (y ∷ ys) p among = elim (Contains-cases (x, y) (zip xs ys) p among) [
    | inl h ↦ (0, omega arith, h)
    | inr h ↦ Contains-later (x, y) (zip (xs ++ more) ys) p (zip-front xs more ys p h)
  ]

  zip-behind : {X Y : Type 0} (xs more : List X) (ys rest : List Y) (p : X × Y) → length xs ≡ length ys → Contains (zip more rest) p
      → Contains (zip (xs ++ more) (ys ++ rest)) p
  zip-behind [] more [] rest p long among = among
  zip-behind [] more (y ∷ ys) rest p long among = absurd (omega (arith, long))
  zip-behind (x ∷ xs) more [] rest p long among = absurd (omega (arith, long))
  zip-behind (x ∷ xs) more (y ∷ ys) rest p long among =
      Contains-later (x, y) (zip (xs ++ more) (ys ++ rest)) p (zip-behind xs more ys rest p (omega (arith, long)) among)

  -- what a row breaks the whole breaks
  pub rows-break : (k : ℕ) (d : EntityId) (before now : List Param) (rows : List Values) (old new : List Need) (number : ℕ)
      → k < length owners → TakesRows s entities (numbers (take k owners)) before now rows old new
      → BreaksAmong s entities (zip (own_places s (get_or owners k d).0) now) number
      → BreaksAmong s entities (zip (flat_map (own_places s) (numbers owners)) before) number
  rows-break k d before now rows old new number below all (place, p, among, breaks) =
      let e : ℕ = (get_or owners k d).0 in
      let front : List Place = flat_map (own_places s) (numbers (take k owners)) in
      let behind : List Place = flat_map (own_places s) (numbers (drop (k + 1) owners)) in
      let split : flat_map (own_places s) (numbers owners) ≡ front ++ (own_places s e ++ behind) =
      ap (λ (es : List EntityId). flat_map (own_places s) (numbers es)) (sym (take-append-drop (k + 1) owners))
      ∙ ap (flat_map (own_places s)) (map-append (λ (x : EntityId). x.0) (take (k + 1) owners) (drop (k + 1) owners))
      ∙ flat_map-append (own_places s) (numbers (take (k + 1) owners)) (numbers (drop (k + 1) owners))
      ∙ ap (λ es. flat_map (own_places s) es ++ behind) (numbers-more (λ (x : EntityId). x.0) owners k d below)
      ∙ ap (λ ps. ps ++ behind) (flat_map-append (own_places s) (numbers (take k owners)) (e ∷ [])
      ∙ ap (λ ps. front ++ ps) (append-nil (own_places s e))) ∙ append_assoc front (own_places s e) behind in
      let P : List Place → Type 0 = λ places. Contains (zip places before) (place, p) in
      let Q : List Param → Type 0 = λ ps. Contains (zip (front ++ (own_places s e ++ behind)) ps) (place, p) in
      let long = rows-long s entities (numbers (take k owners)) all.params rows all.added all.fits in (
        place,
        p,
        subst P (sym split) (subst Q (sym all.taken)
            (zip-behind front (own_places s e ++ behind) (flat all.params) now (place, p) (sym long)
            (zip-front (own_places s e) behind now (place, p) among))),
        breaks,
      )

  -- ---- external mapping

  pub parts-begin : (before : List Part) (needs : List Need) → TakesParts s entities [] before before [] needs needs
  parts-begin before needs = record { parts = []; added = []; taken = refl; needed = sym (append-nil needs); fits = rows-none s entities }

  pub parts-more : (k : ℕ) (d : EntityId) (before now rest : List Part) (part : Part) (after_params : List Param) (rows after : List Stored)
      (row : Stored) (old new more : List Need) → k < length owners → after ≡ rows ++ row ∷ [] → now ≡ part ∷ rest → after_params ≡ []
      → TakesParts s entities (numbers (take k owners)) before now (rows_view rows) old new
      → TakesRow s entities (get_or owners k d).0 (listed part.params) after_params (map view (list_of row)) new more
      → TakesParts s entities (numbers (take (k + 1) owners)) before rest (rows_view after) old more
  parts-more k d before now rest part after_params rows after row old new more below pushed next none all one =
      let e : ℕ = (get_or owners k d).0 in
      let own : one.params ≡ listed part.params = sym (one.taken ∙ ap (λ ps. one.params ++ ps) none ∙ append-nil one.params) in
      let pss : List (List Param) = map (λ (x : Part). listed x.params) all.parts in
      let P : List ℕ → Type 0 = λ es. FitsRows s entities es (map (λ (x : Part). listed x.params) (all.parts ++ part ∷ []))
      (rows_view after) (all.added ++ one.added) in
      let Q : List Values → Type 0 = λ vss. FitsRows s entities (numbers (take k owners) ++ e ∷ [])
      (map (λ (x : Part). listed x.params) (all.parts ++ part ∷ [])) vss (all.added ++ one.added) in
      let R : List (List Param) → Type 0 = λ xss. FitsRows s entities (numbers (take k owners) ++ e ∷ []) xss
      (rows_view rows ++ row_of_values (map view (list_of row)) ∷ []) (all.added ++ one.added) in
      record {
        parts = all.parts ++ part ∷ [];
        added = all.added ++ one.added;
        taken = all.taken ∙ ap (λ ps. all.parts ++ ps) next ∙ sym (append_assoc all.parts (part ∷ []) rest);
        needed = one.needed ∙ ap (λ ns. ns ++ one.added) all.needed ∙ append_assoc old all.added one.added;
        fits = subst P (sym (numbers-more (λ (x : EntityId). x.0) owners k d below))
            (subst Q (sym (rows_view-push rows after row pushed))
            (subst R (ap (λ ps. pss ++ ps ∷ []) own ∙ sym (map-append (λ (x : Part). listed x.params) all.parts (part ∷ [])))
            (rows-push s entities (numbers (take k owners)) pss (rows_view rows) all.added
            (record { owner = e; params = one.params; values = map view (list_of row); needs = one.added }) all.fits one.fits)));
      }

  parts-long : (owns : List ℕ) (before now : List Part) (rows : List Values) (old new : List Need)
      → TakesParts s entities owns before now rows old new → length owns ≡ length before - length now
  parts-long owns before now rows old new all = omega (
    arith,
    ap length all.taken ∙ length-append all.parts now,
    ap length (sym all.fits.owners_are)
        ∙ mapped (λ (row : Row). row.owner) all.fits.rows,
    ap length all.fits.params_are,
    mapped (λ (row : Row). row.params) all.fits.rows,
    listed-length all.parts,
  )
    where
      mapped : {Y : Type 0} (g : Row → Y) (xs : List Row) → length (map g xs) ≡ length xs
      mapped g [] = refl
      mapped g (x ∷ xs) = ap suc (mapped g xs)

      listed-length : (ps : List Part) → length (map (λ (x : Part). listed x.params) ps) ≡ length ps
      listed-length [] = refl
      listed-length (p ∷ ps) = ap suc (listed-length ps)

  front-long : (k : ℕ) → k < length owners → length (numbers (take k owners)) ≡ k
  front-long k below = go k owners below
    where
      go : (k : ℕ) (es : List EntityId) → k < length es → length (numbers (take k es)) ≡ k
      go k [] below = absurd (omega (arith, below))
      go zero (e ∷ es) below = refl
      go (suc k) (e ∷ es) below = ap suc (go k es (omega (arith, below)))

  numbers-long : length (numbers owners) ≡ length owners
  numbers-long = go owners
    where
      go : (es : List EntityId) → length (numbers es) ≡ length es
      go [] = refl
      go (e ∷ es) = ap suc (go es)

  module _ (before : List Part) (named : AreNamed s before (numbers owners)) where
    long : length before ≡ length owners
    long = sym (AllZip-long (λ (part : Part) e. NamesEntity s part.key e) before (numbers owners) named) ∙ numbers-long

    -- a simple record is left for each entity that is left
    pub parts-room : (k : ℕ) (now : List Part) (rows : List Values) (old new : List Need) → k < length owners
        → TakesParts s entities (numbers (take k owners)) before now rows old new → length now ≡ 0 → ⊥
    parts-room k now rows old new below all none = absurd
        (omega (arith, parts-long (numbers (take k owners)) before now rows old new all, front-long k below, long, below, none))

    split-at : (xs ys : List Part) (x : Part) → slice_get (xs ++ x ∷ ys) (length xs) ≡ Some x
    split-at [] ys x = refl
    split-at (z ∷ xs) ys x = split-at xs ys x

    -- the next simple record is that of the next entity
    pub parts-next : (k : ℕ) (d : EntityId) (now rest : List Part) (part : Part) (rows : List Values) (old new : List Need)
        → k < length owners → now ≡ part ∷ rest → TakesParts s entities (numbers (take k owners)) before now rows old new
        → HasPart s (complex before) part (get_or owners k d).0
    parts-next k d now rest part rows old new below next all =
        let k_is : length all.parts ≡ k = omega (
          arith,
          ap length all.taken
              ∙ length-append all.parts now,
          parts-long (numbers (take k owners)) before now rows old new all,
          front-long k below,
        ) in
        let at : slice_get before k ≡ Some part = ap (λ n. slice_get before n) (sym k_is)
        ∙ ap (λ ps. slice_get ps (length all.parts)) (all.taken ∙ ap (λ ps. all.parts ++ ps) next) ∙ split-at all.parts rest part in (
          Contains-found before k part at,
          AllZip-at_both (λ (x : Part) e. NamesEntity s x.key e) before (numbers owners) k part
              (get_or owners k d).0 named at (mapped-at (λ (x : EntityId). x.0) owners k d below),
        )

    -- none is left behind the last
    pub parts-end : (k : ℕ) (now : List Part) (rows : List Values) (old new : List Need) → length owners ≤ k
        → TakesParts s entities (numbers (take k owners)) before now rows old new
        → TakesParts s entities (numbers owners) before [] rows old new
    parts-end k now rows old new past all =
        let P : List ℕ → Type 0 = λ es. TakesParts s entities es before now rows old new in
        let all_ : TakesParts s entities (numbers owners) before now rows old new = subst P (ap numbers (take_all k owners past)) all in
        let none : now ≡ [] = empty now (omega (
          arith,
          ap length all_.taken
              ∙ length-append all_.parts now,
          parts-long (numbers owners) before now rows old new all_,
          numbers-long,
          long,
        )) in
        let Q : List Part → Type 0 = λ ps. TakesParts s entities (numbers owners) before ps rows old new in
        subst Q none all_
      where
        empty : (ps : List Part) → length ps ≡ 0 → ps ≡ []
        empty [] short = refl
        empty (p ∷ ps) short = absurd (omega (arith, short))

  -- a row takes all parameters of a simple record
  pub row-whole : (part : Part) (e : ℕ) (after : List Param) (values : List Value) (old new : List Need)
      → length (listed part.params) ≡ length (own_places s e) → TakesRow s entities e (listed part.params) after values old new → after ≡ []
  row-whole part e after values old new counted one =
      empty after (omega (
        arith,
        ap length one.taken ∙ length-append one.params after,
        row-long s entities (own_places s e) one.params
            values one.added one.fits,
        counted,
      ))
    where
      empty : (ps : List Param) → length ps ≡ 0 → ps ≡ []
      empty [] short = refl
      empty (p ∷ ps) short = absurd (omega (arith, short))
