-- Instances say the same in one section exactly if the texts of what they say are equal.
use Rattle.std.specs.Prelude.{◌≡◌, ◌↔◌, ◌<◌, ◌^◌, ℕ, suc, Bool, true, false, List, [], ◌∷◌, ◌++◌, length, map, ltb, Some, Contains, refl, if◌then◌else◌}
use Rattle.std.specs.List.{AllZip, flat_map, zip, AllByRecursion as Each}
use Rattle.std.proofs.Common.{arith, ap, sym, subst, ◌∙◌, inl, inr, append_assoc}
use Rattle.std.proofs.lemmas.Bool.{lt-ltb, ltb-true}
use Rattle.p21_spec_basics.proofs.Members.{Contains-none, Contains-cases, Contains-first, Contains-later, Contains-flat_map, Contains-zip, AllZip-second_member, Contains-mapped, Each-member}
use Rattle.p21_spec_basics.proofs.Shuffles.{NoneTwice, zip-one}
use Rattle.p21_spec_exchange.proofs.Names.{name_spells}
use Rattle.p21_spec_exchange.specs.DataSection.{Heading, unnamed, named, instances_in}
use Rattle.p21_spec_exchange.specs.Parameter.{Params, no_params, param}
use Rattle.p21_spec_exchange.specs.Record.{Part, Record, simple, complex, record_tokens}
use Rattle.p21_spec_exchange.specs.Spelling.{name_spelling}
use Rattle.p21_spec_exchange.specs.Structure.{tokens_of}
use Rattle.p21_spec_exchange.specs.Token.{IsSpelled, right}
use Rattle.p21_spec_file.proofs.OneMeaning.{rising-none_twice}
use Rattle.p21_spec_file.specs.File.{FileMeaning, InstanceMeans, Reads, entity_sets_of}
use Rattle.p21_spec_file.specs.Meaning.{Typed, HasValueAt, FitPlaces, PartMeans, MeansByMapping, HasOwnCount, RecordMeans}
use Rattle.p21_spec_file.specs.Reference.{EntitySets}
use Rattle.p21_spec_file.specs.SameFile.{SameTyped}
use Rattle.p21_spec_file.specs.SameValue.{Same, SameInOrder, both_end, both_next}
use Rattle.p21_spec_file.specs.Value.{Value, Values, no_values, value, count, value_at}
use Rattle.p21_spec_file.specs.ValueText.{value_text, value_texts}
use Rattle.p21_spec_laws.proofs.CanonicalLaid.{laid-each_spelled}
use Rattle.p21_spec_laws.proofs.OfType.{AreWritten}
use Rattle.p21_spec_laws.proofs.RecordOnce.{part-written, complex-written}
use Rattle.p21_spec_laws.proofs.SaidFiles.{Instance, instances-said}
use Rattle.p21_spec_laws.proofs.SameTexts.{same-exactly_texts_at}
use Rattle.p21_spec_laws.specs.ValueLaws.{IsPossibleAt}
use Rattle.p21_spec_schema.proofs.Orders.{order-has}
use Rattle.p21_spec_schema.proofs.OwnPlaces.{own_places-has}
use Rattle.p21_spec_schema.proofs.PlaceTypes.{TypeAt-one}
use Rattle.p21_spec_schema.specs.Order.{order, places, own_places}
use Rattle.p21_spec_schema.specs.PlaceType.{PlaceType, TypeAt}
use Rattle.p21_spec_schema.specs.Schema.{Schema, Place, attributes_of}
use Rattle.p21_spec_schema.specs.WellFormed.{IsWellFormed}
use Rattle.p21_spec_numbering.proofs.Existence.{record-each}
use Rattle.p21_spec_numbering.proofs.Records.{Undoes, record-renamed}
use Rattle.p21_spec_numbering.proofs.Renaming.{rows-kept, undo, undo-is}
use Rattle.p21_spec_numbering.proofs.Targets.{typed_targets}
use Rattle.p21_spec_numbering.proofs.CopiesMoved.{typed-twice}
use Rattle.p21_spec_numbering.specs.Numbered.{heading_label}
use Rattle.p21_spec_numbering.specs.Renamed.{renamed_typed, IsInjectiveOn}
use Rattle.p21_spec_numbering.specs.RenamedRecord.{renamed_record}
use Rattle.p21_numbering.specs.NodesOf.{row_of_texts}
use Rattle.p21_numbering.specs.Said.{said}

-- a written record means it, whatever the other instances are
pub record IsMeant (s : Schema) (x : Typed) : Type 0 where
  pub kinds : EntitySets
  pub record_ : Record
  pub means : RecordMeans s kinds record_ x
  pub written : Each IsSpelled (record_tokens record_)

-- ---- the value at each place is one that may stand there

abbrev HasPossibleAt : Schema → EntitySets → Typed → Place → Type 0
HasPossibleAt s kinds x place = (at : PlaceType) × (v : Value) × TypeAt s x.entities place at × HasValueAt x place v
    × IsPossibleAt s kinds at v

places-possible : (s : Schema) (kinds : EntitySets) (x : Typed) (ps : List Place) (params : Params) → FitPlaces s kinds x ps params
    → AreWritten params → (place : Place) → Contains ps place → HasPossibleAt s kinds x place
places-possible s kinds x [] no_params fit written place among = absurd (Contains-none place among)
places-possible s kinds x [] (param q qs) fit written place among = absurd fit
places-possible s kinds x (p ∷ ps) no_params fit written place among = absurd fit
places-possible s kinds x (p ∷ ps) (param q qs) ((at, v, type_at, fit, has), more) written place among =
    elim (Contains-cases p ps place among) [
      | inl h ↦ let P : Place → Type 0 = λ o. HasPossibleAt s kinds x o in subst P h (at, v, type_at, has, (q, fit, written.0))
      | inr h ↦ places-possible s kinds x ps qs more written.1 place h
    ]

parts-possible : (s : Schema) (kinds : EntitySets) (x : Typed) (parts : List Part) (es : List ℕ) → AllZip (PartMeans s kinds x) parts es
    → Each (λ (part : Part). AreWritten part.params) parts
    → (e : ℕ) (place : Place) → Contains es e → Contains (own_places s e) place → HasPossibleAt s kinds x place
parts-possible s kinds x parts [] all written e place among of_e = absurd (Contains-none e among)
parts-possible s kinds x [] (f ∷ es) all written e place among of_e = absurd all
parts-possible s kinds x (part ∷ parts) (f ∷ es) all written e place among of_e = elim (Contains-cases f es e among) [
  | inl h ↦ let P : ℕ → Type 0 = λ z. Contains (own_places s z) place in
      places-possible s kinds x (own_places s f) part.params all.0.1 written.0 place (subst P (sym h) of_e)
  | inr h ↦ parts-possible s kinds x parts es all.1 written.1 e place h of_e
]

mapping-possible : (s : Schema) → IsWellFormed s → (kinds : EntitySets) (r : Record) (x : Typed) → MeansByMapping s kinds r x
    → Each IsSpelled (record_tokens r) → (e i : ℕ) → Contains x.entities e → i < length (attributes_of s e)
    → HasPossibleAt s kinds x (record { entity = e; index = i })
mapping-possible s formed kinds (simple part) x means spelled e i among below =
    let in_order : Contains (order s means.entity) e =
    order-has s formed.supertypes_are formed.supertypes_end means.entity e ((means.closure e).0 among) in
    places-possible s kinds x (places s means.entity) part.params means.fit (part-written part spelled) (record { entity = e; index = i })
    (Contains-flat_map (own_places s) (order s means.entity) e (record { entity = e; index = i }) in_order (own_places-has s e i below))
mapping-possible s formed kinds (complex parts) x means spelled e i among below =
    parts-possible s kinds x parts means.entities means.parts_mean (complex-written parts (right ∷ []) spelled.1) e
    (record { entity = e; index = i }) ((means.same_entities e).1 among) (own_places-has s e i below)

-- ---- rows

-- each value in the row is one that may stand at the place of its number
abbrev IsPossibleRow : Schema → EntitySets → (ℕ → PlaceType → Type 0) → Values → Type 0
IsPossibleRow s kinds T vs = (i : ℕ) → i < count vs
    → (at : PlaceType) × (v : Value) × T i at × (value_at vs i ≡ Some v) × IsPossibleAt s kinds at v

texts-count : (s : Schema) (vs : Values) → length (value_texts s vs) ≡ count vs
texts-count s no_values = refl
texts-count s (value v vs) = ap suc (texts-count s vs)

row-tells : (s : Schema) → IsWellFormed s → (kinds others : EntitySets) (T : ℕ → PlaceType → Type 0)
    → ((i : ℕ) (at at_ : PlaceType) → T i at → T i at_ → at ≡ at_)
    → (vs ws : Values) → count vs ≡ count ws → IsPossibleRow s kinds T vs → IsPossibleRow s others T ws → SameInOrder vs ws
    ↔ (value_texts s vs ≡ value_texts s ws)
row-tells s formed kinds others T one no_values no_values long possible possible_ = (λ same. refl, λ same. both_end)
row-tells s formed kinds others T one no_values (value w ws) long possible possible_ = absurd (omega (arith, long))
row-tells s formed kinds others T one (value v vs) no_values long possible possible_ = absurd (omega (arith, long))
row-tells s formed kinds others T one (value v vs) (value w ws) long possible possible_ =
    let (at, x, type_at, is, (p, fit, written)) = possible 0 (omega arith) in
    let (at_, y, type_at_, is_, (q, fit_, written_)) = possible_ 0 (omega arith) in
    let v_is : v ≡ x = cc in
    let w_is : w ≡ y = cc in
    let P : PlaceType → Type 0 = λ a. IsPossibleAt s others a y in
    let (q_, fit_here, written_here) = subst P (sym (one 0 at at_ type_at type_at_)) (q, fit_, written_) in
    let Q : Value → Type 0 = λ a. Same a y ↔ (value_text s a ≡ value_text s y) in
    let R : Value → Type 0 = λ b. Same v b ↔ (value_text s v ≡ value_text s b) in
    let first : Same v w ↔ (value_text s v ≡ value_text s w) =
    subst R (sym w_is) (subst Q (sym v_is) (same-exactly_texts_at s formed.types_distinct kinds others at p q_ x y fit fit_here written
    written_here)) in
    let rest = row-tells s formed kinds others (λ i. T (suc i)) (λ i. one (suc i)) vs ws (omega (arith, long))
    (λ i below. possible (suc i) (omega (arith, below))) (λ i below. possible_ (suc i) (omega (arith, below))) in (
      λ same. both-are same first rest,
      λ same.
          let head : value_text s v ≡ value_text s w = cc in
          let tail : value_texts s vs ≡ value_texts s ws = cc in
          both_next v w vs ws (first.1 head) (rest.1 tail),
    )
  where
    both-are : SameInOrder (value v vs) (value w ws) → Same v w ↔ (value_text s v ≡ value_text s w) → SameInOrder vs ws
        ↔ (value_texts s vs ≡ value_texts s ws)
        → value_texts s (value v vs) ≡ value_texts s (value w ws)
    both-are (both_next _ _ _ _ same more) first rest =
        ap (λ (t : List ℕ). t ∷ value_texts s vs) (first.0 same) ∙ ap (λ (ts : List (List ℕ)). value_text s w ∷ ts) (rest.0 more)

-- of equally long fronts
fronts-apart : {X : Type 0} (fs gs xs ys : List X) → length fs ≡ length gs → fs ++ xs ≡ gs ++ ys → (fs ≡ gs) × (xs ≡ ys)
fronts-apart [] [] xs ys long same = (refl, same)
fronts-apart [] (b ∷ gs) xs ys long same = absurd (omega (arith, long))
fronts-apart (a ∷ fs) [] xs ys long same = absurd (omega (arith, long))
fronts-apart {X} (a ∷ fs) (b ∷ gs) xs ys long same =
    let head : a ≡ b = cc in
    let tail : fs ++ xs ≡ gs ++ ys = cc in
    let (front, back) = fronts-apart fs gs xs ys (omega (arith, long)) tail in
    (ap (λ (z : X). z ∷ fs) head ∙ ap (λ (zs : List X). b ∷ zs) front, back)

-- where the set has these entities
abbrev PlaceOf : Schema → List ℕ → ℕ → ℕ → PlaceType → Type 0
PlaceOf s all e i at = TypeAt s all (record { entity = e; index = i }) at

module _ (s : Schema) (formed : IsWellFormed s) (kinds others : EntitySets) (all : List ℕ) where
  place-one : (e i : ℕ) (at at_ : PlaceType) → PlaceOf s all e i at → PlaceOf s all e i at_ → at ≡ at_
  place-one e i at at_ is is_ = TypeAt-one s formed.supertypes_end formed.redeclares_once all (record { entity = e; index = i }) at at_ is
      is_

  rows-tell : (es : List ℕ) (xs ys : List Values) → AllZip (HasOwnCount s) es xs → AllZip (HasOwnCount s) es ys
      → AllZip (λ e vs. IsPossibleRow s kinds (PlaceOf s all e) vs) es xs
      → AllZip (λ e vs. IsPossibleRow s others (PlaceOf s all e) vs) es ys
      → (ends ends_ : List (List ℕ))
      → (AllZip SameInOrder xs ys × (ends ≡ ends_)) ↔ (flat_map (value_texts s) xs ++ ends ≡ flat_map (value_texts s) ys ++ ends_)
  rows-tell [] [] [] long long_ possible possible_ ends ends_ = (λ same. same.1, λ same. (tt, same))
  rows-tell [] [] (y ∷ ys) long long_ possible possible_ ends ends_ = absurd long_
  rows-tell [] (x ∷ xs) ys long long_ possible possible_ ends ends_ = absurd long
  rows-tell (e ∷ es) [] ys long long_ possible possible_ ends ends_ = absurd long
  rows-tell (e ∷ es) (x ∷ xs) [] long long_ possible possible_ ends ends_ = absurd long_
  rows-tell (e ∷ es) (x ∷ xs) (y ∷ ys) long long_ possible possible_ ends ends_ =
      let texts : List (List ℕ) = value_texts s x in
      let texts_ : List (List ℕ) = value_texts s y in
      let more : List (List ℕ) = flat_map (value_texts s) xs in
      let more_ : List (List ℕ) = flat_map (value_texts s) ys in
      let first = row-tells s formed kinds others (PlaceOf s all e) (place-one e) x y (long.0 ∙ sym long_.0) possible.0 possible_.0 in
      let rest = rows-tell es xs ys long.1 long_.1 possible.1 possible_.1 ends ends_ in (
        λ same.
            append_assoc texts more ends
            ∙ ap (λ (ts : List (List ℕ)). ts ++ (more ++ ends)) (first.0 same.0.0)
            ∙ ap (λ (ts : List (List ℕ)). texts_ ++ ts) (rest.0 (same.0.1, same.1))
            ∙ sym (append_assoc texts_ more_ ends_),
        λ same.
            let (front, back) = fronts-apart texts texts_ (more ++ ends) (more_ ++ ends_)
            (texts-count s x ∙ long.0 ∙ sym long_.0 ∙ sym (texts-count s y))
            (sym (append_assoc texts more ends) ∙ same ∙ append_assoc texts_ more_ ends_) in
            let (others_, end) = rest.1 back in
            ((first.1 front, others_), end),
      )

zip-each : (R : ℕ → Values → Type 0) (P : ℕ → Values → Type 0) (es : List ℕ) (rows : List Values) → AllZip R es rows
    → ((e : ℕ) (vs : Values) → Contains (zip es rows) (e, vs) → R e vs → P e vs) → AllZip P es rows
zip-each R P [] [] all each = tt
zip-each R P [] (r ∷ rows) all each = absurd all
zip-each R P (e ∷ es) [] all each = absurd all
zip-each R P (e ∷ es) (r ∷ rows) all each = (
  each e r (Contains-first (e, r) (zip es rows)) all.0,
  zip-each R P es rows all.1
      (λ f vs among. each f vs (Contains-later (e, r) (zip es rows) (f, vs) among)),
)

-- ---- instances

rows-possible : (s : Schema) → IsWellFormed s → (x : Typed) (is : IsMeant s x) (all : List ℕ) → x.entities ≡ all
    → AllZip (λ e vs. IsPossibleRow s is.kinds (PlaceOf s all e) vs) x.entities x.values
rows-possible s formed x is all same = zip-each (HasOwnCount s) (λ e vs. IsPossibleRow s is.kinds (PlaceOf s all e) vs) x.entities x.values
    is.means.own_counts each
  where
    each : (e : ℕ) (vs : Values) → Contains (zip x.entities x.values) (e, vs) → HasOwnCount s e vs
        → IsPossibleRow s is.kinds (PlaceOf s all e) vs
    each e vs beside long i below =
        let (at, v, type_at, (us, row, found), possible) =
        mapping-possible s formed is.kinds is.record_ x is.means.means is.written e i (Contains-zip x.entities x.values e vs beside)
        (omega (arith, below, long)) in
        let distinct : NoneTwice x.entities = rising-none_twice s x.entities is.means.rising.0 is.means.rising.1 is.means.rising.2 in
        let P : Values → Type 0 = λ zs. value_at zs i ≡ Some v in
        let Q : List ℕ → Type 0 = λ es. TypeAt s es (record { entity = e; index = i }) at in
        (at, v, subst Q same type_at, subst P (zip-one x.entities x.values e us vs distinct row beside) found, possible)

heading-once : (g h : Heading) → heading_label (Some g) ≡ heading_label (Some h) → g ≡ h
heading-once unnamed unnamed same = refl
heading-once unnamed (named name schema) same = cc
heading-once (named name schema) unnamed same = cc
heading-once (named name schema) (named name_ schema_) same =
    let first : name ≡ name_ = cc in
    let second : schema ≡ schema_ = cc in
    ap (λ (n : List ℕ). named n schema) first ∙ ap (named name_) second

-- what is said is the same in one section exactly if the texts are equal
pub said-tells : (s : Schema) → IsWellFormed s → (x y : Typed) → IsMeant s x → IsMeant s y → (g h : Heading)
    → (SameTyped x y × (g ≡ h)) ↔ (said s g x ≡ said s h y)
said-tells s formed x y is is_ g h = (to, back)
  where
    in_rows : x.entities ≡ y.entities
        → (AllZip SameInOrder x.values y.values × (heading_label (Some g) ≡ heading_label (Some h)))
        ↔ (flat_map (value_texts s) x.values ++ heading_label (Some g) ≡ flat_map (value_texts s) y.values ++ heading_label (Some h))
    in_rows same =
        let P : List ℕ → Type 0 = λ es. AllZip (HasOwnCount s) es y.values in
        let Q : List ℕ → Type 0 = λ es. AllZip (λ e vs. IsPossibleRow s is_.kinds (PlaceOf s x.entities e) vs) es y.values in
        rows-tell s formed is.kinds is_.kinds x.entities x.entities x.values y.values is.means.own_counts
        (subst P (sym same) is_.means.own_counts)
        (rows-possible s formed x is x.entities refl) (subst Q (sym same) (rows-possible s formed y is_ x.entities (sym same)))
        (heading_label (Some g)) (heading_label (Some h))

    to : SameTyped x y × (g ≡ h) → said s g x ≡ said s h y
    to (same, heads) =
        let rest = (in_rows same.0).0 (same.1, ap (λ (k : Heading). heading_label (Some k)) heads) in
        ap (λ (es : List ℕ). es ∷ (flat_map (value_texts s) x.values ++ heading_label (Some g))) same.0
        ∙ ap (λ (ts : List (List ℕ)). y.entities ∷ ts) rest

    back : said s g x ≡ said s h y → SameTyped x y × (g ≡ h)
    back same =
        let entities : x.entities ≡ y.entities = cc in
        let rest : flat_map (value_texts s) x.values ++ heading_label (Some g) ≡ flat_map (value_texts s) y.values
        ++ heading_label (Some h) = cc in
        let (rows, heads) = (in_rows entities).1 rest in
        ((entities, rows), heading-once g h heads)

-- ---- what is meant, with other names

-- in each file that reads
pub meant-in : (s : Schema) (bytes : List ℕ) (m : FileMeaning) → Reads s bytes m → (n : ℕ) (x : Typed) → Contains m.instances (n, x)
    → IsMeant s x
meant-in s bytes m reads n x at =
    let said_ = instances-said reads.structure (laid-each_spelled bytes (tokens_of reads.structure) reads.in_grammar.laid) in
    let (i, found, is) = AllZip-second_member (InstanceMeans s (entity_sets_of m.instances)) (instances_in reads.structure.sections)
    m.instances (n, x) reads.means at in
    record {
      kinds = entity_sets_of m.instances;
      record_ = i.1;
      means = is.1;
      written =
          Each-member (λ (j : Instance). Each IsSpelled (record_tokens j.1)) (instances_in reads.structure.sections) i said_ found;
    }

-- if the other names can be written, and no two targets get one
pub meant-renamed : (s : Schema) (x : Typed) (f : ℕ → ℕ) → IsMeant s x → IsInjectiveOn (typed_targets x) f
    → ((t : ℕ) → Contains (typed_targets x) t → f t < 2 ^ 64)
    → IsMeant s (renamed_typed f x)
meant-renamed s x f is injective small = subst (IsMeant s) agree renamed_
  where
    low : ℕ → ℕ
    low k = if ltb (f k) (2 ^ 64) then f k else 0

    low-is : (t : ℕ) → Contains (typed_targets x) t → low t ≡ f t
    low-is t among = ap (λ (b : Bool). if b then f t else 0) (lt-ltb (f t) (2 ^ 64) (small t among))

    low-small : (k : ℕ) → low k < 2 ^ 64
    low-small k = by (ltb (f k) (2 ^ 64)) refl
      where
        by : (b : Bool) → ltb (f k) (2 ^ 64) ≡ b → (if b then f k else 0) < 2 ^ 64
        by true e = ltb-true (f k) (2 ^ 64) e
        by false e = omega arith

    once : IsInjectiveOn (typed_targets x) low
    once t u among among_ same = injective t u among among_ (sym (low-is t among) ∙ same ∙ low-is u among_)

    move : ℕ × List ℕ → ℕ × List ℕ
    move k = (low k.0, k.1)

    undoes : Undoes (undo low (typed_targets x)) low (typed_targets x)
    undoes t among = undo-is low (typed_targets x) once t among

    renamed_ : IsMeant s (renamed_typed low x)
    renamed_ = record {
      kinds = map move is.kinds;
      record_ = renamed_record low is.record_;
      means = record-renamed s is.kinds (map move is.kinds) low (undo low (typed_targets x))
          (λ n es among. Contains-mapped move is.kinds (n, es) among) x undoes is.record_ is.means;
      written = record-each IsSpelled low (λ k. (name_spelling (low k), name_spells (low k) (low-small k))) is.record_ is.written;
    }

    own : renamed_typed (λ n. n) x ≡ x
    own = let make : List Values → Typed = λ rows. record { entities = x.entities; values = rows } in ap make (rows-kept x.values)

    agree : renamed_typed low x ≡ renamed_typed f x
    agree = ap (renamed_typed low) (sym own) ∙ typed-twice (λ n. n) low f x low-is

-- ---- texts as rows

ends-once : (t u rest rest_ : List ℕ) → map suc t ++ (0 ∷ rest) ≡ map suc u ++ (0 ∷ rest_) → (t ≡ u) × (rest ≡ rest_)
ends-once [] [] rest rest_ same = (refl, cc)
ends-once [] (x ∷ xs) rest rest_ same = let none : 0 ≡ suc x = cc in absurd (omega (arith, none))
ends-once (x ∷ xs) [] rest rest_ same = let none : suc x ≡ 0 = cc in absurd (omega (arith, none))
ends-once (x ∷ xs) (y ∷ ys) rest rest_ same =
    let head : suc x ≡ suc y = cc in
    let first : x ≡ y = omega (arith, head) in
    let tail : map suc xs ++ (0 ∷ rest) ≡ map suc ys ++ (0 ∷ rest_) = cc in
    let (more, end) = ends-once xs ys rest rest_ tail in
    (ap (λ k. k ∷ xs) first ∙ ap (λ (ks : List ℕ). y ∷ ks) more, end)

pub rows-once : (ts us : List (List ℕ)) → row_of_texts ts ≡ row_of_texts us → ts ≡ us
rows-once [] [] same = refl
rows-once [] (u ∷ us) same = absurd (starts u same)
  where
    starts : (v : List ℕ) → [] ≡ map suc v ++ (0 ∷ row_of_texts us) → ⊥
    starts [] is = cc
    starts (x ∷ xs) is = cc
rows-once (t ∷ ts) [] same = absurd (starts t same)
  where
    starts : (v : List ℕ) → map suc v ++ (0 ∷ row_of_texts ts) ≡ [] → ⊥
    starts [] is = cc
    starts (x ∷ xs) is = cc
rows-once (t ∷ ts) (u ∷ us) same =
    let (first, rest) = ends-once t u (row_of_texts ts) (row_of_texts us) same in
    ap (λ (x : List ℕ). x ∷ ts) first ∙ ap (λ (xs : List (List ℕ)). u ∷ xs) (rows-once ts us rest)
