-- A record has one meaning at most, under one schema and whatever the sets of the instances.
use Rattle.std.specs.Prelude.{◌≡◌, ℕ, suc, ◌<◌, List, [], ◌∷◌, length, Some, Contains, refl}
use Rattle.std.specs.List.{AllZip, zip, AllByRecursion as Each}
use Rattle.std.specs.List.Sorted.{IsStrictlySortedBy}
use Rattle.std.specs.Ordering.{nat_cmp}
use Rattle.std.specs.Cmp.Lexicographic.{slice_cmp}
use Rattle.std.proofs.lemmas.Cmp.{nat_list_cmp_total}
use Rattle.std.specs.Ordering.{ordering_reverse}
use Rattle.std.proofs.Common.{Less, Greater, arith, subst, ap, sym, ◌∙◌, inl, inr}
use Rattle.p21_spec_schema.specs.Schema.{Schema, Place, EntityNamed, attributes_of}
use Rattle.p21_spec_schema.specs.Supertype.{IsA}
use Rattle.p21_spec_schema.specs.Order.{order, places, own_places}
use Rattle.p21_spec_schema.specs.PlaceType.{PlaceType, TypeAt}
use Rattle.p21_spec_exchange.specs.Parameter.{Key, Params, no_params, param}
use Rattle.p21_spec_exchange.specs.Record.{Part, Record, simple, complex}
use Rattle.p21_spec_file.specs.Value.{Value, Values, no_values, value, count, value_at}
use Rattle.p21_spec_file.specs.Reference.{EntitySets}
use Rattle.p21_spec_file.specs.Fits.{FitsAt}
use Rattle.p21_spec_file.specs.Meaning.{Typed, HasValueAt, FitPlaces, NamesEntity, PartMeans, MeansByMapping, HasOwnCount, RecordMeans}
use Rattle.p21_spec_basics.proofs.Shuffles.{NoneTwice, zip-one}
use Rattle.p21_spec_basics.proofs.Members.{Each-member, Contains-none, Contains-first, Contains-later, Contains-cases, Contains-flat_map, Contains-zip, AllZip-beside, AllZip-member}
use Rattle.p21_spec_schema.proofs.Orders.{order-has}
use Rattle.p21_spec_schema.proofs.PlaceTypes.{TypeAt-one}
use Rattle.p21_spec_file.proofs.OneValue.{FitsAt-one_value}
use Rattle.p21_spec_schema.specs.WellFormed.{IsWellFormed, HasDistinctEntities}
use Rattle.p21_spec_schema.proofs.OwnPlaces.{own_places-has}

-- values are the same list where they are as many and each is the same
Values-same : (vs ws : Values) → count vs ≡ count ws → ((i : ℕ) → i < count vs → (v : Value) × (value_at vs i ≡ Some v) × (value_at ws i ≡ Some v)) → vs ≡ ws
Values-same no_values no_values long each = refl
Values-same no_values (value w ws) long each = absurd (omega (arith, long))
Values-same (value v vs) no_values long each = absurd (omega (arith, long))
Values-same (value v vs) (value w ws) long each =
    let (x, at, at_) = each 0 (omega arith) in
    let first : v ≡ w = (let a : v ≡ x = cc in let b : w ≡ x = cc in a ∙ sym b) in
    ap (λ y. value y vs) first ∙ ap (value w) (Values-same vs ws (omega (arith, long)) (λ i below. each (suc i) (omega (arith, below))))

-- what stands beside the same keys is the same list
zip-same : {Y : Type 0} (R : ℕ → Y → Type 0) (es : List ℕ) (ys zs : List Y) → AllZip R es ys → AllZip R es zs → ((e : ℕ) (y z : Y) → Contains (zip es ys) (e, y) → Contains (zip es zs) (e, z) → y ≡ z) → ys ≡ zs
zip-same R [] [] [] all all_ same = refl
zip-same R [] (y ∷ ys) zs all all_ same = absurd all
zip-same R [] [] (z ∷ zs) all all_ same = absurd all_
zip-same R (e ∷ es) [] zs all all_ same = absurd all
zip-same R (e ∷ es) (y ∷ ys) [] all all_ same = absurd all_
zip-same R (e ∷ es) (y ∷ ys) (z ∷ zs) all all_ same =
    ap (λ x. x ∷ ys) (same e y z (Contains-first (e, y) (zip es ys)) (Contains-first (e, z) (zip es zs)))
    ∙ ap (λ xs. z ∷ xs) (zip-same R es ys zs all.1 all_.1 (λ f v w among among_. same f v w (Contains-later (e, y) (zip es ys) (f, v) among) (Contains-later (e, z) (zip es zs) (f, w) among_)))

pub EntityNamed-one : (s : Schema) (e : ℕ) (n m : List ℕ) → EntityNamed s e n → EntityNamed s e m → n ≡ m
EntityNamed-one s e n m (x, at, is) (y, at_, is_) = let h : x ≡ y = (let k : Some x ≡ Some y = sym at ∙ at_ in cc) in sym is ∙ ap (λ z. z.name) h ∙ is_

pub NamesEntity-one : (s : Schema) → HasDistinctEntities s → (key : Key) (e f : ℕ) → NamesEntity s key e → NamesEntity s key f → e ≡ f
NamesEntity-one s distinct key e f (n, named, is) (m, named_, is_) =
    let same : m ≡ n = ap (λ k. k.word) (sym is_ ∙ is) in
    let P : List ℕ → Type 0 = λ x. EntityNamed s f x in
    distinct e f n named (subst P same named_)

-- a keyword that is above another, at a member of the others
later-above : (s : Schema) (es : List ℕ) (ns : List (List ℕ)) (m : List ℕ) (e : ℕ) (n : List ℕ) → AllZip (EntityNamed s) es ns → Each (λ y. slice_cmp nat_cmp m y ≡ Less) ns → Contains es e → EntityNamed s e n → slice_cmp nat_cmp m n ≡ Less
later-above s es ns m e n all below among named =
    let (other, at, named_) = AllZip-member (EntityNamed s) es ns e all among in
    let P : List ℕ → Type 0 = λ x. slice_cmp nat_cmp m x ≡ Less in
    subst P (EntityNamed-one s e other n named_ named) (Each-member (λ y. slice_cmp nat_cmp m y ≡ Less) ns other below at)

not-both : (m n : List ℕ) → slice_cmp nat_cmp m n ≡ Less → slice_cmp nat_cmp n m ≡ Less → ⊥
not-both m n below above_ = let h : Less ≡ Greater = sym below ∙ nat_list_cmp_total.antisymm m n ∙ ap ordering_reverse above_ in cc

-- keywords that rise give the members of a set one order
pub rising-one : (s : Schema) (es fs : List ℕ) (ns ms : List (List ℕ)) → AllZip (EntityNamed s) es ns → AllZip (EntityNamed s) fs ms → IsStrictlySortedBy (slice_cmp nat_cmp) ns → IsStrictlySortedBy (slice_cmp nat_cmp) ms
    → ((e : ℕ) → Contains es e → Contains fs e) → ((e : ℕ) → Contains fs e → Contains es e) → es ≡ fs
unfolding IsStrictlySortedBy
rising-one s [] [] ns ms all all_ rise rise_ onto back = refl
rising-one s [] (f ∷ fs) ns ms all all_ rise rise_ onto back = absurd (Contains-none f (back f (Contains-first f fs)))
rising-one s (e ∷ es) [] ns ms all all_ rise rise_ onto back = absurd (Contains-none e (onto e (Contains-first e es)))
rising-one s (e ∷ es) (f ∷ fs) [] ms all all_ rise rise_ onto back = absurd all
rising-one s (e ∷ es) (f ∷ fs) (n ∷ ns) [] all all_ rise rise_ onto back = absurd all_
rising-one s (e ∷ es) (f ∷ fs) (n ∷ ns) (m ∷ ms) all all_ rise rise_ onto back =
    let first : e ≡ f = elim (Contains-cases f fs e (onto e (Contains-first e es))) [
      | inl h ↦ sym h
      | inr h ↦ elim (Contains-cases e es f (back f (Contains-first f fs))) [
        | inl h_ ↦ h_
        | inr h_ ↦ absurd (not-both m n (later-above s fs ms m e n all_.1 rise_.0 h all.0) (later-above s es ns n f m all.1 rise.0 h_ all_.0))
      ]
    ] in
    let rest : es ≡ fs = rising-one s es fs ns ms all.1 all_.1 rise.1 rise_.1
    (λ g among. elim (Contains-cases f fs g (onto g (Contains-later e es g among))) [ inl h ↦ absurd (once e es n ns g all rise (first ∙ h) among) | inr h ↦ h ])
    (λ g among. elim (Contains-cases e es g (back g (Contains-later f fs g among))) [ inl h ↦ absurd (once f fs m ms g all_ rise_ (sym first ∙ h) among) | inr h ↦ h ]) in
    ap (λ x. x ∷ es) first ∙ ap (λ xs. f ∷ xs) rest
  where
    once : (e : ℕ) (es : List ℕ) (n : List ℕ) (ns : List (List ℕ)) (g : ℕ) → AllZip (EntityNamed s) (e ∷ es) (n ∷ ns) → IsStrictlySortedBy (slice_cmp nat_cmp) (n ∷ ns) → e ≡ g → Contains es g → ⊥
    once e es n ns g all rise same among =
        let P : ℕ → Type 0 = λ x. EntityNamed s x n in
        let h : slice_cmp nat_cmp n n ≡ Less = later-above s es ns n g n all.1 rise.0 among (subst P same all.0) in
        not-both n n h h

-- entities whose keywords rise are distinct
pub rising-none_twice : (s : Schema) (es : List ℕ) (ns : List (List ℕ)) → AllZip (EntityNamed s) es ns → IsStrictlySortedBy (slice_cmp nat_cmp) ns → NoneTwice es
unfolding IsStrictlySortedBy
rising-none_twice s [] ns all rise = tt
rising-none_twice s (e ∷ es) [] all rise = absurd all
rising-none_twice s (e ∷ es) (n ∷ ns) all rise = (
  λ among. let below : slice_cmp nat_cmp n n ≡ Less = later-above s es ns n e n all.1 rise.0 among all.0 in not-both n n below below,
  rising-none_twice s es ns all.1 rise.1,
)

-- two meanings that fit the same parameters at the same places have the same value at each
FitPlaces-agree : (s : Schema) → IsWellFormed s → (kinds others : EntitySets) (a b : Typed) → a.entities ≡ b.entities → (ps : List Place) (params : Params) (place : Place) → FitPlaces s kinds a ps params → FitPlaces s others b ps params → Contains ps place
    → (v : Value) × HasValueAt a place v × HasValueAt b place v
FitPlaces-agree s formed kinds others a b same [] xs place fit fit_ among = absurd (Contains-none place among)
FitPlaces-agree s formed kinds others a b same (p ∷ ps) no_params place fit fit_ among = absurd fit
FitPlaces-agree s formed kinds others a b same (p ∷ ps) (param x xs) place ((at, v, type_at, fit, has), more) ((at_, w, type_at_, fit_, has_), more_) among = elim (Contains-cases p ps place among) [
  | inl h ↦
      let P : List ℕ → Type 0 = λ es. TypeAt s es p at_ in
      let one_type : at_ ≡ at = TypeAt-one s formed.supertypes_end formed.redeclares_once a.entities p at_ at (subst P (sym same) type_at_) type_at in
      let Q : PlaceType → Type 0 = λ t. FitsAt s others t x w in
      let one_value : w ≡ v = FitsAt-one_value s others kinds formed.types_distinct at x w v (subst Q one_type fit_) fit in
      let R : Value → Type 0 = λ u. HasValueAt b p u in
      let S : Place → Type 0 = λ q. (u : Value) × HasValueAt a q u × HasValueAt b q u in
      subst S h (v, has, subst R one_value has_)
  | inr h ↦ FitPlaces-agree s formed kinds others a b same ps xs place more more_ h
]

parts-agree : (s : Schema) → IsWellFormed s → (kinds others : EntitySets) (a b : Typed) → a.entities ≡ b.entities → (parts : List Part) (es fs : List ℕ) (e : ℕ) (place : Place) → AllZip (PartMeans s kinds a) parts es → AllZip (PartMeans s others b) parts fs
    → Contains es e → Contains (own_places s e) place → (v : Value) × HasValueAt a place v × HasValueAt b place v
parts-agree s formed kinds others a b same parts [] fs e place all all_ among of_e = absurd (Contains-none e among)
parts-agree s formed kinds others a b same [] (x ∷ es) fs e place all all_ among of_e = absurd all
parts-agree s formed kinds others a b same (part ∷ parts) (x ∷ es) [] e place all all_ among of_e = absurd all_
parts-agree s formed kinds others a b same (part ∷ parts) (x ∷ es) (y ∷ fs) e place all all_ among of_e = elim (Contains-cases x es e among) [
  | inl h ↦
      let one_entity : y ≡ x = NamesEntity-one s formed.entities_distinct part.key y x all_.0.0 all.0.0 in
      let P : ℕ → Type 0 = λ z. FitPlaces s others b (own_places s z) part.params in
      let Q : ℕ → Type 0 = λ z. Contains (own_places s z) place in
      FitPlaces-agree s formed kinds others a b same (own_places s x) part.params place all.0.1 (subst P one_entity all_.0.1) (subst Q (sym h) of_e)
  | inr h ↦ parts-agree s formed kinds others a b same parts es fs e place all.1 all_.1 h of_e
]

-- the same record has the same set of entities
entities-one : (s : Schema) → IsWellFormed s → (kinds others : EntitySets) (r : Record) (a b : Typed) → RecordMeans s kinds r a → RecordMeans s others r b → a.entities ≡ b.entities
entities-one s formed kinds others r a b means means_ =
    let (ns, all, rise) = means.rising in
    let (ms, all_, rise_) = means_.rising in
    rising-one s a.entities b.entities ns ms all all_ rise rise_ (within kinds others r a b means.means means_.means) (within others kinds r b a means_.means means.means)
  where
    same_parts : (kinds others : EntitySets) (a b : Typed) (parts : List Part) (es fs : List ℕ) → AllZip (PartMeans s kinds a) parts es → AllZip (PartMeans s others b) parts fs → es ≡ fs
    same_parts kinds others a b [] [] [] all all_ = refl
    same_parts kinds others a b [] (e ∷ es) fs all all_ = absurd all
    same_parts kinds others a b [] [] (f ∷ fs) all all_ = absurd all_
    same_parts kinds others a b (part ∷ parts) [] fs all all_ = absurd all
    same_parts kinds others a b (part ∷ parts) (e ∷ es) [] all all_ = absurd all_
    same_parts kinds others a b (part ∷ parts) (e ∷ es) (f ∷ fs) all all_ = ap (λ x. x ∷ es) (NamesEntity-one s formed.entities_distinct part.key e f all.0.0 all_.0.0) ∙ ap (λ xs. f ∷ xs) (same_parts kinds others a b parts es fs all.1 all_.1)

    within : (kinds others : EntitySets) (r : Record) (a b : Typed) → MeansByMapping s kinds r a → MeansByMapping s others r b → (e : ℕ) → Contains a.entities e → Contains b.entities e
    within kinds others (simple part) a b means means_ e among =
        let same : means.entity ≡ means_.entity = NamesEntity-one s formed.entities_distinct part.key means.entity means_.entity means.named means_.named in
        let P : ℕ → Type 0 = λ x. IsA s x e in
        (means_.closure e).1 (subst P same ((means.closure e).0 among))
    within kinds others (complex parts) a b means means_ e among =
        let same : means.entities ≡ means_.entities = same_parts kinds others a b parts means.entities means_.entities means.parts_mean means_.parts_mean in
        let P : List ℕ → Type 0 = λ xs. Contains xs e in
        (means_.same_entities e).0 (subst P same ((means.same_entities e).1 among))

-- and the same value at each place of its set
values-agree : (s : Schema) → IsWellFormed s → (kinds others : EntitySets) (r : Record) (a b : Typed) → a.entities ≡ b.entities → MeansByMapping s kinds r a → MeansByMapping s others r b → (e i : ℕ) → Contains a.entities e → i < length (attributes_of s e)
    → (v : Value) × HasValueAt a (record { entity = e; index = i }) v × HasValueAt b (record { entity = e; index = i }) v
values-agree s formed kinds others (simple part) a b same means means_ e i among below =
    let one_entity : means_.entity ≡ means.entity = NamesEntity-one s formed.entities_distinct part.key means_.entity means.entity means_.named means.named in
    let P : ℕ → Type 0 = λ x. FitPlaces s others b (places s x) part.params in
    let in_order : Contains (order s means.entity) e = order-has s formed.supertypes_are formed.supertypes_end means.entity e ((means.closure e).0 among) in
    FitPlaces-agree s formed kinds others a b same (places s means.entity) part.params (record { entity = e; index = i }) means.fit (subst P one_entity means_.fit)
    (Contains-flat_map (own_places s) (order s means.entity) e (record { entity = e; index = i }) in_order (own_places-has s e i below))
values-agree s formed kinds others (complex parts) a b same means means_ e i among below =
    parts-agree s formed kinds others a b same parts means.entities means_.entities e (record { entity = e; index = i }) means.parts_mean means_.parts_mean ((means.same_entities e).1 among) (own_places-has s e i below)

-- under a declared schema a record has one meaning at most, whatever the sets of the instances
pub RecordMeans-one : (s : Schema) → IsWellFormed s → (kinds others : EntitySets) (r : Record) (a b : Typed) → RecordMeans s kinds r a → RecordMeans s others r b → a ≡ b
RecordMeans-one s formed kinds others r a b means means_ =
    typed-same a b same (zip-same (HasOwnCount s) a.entities a.values b.values means.own_counts (subst (λ es. AllZip (HasOwnCount s) es b.values) (sym same) means_.own_counts) rows)
  where
    same : a.entities ≡ b.entities
    same = entities-one s formed kinds others r a b means means_

    typed-same : (a b : Typed) → a.entities ≡ b.entities → a.values ≡ b.values → a ≡ b
    typed-same a b first second = ap (λ es. record { entities = es; values = a.values }) first ∙ ap (λ vss. record { entities = b.entities; values = vss }) second

    rows : (e : ℕ) (vs ws : Values) → Contains (zip a.entities a.values) (e, vs) → Contains (zip a.entities b.values) (e, ws) → vs ≡ ws
    rows e vs ws at at_ =
        let long : count vs ≡ length (attributes_of s e) = AllZip-beside (HasOwnCount s) a.entities a.values e vs means.own_counts at in
        let long_ : count ws ≡ length (attributes_of s e) = AllZip-beside (HasOwnCount s) a.entities b.values e ws (subst (λ es. AllZip (HasOwnCount s) es b.values) (sym same) means_.own_counts) at_ in
        let distinct : NoneTwice a.entities = rising-none_twice s a.entities means.rising.0 means.rising.1 means.rising.2 in
        Values-same vs ws (long ∙ sym long_) (λ i below.
        let (v, (us, row, found), (xs, row_, found_)) = values-agree s formed kinds others r a b same means.means means_.means e i (Contains-zip a.entities a.values e vs at) (omega (arith, below, long)) in
        let P : Values → Type 0 = λ zs. value_at zs i ≡ Some v in
        let Q : List ℕ → Type 0 = λ es. Contains (zip es b.values) (e, xs) in
        (v, subst P (zip-one a.entities a.values e us vs distinct row at) found, subst P (zip-one a.entities b.values e xs ws distinct (subst Q (sym same) row_) at_) found_))
