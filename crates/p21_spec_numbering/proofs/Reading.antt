-- What bytes that read mean is whole, and has settled values.
use Rattle.std.specs.Prelude.{◌≡◌, ℕ, suc, ◌<◌, Bool, true, false, List, [], ◌∷◌, length, map, Some, Contains, refl}
use Rattle.std.specs.List.{AllZip, IsDistinct, flat_map, zip, AllByRecursion as Each}
use Rattle.std.proofs.Common.{arith, ap, sym, subst, ◌∙◌, inl, inr}
use Rattle.std.proofs.lemmas.List.{map-append}
use Rattle.std.proofs.lemmas.List.Elements.{Contains-append_cases}
use Rattle.std.specs.Prelude.{nat_eq, ◌++◌}
use Rattle.p21_spec_basics.proofs.Members.{Contains-none, Contains-first, Contains-later, Contains-cases, Contains-mapped, Contains-flat_map, Contains-one_of, Contains-zip, AllZip-second_member, Each-member, Each-of_members}
use Rattle.p21_spec_basics.proofs.Shuffles.{NoneTwice, zip-one}
use Rattle.p21_spec_exchange.specs.DataSection.{Heading, DataSection, instances_in}
use Rattle.p21_spec_exchange.specs.Parameter.{Param, Params, no_params, param}
use Rattle.p21_spec_exchange.specs.Record.{Part, Record, simple, complex, record_tokens}
use Rattle.p21_spec_exchange.specs.Structure.{Structure, tokens_of}
use Rattle.p21_spec_exchange.specs.Token.{IsSpelled, right}
use Rattle.p21_spec_file.proofs.OneMeaning.{rising-none_twice}
use Rattle.p21_spec_file.specs.File.{FileMeaning, InstanceMeans, Reads, entity_sets_of, names_with_heading}
use Rattle.p21_spec_file.specs.Fits.{Fits, a_whole, a_real, a_number, a_whole_number, a_boolean, a_logical, a_text, a_binary, an_instance, as_underlying, an_item, a_chosen_instance, a_chosen_type, an_array, a_list, a_set, a_bag, FitEach, none_left, fits_next, empty_next, FitsAt, star, dollar, fits}
use Rattle.p21_spec_file.specs.Meaning.{Typed, HasValueAt, FitPlaces, PartMeans, MeansByMapping, HasOwnCount, RecordMeans}
use Rattle.p21_spec_file.specs.Reference.{EntitySets}
use Rattle.p21_spec_file.specs.SameValue.{AreDistinct}
use Rattle.p21_spec_file.specs.Value.{Value, Values, no_values, value, count, value_at}
use Rattle.p21_spec_laws.proofs.CanonicalLaid.{laid-each_spelled}
use Rattle.p21_spec_laws.proofs.FileOnce.{meant-named}
use Rattle.p21_spec_laws.proofs.OfType.{OfType, of_whole, of_real, of_number, of_boolean, of_logical, of_text, of_binary, of_entity, of_alias, of_items, of_chosen_instance, of_chosen_type, of_array, of_list, of_set, of_bag, EachOf, of_none, of_next, of_empty, missing-of_none, fits-of, AreWritten}
use Rattle.p21_spec_laws.proofs.RecordOnce.{part-written, complex-written}
use Rattle.p21_spec_laws.proofs.SaidFiles.{Instance, instances-said}
use Rattle.p21_spec_laws.proofs.SectionsOnce.{named}
use Rattle.p21_spec_laws.specs.Written.{IsWritten}
use Rattle.p21_spec_schema.proofs.Orders.{order-has}
use Rattle.p21_spec_schema.proofs.OwnPlaces.{own_places-has}
use Rattle.p21_spec_schema.specs.Order.{order, places, own_places}
use Rattle.p21_spec_schema.specs.PlaceType.{PlaceType}
use Rattle.p21_spec_schema.specs.Schema as schema
use Rattle.p21_spec_schema.specs.Schema.{Schema, TypeUse, Place, attributes_of}
use Rattle.p21_spec_schema.specs.WellFormed.{IsWellFormed}
use Rattle.p21_spec_numbering.proofs.Lists.{map-mapped}
use Rattle.p21_spec_numbering.specs.Renamed.{names, targets, targets_in, IsWhole}
use Rattle.p21_spec_numbering.specs.Settled.{AreApart, IsSettled, AreSettled, HasSettledValues}

-- ---- values of a type are settled

apart-of : (s : Schema) (type : TypeUse) (vs : Values) → EachOf s false type vs → AreDistinct vs → AreApart vs
apart-of s type vs (of_none _ _) differ = tt
apart-of s type vs (of_next _ _ v vs_ of each) differ =
    (λ among. differ.0 (missing-of_none s type v of) among, apart-of s type vs_ each differ.1)

mutual
  settled-of : (s : Schema) (type : TypeUse) (v : Value) → OfType s type v → IsSettled v
  settled-of s type v (of_whole z) = tt
  settled-of s type v (of_real d spelled) = spelled.1.is_reduced
  settled-of s type v (of_number d spelled) = spelled.1.is_reduced
  settled-of s type v (of_boolean word _) = tt
  settled-of s type v (of_logical word _) = tt
  settled-of s type v (of_text _ chars _) = tt
  settled-of s type v (of_binary _ bs) = tt
  settled-of s type v (of_entity _ n _) = tt
  settled-of s type v (of_alias _ under _ _ of) = settled-of s under v of
  settled-of s type v (of_items _ _ word _ _) = tt
  settled-of s type v (of_chosen_instance _ n _ _) = tt
  settled-of s type v (of_chosen_type _ u name x _ _ _ of) = settled-of s (schema.defined u) x of
  settled-of s type v (of_array _ _ optional _ element vs each) = settled-each s optional element vs each
  settled-of s type v (of_list _ _ _ element vs each) = settled-each s false element vs each
  settled-of s type v (of_set _ _ element vs each differ) = (apart-of s element vs each differ, settled-each s false element vs each)
  settled-of s type v (of_bag _ _ element vs each) = settled-each s false element vs each

  settled-each : (s : Schema) (optional : Bool) (type : TypeUse) (vs : Values) → EachOf s optional type vs → AreSettled vs
  settled-each s optional type vs (of_none _ _) = tt
  settled-each s optional type vs (of_next _ _ v vs_ of each) = (settled-of s type v of, settled-each s optional type vs_ each)
  settled-each s optional type vs (of_empty _ vs_ each) = (tt, settled-each s optional type vs_ each)

-- ---- references lead to instances

abbrev known : EntitySets → List ℕ
known kinds = map (λ (k : ℕ × List ℕ). k.0) kinds

only-target : (n t : ℕ) (ns : List ℕ) → Contains ns n → Contains (n ∷ []) t → Contains ns t
only-target n t ns at among = elim (Contains-cases n [] t among) [
  | inl h ↦ let P : ℕ → Type 0 = λ k. Contains ns k in subst P h at
  | inr h ↦ absurd (Contains-none t h)
]

mutual
  target-of : (s : Schema) (kinds : EntitySets) (type : TypeUse) (p : Param) (v : Value) → Fits s kinds type p v → (t : ℕ)
      → Contains (targets v) t → Contains (known kinds) t
  target-of s kinds type p v (a_whole z) t among = absurd (Contains-none t among)
  target-of s kinds type p v (a_real d) t among = absurd (Contains-none t among)
  target-of s kinds type p v (a_number d) t among = absurd (Contains-none t among)
  target-of s kinds type p v (a_whole_number z d _ _ _) t among = absurd (Contains-none t among)
  target-of s kinds type p v (a_boolean word _) t among = absurd (Contains-none t among)
  target-of s kinds type p v (a_logical word _) t among = absurd (Contains-none t among)
  target-of s kinds type p v (a_text _ chars _) t among = absurd (Contains-none t among)
  target-of s kinds type p v (a_binary _ bs _) t among = absurd (Contains-none t among)
  target-of s kinds type p v (an_instance e n served) t among =
      only-target n t (known kinds) (Contains-mapped (λ (k : ℕ × List ℕ). k.0) kinds (n, served.0) served.1) among
  target-of s kinds type p v (as_underlying _ under _ _ _ fit) t among = target-of s kinds under p v fit t among
  target-of s kinds type p v (an_item _ _ word _ _) t among = absurd (Contains-none t among)
  target-of s kinds type p v (a_chosen_instance _ n served) t among =
      only-target n t (known kinds) (Contains-mapped (λ (k : ℕ × List ℕ). k.0) kinds (n, served.0) served.1) among
  target-of s kinds type p v (a_chosen_type _ u name q x _ _ fit) t among = target-of s kinds (schema.defined u) q x fit t among
  target-of s kinds type p v (an_array _ _ optional _ element ps vs each _ _) t among =
      target-in s kinds optional element ps vs each t among
  target-of s kinds type p v (a_list _ _ _ element ps vs each _ _) t among = target-in s kinds false element ps vs each t among
  target-of s kinds type p v (a_set _ _ element ps vs each _ _) t among = target-in s kinds false element ps vs each t among
  target-of s kinds type p v (a_bag _ _ element ps vs each _) t among = target-in s kinds false element ps vs each t among

  target-in : (s : Schema) (kinds : EntitySets) (optional : Bool) (type : TypeUse) (ps : Params) (vs : Values)
      → FitEach s kinds optional type ps vs → (t : ℕ) → Contains (targets_in vs) t → Contains (known kinds) t
  target-in s kinds optional type ps vs (none_left _ _) t among = absurd (Contains-none t among)
  target-in s kinds optional type ps vs (fits_next _ _ p v ps_ vs_ fit each) t among =
      elim (Contains-append_cases (targets v) (targets_in vs_) t among) [
        | inl h ↦ target-of s kinds type p v fit t h
        | inr h ↦ target-in s kinds optional type ps_ vs_ each t h
      ]
  target-in s kinds optional type ps vs (empty_next _ ps_ vs_ each) t among = target-in s kinds true type ps_ vs_ each t among

-- ---- the value at each place of a record fits a parameter that is written

record IsGood (kinds : EntitySets) (v : Value) : Type 0 where
  settled : IsSettled v
  known_ : (t : ℕ) → Contains (targets v) t → Contains (known kinds) t

good-at : (s : Schema) (kinds : EntitySets) (at : PlaceType) (p : Param) (v : Value) → FitsAt s kinds at p v → IsWritten p → IsGood kinds v
good-at s kinds at p v star written = record { settled = tt; known_ = λ t among. absurd (Contains-none t among) }
good-at s kinds at p v (dollar _) written = record { settled = tt; known_ = λ t among. absurd (Contains-none t among) }
good-at s kinds at p v (fits _ type _ _ fit) written =
    record { settled = settled-of s type v (fits-of s kinds type p v fit written); known_ = target-of s kinds type p v fit }

abbrev HasGoodAt : EntitySets → Typed → Place → Type 0
HasGoodAt kinds m place = (v : Value) × HasValueAt m place v × IsGood kinds v

places-good : (s : Schema) (kinds : EntitySets) (m : Typed) (ps : List Place) (params : Params) → FitPlaces s kinds m ps params
    → AreWritten params → (place : Place) → Contains ps place → HasGoodAt kinds m place
places-good s kinds m [] no_params fit written place among = absurd (Contains-none place among)
places-good s kinds m [] (param x xs) fit written place among = absurd fit
places-good s kinds m (p ∷ ps) no_params fit written place among = absurd fit
places-good s kinds m (p ∷ ps) (param x xs) ((at, v, type_at, fit, has), more) written place among =
    elim (Contains-cases p ps place among) [
      | inl h ↦ let P : Place → Type 0 = λ q. HasGoodAt kinds m q in subst P h (v, has, good-at s kinds at x v fit written.0)
      | inr h ↦ places-good s kinds m ps xs more written.1 place h
    ]

parts-good : (s : Schema) (kinds : EntitySets) (m : Typed) (parts : List Part) (es : List ℕ) → AllZip (PartMeans s kinds m) parts es
    → Each (λ (part : Part). AreWritten part.params) parts
    → (e : ℕ) (place : Place) → Contains es e → Contains (own_places s e) place → HasGoodAt kinds m place
parts-good s kinds m parts [] all written e place among of_e = absurd (Contains-none e among)
parts-good s kinds m [] (x ∷ es) all written e place among of_e = absurd all
parts-good s kinds m (part ∷ parts) (x ∷ es) all written e place among of_e = elim (Contains-cases x es e among) [
  | inl h ↦ let P : ℕ → Type 0 = λ z. Contains (own_places s z) place in places-good s kinds m (own_places s x) part.params all.0.1 written.0 place (subst P (sym h) of_e)
  | inr h ↦ parts-good s kinds m parts es all.1 written.1 e place h of_e
]

mapping-good : (s : Schema) → IsWellFormed s → (kinds : EntitySets) (r : Record) (m : Typed) → MeansByMapping s kinds r m
    → Each IsSpelled (record_tokens r) → (e i : ℕ) → Contains m.entities e → i < length (attributes_of s e)
    → HasGoodAt kinds m (record { entity = e; index = i })
mapping-good s formed kinds (simple part) m means spelled e i among below =
    let in_order : Contains (order s means.entity) e = order-has s formed.supertypes_are formed.supertypes_end means.entity e ((means.closure e).0 among) in
    places-good s kinds m (places s means.entity) part.params means.fit (part-written part spelled) (record { entity = e; index = i })
    (Contains-flat_map (own_places s) (order s means.entity) e (record { entity = e; index = i }) in_order (own_places-has s e i below))
mapping-good s formed kinds (complex parts) m means spelled e i among below =
    parts-good s kinds m parts means.entities means.parts_mean (complex-written parts (right ∷ []) spelled.1) e (record { entity = e; index = i }) ((means.same_entities e).1 among) (own_places-has s e i below)

-- ---- and so each value of its rows is good

abbrev EachGood : EntitySets → Values → Type 0
EachGood kinds no_values = Unit {0}
EachGood kinds (value v vs) = IsGood kinds v × EachGood kinds vs

each-good : (kinds : EntitySets) (vs : Values) → ((i : ℕ) → i < count vs → (v : Value) × (value_at vs i ≡ Some v) × IsGood kinds v)
    → EachGood kinds vs
each-good kinds no_values good = tt
each-good kinds (value v vs) good =
    let (x, at, is) = good 0 (omega arith) in
    let same : v ≡ x = cc in
    let P : Value → Type 0 = IsGood kinds in
    (subst P (sym same) is, each-good kinds vs (λ i below. good (suc i) (omega (arith, below))))

good-settled : (kinds : EntitySets) (vs : Values) → EachGood kinds vs → AreSettled vs
good-settled kinds no_values good = tt
good-settled kinds (value v vs) good = (good.0.settled, good-settled kinds vs good.1)

good-known : (kinds : EntitySets) (vs : Values) → EachGood kinds vs → (t : ℕ) → Contains (targets_in vs) t → Contains (known kinds) t
good-known kinds no_values good t among = absurd (Contains-none t among)
good-known kinds (value v vs) good t among = elim (Contains-append_cases (targets v) (targets_in vs) t among) [
  | inl h ↦ good.0.known_ t h
  | inr h ↦ good-known kinds vs good.1 t h
]

-- what stands beside a member of the second list
zip-second : {X Y : Type 0} (R : X → Y → Type 0) (xs : List X) (ys : List Y) (y : Y) → AllZip R xs ys → Contains ys y
    → (x : X) × Contains (zip xs ys) (x, y) × R x y
zip-second R xs [] y all among = absurd (Contains-none y among)
zip-second R [] (z ∷ zs) y all among = absurd all
zip-second {X} {Y} R (x ∷ xs) (z ∷ zs) y all among = elim (Contains-cases z zs y among) [
  | inl h ↦ let P : Y → Type 0 = λ w. Contains ((x, z) ∷ zip xs zs) (x, w) in (x, subst P h (Contains-first (x, z) (zip xs zs)), subst (R x) h all.0)
  | inr h ↦ let (other, at, holds) = zip-second R xs zs y all.1 h in (other, Contains-later (x, z) (zip xs zs) (other, y) at, holds)
]

rows-good : (s : Schema) → IsWellFormed s → (kinds : EntitySets) (r : Record) (m : Typed) → RecordMeans s kinds r m
    → Each IsSpelled (record_tokens r) → (vs : Values) → Contains m.values vs → EachGood kinds vs
rows-good s formed kinds r m means spelled vs among =
    let (e, beside, long) = zip-second (HasOwnCount s) m.entities m.values vs means.own_counts among in
    let distinct : NoneTwice m.entities = rising-none_twice s m.entities means.rising.0 means.rising.1 means.rising.2 in
    each-good kinds vs (λ i below.
    let (v, (us, row, found), good) = mapping-good s formed kinds r m means.means spelled e i (Contains-zip m.entities m.values e vs beside) (omega (arith, below, long)) in
    let P : Values → Type 0 = λ zs. value_at zs i ≡ Some v in
    (v, subst P (zip-one m.entities m.values e us vs distinct row beside) found, good))

-- ---- files

section-names : (xs : List DataSection) → map (λ (i : ℕ × Heading). i.0) (flat_map names_with_heading xs) ≡ named (instances_in xs)
section-names [] = refl
section-names (x ∷ xs) =
    map-append (λ (i : ℕ × Heading). i.0) (names_with_heading x) (flat_map names_with_heading xs)
    ∙ ap (λ (ns : List ℕ). ns ++ map (λ (i : ℕ × Heading). i.0) (flat_map names_with_heading xs)) (map-mapped (λ (i : ℕ × Heading). i.0) (λ (i : ℕ × Record). (i.0, x.heading)) x.instances)
    ∙ ap (λ (ns : List ℕ). named x.instances ++ ns) (section-names xs)
    ∙ sym (map-append (λ (i : ℕ × Record). i.0) x.instances (instances_in xs))

pub reads-whole : (s : Schema) → IsWellFormed s → (bytes : List ℕ) (m : FileMeaning) → Reads s bytes m → IsWhole m × HasSettledValues m
reads-whole s formed bytes m reads =
    (record { names_differ = subst Differ (sym same_names) reads.names_differ; in_sections = in_sections; closed = closed }, settled)
  where
    t : Structure
    t = reads.structure

    kinds : EntitySets
    kinds = entity_sets_of m.instances

    Differ : List ℕ → Type 0
    Differ ns = IsDistinct nat_eq ns

    same_names : names m ≡ named (instances_in reads.structure.sections)
    same_names = meant-named s (entity_sets_of m.instances) (instances_in reads.structure.sections) m.instances reads.means

    in_sections : map (λ (i : ℕ × Heading). i.0) m.instance_sections ≡ names m
    in_sections = ap (map (λ (i : ℕ × Heading). i.0)) reads.instance_sections_are ∙ section-names reads.structure.sections ∙ sym same_names

    good : (n : ℕ) (x : Typed) → Contains m.instances (n, x) → (vs : Values) → Contains x.values vs
        → EachGood (entity_sets_of m.instances) vs
    good n x at vs among =
        let said_ = instances-said reads.structure (laid-each_spelled bytes (tokens_of reads.structure) reads.in_grammar.laid) in
        let (i, found, is) = AllZip-second_member (InstanceMeans s (entity_sets_of m.instances)) (instances_in reads.structure.sections) m.instances (n, x) reads.means at in
        rows-good s formed (entity_sets_of m.instances) i.1 x is.1 (Each-member (λ (j : Instance). Each IsSpelled (record_tokens j.1)) (instances_in reads.structure.sections) i said_ found) vs among

    closed : (n : ℕ) (x : Typed) → Contains m.instances (n, x) → (t : ℕ) → Contains (flat_map targets_in x.values) t → Contains (names m) t
    closed n x at t among =
        let (vs, row, own) = Contains-one_of targets_in x.values t among in
        let P : List ℕ → Type 0 = λ ns. Contains ns t in
        subst P (map-mapped (λ (k : ℕ × List ℕ). k.0) (λ (i : ℕ × Typed). (i.0, i.1.entities)) m.instances) (good-known (entity_sets_of m.instances) vs (good n x at vs row) t own)

    settled : HasSettledValues m
    settled n x at = Each-of_members AreSettled x.values (λ vs row. good-settled (entity_sets_of m.instances) vs (good n x at vs row))
