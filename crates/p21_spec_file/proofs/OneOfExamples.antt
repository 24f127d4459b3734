-- Records under SOLE, where A and B exclude each other.
use Rattle.std.specs.Prelude.{◌≡◌, ◌⊎◌, ℕ, ◌<◌, zero, suc, pos, false, List, [], ◌∷◌, codes, Contains, refl}
use Rattle.std.specs.List.{AllZip, IsDistinct, AllByRecursion as Each}
use Rattle.std.specs.List.Sorted.{IsStrictlySortedBy}
use Rattle.std.proofs.Common.{arith, inl, inr, sym, subst, ◌∙◌}
use Rattle.p21_spec_file.specs.CanonicalRecord.{AreTextsRising, HasOneLeaf, IsCanonicalRecord}
use Rattle.p21_spec_file.specs.Fits as fits
use Rattle.p21_spec_file.specs.Fits.{a_whole}
use Rattle.p21_spec_file.specs.Meaning.{Typed, HasValues, NamesEntity, FitsPlace, PartMeans, RecordMeans}
use Rattle.p21_spec_schema.specs.OneOf.{Clashes}
use Rattle.p21_spec_exchange.specs.Parameter.{whole, Params, no_params, param, key_of}
use Rattle.p21_spec_schema.specs.PlaceType.{TypeAt, stored_place, two_redeclarations, IsDerivedIn, IsRedeclared}
use Rattle.p21_spec_exchange.specs.Record.{Part, Record, simple, complex}
use Rattle.p21_spec_file.specs.Reference.{EntitySets}
use Rattle.p21_spec_schema.specs.Schema as schema
use Rattle.p21_spec_schema.specs.Schema.{Place, Redeclared, IsAbstract}
use Rattle.p21_spec_schema.specs.Supertype.{IsA, itself, above, InClosure, IsLeaf}
use Rattle.p21_spec_file.specs.Value as value
use Rattle.p21_spec_file.specs.Value.{Values, no_values}
use Rattle.p21_spec_schema.specs.WellFormed.{IsWellFormed}
use Rattle.p21_spec_schema.proofs.DeclaredSchemas.{declared-well_formed}
use Rattle.p21_spec_basics.proofs.Members.{Contains-none, Contains-first, Each-at, Each-member}
use Rattle.p21_spec_file.proofs.OneMeaning.{NamesEntity-one}
use Rattle.p21_spec_schema.proofs.SoleSchema.{s_entity, below_s, a_b_list, sole, sole_with, sole_tree, a_or_b, sole-supertypes, sole-declares}

underived : (lists : List (List ℕ)) (entities : List ℕ) (place : Place) → IsDerivedIn (sole_with lists) entities place → ⊥
underived lists entities place (e, x, in_set, at, among) =
    let P : List Place → Type 0 = λ ps. Contains ps place in
    Contains-none place (subst P (Each-at (λ y. y.derived ≡ []) (sole_with lists).entities e x (refl, (refl, (refl, (refl, tt)))) at) among)

not_redeclared : (lists : List (List ℕ)) (entities : List ℕ) (place : Place) → IsRedeclared (sole_with lists) entities place → ⊥
not_redeclared lists entities place (e, r, (in_set, (x, at, among), is)) =
    let P : List Redeclared → Type 0 = λ rs. Contains rs r in
    Contains-none r (subst P (Each-at (λ y. y.redeclared ≡ []) (sole_with lists).entities e x (refl, (refl, (refl, (refl, tt)))) at) among)

not_abstract : (lists : List (List ℕ)) (e : ℕ) → IsAbstract (sole_with lists) e → ⊥
not_abstract lists e (x, at, is) = let h : x.is_abstract ≡ false = Each-at (λ y. y.is_abstract ≡ false) (sole_with lists).entities e x (refl, (refl, (refl, (refl, tt)))) at in cc

-- an entity is itself or S
sole-is_a : (lists : List (List ℕ)) (sub sup : ℕ) → IsA (sole_with lists) sub sup → (sup ≡ sub) ⊎ (sup ≡ 0)
sole-is_a lists sub sup (itself _) = inl refl
sole-is_a lists sub sup (above _ next _ among up) = inr (top next sup (sole-supertypes lists sub next among).0 up)
  where
    top : (e sup : ℕ) → e ≡ 0 → IsA (sole_with lists) e sup → sup ≡ 0
    top e sup is (itself _) = is
    top e sup is (above _ next _ among up) = absurd (omega (arith, is, (sole-supertypes lists e next among).1))

abbrev k_place : Place
k_place = record { entity = 0; index = 0 }

open_ : (lists : List (List ℕ)) (entities : List ℕ) → TypeAt (sole_with lists) entities k_place two_redeclarations → ⊥
open_ lists entities below = not_redeclared lists entities k_place below.1

-- the K of an instance is the INTEGER 1
abbrev one_params : Params
one_params = param (whole (pos 1)) no_params

abbrev one_values : Values
one_values = value.value (value.whole (pos 1)) no_values

one-fits : (lists : List (List ℕ)) (kinds : EntitySets) (meaning : Typed) → HasValues meaning 0 one_values → FitsPlace (sole_with lists) kinds meaning k_place (whole (pos 1))
one-fits lists kinds meaning has = (
  stored_place false schema.whole,
  value.whole (pos 1),
  (underived lists meaning.entities k_place, inr (not_redeclared lists meaning.entities k_place, (_, refl, refl, refl))),
  fits.fits false schema.whole (whole (pos 1)) (value.whole (pos 1)) (a_whole (pos 1)),
  (one_values, has, refl),
)

-- no set without B clashes
without_b : (entities : List ℕ) → Each (λ g. g ≡ 2 → ⊥) entities → Clashes sole entities → ⊥
without_b entities no_b (listed, among, (e, f, e_listed, f_listed, differ, has_e, has_f)) = differ (is_a e e_listed has_e ∙ sym (is_a f f_listed has_f))
  where
    is_a : (g : ℕ) → Contains listed g → Contains entities g → g ≡ 1
    is_a g g_listed has =
        let is : 1 ∷ 2 ∷ [] ≡ listed = Each-member (λ l. l ≡ listed → 1 ∷ 2 ∷ [] ≡ listed) ((1 ∷ 2 ∷ []) ∷ []) listed (λ h. h, tt) among refl in
        Each-member (λ h. (h ≡ 2 → ⊥) → h ≡ 1) (1 ∷ 2 ∷ []) g (λ other. refl, (λ other. absurd (other refl), tt)) (subst (λ l. Contains l g) (sym is) g_listed) (Each-member (λ h. h ≡ 2 → ⊥) entities g no_b has)

-- `S(1)` and `A()`, as parts or alone
abbrev part_of : List ℕ → Params → Part
part_of name params = record { key = key_of name; params = params }

pub s-named : (lists : List (List ℕ)) → NamesEntity (sole_with lists) (key_of (codes "S")) 0
s-named lists = (codes "S", (s_entity, refl, refl), refl)

pub a-named : (lists : List (List ℕ)) → NamesEntity (sole_with lists) (key_of (codes "A")) 1
a-named lists = (codes "A", (below_s (codes "A"), refl, refl), refl)

pub b-named : (lists : List (List ℕ)) → NamesEntity (sole_with lists) (key_of (codes "B")) 2
b-named lists = (codes "B", (below_s (codes "B"), refl, refl), refl)

c-named : (lists : List (List ℕ)) → NamesEntity (sole_with lists) (key_of (codes "C")) 3
c-named lists = (codes "C", (below_s (codes "C"), refl, refl), refl)

-- a set with S is its own closure
pub with_s-closed : (lists : List (List ℕ)) (entities : List ℕ) → Contains entities 0 → (f : ℕ) → InClosure (sole_with lists) entities f → Contains entities f
with_s-closed lists entities has_s f (e, among, is) = elim (sole-is_a lists e f is) [ inl h ↦ subst (λ g. Contains entities g) (sym h) among | inr h ↦ subst (λ g. Contains entities g) (sym h) has_s ]

-- `(A()B()S(1))` means nothing
abbrev pub a_b_s : Record
a_b_s = complex (part_of (codes "A") no_params ∷ part_of (codes "B") no_params ∷ part_of (codes "S") one_params ∷ [])

pub a_and_b-mean_nothing : (kinds : EntitySets) (meaning : Typed) → RecordMeans sole kinds a_b_s meaning → ⊥
a_and_b-mean_nothing kinds meaning means =
    let (has_a, has_b) = both means.means.entities means.means.parts_mean in
    means.no_clash (1 ∷ 2 ∷ [], Contains-first (1 ∷ 2 ∷ []) [], (1, 2, (0, omega arith, refl), (1, omega arith, refl), omega arith, (means.means.same_entities 1).0 has_a, (means.means.same_entities 2).0 has_b))
  where
    formed : IsWellFormed sole
    formed = declared-well_formed (sole_tree a_or_b) sole sole-declares

    both : (es : List ℕ) → AllZip (PartMeans sole kinds meaning) (part_of (codes "A") no_params ∷ part_of (codes "B") no_params ∷ part_of (codes "S") one_params ∷ []) es → Contains es 1 × Contains es 2
    both [] all = absurd all
    both (e ∷ []) all = absurd all.1
    both (e ∷ f ∷ more) all =
        let e_is : e ≡ 1 = NamesEntity-one sole formed.entities_distinct (key_of (codes "A")) e 1 all.0.0 (a-named a_b_list) in
        let f_is : f ≡ 2 = NamesEntity-one sole formed.entities_distinct (key_of (codes "B")) f 2 all.1.0.0 (b-named a_b_list) in
        ((0, omega arith, e_is), (1, omega arith, f_is))

-- with `(ONEOF (a, b) ANDOR c)` it has a meaning
abbrev pub a_b_meaning : Typed
a_b_meaning = record { entities = 1 ∷ 2 ∷ 0 ∷ []; values = no_values ∷ no_values ∷ one_values ∷ [] }

pub a_and_b-mean_without_list : (kinds : EntitySets) → RecordMeans (sole_with []) kinds a_b_s a_b_meaning
unfolding IsStrictlySortedBy IsDistinct
a_and_b-mean_without_list kinds = record {
  rising = (codes "A" ∷ codes "B" ∷ codes "S" ∷ [], ((below_s (codes "A"), refl, refl), ((below_s (codes "B"), refl, refl), ((s_entity, refl, refl), tt))), ((refl, (refl, tt)), ((refl, tt), (tt, tt))));
  own_counts = (refl, (refl, (refl, tt)));
  no_abstract_leaf = λ e leaf is_abstract. not_abstract [] e is_abstract;
  no_clash = λ (listed, among, two). Contains-none listed among;
  place_types = (tt, (tt, ((open_ [] (1 ∷ 2 ∷ 0 ∷ []), tt), tt)));
  means = record {
    some_parts = omega arith;
    entities = 1 ∷ 2 ∷ 0 ∷ [];
    distinct = ((refl, (refl, tt)), ((refl, tt), (tt, tt)));
    same_entities = λ f. (λ h. h, λ h. h);
    closed = with_s-closed [] (1 ∷ 2 ∷ 0 ∷ []) (2, omega arith, refl);
    parts_mean = ((a-named [], tt), ((b-named [], tt), ((s-named [], (one-fits [] kinds a_b_meaning (2, omega arith, refl), tt)), tt)));
  };
}

-- `(S(1)C()A())` has a meaning
abbrev pub s_c_a : Record
s_c_a = complex (part_of (codes "S") one_params ∷ part_of (codes "C") no_params ∷ part_of (codes "A") no_params ∷ [])

abbrev pub a_c_meaning : Typed
a_c_meaning = record { entities = 1 ∷ 3 ∷ 0 ∷ []; values = no_values ∷ no_values ∷ one_values ∷ [] }

reordered : (f : ℕ) → Contains (0 ∷ 3 ∷ 1 ∷ []) f → Contains (1 ∷ 3 ∷ 0 ∷ []) f
reordered f among = Each-member (Contains (1 ∷ 3 ∷ 0 ∷ [])) (0 ∷ 3 ∷ 1 ∷ []) f ((2, omega arith, refl), ((1, omega arith, refl), ((0, omega arith, refl), tt))) among

ordered : (f : ℕ) → Contains (1 ∷ 3 ∷ 0 ∷ []) f → Contains (0 ∷ 3 ∷ 1 ∷ []) f
ordered f among = Each-member (Contains (0 ∷ 3 ∷ 1 ∷ [])) (1 ∷ 3 ∷ 0 ∷ []) f ((2, omega arith, refl), ((1, omega arith, refl), ((0, omega arith, refl), tt))) among

pub a_and_c-mean : (kinds : EntitySets) → RecordMeans sole kinds s_c_a a_c_meaning
unfolding IsStrictlySortedBy IsDistinct
a_and_c-mean kinds = record {
  rising = (codes "A" ∷ codes "C" ∷ codes "S" ∷ [], ((below_s (codes "A"), refl, refl), ((below_s (codes "C"), refl, refl), ((s_entity, refl, refl), tt))), ((refl, (refl, tt)), ((refl, tt), (tt, tt))));
  own_counts = (refl, (refl, (refl, tt)));
  no_abstract_leaf = λ e leaf is_abstract. not_abstract a_b_list e is_abstract;
  no_clash = without_b (1 ∷ 3 ∷ 0 ∷ []) (λ h. omega (arith, h), (λ h. omega (arith, h), (λ h. omega (arith, h), tt)));
  place_types = (tt, (tt, ((open_ a_b_list (1 ∷ 3 ∷ 0 ∷ []), tt), tt)));
  means = record {
    some_parts = omega arith;
    entities = 0 ∷ 3 ∷ 1 ∷ [];
    distinct = ((refl, (refl, tt)), ((refl, tt), (tt, tt)));
    same_entities = λ f. (reordered f, ordered f);
    closed = with_s-closed a_b_list (0 ∷ 3 ∷ 1 ∷ []) (0, omega arith, refl);
    parts_mean = ((s-named a_b_list, (one-fits a_b_list kinds a_c_meaning (2, omega arith, refl), tt)), ((c-named a_b_list, tt), ((a-named a_b_list, tt), tt)));
  };
}

-- its canonical record is `(A()C()S(1))`, which means the same
abbrev a_c_s : Record
a_c_s = complex (part_of (codes "A") no_params ∷ part_of (codes "C") no_params ∷ part_of (codes "S") one_params ∷ [])

pub canonical-means : (kinds : EntitySets) → RecordMeans sole kinds a_c_s a_c_meaning
unfolding IsDistinct
canonical-means kinds = record {
  rising = (a_and_c-mean kinds).rising;
  own_counts = (a_and_c-mean kinds).own_counts;
  no_abstract_leaf = (a_and_c-mean kinds).no_abstract_leaf;
  no_clash = (a_and_c-mean kinds).no_clash;
  place_types = (a_and_c-mean kinds).place_types;
  means = record {
    some_parts = omega arith;
    entities = 1 ∷ 3 ∷ 0 ∷ [];
    distinct = ((refl, (refl, tt)), ((refl, tt), (tt, tt)));
    same_entities = λ f. (λ h. h, λ h. h);
    closed = with_s-closed a_b_list (1 ∷ 3 ∷ 0 ∷ []) (2, omega arith, refl);
    parts_mean = ((a-named a_b_list, tt), ((c-named a_b_list, tt), ((s-named a_b_list, (one-fits a_b_list kinds a_c_meaning (2, omega arith, refl), tt)), tt)));
  };
}

-- A and C are leaves
sub-is_leaf : (e : ℕ) → Contains (1 ∷ 3 ∷ 0 ∷ []) e → 0 < e → IsLeaf sole (1 ∷ 3 ∷ 0 ∷ []) e
sub-is_leaf e among some = (among, λ f f_among is. elim (sole-is_a a_b_list f e is) [ inl h ↦ sym h | inr h ↦ absurd (omega (arith, h, some)) ])

two_leaves : HasOneLeaf sole (1 ∷ 3 ∷ 0 ∷ []) → ⊥
two_leaves (e, leaf, only) =
    let a_is : 1 ≡ e = only 1 (sub-is_leaf 1 (0, omega arith, refl) (omega arith)) in
    let c_is : 3 ≡ e = only 3 (sub-is_leaf 3 (1, omega arith, refl) (omega arith)) in omega (arith, a_is, c_is)

keywords : AreTextsRising (codes "A" ∷ codes "C" ∷ codes "S" ∷ [])
keywords zero d low high = refl
keywords (suc zero) d low high = refl
keywords (suc (suc k)) d low high = absurd (omega (arith, high))

pub a_c_s-is_canonical : IsCanonicalRecord sole a_c_s a_c_meaning
a_c_s-is_canonical = record {
  form = (two_leaves, keywords);
  params = ((1, a-named a_b_list, tt), ((3, c-named a_b_list, tt), ((0, s-named a_b_list, ((value.whole (pos 1), (one_values, (2, omega arith, refl), refl), λ h. h), tt)), tt)));
}

-- `A(1)` and `S(1)` have meanings
pub a-means : (kinds : EntitySets) → RecordMeans sole kinds (simple (part_of (codes "A") one_params)) (record { entities = 1 ∷ 0 ∷ []; values = no_values ∷ one_values ∷ [] })
unfolding IsStrictlySortedBy
a-means kinds = record {
  rising = (codes "A" ∷ codes "S" ∷ [], ((below_s (codes "A"), refl, refl), ((s_entity, refl, refl), tt)), ((refl, tt), (tt, tt)));
  own_counts = (refl, (refl, tt));
  no_abstract_leaf = λ e leaf is_abstract. not_abstract a_b_list e is_abstract;
  no_clash = without_b (1 ∷ 0 ∷ []) (λ h. omega (arith, h), (λ h. omega (arith, h), tt));
  place_types = (tt, ((open_ a_b_list (1 ∷ 0 ∷ []), tt), tt));
  means = record {
    entity = 1;
    named = a-named a_b_list;
    closure = λ f. (
      λ among. Each-member (IsA sole 1) (1 ∷ 0 ∷ []) f (itself 1, (above 1 0 0 (0, omega arith, refl) (itself 0), tt)) among,
      λ is. with_s-closed a_b_list (1 ∷ 0 ∷ []) (1, omega arith, refl) f (1, (0, omega arith, refl), is),
    );
    fit = (one-fits a_b_list kinds (record { entities = 1 ∷ 0 ∷ []; values = no_values ∷ one_values ∷ [] }) (1, omega arith, refl), tt);
  };
}

pub s-means : (kinds : EntitySets) → RecordMeans sole kinds (simple (part_of (codes "S") one_params)) (record { entities = 0 ∷ []; values = one_values ∷ [] })
unfolding IsStrictlySortedBy
s-means kinds = record {
  rising = (codes "S" ∷ [], ((s_entity, refl, refl), tt), (tt, tt));
  own_counts = (refl, tt);
  no_abstract_leaf = λ e leaf is_abstract. not_abstract a_b_list e is_abstract;
  no_clash = without_b (0 ∷ []) (λ h. omega (arith, h), tt);
  place_types = ((open_ a_b_list (0 ∷ []), tt), tt);
  means = record {
    entity = 0;
    named = s-named a_b_list;
    closure = λ f. (
      λ among. Each-member (IsA sole 0) (0 ∷ []) f (itself 0, tt) among,
      λ is. with_s-closed a_b_list (0 ∷ []) (0, omega arith, refl) f (0, (0, omega arith, refl), is),
    );
    fit = (one-fits a_b_list kinds (record { entities = 0 ∷ []; values = one_values ∷ [] }) (0, omega arith, refl), tt);
  };
}
