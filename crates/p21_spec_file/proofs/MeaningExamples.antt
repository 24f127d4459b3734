-- Records in internal and in external mapping, and what they mean.
use Rattle.std.specs.Prelude.{◌≡◌, ℕ, zero, suc, pos, true, false, List, [], ◌∷◌, codes, Some, None, slice_get, Contains, refl}
use Rattle.std.specs.List.{AllZip, IsDistinct}
use Rattle.std.specs.Str.{bytes_eq}
use Rattle.std.specs.List.Sorted.{IsStrictlySortedBy}
use Rattle.std.proofs.Common.{arith, rules, inl, inr, ap, sym, subst, ◌∙◌}
use Rattle.p21_spec_exchange.specs.Number.{Decimal}
use Rattle.p21_spec_exchange.specs.Parameter.{dollar, star, real, no_params, param, key_of}
use Rattle.p21_spec_exchange.specs.Record.{Record, simple, complex}
use Rattle.p21_spec_schema.specs.Schema as schema
use Rattle.p21_spec_schema.specs.Schema.{Place, Attribute, Redeclared, Entity, attribute_at, IsAbstract, EntityNamed}
use Rattle.p21_spec_schema.specs.Supertype.{IsA, itself, above, supertypes_of, InClosure}
use Rattle.p21_spec_schema.specs.OneOf.{Clashes}
use Rattle.p21_spec_schema.specs.Order.{places}
use Rattle.p21_spec_schema.specs.PlaceType.{TypeAt, derived_place, stored_place, two_redeclarations, IsDerivedIn, IsRedeclared}
use Rattle.p21_spec_file.specs.Value as value
use Rattle.p21_spec_file.specs.Value.{Values, no_values}
use Rattle.p21_spec_file.specs.Reference.{EntitySets}
use Rattle.p21_spec_file.specs.Fits as fits
use Rattle.p21_spec_file.specs.Fits.{FitsAt, as_underlying, a_real}
use Rattle.p21_spec_file.specs.Meaning.{Typed, NamesEntity, FitsPlace, FitPlaces, PartMeans, RecordMeans}
use Rattle.p21_spec_basics.proofs.Members.{Each-at, Each-member, Contains-none, Contains-first}
use Rattle.p21_spec_schema.proofs.TestSchemas.{demo, shape, point, marked, origin, cloud, attribute, label, label_place, x_place, y_place}
use Rattle.p21_spec_schema.proofs.OrderExamples.{point-is_shape, demo-is_a}
use Rattle.p21_spec_schema.proofs.DeclaredSchemas.{names_of_all, distinct_names-entities}

pub not_redeclared : (entities : List ℕ) (place : Place) → IsRedeclared demo entities place → ⊥
not_redeclared entities place (e, r, (in_set, (x, at, among), is)) =
    let P : List Redeclared → Type 0 = λ rs. Contains rs r in
    Contains-none r (subst P (Each-at (λ y. y.redeclared ≡ []) demo.entities e x (refl, (refl, (refl, (refl, (refl, tt))))) at) among)

-- DEMO has no ONEOF list
pub no_clash : (entities : List ℕ) → Clashes demo entities → ⊥
no_clash entities (listed, among, two) = Contains-none listed among

-- X of POINT alone is derived
derived-is_x : (entities : List ℕ) (place : Place) → IsDerivedIn demo entities place → place ≡ x_place
derived-is_x entities place (e, x, in_set, at, among) = Each-at (λ y. Contains y.derived place → place ≡ x_place) demo.entities e x (no_place, (no_place, (no_place, (λ h. Each-member (λ q. q ≡ x_place) (x_place ∷ []) place (refl, tt) h, (no_place, tt))))) at among
  where
    no_place : Contains [] place → place ≡ x_place
    no_place h = absurd (Contains-none place h)

-- a place that no entity redeclares has the type of its declaration
pub stored : (entities : List ℕ) (place : Place) (a : Attribute) → (place ≡ x_place → ⊥) → attribute_at demo place ≡ Some a → TypeAt demo entities place (stored_place a.optional a.type)
stored entities place a other at = (λ h. other (derived-is_x entities place h), inr (not_redeclared entities place, (a, at, refl, refl)))

pub abstract-is_shape : (e : ℕ) → IsAbstract demo e → e ≡ 0
abstract-is_shape zero (x, at, is) = refl
abstract-is_shape (suc e) (x, at, is) = let h : x.is_abstract ≡ false = Each-at (λ y. y.is_abstract ≡ false) (point ∷ marked ∷ origin ∷ cloud ∷ []) e x (refl, (refl, (refl, (refl, tt)))) at in cc

abbrev pub origin_set : List ℕ
origin_set = 3 ∷ 1 ∷ 0 ∷ []

pub origin-is : (f : ℕ) → Contains origin_set f → IsA demo 3 f
origin-is f among = Each-member (IsA demo 3) origin_set f (itself 3, (above 3 1 1 (0, omega arith, refl) (itself 1), (above 3 1 0 (0, omega arith, refl) point-is_shape, tt))) among

-- what ORIGIN, POINT or SHAPE is, is one of the three
pub origin-closed : (sub sup : ℕ) → IsA demo sub sup → Contains origin_set sub → Contains origin_set sup
origin-closed sub sup (itself e) among = among
origin-closed sub sup (above _ next _ up more) among =
    origin-closed next sup more (Each-member (λ e. (f : ℕ) → Contains (supertypes_of demo e) f → Contains origin_set f) origin_set sub (λ f h. Each-member (Contains origin_set) (1 ∷ []) f ((1, omega arith, refl), tt) h, (shapes, (λ f h. absurd (Contains-none f h), tt))) among next up)
  where
    shapes : (f : ℕ) → Contains (0 ∷ []) f → Contains origin_set f
    shapes f h = Each-member (Contains origin_set) (0 ∷ []) f ((2, omega arith, refl), tt) h

abbrev pub two : Decimal
two = record { significand = pos 2; exponent = pos 0 }

abbrev pub nought : Decimal
nought = record { significand = pos 0; exponent = pos 0 }

-- `ORIGIN($,*,2.)`
abbrev origin_record : Record
origin_record = simple (record { key = key_of (codes "ORIGIN"); params = param dollar (param star (param (real two) no_params)) })

-- an ORIGIN with no label, a derived X and the Y 2
abbrev origin_meaning : Typed
origin_meaning = record { entities = origin_set; values = no_values ∷ value.value value.derived (value.value (value.real two) no_values) ∷ value.value value.missing no_values ∷ [] }

label-not_x : label_place ≡ x_place → ⊥
label-not_x h = let n : 0 ≡ 1 = ap (λ p. p.entity) h in omega (arith, n)

y-not_x : y_place ≡ x_place → ⊥
y-not_x h = let n : 1 ≡ 0 = ap (λ p. p.index) h in omega (arith, n)

pub origin-x : TypeAt demo origin_set x_place derived_place
origin-x = (3, origin, (0, omega arith, refl), refl, (0, omega arith, refl))

pub origin-means : (kinds : EntitySets) → RecordMeans demo kinds origin_record origin_meaning
unfolding IsStrictlySortedBy
origin-means kinds = record {
  rising = (codes "ORIGIN" ∷ codes "POINT" ∷ codes "SHAPE" ∷ [], ((origin, refl, refl), ((point, refl, refl), ((shape, refl, refl), tt))), ((refl, (refl, tt)), ((refl, tt), (tt, tt))));
  own_counts = (refl, (refl, (refl, tt)));
  no_abstract_leaf = λ e leaf is_abstract. let h : 1 ≡ e = leaf.1 1 (1, omega arith, refl) (let P : ℕ → Type 0 = λ f. IsA demo 1 f in subst P (sym (abstract-is_shape e is_abstract)) point-is_shape) in omega (arith, h, abstract-is_shape e is_abstract);
  no_clash = no_clash origin_set;
  place_types = (tt, ((open_ x_place, (open_ y_place, tt)), ((open_ label_place, tt), tt)));
  means = record {
    entity = 3;
    named = (codes "ORIGIN", (origin, refl, refl), refl);
    closure = λ f. (origin-is f, λ up. origin-closed 3 f up (0, omega arith, refl));
    fit = (
      (stored_place true (schema.text None), value.missing, stored origin_set label_place label label-not_x refl, fits.dollar (schema.text None), (value.value value.missing no_values, (2, omega arith, refl), refl)),
      (
        (derived_place, value.derived, origin-x, fits.star, (value.value value.derived (value.value (value.real two) no_values), (1, omega arith, refl), refl)),
        (
          (
            stored_place false (schema.defined 0),
            value.real two,
            stored origin_set y_place (attribute (codes "Y") (schema.defined 0)) y-not_x refl,
            fits.fits false (schema.defined 0) (real two) (value.real two) (as_underlying 0 schema.real (real two) (value.real two) refl (a_real two)),
            (value.value value.derived (value.value (value.real two) no_values), (1, omega arith, refl), refl),
          ),
          tt,
        ),
      ),
    );
  };
}
  where
    open_ : (place : Place) → TypeAt demo origin_set place two_redeclarations → ⊥
    open_ place below = not_redeclared origin_set place below.1

-- `POINT($,1.,1.)` means a POINT with no label
abbrev pub one : Decimal
one = record { significand = pos 1; exponent = pos 0 }

abbrev pub point_record : Record
point_record = simple (record { key = key_of (codes "POINT"); params = param dollar (param (real one) (param (real one) no_params)) })

abbrev pub point_set : List ℕ
point_set = 1 ∷ 0 ∷ []

abbrev pub point_values : Values
point_values = value.value (value.real one) (value.value (value.real one) no_values)

abbrev pub point_meaning : Typed
point_meaning = record { entities = point_set; values = point_values ∷ value.value value.missing no_values ∷ [] }

pub point-is : (f : ℕ) → Contains point_set f → IsA demo 1 f
point-is f among = Each-member (IsA demo 1) point_set f (itself 1, (point-is_shape, tt)) among

pub point-only : (f : ℕ) → IsA demo 1 f → Contains point_set f
point-only f is = elim (demo-is_a 1 f (omega arith) is) [ inl h ↦ subst (λ n. Contains point_set n) (sym h) (0, omega arith, refl) | inr h ↦ subst (λ n. Contains point_set n) (sym h) (1, omega arith, refl) ]

-- POINT and SHAPE derive nothing
point-derives_none : (place : Place) → IsDerivedIn demo point_set place → ⊥
point-derives_none place (e, x, in_set, at, among) =
    Each-member (λ f. slice_get demo.entities f ≡ Some x → ⊥) point_set e (none point refl, (none shape refl, tt)) in_set at
  where
    none : (y : Entity) → y.derived ≡ [] → Some y ≡ Some x → ⊥
    none y empty same = let is : y ≡ x = cc in let P : List Place → Type 0 = λ places. Contains places place in Contains-none place (subst P (ap (λ z. z.derived) (sym is) ∙ empty) among)

pub point-stored : (place : Place) (a : Attribute) → attribute_at demo place ≡ Some a → TypeAt demo point_set place (stored_place a.optional a.type)
point-stored place a at = (point-derives_none place, inr (not_redeclared point_set place, (a, at, refl, refl)))

a_distance : (kinds : EntitySets) → FitsAt demo kinds (stored_place false (schema.defined 0)) (real one) (value.real one)
a_distance kinds = fits.fits false (schema.defined 0) (real one) (value.real one) (as_underlying 0 schema.real (real one) (value.real one) refl (a_real one))

pub point-means : (kinds : EntitySets) → RecordMeans demo kinds point_record point_meaning
unfolding IsStrictlySortedBy
point-means kinds = record {
  rising = (codes "POINT" ∷ codes "SHAPE" ∷ [], ((point, refl, refl), ((shape, refl, refl), tt)), ((refl, tt), (tt, tt)));
  own_counts = (refl, (refl, tt));
  no_abstract_leaf = λ e leaf is_abstract. let h : 1 ≡ e = leaf.1 1 (0, omega arith, refl) (let P : ℕ → Type 0 = λ f. IsA demo 1 f in subst P (sym (abstract-is_shape e is_abstract)) point-is_shape) in omega (arith, h, abstract-is_shape e is_abstract);
  no_clash = no_clash point_set;
  place_types = ((open_ x_place, (open_ y_place, tt)), ((open_ label_place, tt), tt));
  means = record {
    entity = 1;
    named = (codes "POINT", (point, refl, refl), refl);
    closure = λ f. (point-is f, point-only f);
    fit = (
      (stored_place true (schema.text None), value.missing, point-stored label_place label refl, fits.dollar (schema.text None), (value.value value.missing no_values, (1, omega arith, refl), refl)),
      (
        (stored_place false (schema.defined 0), value.real one, point-stored x_place (attribute (codes "X") (schema.defined 0)) refl, a_distance kinds, (point_values, (0, omega arith, refl), refl)),
        ((stored_place false (schema.defined 0), value.real one, point-stored y_place (attribute (codes "Y") (schema.defined 0)) refl, a_distance kinds, (point_values, (0, omega arith, refl), refl)), tt),
      ),
    );
  };
}
  where
    open_ : (place : Place) → TypeAt demo point_set place two_redeclarations → ⊥
    open_ place below = not_redeclared point_set place below.1

pub demo-distinct : IsDistinct bytes_eq (names_of_all demo)
unfolding IsDistinct
demo-distinct = search rules

pub named : (word : List ℕ) (n e : ℕ) → EntityNamed demo n word → NamesEntity demo (key_of word) e → e ≡ n
named word n e of_n (name, of_e, key_is) = let P : List ℕ → Type 0 = λ w. EntityNamed demo e w in distinct_names-entities demo demo-distinct e n word (subst P (sym (ap (λ k. k.word) key_is)) of_e) of_n

-- at a derived place only `*` fits
derived-needs_star : (kinds : EntitySets) (meaning : Typed) (d : Decimal) → Contains meaning.entities 3 → FitsPlace demo kinds meaning x_place (real d) → ⊥
derived-needs_star kinds meaning d among (derived_place, v, _, fit, has) = elim fit [ ]
derived-needs_star kinds meaning d among (two_redeclarations, v, _, fit, has) = elim fit [ ]
derived-needs_star kinds meaning d among (stored_place optional type, v, (not_derived, declared), fit, has) = not_derived (3, origin, among, refl, (0, omega arith, refl))

-- `ORIGIN($,0.,2.)` means nothing
pub origin_number-means_nothing : (kinds : EntitySets) (meaning : Typed) → RecordMeans demo kinds (simple (record { key = key_of (codes "ORIGIN"); params = param dollar (param (real nought) (param (real two) no_params)) })) meaning → ⊥
origin_number-means_nothing kinds meaning means =
    let internal = means.means in
    let is : internal.entity ≡ 3 = named (codes "ORIGIN") 3 internal.entity (origin, refl, refl) internal.named in
    let P : ℕ → Type 0 = λ e. FitPlaces demo kinds meaning (places demo e) (param dollar (param (real nought) (param (real two) no_params))) in
    let Q : ℕ → Type 0 = λ e. Contains meaning.entities e in
    let fit : P 3 = subst P is internal.fit in
    derived-needs_star kinds meaning nought (subst Q is ((internal.closure internal.entity).1 (itself internal.entity))) fit.1.0

-- `SHAPE($)` means nothing: its leaf is abstract
pub abstract-means_nothing : (kinds : EntitySets) (meaning : Typed) → RecordMeans demo kinds (simple (record { key = key_of (codes "SHAPE"); params = param dollar no_params })) meaning → ⊥
abstract-means_nothing kinds meaning means =
    let internal = means.means in
    let is : internal.entity ≡ 0 = named (codes "SHAPE") 0 internal.entity (shape, refl, refl) internal.named in
    let P : ℕ → Type 0 = λ e. (f : ℕ) → (Contains meaning.entities f → IsA demo e f) × (IsA demo e f → Contains meaning.entities f) in
    let closure : P 0 = subst P is internal.closure in
    means.no_abstract_leaf 0 ((closure 0).1 (itself 0), λ f among down. elim (demo-is_a 0 f (omega arith) ((closure f).0 among)) [ inl h ↦ h | inr h ↦ h ]) (shape, refl, refl)

-- `(POINT(1.,2.))` means nothing: the part of SHAPE is missing
pub missing_part-means_nothing : (kinds : EntitySets) (meaning : Typed) (d e : Decimal) → RecordMeans demo kinds (complex (record { key = key_of (codes "POINT"); params = param (real d) (param (real e) no_params) } ∷ [])) meaning → ⊥
missing_part-means_nothing kinds meaning d e means = refuted means.means.entities means.means.parts_mean (λ f is. means.means.closed f is)
  where
    refuted : (entities : List ℕ) → AllZip (PartMeans demo kinds meaning) (record { key = key_of (codes "POINT"); params = param (real d) (param (real e) no_params) } ∷ []) entities → ((f : ℕ) → InClosure demo entities f → Contains entities f) → ⊥
    refuted [] all closed = absurd all
    refuted (x ∷ []) all closed =
        let is : x ≡ 1 = named (codes "POINT") 1 x (point, refl, refl) all.0.0 in
        let P : ℕ → Type 0 = λ y. IsA demo y 0 in
        let h : x ≡ 0 = Each-member (λ y. x ≡ y) (x ∷ []) 0 (refl, tt) (closed 0 (x, Contains-first x [], subst P (sym is) point-is_shape)) in
        omega (arith, h, is)
    refuted (x ∷ y ∷ ys) all closed = absurd all.1
