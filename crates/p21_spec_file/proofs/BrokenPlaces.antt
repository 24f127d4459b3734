-- Records of one parameter: such a record breaks exactly the rules that its parameter breaks at its place.
use Rattle.std.specs.Prelude.{◌≡◌, ◌↔◌, ℕ, zero, suc, Bool, false, List, [], ◌∷◌, codes, length, slice_get, Some, Contains, refl}
use Rattle.std.specs.List.{zip, IsDistinct}
use Rattle.std.specs.Str.{bytes_eq}
use Rattle.std.proofs.Common.{arith, rules, inr, sym, subst, ◌∙◌}
use Rattle.p21_spec_exchange.specs.Parameter as parameter
use Rattle.p21_spec_exchange.specs.Parameter.{Param, no_params, param, key_of, listed}
use Rattle.p21_spec_exchange.specs.Record.{Part, Record, simple}
use Rattle.p21_spec_file.specs.BrokenRule.{Breaks, unknown_entity, abstract_leaf, part_missing, part_twice, wrong_count, open_place, one_of, at_place}
use Rattle.p21_spec_file.specs.BrokenValue.{BreaksAtPlace, BreaksWithin, stored}
use Rattle.p21_spec_file.specs.Fits.{FitsAt}
use Rattle.p21_spec_file.specs.Meaning.{NamesEntity}
use Rattle.p21_spec_file.specs.RecordPlaces.{IsEntitySetOf, part_places, HasParamAt}
use Rattle.p21_spec_file.specs.Reference.{EntitySets}
use Rattle.p21_spec_file.specs.Value.{Value}
use Rattle.p21_spec_schema.specs.Declared.{HasNoCircle, HasSupertype}
use Rattle.p21_spec_schema.specs.PlaceType.{PlaceType, TypeAt, stored_place, IsDerivedIn, Redeclares}
use Rattle.p21_spec_schema.specs.Schema as schema
use Rattle.p21_spec_schema.specs.Schema.{Schema, TypeUse, Place, Redeclared, Attribute, alias, items, choice, type_member, entity_member}
use Rattle.p21_spec_schema.specs.Supertype.{IsA, itself, above}
use Rattle.p21_spec_schema.specs.WellFormed.{HasDistinctEntities, HasDistinctTypes, RedeclaresOnce}
use Rattle.p21_spec_schema.proofs.DeclaredSchemas.{names_of_all, distinct_names-types}
use Rattle.p21_spec_schema.proofs.PlaceTypes.{TypeAt-one}
use Rattle.p21_spec_schema.proofs.TestSchemas.{entity_of}
use Rattle.p21_spec_basics.proofs.Members.{Contains-none, Each-at, Each-member}
use Rattle.p21_spec_file.proofs.BrokenValues.{place-fits_nothing}
use Rattle.p21_spec_file.proofs.RecordSets.{internal-set, TypeAt-members}

abbrev pub p_attribute : Bool → TypeUse → Attribute
p_attribute optional type = record { name = codes "P"; optional = optional; type = type }

-- `ENTITY e; p : type; END_ENTITY;`, the P being OPTIONAL or not, beside the types DISTANCE (REAL), COLOUR (RED, GREEN),
-- MEASURE (a select of DISTANCE), LENGTH (DISTANCE) and ITEM (a select of MEASURE and E)
abbrev pub with_place : Bool → TypeUse → Schema
with_place optional type = record {
  name = codes "S";
  types = record { name = codes "DISTANCE"; kind = alias schema.real }
      ∷ record { name = codes "COLOUR"; kind = items (codes "RED" ∷ codes "GREEN" ∷ []) }
      ∷ record { name = codes "MEASURE"; kind = choice (type_member 0 ∷ []) }
      ∷ record { name = codes "LENGTH"; kind = alias (schema.defined 0) }
      ∷ record { name = codes "ITEM"; kind = choice (type_member 2 ∷ entity_member 0 ∷ []) } ∷ [];
  entities = entity_of (codes "E") [] (p_attribute optional type ∷ []) ∷ [];
  one_of_lists = [];
}

abbrev e_part : Param → Part
e_part p = record { key = key_of (codes "E"); params = param p no_params }

-- `E(p)`
abbrev pub e_of : Param → Record
e_of p = simple (e_part p)

abbrev p_place : Place
p_place = record { entity = 0; index = 0 }

e-named : (optional : Bool) (type : TypeUse) → NamesEntity (with_place optional type) (key_of (codes "E")) 0
e-named optional type = (codes "E", (_, refl, refl), refl)

only_entity : (optional : Bool) (type : TypeUse) → HasDistinctEntities (with_place optional type)
only_entity optional type zero zero name named named_ = refl
only_entity optional type zero (suc f) name named (x, at, is) = cc
only_entity optional type (suc e) f name (x, at, is) named = cc

e-closed : (optional : Bool) (type : TypeUse) (f : ℕ) → IsA (with_place optional type) 0 f → Contains (0 ∷ []) f
e-closed optional type f (itself _) = (0, omega arith, refl)
e-closed optional type f (above _ next _ among up) = absurd (Contains-none next among)

e-closure : (optional : Bool) (type : TypeUse) (f : ℕ) → Contains (0 ∷ []) f ↔ IsA (with_place optional type) 0 f
e-closure optional type f = (λ among. Each-member (IsA (with_place optional type) 0) (0 ∷ []) f (itself 0, tt) among, e-closed optional type f)

e-set : (optional : Bool) (type : TypeUse) (p : Param) → IsEntitySetOf (with_place optional type) (e_of p) (0 ∷ [])
e-set optional type p = internal-set (with_place optional type) (only_entity optional type) (e_part p) 0 (0 ∷ []) (e-named optional type) (e-closure optional type)

underived : (optional : Bool) (type : TypeUse) (entities : List ℕ) (place : Place) → IsDerivedIn (with_place optional type) entities place → ⊥
underived optional type entities place (e, x, in_set, at, among) = let P : List Place → Type 0 = λ ps. Contains ps place in Contains-none place (subst P (Each-at (λ y. y.derived ≡ []) (with_place optional type).entities e x (refl, tt) at) among)

redeclares_none : (optional : Bool) (type : TypeUse) (e : ℕ) (r : Redeclared) → Redeclares (with_place optional type) e r → ⊥
redeclares_none optional type e r (x, at, among) = let P : List Redeclared → Type 0 = λ rs. Contains rs r in Contains-none r (subst P (Each-at (λ y. y.redeclared ≡ []) (with_place optional type).entities e x (refl, tt) at) among)

p-type : (optional : Bool) (type : TypeUse) → TypeAt (with_place optional type) (0 ∷ []) p_place (stored_place optional type)
p-type optional type = (underived optional type (0 ∷ []) p_place, inr (λ (e, r, found). redeclares_none optional type e r found.1, (_, refl, refl, refl)))

-- it breaks the rules that its parameter breaks
pub e-breaks : (optional : Bool) (type : TypeUse) (p : Param) (number : ℕ) → BreaksAtPlace (with_place optional type) (stored_place optional type) p number → Breaks (with_place optional type) (e_of p) number
e-breaks optional type p number broken = at_place number (0 ∷ [], p_place, stored_place optional type, p, e-set optional type p, p-type optional type, (e_part p, 0, ((0, omega arith, refl), e-named optional type), (0, omega arith, refl)), broken)

-- where the place is not OPTIONAL, those that it breaks at the type
pub type-breaks : (type : TypeUse) (p : Param) (number : ℕ) → BreaksWithin (with_place false type) number type p → Breaks (with_place false type) (e_of p) number
type-breaks type p number broken = e-breaks false type p number (stored false type p number (λ h. cc) broken)

ends : (optional : Bool) (type : TypeUse) → HasNoCircle (HasSupertype (with_place optional type))
ends optional type = (λ e. 0, λ e f up. absurd (none e f up))
  where
    none : (e f : ℕ) → HasSupertype (with_place optional type) e f → ⊥
    none zero f among = Contains-none f among
    none (suc e) f among = Contains-none f among

once : (optional : Bool) (type : TypeUse) → RedeclaresOnce (with_place optional type)
once optional type e r q redeclares redeclares_ same = absurd (redeclares_none optional type e r redeclares)

only_e : (optional : Bool) (type : TypeUse) (key : parameter.Key) (e : ℕ) → NamesEntity (with_place optional type) key e → e ≡ 0
only_e optional type key zero named = refl
only_e optional type key (suc e) (name, (x, at, is), key_is) = cc

only_part : (p : Param) (part : Part) → Contains (e_part p ∷ []) part → e_part p ≡ part
only_part p part among = Each-member (λ x. e_part p ≡ x) (e_part p ∷ []) part (refl, tt) among

-- only p stands at a place, and only at P
stands-only : (optional : Bool) (type : TypeUse) (p : Param) (place : Place) (q : Param) → HasParamAt (with_place optional type) (e_of p) place q → (place ≡ p_place) × (q ≡ p)
stands-only optional type p place q (part, e, (among, named), zipped) =
    let s = with_place optional type in
    let P : Part → Type 0 = λ x. Contains (zip (part_places s (e_of p) e) (listed x.params)) (place, q) in
    let Q : ℕ → Type 0 = λ x. Contains (zip (part_places s (e_of p) x) (listed (e_part p).params)) (place, q) in
    let found : Contains ((p_place, p) ∷ []) (place, q) = subst Q (only_e optional type part.key e named) (subst P (sym (only_part p part among)) zipped) in
    Each-member (λ (x : Place × Param). (x.0 ≡ p_place) × (x.1 ≡ p)) ((p_place, p) ∷ []) (place, q) ((refl, refl), tt) found

-- and no others
pub e-breaks_only : (optional : Bool) (type : TypeUse) (p : Param) (number : ℕ) → Breaks (with_place optional type) (e_of p) number → BreaksAtPlace (with_place optional type) (stored_place optional type) p number
e-breaks_only optional type p number (at_place _ (entities, place, at, q, set_is, type_at, stands, broken)) =
    let s = with_place optional type in
    let only = stands-only optional type p place q stands in
    let P : Place → Type 0 = λ x. TypeAt s entities x at in
    let at_p : TypeAt s (0 ∷ []) p_place at = TypeAt-members s entities (0 ∷ []) (λ f. (λ h. (e-set optional type p f).1 ((set_is f).0 h), λ h. (set_is f).1 ((e-set optional type p f).0 h))) p_place at (subst P only.0 type_at) in
    let same : at ≡ stored_place optional type = TypeAt-one s (ends optional type) (once optional type) (0 ∷ []) p_place at (stored_place optional type) at_p (p-type optional type) in
    let Q : PlaceType → Type 0 = λ x. BreaksAtPlace s x q number in
    let R : Param → Type 0 = λ x. BreaksAtPlace s (stored_place optional type) x number in
    subst R only.1 (subst Q same broken)
e-breaks_only optional type p number (unknown_entity (part, among, unknown)) = let P : Part → Type 0 = λ x. NamesEntity (with_place optional type) x.key 0 in absurd (unknown 0 (subst P (only_part p part among) (e-named optional type)))
e-breaks_only optional type p number (abstract_leaf (entities, e, set_is, leaf, (x, at, is))) = let h : x.is_abstract ≡ false = Each-at (λ y. y.is_abstract ≡ false) (with_place optional type).entities e x (refl, tt) at in cc
e-breaks_only optional type p number (part_missing missing_) = absurd missing_
e-breaks_only optional type p number (part_twice (i, j, part, other, differ, at, at_, same)) = absurd (differ (first i part at ∙ sym (first j other at_)))
  where
    first : (k : ℕ) (x : Part) → slice_get (e_part p ∷ []) k ≡ Some x → k ≡ 0
    first zero x at = refl
    first (suc k) x at = cc
e-breaks_only optional type p number (wrong_count (part, e, (among, named), differ)) =
    let s = with_place optional type in
    let P : Part → Type 0 = λ x. length (listed x.params) ≡ length (part_places s (e_of p) e) in
    let Q : ℕ → Type 0 = λ x. length (listed (e_part p).params) ≡ length (part_places s (e_of p) x) in
    absurd (differ (subst P (only_part p part among) (subst Q (sym (only_e optional type part.key e named)) refl)))
e-breaks_only optional type p number (open_place (entities, e, place, set_is, among, of_e, (derived, (f, r, found), undecided))) = absurd (redeclares_none optional type f r found.1)
e-breaks_only optional type p number (one_of (entities, set_is, (listed_, is_list, more))) = absurd (Contains-none listed_ is_list)

all-distinct : (optional : Bool) (type : TypeUse) → IsDistinct bytes_eq (names_of_all (with_place optional type))
unfolding IsDistinct
all-distinct optional type = search rules

pub types-distinct : (optional : Bool) (type : TypeUse) → HasDistinctTypes (with_place optional type)
types-distinct optional type = distinct_names-types (with_place optional type) (all-distinct optional type)

-- where its parameter fits the place, none
pub e-breaks_none : (optional : Bool) (type : TypeUse) (kinds : EntitySets) (p : Param) (v : Value) → FitsAt (with_place optional type) kinds (stored_place optional type) p v → (number : ℕ) → Breaks (with_place optional type) (e_of p) number → ⊥
e-breaks_none optional type kinds p v fit number broken =
    place-fits_nothing (with_place optional type) (types-distinct optional type) kinds number (stored_place optional type) p v (e-breaks_only optional type p number broken) fit
