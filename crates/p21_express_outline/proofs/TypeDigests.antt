-- A type that is written, and what is kept of it.
use Rattle.std.specs.Prelude.{◌≡◌, ℕ, Option, Some, None, refl}
use Rattle.std.proofs.Common.{ap, sym, ◌∙◌, subst, inl, inr}
use Rattle.p21_spec_basics.specs.Digits.{number}
use Rattle.p21_spec_schema.specs.WrittenType as written
use Rattle.p21_spec_schema.specs.WrittenType.{WrittenType, integer_type, real_type, number_type, boolean_type, logical_type, string_type, binary_type, named_type, array_type, list_type, set_type, bag_type, Bounds, UpperBound, bounded, unbounded}
use Rattle.p21_spec_schema.specs.Schema as schema
use Rattle.p21_spec_schema.specs.Schema.{Schema, TypeUse}
use Rattle.p21_spec_schema.specs.DeclaredType.{DenotesType, is_integer, is_real, is_number, is_boolean, is_logical, is_string, is_binary, is_entity, is_defined, is_array, is_list, is_set, is_bag, DenotesWidth, DenotesBounds, DenotesUpperBound}
use Rattle.p21_express_syntax.specs.Digest.{TypeDigest}
use Rattle.p21_express_syntax.specs.Digesting.{type_digest, width_digest, high_digest, range_digest, array_high}
use Rattle.p21_express_syntax.specs.Within.{HasNumbers}
use Rattle.p21_express_syntax.specs.declared.types.SimpleType.{SimpleType}
use Rattle.p21_express_syntax.specs.declared.types.SimpleType.TheVariants as simple
use Rattle.p21_express_outline.specs.Outline.{Named, DigestTypeIs, SimpleIs, aggregates_of, width_of}
use Rattle.p21_express_outline.proofs.NameLemmas.{HasNames, entity-at, type-at, entity-of, type-of, AreApart, one-entity, one-type, no-both}

width-digested : (w : Option written.Width) (width : Option schema.Width) → DenotesWidth w width → width ≡ width_of (width_digest w)
width-digested None width is = is
width-digested (Some w) width is = is.0

array-digested : (bounds : Bounds) (low high : ℕ) → DenotesBounds (Some bounds) low (Some high)
    → (low ≡ number bounds.low) × (high ≡ array_high bounds.high)
array-digested bounds low high are = (are.0, by bounds.high are.2)
  where
    by : (upper : UpperBound) → DenotesUpperBound low upper (Some high) → high ≡ array_high upper
    by unbounded is = cc
    by (bounded digits) is = let same : Some high ≡ Some (number digits) = is.0 in cc

range-digested : (bounds : Option Bounds) (low : ℕ) (high : Option ℕ) → DenotesBounds bounds low high
    → (low ≡ (range_digest bounds).low) × (high ≡ (range_digest bounds).high)
range-digested None low high are = are
range-digested (Some bounds) low high are = (are.0, by bounds.high are.2)
  where
    by : (upper : UpperBound) → DenotesUpperBound low upper high → high ≡ high_digest upper
    by unbounded is = is
    by (bounded digits) is = is.0

-- what is written is what is kept
pub type-digested : (s : Schema) (n : Named) → HasNames s n → (w : WrittenType) (t : TypeUse) → DenotesType s w t
    → DigestTypeIs n (type_digest w) t
type-digested s n has _ _ is_integer = (schema.whole, refl, refl)
type-digested s n has _ _ (is_real precision) = (schema.real, refl, refl)
type-digested s n has _ _ is_number = (schema.number, refl, refl)
type-digested s n has _ _ is_boolean = (schema.boolean, refl, refl)
type-digested s n has _ _ is_logical = (schema.logical, refl, refl)
type-digested s n has _ _ (is_string w width is) = (schema.text width, ap schema.text (width-digested w width is), refl)
type-digested s n has _ _ (is_binary w width is) = (schema.bits width, ap schema.bits (width-digested w width is), refl)
type-digested s n has _ _ (is_entity name e is) = (schema.entity e, inl (e, entity-at s n has e name is, refl), refl)
type-digested s n has _ _ (is_defined name t is) = (schema.defined t, inr (t, type-at s n has t name is, refl), refl)
type-digested s n has _ _ (is_array bounds low high optional unique element type are is) =
    let (inner, simple_is, same) = type-digested s n has element type is in
    let (low_is, high_is) = array-digested bounds low high are in (
      inner,
      simple_is,
      ap (λ l. schema.array l high optional unique type) low_is
          ∙ ap (λ h. schema.array (number bounds.low) h optional unique type) high_is
          ∙ ap (λ x. schema.array (number bounds.low) (array_high bounds.high) optional unique x) same,
    )
type-digested s n has _ _ (is_list bounds low high unique element type are is) =
    let (inner, simple_is, same) = type-digested s n has element type is in
    let (low_is, high_is) = range-digested bounds low high are in (
      inner,
      simple_is,
      ap (λ l. schema.list l high unique type) low_is
          ∙ ap (λ h. schema.list (range_digest bounds).low h unique type) high_is
          ∙ ap (λ x. schema.list (range_digest bounds).low (range_digest bounds).high unique x) same,
    )
type-digested s n has _ _ (is_set bounds low high element type are is) =
    let (inner, simple_is, same) = type-digested s n has element type is in
    let (low_is, high_is) = range-digested bounds low high are in (
      inner,
      simple_is,
      ap (λ l. schema.set l high type) low_is ∙ ap (λ h. schema.set (range_digest bounds).low h type) high_is
          ∙ ap (λ x. schema.set (range_digest bounds).low (range_digest bounds).high x) same,
    )
type-digested s n has _ _ (is_bag bounds low high element type are is) =
    let (inner, simple_is, same) = type-digested s n has element type is in
    let (low_is, high_is) = range-digested bounds low high are in (
      inner,
      simple_is,
      ap (λ l. schema.bag l high type) low_is ∙ ap (λ h. schema.bag (range_digest bounds).low h type) high_is
          ∙ ap (λ x. schema.bag (range_digest bounds).low (range_digest bounds).high x) same,
    )

-- its numbers are within the limits
pub type-numbers : (s : Schema) (w : WrittenType) (t : TypeUse) → DenotesType s w t → HasNumbers w
type-numbers s _ _ is_integer = tt
type-numbers s _ _ (is_real precision) = tt
type-numbers s _ _ is_number = tt
type-numbers s _ _ is_boolean = tt
type-numbers s _ _ is_logical = tt
type-numbers s _ _ (is_string w width is) = (width, is)
type-numbers s _ _ (is_binary w width is) = (width, is)
type-numbers s _ _ (is_entity name e is) = tt
type-numbers s _ _ (is_defined name t is) = tt
type-numbers s _ _ (is_array bounds low high optional unique element type are is) = ((low, high, are), type-numbers s element type is)
type-numbers s _ _ (is_list bounds low high unique element type are is) = ((low, high, are), type-numbers s element type is)
type-numbers s _ _ (is_set bounds low high element type are is) = ((low, high, are), type-numbers s element type is)
type-numbers s _ _ (is_bag bounds low high element type are is) = ((low, high, are), type-numbers s element type is)

-- what is kept is written
pub type-written : (s : Schema) (n : Named) → HasNames s n → (w : WrittenType) (t : TypeUse) → HasNumbers w
    → DigestTypeIs n (type_digest w) t → DenotesType s w t
type-written s n has integer_type t numbers (element, is, same) = subst (DenotesType s integer_type) (sym (same ∙ is)) is_integer
type-written s n has (real_type precision) t numbers (element, is, same) =
    subst (DenotesType s (real_type precision)) (sym (same ∙ is)) (is_real precision)
type-written s n has number_type t numbers (element, is, same) = subst (DenotesType s number_type) (sym (same ∙ is)) is_number
type-written s n has boolean_type t numbers (element, is, same) = subst (DenotesType s boolean_type) (sym (same ∙ is)) is_boolean
type-written s n has logical_type t numbers (element, is, same) = subst (DenotesType s logical_type) (sym (same ∙ is)) is_logical
type-written s n has (string_type w) t numbers (element, is, same) =
    subst (DenotesType s (string_type w)) (ap schema.text (width-digested w numbers.0 numbers.1) ∙ sym (same ∙ is))
    (is_string w numbers.0 numbers.1)
type-written s n has (binary_type w) t numbers (element, is, same) =
    subst (DenotesType s (binary_type w)) (ap schema.bits (width-digested w numbers.0 numbers.1) ∙ sym (same ∙ is))
    (is_binary w numbers.0 numbers.1)
type-written s n has (named_type name) t numbers (element, is, same) = elim is [
  | inl h ↦ subst (DenotesType s (named_type name)) (sym (same ∙ h.2)) (is_entity name h.0 (entity-of s n has h.0 name h.1))
  | inr h ↦ subst (DenotesType s (named_type name)) (sym (same ∙ h.2)) (is_defined name h.0 (type-of s n has h.0 name h.1))
]
type-written s n has (array_type bounds optional unique element_type) t ((low, high, are), numbers) (element, is, same) =
    let inner : TypeUse = aggregates_of (type_digest element_type).aggregates element in
    let inner_is : DenotesType s element_type inner = type-written s n has element_type inner numbers (element, is, refl) in
    let (low_is, high_is) = array-digested bounds low high are in
    subst (DenotesType s (array_type bounds optional unique element_type))
    (ap (λ l. schema.array l high optional unique inner) low_is ∙ ap (λ h. schema.array (number bounds.low) h optional unique inner) high_is
    ∙ sym same)
    (is_array bounds low high optional unique element_type inner are inner_is)
type-written s n has (list_type bounds unique element_type) t ((low, high, are), numbers) (element, is, same) =
    let inner : TypeUse = aggregates_of (type_digest element_type).aggregates element in
    let inner_is : DenotesType s element_type inner = type-written s n has element_type inner numbers (element, is, refl) in
    let (low_is, high_is) = range-digested bounds low high are in
    subst (DenotesType s (list_type bounds unique element_type))
    (ap (λ l. schema.list l high unique inner) low_is ∙ ap (λ h. schema.list (range_digest bounds).low h unique inner) high_is ∙ sym same)
    (is_list bounds low high unique element_type inner are inner_is)
type-written s n has (set_type bounds element_type) t ((low, high, are), numbers) (element, is, same) =
    let inner : TypeUse = aggregates_of (type_digest element_type).aggregates element in
    let inner_is : DenotesType s element_type inner = type-written s n has element_type inner numbers (element, is, refl) in
    let (low_is, high_is) = range-digested bounds low high are in
    subst (DenotesType s (set_type bounds element_type))
    (ap (λ l. schema.set l high inner) low_is ∙ ap (λ h. schema.set (range_digest bounds).low h inner) high_is ∙ sym same)
    (is_set bounds low high element_type inner are inner_is)
type-written s n has (bag_type bounds element_type) t ((low, high, are), numbers) (element, is, same) =
    let inner : TypeUse = aggregates_of (type_digest element_type).aggregates element in
    let inner_is : DenotesType s element_type inner = type-written s n has element_type inner numbers (element, is, refl) in
    let (low_is, high_is) = range-digested bounds low high are in
    subst (DenotesType s (bag_type bounds element_type))
    (ap (λ l. schema.bag l high inner) low_is ∙ ap (λ h. schema.bag (range_digest bounds).low h inner) high_is ∙ sym same)
    (is_bag bounds low high element_type inner are inner_is)

-- ---- one type

simple-one : (n : Named) → AreApart n → (kept : SimpleType) (a b : TypeUse) → SimpleIs n kept a → SimpleIs n kept b → a ≡ b
simple-one n distinct simple.Integer a b is is_ = is ∙ sym is_
simple-one n distinct simple.Real a b is is_ = is ∙ sym is_
simple-one n distinct simple.Number a b is is_ = is ∙ sym is_
simple-one n distinct simple.Boolean a b is is_ = is ∙ sym is_
simple-one n distinct simple.Logical a b is is_ = is ∙ sym is_
simple-one n distinct (simple.String width) a b is is_ = is ∙ sym is_
simple-one n distinct (simple.Binary width) a b is is_ = is ∙ sym is_
simple-one n distinct (simple.Named name) a b (inl h) (inl k) = h.2 ∙ ap schema.entity (one-entity n distinct h.0 k.0 name h.1 k.1)
    ∙ sym k.2
simple-one n distinct (simple.Named name) a b (inl h) (inr k) = absurd (no-both n distinct h.0 k.0 name h.1 k.1)
simple-one n distinct (simple.Named name) a b (inr h) (inl k) = absurd (no-both n distinct k.0 h.0 name k.1 h.1)
simple-one n distinct (simple.Named name) a b (inr h) (inr k) = h.2 ∙ ap schema.defined (one-type n distinct h.0 k.0 name h.1 k.1) ∙ sym k.2

pub type-one : (n : Named) → AreApart n → (kept : TypeDigest) (a b : TypeUse) → DigestTypeIs n kept a → DigestTypeIs n kept b → a ≡ b
type-one n distinct kept a b (x, is, same) (y, is_, same_) = same
    ∙ ap (aggregates_of kept.aggregates) (simple-one n distinct kept.element x y is is_) ∙ sym same_
