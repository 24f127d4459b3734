-- What holds at the type that renamed types come to holds at those.
use Rattle.std.proofs.Common.{◌≡◌, sym, refl, subst, inl, inr, ℕ, Bool, true, List, [], Result, Ok, Err}
use Rattle.p21_spec_laws.proofs.OfType.{OfType, of_alias}
use Rattle.p21_spec_laws.specs.Needs.{FitsWithNeeds, FitsAtWithNeeds, with_underlying, with_star, with_dollar, with_fit}
use Rattle.p21_spec_exchange.specs.Parameter as parameter
use Rattle.p21_spec_exchange.specs.Parameter.{Param}
use Rattle.p21_express_graph.proofs.Renaming.{comes-is}
use Rattle.p21_express_graph.specs.DirectRenaming.{ComesTo, at_itself, through}
use Rattle.p21_schema.specs.Base.{HasBase}
use Rattle.p21_schema.specs.declared.base.Base.{Base}
use Rattle.p21_express_graph.specs.Resolved.{HoldsTogether, IsTypeUse}
use Rattle.p21_spec_file.specs.BrokenValue.{BreaksAt, BreaksWithin, BreaksAtPlace, in_underlying, itself, stored, IsLeftOut}
use Rattle.p21_spec_file.specs.Reference as reference
use Rattle.p21_spec_file.specs.Value as meant
use Rattle.p21_mapping.proofs.Outcomes.{answers-to}
use Rattle.p21_mapping.specs.Choosing.{IsBaseIn}
use Rattle.p21_mapping.specs.Outcome.{ElementOrBreaks, FitsAlone, FitsFrom, FitsOrBreaks, FitsPlaceOrBreaks, IsElementOf, IsValueAt, IsValueOf}
use Rattle.p21_mapping_values.specs.KnownTypes.{HasKnownTypes}
use Rattle.p21_mapping_values.proofs.Views.{view-Missing, view-Derived}
use Rattle.p21_grammar_tree.specs.declared.fault.CheckFault.{CheckFault}
use Rattle.p21_mapping_values.specs.declared.need.Need.{Need}
use Rattle.p21_mapping_values.specs.declared.value.Value.{Value}
use Rattle.p21_mapping_values.specs.declared.value.Value as value
use Rattle.p21_mapping_values.specs.View.{view}
use Rattle.p21_spec_schema.specs.PlaceType.{derived_place, stored_place}
use Rattle.p21_spec_schema.specs.Schema.{Schema, TypeUse}
use Rattle.std.proofs.lemmas.List.{append-nil}

comes-fits : (s : Schema) (type last : TypeUse) (p : Param) (v : meant.Value) (needs : List reference.Need) → ComesTo s type last
    → FitsWithNeeds s last p v needs → FitsWithNeeds s type p v needs
comes-fits s type last p v needs (at_itself _) fits = fits
comes-fits s type last p v needs (through t next _ is more) fits =
    with_underlying t next p v needs is (comes-fits s next last p v needs more fits)

comes-of : (s : Schema) (type last : TypeUse) (v : meant.Value) → ComesTo s type last → OfType s last v → OfType s type v
comes-of s type last v (at_itself _) of = of
comes-of s type last v (through t next _ is more) of = of_alias t next v is (comes-of s next last v more of)

comes-breaks : (s : Schema) (n : ℕ) (type last : TypeUse) (p : Param) → ComesTo s type last → BreaksWithin s n last p
    → BreaksWithin s n type p
comes-breaks s n type last p (at_itself _) breaks = breaks
comes-breaks s n type last p (through t next _ is more) breaks = in_underlying t next p is (comes-breaks s n next last p more breaks)

-- from the base of a type
pub from_base : (s : Schema) (type : TypeUse) (base : Base) (p q : Param) (old : List Need) (result : Result Value CheckFault)
    (new : List Need) → HasBase s type base → q ≡ p → FitsFrom s base p old result new → FitsOrBreaks s type q old result new
from_base s type base p q old result new (last, comes, is) same h =
    subst (λ (x : Param). FitsOrBreaks s type x old result new) (sym same)
    (answers-to (IsValueOf s last p) (λ n. BreaksWithin s n last p) (λ n. BreaksWithin s n type p)
    (λ n breaks. comes-breaks s n type last p comes breaks) (IsValueOf s type p)
    (λ v needs found. record {
      fits = comes-fits s type last p (view v) needs comes found.fits;
      known = found.known;
      of_type =
          comes-of s type last (view v) comes found.of_type;
    }) old result new (h last is))

pub base_in : (s : Schema) (type : TypeUse) (base : Base) → HoldsTogether s → HasBase s type base → IsTypeUse s type → IsBaseIn s base
base_in s type base holds (last, comes, is) known = (last, comes-is s holds type last comes known, is)

-- a fault by itself, whatever the needs
pub refused_from : (s : Schema) (base : Base) (p : Param) (fault : CheckFault) (old new : List Need) → FitsAlone base p (Err fault)
    → FitsFrom s base p old (Err fault) new
refused_from s base p fault old new h type is = h s type old is

pub broken_at : (s : Schema) (type : TypeUse) (p q : Param) (n : ℕ) → q ≡ p → BreaksAt s type p n → BreaksWithin s n type q
broken_at s type p q n same breaks = subst (λ (x : Param). BreaksWithin s n type x) (sym same) (itself type p breaks)

-- ---- a value, or none

pub left_out : (s : Schema) (optional : Bool) (type : TypeUse) (p : Param) (old : List Need) → IsLeftOut optional p
    → ElementOrBreaks s optional type p old (Ok value.Missing) old
left_out s optional type p old (may, is) =
    subst (λ (x : Param). ElementOrBreaks s optional type x old (Ok value.Missing) old) (sym is)
    (subst (λ (may_be : Bool). ElementOrBreaks s may_be type parameter.dollar old (Ok value.Missing) old) (sym may)
    (record {
      added = [];
      needs_are = sym (append-nil old);
      fits = record {
        fits = let P : meant.Value → Type 0 = λ v. FitsAtWithNeeds s (stored_place true type) parameter.dollar v [] in
            subst P (sym view-Missing) (with_dollar type);
        known = subst (HasKnownTypes s) (sym view-Missing) tt;
        typed = inl (refl, view-Missing);
      };
    }))

pub not_left_out : (s : Schema) (optional : Bool) (type : TypeUse) (p : Param) (old : List Need) (result : Result Value CheckFault)
    (new : List Need) → (IsLeftOut optional p → ⊥) → FitsOrBreaks s type p old result new → ElementOrBreaks s optional type p old result new
not_left_out s optional type p old result new not h =
    answers-to (IsValueOf s type p) (λ n. BreaksWithin s n type p) (BreaksAtPlace s (stored_place optional type) p)
    (λ n breaks. stored optional type p n not breaks) (IsElementOf s optional type p)
    (λ v needs found. record { fits = with_fit optional type p (view v) needs found.fits; known = found.known; typed = inr found.of_type })
    old result new h

-- an element's answer as a place's
pub as_place : (s : Schema) (optional : Bool) (type : TypeUse) (p : Param) (old : List Need) (result : Result Value CheckFault)
    (new : List Need) → ElementOrBreaks s optional type p old result new → FitsPlaceOrBreaks s (stored_place optional type) p old result new
as_place s optional type p old result new h =
    answers-to (IsElementOf s optional type p) (BreaksAtPlace s (stored_place optional type) p)
    (BreaksAtPlace s (stored_place optional type) p) (λ n breaks. breaks) (IsValueAt s (stored_place optional type) p)
    (λ v needs found. record { fits = found.fits; known = found.known }) old result new h

pub star_at_derived : (s : Schema) (p : Param) (old : List Need) → p ≡ parameter.star
    → FitsPlaceOrBreaks s derived_place p old (Ok value.Derived) old
star_at_derived s p old is =
    subst (λ (x : Param). FitsPlaceOrBreaks s derived_place x old (Ok value.Derived) old) (sym is)
    (record {
      added = [];
      needs_are = sym (append-nil old);
      fits = record {
        fits = let P : meant.Value → Type 0 = λ v. FitsAtWithNeeds s derived_place parameter.star v [] in
            subst P (sym view-Derived) with_star;
        known = subst (HasKnownTypes s) (sym view-Derived) tt;
      };
    })
