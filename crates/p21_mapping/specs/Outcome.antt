-- What the check of a parameter answers.
use Rattle.std.specs.Prelude.{◌≡◌, ◌≢◌, ◌⊎◌, ℕ, Bool, true, List, ◌++◌, map, Result, Ok, Err, Contains, Vec, IsTrue, ◌↔◌}
use Rattle.std.specs.Global.{Global}
use Rattle.p21_spec_laws.proofs.OfType.{OfType, EachOf}
use Rattle.p21_spec_laws.specs.Needs.{FitsWithNeeds, FitEachWithNeeds, FitsAtWithNeeds}
use Rattle.p21_spec_exchange.specs.Parameter as parameter
use Rattle.p21_spec_exchange.specs.Parameter.{Param, Params, listed}
use Rattle.p21_schema.specs.Base.{IsBase}
use Rattle.p21_schema.specs.declared.base.Base.{Base}
use Rattle.p21_spec_file.specs.BrokenValue.{BreaksAt, BreaksWithin, BreaksAtPlace, IsOfWrongKind}
use Rattle.p21_spec_file.specs.ParameterKind.{HasItems, IsUnique}
use Rattle.p21_spec_file.specs.SameValue.{AreDistinct}
use Rattle.p21_spec_file.specs.Reference as reference
use Rattle.p21_spec_file.specs.Value as meant
use Rattle.p21_mapping_values.specs.KnownTypes.{HasKnownTypes, HaveKnownTypes}
use Rattle.p21_grammar_tree.specs.declared.fault.CheckFault.{CheckFault}
use Rattle.p21_grammar_tree.specs.declared.fault.CheckFault.TheVariants.{NoMemory}
use Rattle.p21_mapping_values.specs.declared.need.Need.{Need}
use Rattle.p21_mapping_values.specs.declared.value.Value.{Value}
use Rattle.p21_grammar_tree.specs.Fault.{fault_number}
use Rattle.p21_mapping_values.specs.TypedView.{need_view}
use Rattle.p21_mapping_values.specs.View.{view, views}
use Rattle.p21_express_graph.specs.Resolved.{IsTypeUse}
use Rattle.p21_spec_schema.specs.PlaceType.{PlaceType, derived_place, stored_place, two_redeclarations}
use Rattle.p21_spec_schema.specs.Schema.{Schema, TypeUse}

-- what is needed
abbrev pub needs_view : List Need → List reference.Need
needs_view needs = map need_view needs

-- what was found, with the needs that it adds to those from before
pub record Found {V : Type 0} (Fit : V → List reference.Need → Type 0) (old new : List Need) (found : V) : Type 0 where
  pub added : List Need
  pub needs_are : new ≡ old ++ added
  pub fits : Fit found (needs_view added)

-- what is found fits, and adds its needs; a fault other than want of memory has the number of a rule that is broken
abbrev pub Answers : {V : Type 0} → (V → List reference.Need → Type 0) → (ℕ → Type 0) → List Need → Result V CheckFault → List Need → Type 0
Answers Fit Broken old (Ok found) new = Found Fit old new found
Answers Fit Broken old (Err fault) new = fault ≢ NoMemory → Broken (fault_number fault)

-- the value of a parameter at a type: its keywords name types of the schema, and its tokens have spellings
pub record IsValueOf (s : Schema) (type : TypeUse) (p : Param) (found : Value) (needs : List reference.Need) : Type 0 where
  pub fits : FitsWithNeeds s type p (view found) needs
  pub known : HasKnownTypes s (view found)
  pub of_type : OfType s type (view found)

-- a parameter at a type
abbrev pub FitsOrBreaks : Schema → TypeUse → Param → List Need → Result Value CheckFault → List Need → Type 0
FitsOrBreaks s type p = Answers (IsValueOf s type p) (λ number. BreaksWithin s number type p)

-- the value of a parameter at a place
pub record IsValueAt (s : Schema) (at : PlaceType) (p : Param) (found : Value) (needs : List reference.Need) : Type 0 where
  pub fits : FitsAtWithNeeds s at p (view found) needs
  pub known : HasKnownTypes s (view found)

-- a parameter at a place
abbrev pub FitsPlaceOrBreaks : Schema → PlaceType → Param → List Need → Result Value CheckFault → List Need → Type 0
FitsPlaceOrBreaks s at p = Answers (IsValueAt s at p) (BreaksAtPlace s at p)

-- an empty place where there may be one, or a value of the type
abbrev pub IsTypedAt : Schema → Bool → TypeUse → meant.Value → Type 0
IsTypedAt s optional type v = ((optional ≡ true) × (v ≡ meant.missing)) ⊎ OfType s type v

-- the value of a parameter where a value of the type may be, or an empty place
pub record IsElementOf (s : Schema) (optional : Bool) (type : TypeUse) (p : Param) (found : Value) (needs : List reference.Need) : Type
    0 where
  pub fits : FitsAtWithNeeds s (stored_place optional type) p (view found) needs
  pub known : HasKnownTypes s (view found)
  pub typed : IsTypedAt s optional type (view found)

abbrev pub ElementOrBreaks : Schema → Bool → TypeUse → Param → List Need → Result Value CheckFault → List Need → Type 0
ElementOrBreaks s optional type p = Answers (IsElementOf s optional type p) (BreaksAtPlace s (stored_place optional type) p)

-- the values of parameters in a row
pub record AreElementsOf (s : Schema) (optional : Bool) (type : TypeUse) (ps : Params) (found : Vec Value Global)
    (needs : List reference.Need) : Type 0 where
  pub fits : FitEachWithNeeds s optional type ps (views found.items) needs
  pub known : HaveKnownTypes s (views found.items)
  pub typed : EachOf s optional type (views found.items)

-- one of them breaks the rule of the number
abbrev pub BreaksAmong : Schema → Bool → TypeUse → Params → ℕ → Type 0
BreaksAmong s optional type ps number = (p : Param) × Contains (listed ps) p × BreaksAtPlace s (stored_place optional type) p number

abbrev pub ElementsOrBreak : Schema → Bool → TypeUse → Params → List Need → Result (Vec Value Global) CheckFault → List Need → Type 0
ElementsOrBreak s optional type ps = Answers (AreElementsOf s optional type ps) (BreaksAmong s optional type ps)

-- all are of one type, empty places apart
abbrev pub AreTyped : Schema → meant.Values → Type 0
AreTyped s vs = (optional : Bool) × (type : TypeUse) × EachOf s optional type vs

-- at whatever type comes to this base, the parameter stands for a value that needs nothing
abbrev pub FitsAlone : Base → Param → Result Value CheckFault → Type 0
FitsAlone base p result = (s : Schema) (type : TypeUse) (old : List Need) → IsBase s type base → FitsOrBreaks s type p old result old

-- there a parameter of a kind that the type does not take breaks the rule of this fault
abbrev pub IsKindFault : Base → CheckFault → Type 0
IsKindFault base fault = (s : Schema) (type : TypeUse) (p : Param) → IsBase s type base → IsOfWrongKind s type p
    → BreaksAt s type p (fault_number fault)

-- there it is decided whether the word is one of the items
abbrev pub DecidesItem : Base → List ℕ → Bool → Type 0
DecidesItem base word is_one = (s : Schema) (type : TypeUse) → IsBase s type base
    → (words : List (List ℕ)) × HasItems s type words × (IsTrue is_one ↔ Contains words word)

-- there an item breaks the rule of this fault
abbrev pub RefusesItem : Base → List ℕ → CheckFault → Type 0
RefusesItem base word fault = (s : Schema) (type : TypeUse) → IsBase s type base
    → BreaksAt s type (parameter.item word) (fault_number fault)

-- a parameter at any type that comes to this base, of one schema
abbrev pub FitsFrom : Schema → Base → Param → List Need → Result Value CheckFault → List Need → Type 0
FitsFrom s base p old result new = (type : TypeUse) → IsBase s type base → FitsOrBreaks s type p old result new

-- it is decided what may stand at the place: a derived value, or one of a type of the schema
abbrev pub IsStoredIn : Schema → PlaceType → Type 0
IsStoredIn s derived_place = Unit {0}
IsStoredIn s (stored_place optional type) = IsTypeUse s type
IsStoredIn s two_redeclarations = ⊥

-- no two elements are the same, where none may be the same as another
abbrev pub KeepsUnique : TypeUse → meant.Values → Type 0
KeepsUnique type vs = IsUnique type → AreDistinct vs
