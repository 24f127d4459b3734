-- What the check of a parameter answers, by what is known of it.
use Rattle.std.proofs.Common.{◌≡◌, ◌≢◌, ◌∙◌, sym, refl, subst, ℕ, List, [], Result, Ok, Err, Option}
use Rattle.std.proofs.lemmas.List.{append-nil}
use denote.Ref.{Bor}
use Rattle.p21_spec_laws.proofs.OfType.{OfType}
use Rattle.p21_spec_laws.specs.Needs.{FitsWithNeeds}
use Rattle.p21_spec_exchange.specs.Parameter as parameter
use Rattle.p21_spec_exchange.specs.Parameter.{Param}
use Rattle.p21_schema.specs.Base.{IsBase}
use Rattle.p21_express_graph.specs.DirectRenaming.{IsPlain}
use Rattle.p21_schema.specs.declared.base.Base.{Base}
use Rattle.p21_schema.specs.declared.base.Base.TheVariants.{Plain, Items, Select}
use Rattle.p21_express_graph.specs.declared.type_use.TypeUse as code
use Rattle.p21_express_graph.specs.Meaning.{type_use}
use Rattle.p21_spec_file.specs.BrokenValue.{BreaksAt, wrong_kind, select_type, itself, UsesSelect, IsOfWrongKind}
use Rattle.p21_spec_file.specs.Reference as reference
use Rattle.p21_spec_file.specs.Value as meant
use Rattle.p21_express_graph.specs.declared.number.TypeId.{TypeId}
use Rattle.p21_mapping.proofs.BaseKinds.{TakesAt, TakesPlainly, base-takes}
use Rattle.p21_mapping.specs.Outcome.{Answers, FitsAlone, FitsOrBreaks, IsKindFault, IsValueOf, RefusesItem, needs_view}
use Rattle.p21_mapping_values.specs.KnownTypes.{HasKnownTypes}
use Rattle.p21_grammar_tree.specs.declared.fault.CheckFault.{CheckFault}
use Rattle.p21_grammar_tree.specs.declared.fault.CheckFault.TheVariants as fault
use Rattle.p21_mapping_values.specs.declared.need.Need.{Need}
use Rattle.p21_mapping_values.specs.declared.value.Value.{Value}
use Rattle.p21_grammar_tree.specs.Fault.{fault_number}
use Rattle.p21_mapping_values.specs.View.{view}
use Rattle.p21_spec_schema.specs.Schema as schema
use Rattle.p21_spec_schema.specs.Schema.{Schema, TypeUse, kind_of}

-- ---- answers from answers

pub answers-to : {V : Type 0} (F : V → List reference.Need → Type 0) (B C : ℕ → Type 0) → ((n : ℕ) → B n → C n)
    → (G : V → List reference.Need → Type 0) → ((v : V) (needs : List reference.Need) → F v needs → G v needs)
    → (old : List Need) (result : Result V CheckFault) (new : List Need) → Answers F B old result new → Answers G C old result new
answers-to F B C breaks G fits old (Ok found) new h =
    record { added = h.added; needs_are = h.needs_are; fits = fits found (needs_view h.added) h.fits }
answers-to F B C breaks G fits old (Err fault) new h = λ other. breaks (fault_number fault) (h other)

-- a value that means what fits
pub value-means : (s : Schema) (type : TypeUse) (p : Param) (found : Value) (m : meant.Value) (needs : List reference.Need) → view found ≡ m
    → FitsWithNeeds s type p m needs → HasKnownTypes s m → OfType s type m → IsValueOf s type p found needs
value-means s type p found m needs is fits known of = record {
  fits = subst (λ v. FitsWithNeeds s type p v needs) (sym is) fits;
  known = subst (HasKnownTypes s) (sym is) known;
  of_type = subst (OfType s type) (sym is) of;
}

-- a value that needs nothing
pub alone : (s : Schema) (type last : TypeUse) (p : Param) (found : Value) (m : meant.Value) (old : List Need) → type ≡ last
    → view found ≡ m → FitsWithNeeds s last p m [] → HasKnownTypes s m → OfType s last m → FitsOrBreaks s type p old (Ok found) old
alone s type last p found m old same is fits known of = record {
  added = [];
  needs_are = sym (append-nil old);
  fits = subst (λ t. IsValueOf s t p found []) (sym same) (value-means s last p found m [] is fits known of);
}

-- a rule that is broken
pub broken : (s : Schema) (type : TypeUse) (p : Param) (old new : List Need) (fault : CheckFault) → BreaksAt s type p (fault_number fault)
    → FitsOrBreaks s type p old (Err fault) new
broken s type p old new fault breaks = λ other. itself type p breaks

-- a scalar or a name, of which the type takes none
pub other_kind_broken : (s : Schema) (type : TypeUse) (base : Base) (p : Param) (old new : List Need) (fault : CheckFault)
    → IsKindFault base fault → IsBase s type base → p ≢ parameter.dollar → p ≢ parameter.star → (TakesAt s base p → ⊥)
    → FitsOrBreaks s type p old (Err fault) new
other_kind_broken s type base p old new fault is_fault is some no_star nowhere =
    broken s type p old new fault (is_fault s type p is (some, no_star, λ takes. nowhere (base-takes s type base p is takes)))

plain-no_choice : (s : Schema) (type : TypeUse) → IsPlain type → UsesSelect s type → ⊥
plain-no_choice s (schema.defined t) plain choice = plain
plain-no_choice s other plain choice = choice

pub plain_wrong : (s : Schema) (type : TypeUse) (b : Bor code.TypeUse) (p : Param) → IsBase s type (Plain b) → IsOfWrongKind s type p
    → BreaksAt s type p 49
plain_wrong s type b p (is, plain) not = wrong_kind type p not (plain-no_choice s type plain)

items-no_choice : (s : Schema) (type : TypeUse) (t : ℕ) (words : List (List ℕ)) → type ≡ schema.defined t
    → kind_of s t ≡ Option.Some (schema.items words) → UsesSelect s type → ⊥
items-no_choice s type t words same is choice =
    let (members, is_) = subst (UsesSelect s) same choice in
    let h : Option.Some (schema.choice members) ≡ Option.Some (schema.items words) = sym is_ ∙ is in cc

pub kind_fault-plain : (b : Bor code.TypeUse) → IsKindFault (Plain b) fault.WrongKind
kind_fault-plain b s type p is not = plain_wrong s type b p is not

pub kind_fault-items : (words : Bor (List (List ℕ))) → IsKindFault (Items words) fault.WrongKind
kind_fault-items words s type p (t, same, is) not = wrong_kind type p not (items-no_choice s type t words.now same is)

pub kind_fault-select : (t : TypeId) → IsKindFault (Select t) fault.SelectType
kind_fault-select t s type p (same, select) not = select_type type p not (subst (UsesSelect s) (sym same) select)

-- at whatever type comes to the base
pub elsewhere : (base : Base) (p : Param) (fault : CheckFault) → IsKindFault base fault → p ≢ parameter.dollar → p ≢ parameter.star
    → ((s : Schema) → TakesAt s base p → ⊥) → FitsAlone base p (Err fault)
elsewhere base p fault is_fault some no_star nowhere s type old is =
    other_kind_broken s type base p old old fault is_fault is some no_star (nowhere s)

-- a kind of parameter that no enumeration and no select takes
abbrev pub IsOfNoDeclared : Param → Type 0
IsOfNoDeclared (parameter.whole z) = Unit {0}
IsOfNoDeclared (parameter.real d) = Unit {0}
IsOfNoDeclared (parameter.text chars) = Unit {0}
IsOfNoDeclared (parameter.bits bs) = Unit {0}
IsOfNoDeclared (parameter.list ps) = Unit {0}
IsOfNoDeclared other = ⊥

takes-plain : (s : Schema) (base : Base) (p : Param) → IsOfNoDeclared p → ((b : Bor code.TypeUse) → base ≢ Plain b) → TakesAt s base p → ⊥
takes-plain s (Plain b) p of not takes = not b refl
takes-plain s (Items words) (parameter.whole z) of not takes = takes
takes-plain s (Items words) (parameter.real d) of not takes = takes
takes-plain s (Items words) (parameter.text chars) of not takes = takes
takes-plain s (Items words) (parameter.bits bs) of not takes = takes
takes-plain s (Items words) (parameter.list ps) of not takes = takes
takes-plain s (Items words) other of not takes = of
takes-plain s (Select t) (parameter.whole z) of not takes = takes
takes-plain s (Select t) (parameter.real d) of not takes = takes
takes-plain s (Select t) (parameter.text chars) of not takes = takes
takes-plain s (Select t) (parameter.bits bs) of not takes = takes
takes-plain s (Select t) (parameter.list ps) of not takes = takes
takes-plain s (Select t) other of not takes = of

declared-some : (p : Param) → IsOfNoDeclared p → p ≢ parameter.dollar
declared-some p of is = subst IsOfNoDeclared is of

declared-no_star : (p : Param) → IsOfNoDeclared p → p ≢ parameter.star
declared-no_star p of is = subst IsOfNoDeclared is of

pub at_declared : (base : Base) (p : Param) (fault : CheckFault) → IsKindFault base fault → IsOfNoDeclared p
    → ((b : Bor code.TypeUse) → base ≢ Plain b) → FitsAlone base p (Err fault)
at_declared base p fault is_fault of not = elsewhere base p fault is_fault (declared-some p of) (declared-no_star p of)
    (λ s takes. takes-plain s base p of not takes)

-- at a type that is no declared one, and takes none of its kind
pub at_other : (base : Base) (b : Bor code.TypeUse) (p : Param) → base ≡ Plain b → p ≢ parameter.dollar → p ≢ parameter.star
    → (TakesPlainly (type_use b.now) p → ⊥) → FitsAlone base p (Err fault.WrongKind)
at_other base b p same some no_star nowhere = subst (λ x. FitsAlone x p (Err fault.WrongKind)) (sym same)
    (elsewhere (Plain b) p fault.WrongKind (kind_fault-plain b) some no_star (λ s takes. nowhere takes))

-- ---- items

pub refuses-plain : (base : Base) (b : Bor code.TypeUse) (word : List ℕ) → base ≡ Plain b
    → (TakesPlainly (type_use b.now) (parameter.item word) → ⊥) → RefusesItem base word fault.WrongKind
refuses-plain base b word same nowhere s type is =
    let at = subst (IsBase s type) same is in
    plain_wrong s type b (parameter.item word) at (
      (λ e. cc),
      (λ e. cc),
      λ takes. nowhere
          (base-takes s type (Plain b) (parameter.item word) at takes),
    )

pub refuses-select : (base : Base) (t : TypeId) (word : List ℕ) → base ≡ Select t → RefusesItem base word fault.SelectType
refuses-select base t word same s type is =
    let at = subst (IsBase s type) same is in
    kind_fault-select t s type (parameter.item word) at
    ((λ e. cc), (λ e. cc), λ takes. base-takes s type (Select t) (parameter.item word) at takes)

pub item_refused : (base : Base) (word : List ℕ) (fault : CheckFault) → RefusesItem base word fault
    → FitsAlone base (parameter.item word) (Err fault)
item_refused base word fault refuses s type old is = broken s type (parameter.item word) old old fault (refuses s type is)
