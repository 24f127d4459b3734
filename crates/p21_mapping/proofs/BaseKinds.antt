-- The kinds of parameters that a base takes.
use Rattle.std.proofs.Common.{◌≡◌, ◌≢◌, ◌∙◌, sym, refl, subst, ℕ, ℤ, Bool, List, Option, Some}
use Rattle.p21_spec_laws.proofs.OfType.{offers-select}
use Rattle.p21_spec_exchange.specs.Number.{Decimal}
use Rattle.p21_spec_exchange.specs.Parameter as parameter
use Rattle.p21_spec_exchange.specs.Parameter.{Param, key_of}
use Rattle.p21_schema.specs.Base.{IsBase}
use Rattle.p21_express_graph.specs.DirectRenaming.{IsPlain}
use Rattle.p21_schema.specs.declared.base.Base.{Base}
use Rattle.p21_schema.specs.declared.base.Base.TheVariants.{Plain, Items, Select}
use Rattle.p21_express_graph.specs.declared.type_use.TypeUse as code
use Rattle.p21_express_graph.specs.declared.type_use.Width.{Width}
use Rattle.p21_express_graph.specs.Meaning.{type_use}
use Rattle.p21_spec_file.specs.ParameterKind.{TakesKind, takes_whole, takes_real, takes_number, takes_whole_number, takes_boolean, takes_logical, takes_text, takes_binary, takes_instance, takes_underlying, takes_item, takes_chosen_instance, takes_chosen_type, takes_array, takes_list, takes_set, takes_bag}
use Rattle.p21_spec_schema.specs.Schema as schema
use Rattle.p21_spec_schema.specs.Schema.{Schema, TypeUse, entity_member, type_member, alias, items, choice, TypeNamed, kind_of}
use Rattle.p21_spec_schema.specs.Select.{IsSelect, Offers}

-- a type that is no declared one takes a parameter of this kind
abbrev pub TakesPlainly : TypeUse → Param → Type 0
TakesPlainly schema.whole (parameter.whole z) = Unit {0}
TakesPlainly schema.real (parameter.real d) = Unit {0}
TakesPlainly schema.number (parameter.real d) = Unit {0}
TakesPlainly schema.number (parameter.whole z) = Unit {0}
TakesPlainly schema.boolean (parameter.item word) = Unit {0}
TakesPlainly schema.logical (parameter.item word) = Unit {0}
TakesPlainly (schema.text width) (parameter.text chars) = Unit {0}
TakesPlainly (schema.bits width) (parameter.bits bs) = Unit {0}
TakesPlainly (schema.entity e) (parameter.name n) = Unit {0}
TakesPlainly (schema.array low high optional unique type) (parameter.list ps) = Unit {0}
TakesPlainly (schema.list low high unique type) (parameter.list ps) = Unit {0}
TakesPlainly (schema.set low high type) (parameter.list ps) = Unit {0}
TakesPlainly (schema.bag low high type) (parameter.list ps) = Unit {0}
TakesPlainly _ _ = ⊥

takes-plainly : (s : Schema) (type : TypeUse) (p : Param) → IsPlain type → TakesKind s type p → TakesPlainly type p
takes-plainly s type p plain (takes_whole z) = tt
takes-plainly s type p plain (takes_real d) = tt
takes-plainly s type p plain (takes_number d) = tt
takes-plainly s type p plain (takes_whole_number z) = tt
takes-plainly s type p plain (takes_boolean word) = tt
takes-plainly s type p plain (takes_logical word) = tt
takes-plainly s type p plain (takes_text width chars) = tt
takes-plainly s type p plain (takes_binary width bs) = tt
takes-plainly s type p plain (takes_instance e n) = tt
takes-plainly s type p plain (takes_underlying t _ _ _ _) = absurd plain
takes-plainly s type p plain (takes_item t _ _ _) = absurd plain
takes-plainly s type p plain (takes_chosen_instance t _ _ _) = absurd plain
takes-plainly s type p plain (takes_chosen_type t _ _ _ _ _) = absurd plain
takes-plainly s type p plain (takes_array _ _ _ _ _ ps) = tt
takes-plainly s type p plain (takes_list _ _ _ _ ps) = tt
takes-plainly s type p plain (takes_set _ _ _ ps) = tt
takes-plainly s type p plain (takes_bag _ _ _ ps) = tt

-- the parameter is an item
abbrev pub IsItem : Param → Type 0
IsItem (parameter.item word) = Unit {0}
IsItem other = ⊥

takes-item : (s : Schema) (t : ℕ) (words : List (List ℕ)) (p : Param) → kind_of s t ≡ Some (items words) → TakesKind s (schema.defined t) p
    → IsItem p
takes-item s t words p is (takes_underlying _ under _ is_ _) = let h : Some (alias under) ≡ Some (items words) = sym is_ ∙ is in cc
takes-item s t words p is (takes_item _ _ word _) = tt
takes-item s t words p is (takes_chosen_instance _ e n offers) =
    let (members, is_) = offers-select s t (entity_member e) offers in
    let h : Some (choice members) ≡ Some (items words) = sym is_ ∙ is in cc
takes-item s t words p is (takes_chosen_type _ u name q offers named) =
    let (members, is_) = offers-select s t (type_member u) offers in
    let h : Some (choice members) ≡ Some (items words) = sym is_ ∙ is in cc

-- the select offers an entity for a name, or the type that a keyword names
abbrev pub IsChosen : Schema → ℕ → Param → Type 0
IsChosen s t (parameter.name n) = (e : ℕ) × Offers s t (entity_member e)
IsChosen s t (parameter.typed key p) = (u : ℕ) × (name : List ℕ) × (key ≡ key_of name) × Offers s t (type_member u) × TypeNamed s u name
IsChosen s t other = ⊥

takes-chosen : (s : Schema) (t : ℕ) (p : Param) → IsSelect s t → TakesKind s (schema.defined t) p → IsChosen s t p
takes-chosen s t p (members, is) (takes_underlying _ under _ is_ _) = let h : Some (alias under) ≡ Some (choice members) = sym is_
    ∙ is in cc
takes-chosen s t p (members, is) (takes_item _ words word is_) = let h : Some (items words) ≡ Some (choice members) = sym is_ ∙ is in cc
takes-chosen s t p select (takes_chosen_instance _ e n offers) = (e, offers)
takes-chosen s t p select (takes_chosen_type _ u name q offers named) = (u, name, refl, offers, named)

-- what comes to the base takes a parameter of this kind
abbrev pub TakesAt : Schema → Base → Param → Type 0
TakesAt s (Plain plain_use) p = TakesPlainly (type_use plain_use.now) p
TakesAt s (Items words) p = IsItem p
TakesAt s (Select t) p = IsChosen s t.0 p

pub base-takes : (s : Schema) (type : TypeUse) (base : Base) (p : Param) → IsBase s type base → TakesKind s type p → TakesAt s base p
base-takes s type (Plain plain_use) p (is, plain) takes = subst (λ x. TakesPlainly x p) is (takes-plainly s type p plain takes)
base-takes s type (Items words) p (t, same, is) takes = takes-item s t words.now p is (subst (λ x. TakesKind s x p) same takes)
base-takes s type (Select t) p (same, select) takes = takes-chosen s t.0 p select (subst (λ x. TakesKind s x p) same takes)

-- ---- kinds that no other type takes

pub whole-nowhere : (u : code.TypeUse) (z : ℤ) → u ≢ code.Whole → u ≢ code.Number → TakesPlainly (type_use u) (parameter.whole z) → ⊥
whole-nowhere code.Whole z not_whole not_number takes = not_whole refl
whole-nowhere code.Number z not_whole not_number takes = not_number refl
whole-nowhere other z not_whole not_number takes = takes

pub real-nowhere : (u : code.TypeUse) (d : Decimal) → u ≢ code.Real → u ≢ code.Number → TakesPlainly (type_use u) (parameter.real d) → ⊥
real-nowhere code.Real d not_real not_number takes = not_real refl
real-nowhere code.Number d not_real not_number takes = not_number refl
real-nowhere other d not_real not_number takes = takes

pub item-nowhere : (u : code.TypeUse) (word : List ℕ) → u ≢ code.Boolean → u ≢ code.Logical
    → TakesPlainly (type_use u) (parameter.item word) → ⊥
item-nowhere code.Boolean word not_boolean not_logical takes = not_boolean refl
item-nowhere code.Logical word not_boolean not_logical takes = not_logical refl
item-nowhere other word not_boolean not_logical takes = takes

pub text-nowhere : (u : code.TypeUse) (chars : List ℕ) → ((w : Option Width) → u ≢ code.Text w)
    → TakesPlainly (type_use u) (parameter.text chars) → ⊥
text-nowhere (code.Text w) chars not takes = not w refl
text-nowhere other chars not takes = takes

pub bits-nowhere : (u : code.TypeUse) (bs : List Bool) → ((w : Option Width) → u ≢ code.Bits w)
    → TakesPlainly (type_use u) (parameter.bits bs) → ⊥
bits-nowhere (code.Bits w) bs not takes = not w refl
bits-nowhere other bs not takes = takes
