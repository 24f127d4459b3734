-- Schemas stored as numbers and lists, so that two can be told apart. Nothing that is claimed rests on it.
use Rattle.std.specs.Prelude.{◌≡◌, ℕ, Bool, List, [], ◌∷◌, Option, Some, None, ◌⊎◌, refl}
use Rattle.std.proofs.Common.{ap, inl, inr}
use Rattle.std.specs.Coded.{Coded, code_by, coded_ℕ, coded_bool, coded_list, coded_option, coded×, coded⊎}
use Rattle.p21_spec_schema.specs.Schema.{Place, Width, TypeUse, whole, real, number, boolean, logical, text, bits, entity, defined, array, list, set, bag, Member, entity_member, type_member, Kind, alias, items, choice, Attribute, Redeclared, Entity, Defined, Schema}

abbrev place_code : Coded Place
place_code = code_by (ℕ × ℕ) (coded× coded_ℕ coded_ℕ) (λ p. (p.entity, p.index)) (λ p. record { entity = p.0; index = p.1 }) (λ _. refl)

abbrev width_code : Coded Width
width_code = code_by (ℕ × Bool) (coded× coded_ℕ coded_bool) (λ w. (w.most, w.fixed)) (λ p. record { most = p.0; fixed = p.1 }) (λ _. refl)

-- an aggregate type without its element: an array, a list, a set or a bag
abbrev Layer : Type 0
Layer = ((ℕ × ℕ) × (Bool × Bool)) ⊎ (((ℕ × Option ℕ) × Bool) ⊎ ((ℕ × Option ℕ) ⊎ (ℕ × Option ℕ)))

-- a type that is no aggregate
abbrev Base : Type 0
Base = Option (Option (Option (Option (Option ((Option Width ⊎ Option Width) ⊎ (ℕ ⊎ ℕ))))))

abbrev layers : TypeUse → List Layer
layers (array low high optional unique element) = inl ((low, high), (optional, unique)) ∷ layers element
layers (list low high unique element) = inr (inl ((low, high), unique)) ∷ layers element
layers (set low high element) = inr (inr (inl (low, high))) ∷ layers element
layers (bag low high element) = inr (inr (inr (low, high))) ∷ layers element
layers other = []

abbrev base : TypeUse → Base
base whole = None
base real = Some None
base number = Some (Some None)
base boolean = Some (Some (Some None))
base logical = Some (Some (Some (Some None)))
base (text width) = Some (Some (Some (Some (Some (inl (inl width))))))
base (bits width) = Some (Some (Some (Some (Some (inl (inr width))))))
base (entity e) = Some (Some (Some (Some (Some (inr (inl e))))))
base (defined t) = Some (Some (Some (Some (Some (inr (inr t))))))
base (array low high optional unique element) = base element
base (list low high unique element) = base element
base (set low high element) = base element
base (bag low high element) = base element

abbrev simple : Base → TypeUse
simple None = whole
simple (Some None) = real
simple (Some (Some None)) = number
simple (Some (Some (Some None))) = boolean
simple (Some (Some (Some (Some None)))) = logical
simple (Some (Some (Some (Some (Some (inl (inl width))))))) = text width
simple (Some (Some (Some (Some (Some (inl (inr width))))))) = bits width
simple (Some (Some (Some (Some (Some (inr (inl e))))))) = entity e
simple (Some (Some (Some (Some (Some (inr (inr t))))))) = defined t

abbrev within : List Layer → Base → TypeUse
within [] b = simple b
within (inl ((low, high), (optional, unique)) ∷ ls) b = array low high optional unique (within ls b)
within (inr (inl ((low, high), unique)) ∷ ls) b = list low high unique (within ls b)
within (inr (inr (inl (low, high))) ∷ ls) b = set low high (within ls b)
within (inr (inr (inr (low, high))) ∷ ls) b = bag low high (within ls b)

pub within-layers : (t : TypeUse) → within (layers t) (base t) ≡ t
within-layers whole = refl
within-layers real = refl
within-layers number = refl
within-layers boolean = refl
within-layers logical = refl
within-layers (text width) = refl
within-layers (bits width) = refl
within-layers (entity e) = refl
within-layers (defined t) = refl
within-layers (array low high optional unique element) = ap (array low high optional unique) (within-layers element)
within-layers (list low high unique element) = ap (list low high unique) (within-layers element)
within-layers (set low high element) = ap (set low high) (within-layers element)
within-layers (bag low high element) = ap (bag low high) (within-layers element)

abbrev range_code : Coded (ℕ × Option ℕ)
range_code = coded× coded_ℕ (coded_option coded_ℕ)

abbrev layer_code : Coded Layer
layer_code = coded⊎ (coded× (coded× coded_ℕ coded_ℕ) (coded× coded_bool coded_bool))
    (coded⊎ (coded× range_code coded_bool) (coded⊎ range_code range_code))

abbrev base_code : Coded Base
base_code = coded_option (coded_option (coded_option
    (coded_option (coded_option (coded⊎ (coded⊎ (coded_option width_code) (coded_option width_code)) (coded⊎ coded_ℕ coded_ℕ))))))

abbrev type_code : Coded TypeUse
type_code = code_by (List Layer × Base) (coded× (coded_list layer_code) base_code) (λ t. (layers t, base t)) (λ p. within p.0 p.1)
    within-layers

abbrev name_code : Coded (List ℕ)
name_code = coded_list coded_ℕ

abbrev member_cases : Member → ℕ ⊎ ℕ
member_cases (entity_member e) = inl e
member_cases (type_member t) = inr t

abbrev member_from : ℕ ⊎ ℕ → Member
member_from (inl e) = entity_member e
member_from (inr t) = type_member t

pub member-back : (m : Member) → member_from (member_cases m) ≡ m
member-back (entity_member e) = refl
member-back (type_member t) = refl

abbrev member_code : Coded Member
member_code = code_by (ℕ ⊎ ℕ) (coded⊎ coded_ℕ coded_ℕ) member_cases member_from member-back

abbrev kind_cases : Kind → TypeUse ⊎ (List (List ℕ) ⊎ List Member)
kind_cases (alias type) = inl type
kind_cases (items words) = inr (inl words)
kind_cases (choice members) = inr (inr members)

abbrev kind_from : TypeUse ⊎ (List (List ℕ) ⊎ List Member) → Kind
kind_from (inl type) = alias type
kind_from (inr (inl words)) = items words
kind_from (inr (inr members)) = choice members

pub kind-back : (k : Kind) → kind_from (kind_cases k) ≡ k
kind-back (alias type) = refl
kind-back (items words) = refl
kind-back (choice members) = refl

abbrev kind_code : Coded Kind
kind_code = code_by (TypeUse ⊎ (List (List ℕ) ⊎ List Member)) (coded⊎ type_code (coded⊎ (coded_list name_code) (coded_list member_code)))
    kind_cases kind_from kind-back

abbrev attribute_code : Coded Attribute
attribute_code = code_by ((List ℕ × Bool) × TypeUse) (coded× (coded× name_code coded_bool) type_code) (λ a. ((a.name, a.optional), a.type))
    (λ p. record { name = p.0.0; optional = p.0.1; type = p.1 }) (λ _. refl)

abbrev redeclared_code : Coded Redeclared
redeclared_code = code_by ((Place × Bool) × TypeUse) (coded× (coded× place_code coded_bool) type_code)
    (λ r. ((r.place, r.optional), r.type)) (λ p. record { place = p.0.0; optional = p.0.1; type = p.1 }) (λ _. refl)

abbrev EntityParts : Type 0
EntityParts = ((List ℕ × Bool) × List ℕ) × ((List Attribute × List Redeclared) × List Place)

abbrev entity_code : Coded Entity
entity_code = code_by EntityParts (coded× (coded× (coded× name_code coded_bool) (coded_list coded_ℕ))
    (coded× (coded× (coded_list attribute_code) (coded_list redeclared_code)) (coded_list place_code)))
    (λ e. (((e.name, e.is_abstract), e.supertypes), ((e.attributes, e.redeclared), e.derived)))
    (λ p. record { name = p.0.0.0; is_abstract = p.0.0.1; supertypes = p.0.1; attributes = p.1.0.0; redeclared = p.1.0.1; derived = p.1.1 })
    (λ _. refl)

abbrev defined_code : Coded Defined
defined_code = code_by (List ℕ × Kind) (coded× name_code kind_code) (λ d. (d.name, d.kind)) (λ p. record { name = p.0; kind = p.1 })
    (λ _. refl)

abbrev pub schema_code : Coded Schema
schema_code = code_by ((List ℕ × List Entity) × (List Defined × List (List ℕ)))
    (coded× (coded× name_code (coded_list entity_code)) (coded× (coded_list defined_code) (coded_list (coded_list coded_ℕ))))
    (λ s. ((s.name, s.entities), (s.types, s.one_of_lists)))
    (λ p. record { name = p.0.0; entities = p.0.1; types = p.1.0; one_of_lists = p.1.1 }) (λ _. refl)
