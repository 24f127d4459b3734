-- What kept declarations declare as far as the names of entities and types lead to it: all but what is redeclared.
use Rattle.std.specs.Prelude.{◌≡◌, ◌⊎◌, ℕ, Bool, List, [], ◌∷◌, ◌++◌, map, Option, Some, None, slice_get}
use Rattle.std.specs.List.{AllZip, flat_map, IsDistinct}
use Rattle.std.specs.Str.{bytes_eq}
use Rattle.p21_spec_schema.specs.Schema as schema
use Rattle.p21_spec_schema.specs.Schema.{Schema, TypeUse, Member, entity_member, type_member, Kind, Attribute, Entity, Defined}
use Rattle.p21_express_syntax.specs.Digest.{TypeDigest, AttributesDigest, EntityDigest, BodyDigest, enumeration, select, underlying, DefinedTypeDigest, SchemaDigest}
use Rattle.p21_express_syntax.specs.declared.attributes.AttributeName.{AttributeName}
use Rattle.p21_express_syntax.specs.declared.attributes.AttributeName.TheVariants.{Own, Redeclared}
use Rattle.p21_express_syntax.specs.declared.types.Aggregate.{Aggregate}
use Rattle.p21_express_syntax.specs.declared.types.Aggregate.TheVariants as aggregate
use Rattle.p21_express_syntax.specs.declared.types.SimpleType.{SimpleType}
use Rattle.p21_express_syntax.specs.declared.types.SimpleType.TheVariants as simple
use Rattle.p21_express_syntax.specs.declared.types.Width.{Width}

-- the names of the entities and of the types, each in their order
pub record Named : Type 0 where
  pub entities : List (List ℕ)
  pub types : List (List ℕ)

abbrev pub named : Schema → Named
named s = record { entities = map (λ x. x.name) s.entities; types = map (λ x. x.name) s.types }

-- those of kept declarations
abbrev pub digest_names : SchemaDigest → Named
digest_names k = record { entities = map (λ x. x.name) k.entities; types = map (λ x. x.name) k.types }

-- the name stands at this number
abbrev pub IsNamed : List (List ℕ) → ℕ → List ℕ → Type 0
IsNamed names at name = slice_get names at ≡ Some name

-- ---- types

abbrev pub width_of : Option Width → Option schema.Width
width_of None = None
width_of (Some width) = Some (record { most = width.most; fixed = width.fixed })

-- one aggregate around a type
abbrev pub aggregate_of : Aggregate → TypeUse → TypeUse
aggregate_of (aggregate.Array low high optional unique) type = schema.array low high optional unique type
aggregate_of (aggregate.List range unique) type = schema.list range.low range.high unique type
aggregate_of (aggregate.Set range) type = schema.set range.low range.high type
aggregate_of (aggregate.Bag range) type = schema.bag range.low range.high type

-- all of them, the outermost first
abbrev pub aggregates_of : List Aggregate → TypeUse → TypeUse
aggregates_of [] type = type
aggregates_of (first ∷ aggregates) type = aggregate_of first (aggregates_of aggregates type)

-- a name is that of an entity or a type
abbrev pub SimpleIs : Named → SimpleType → TypeUse → Type 0
SimpleIs n simple.Integer type = type ≡ schema.whole
SimpleIs n simple.Real type = type ≡ schema.real
SimpleIs n simple.Number type = type ≡ schema.number
SimpleIs n simple.Boolean type = type ≡ schema.boolean
SimpleIs n simple.Logical type = type ≡ schema.logical
SimpleIs n (simple.String width) type = type ≡ schema.text (width_of width)
SimpleIs n (simple.Binary width) type = type ≡ schema.bits (width_of width)
SimpleIs n (simple.Named name) type = ((e : ℕ) × IsNamed n.entities e name × (type ≡ schema.entity e))
    ⊎ ((t : ℕ) × IsNamed n.types t name × (type ≡ schema.defined t))

abbrev pub DigestTypeIs : Named → TypeDigest → TypeUse → Type 0
DigestTypeIs n kept type = (element : TypeUse) × SimpleIs n kept.element element × (type ≡ aggregates_of kept.aggregates element)

-- ---- entities

-- the names of new attributes
abbrev pub digest_own_names : List AttributeName → List (List ℕ)
digest_own_names [] = []
digest_own_names (Own name ∷ names) = name ∷ digest_own_names names
digest_own_names (Redeclared entity name ∷ names) = digest_own_names names

-- the attributes that are redeclared, each by its supertype and its name
abbrev pub digest_redeclared_names : List AttributeName → List (List ℕ × List ℕ)
digest_redeclared_names [] = []
digest_redeclared_names (Own name ∷ names) = digest_redeclared_names names
digest_redeclared_names (Redeclared entity name ∷ names) = (entity, name) ∷ digest_redeclared_names names

-- each new explicit attribute, with OPTIONAL or not and its type
abbrev pub digest_own_explicit : List AttributesDigest → List (List ℕ × Bool × TypeDigest)
digest_own_explicit explicit = flat_map (λ x. map (λ name. (name, x.optional, x.type)) (digest_own_names x.names)) explicit

-- each explicit redeclaration, with OPTIONAL or not and its type
abbrev pub digest_redeclared_explicit : List AttributesDigest → List ((List ℕ × List ℕ) × Bool × TypeDigest)
digest_redeclared_explicit explicit = flat_map (λ x. map (λ name. (name, x.optional, x.type)) (digest_redeclared_names x.names)) explicit

-- the names of all new attributes of an entity
abbrev pub attribute_names : EntityDigest → List (List ℕ)
attribute_names x = digest_own_names (flat_map (λ d. d.names) x.explicit) ++ digest_own_names x.derived

abbrev pub DigestAttributeIs : Named → List ℕ × Bool × TypeDigest → Attribute → Type 0
DigestAttributeIs n kept a = (a.name ≡ kept.0) × (a.optional ≡ kept.1) × DigestTypeIs n kept.2 a.type

-- all of an entity but what it redeclares
pub record EntityOutline (n : Named) (x : EntityDigest) (found : Entity) : Type 0 where
  pub name_is : found.name ≡ x.name
  pub abstract_is : found.is_abstract ≡ x.constraint.is_abstract
  pub supertypes_are : AllZip (IsNamed n.entities) found.supertypes x.supertypes
  pub attributes_are : AllZip (DigestAttributeIs n) (digest_own_explicit x.explicit) found.attributes
  pub supertypes_distinct : IsDistinct bytes_eq x.supertypes
  pub names_distinct : IsDistinct bytes_eq (attribute_names x)

-- ---- types that are declared

abbrev pub MemberIs : Named → Member → List ℕ → Type 0
MemberIs n (entity_member e) name = IsNamed n.entities e name
MemberIs n (type_member t) name = IsNamed n.types t name

-- not just the name of an entity
abbrev pub IsNoEntity : TypeUse → Type 0
IsNoEntity (schema.entity e) = ⊥
IsNoEntity other = Unit {0}

abbrev pub DigestKindIs : Named → BodyDigest → Kind → Type 0
DigestKindIs n (underlying kept) kind = (type : TypeUse) × DigestTypeIs n kept type × IsNoEntity type × (kind ≡ schema.alias type)
DigestKindIs n (enumeration names) kind = (kind ≡ schema.items names) × IsDistinct bytes_eq names
DigestKindIs n (select names) kind = (members : List Member) × AllZip (MemberIs n) members names × IsDistinct bytes_eq names
    × (kind ≡ schema.choice members)

pub record TypeOutline (n : Named) (x : DefinedTypeDigest) (found : Defined) : Type 0 where
  pub name_is : found.name ≡ x.name
  pub kind_is : DigestKindIs n x.body found.kind

-- ---- ONEOF lists

abbrev pub one_of_list : Option (List (List ℕ)) → List (List (List ℕ))
one_of_list None = []
one_of_list (Some names) = names ∷ []

abbrev pub digest_one_of_lists : List EntityDigest → List (List (List ℕ))
digest_one_of_lists entities = flat_map (λ x. one_of_list x.constraint.one_of) entities

abbrev pub DigestOneOfIs : Named → List (List ℕ) → List ℕ → Type 0
DigestOneOfIs n names listed = AllZip (IsNamed n.entities) listed names × IsDistinct bytes_eq names

-- ---- the schema

pub record IsOutline (k : SchemaDigest) (s : Schema) : Type 0 where
  pub name_is : s.name ≡ k.name
  pub entities_are : AllZip (EntityOutline (digest_names k)) k.entities s.entities
  pub types_are : AllZip (TypeOutline (digest_names k)) k.types s.types
  pub one_of_are : AllZip (DigestOneOfIs (digest_names k)) (digest_one_of_lists k.entities) s.one_of_lists
  pub names_distinct : IsDistinct bytes_eq ((digest_names k).entities ++ (digest_names k).types)
