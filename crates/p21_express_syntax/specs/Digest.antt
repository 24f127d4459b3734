-- The digest of a schema text, what is kept of its declarations, as pure data: names in upper case, the numbers of bounds and widths, no
-- run, no version and no precision.
use Rattle.std.specs.Prelude.{ℕ, Bool, List, Option}
use Rattle.p21_express_syntax.specs.declared.attributes.AttributeName.{AttributeName}
use Rattle.p21_express_syntax.specs.declared.types.Aggregate.{Aggregate}
use Rattle.p21_express_syntax.specs.declared.types.SimpleType.{SimpleType}

-- the aggregates, the outermost first, and what they are of
pub record TypeDigest : Type 0 where
  pub aggregates : List Aggregate
  pub element : SimpleType

-- explicit attributes of one type
pub record AttributesDigest : Type 0 where
  pub names : List AttributeName
  pub optional : Bool
  pub type : TypeDigest

-- ABSTRACT, and the names of the ONEOF list that stands alone behind SUPERTYPE OF
pub record ConstraintDigest : Type 0 where
  pub is_abstract : Bool
  pub one_of : Option (List (List ℕ))

pub record EntityDigest : Type 0 where
  pub name : List ℕ
  pub constraint : ConstraintDigest
  pub supertypes : List (List ℕ)
  pub explicit : List AttributesDigest
  pub derived : List AttributeName

-- the items of an enumeration, the names of a select, or an underlying type
pub data BodyDigest : Type 0 where
  enumeration : List (List ℕ) → BodyDigest
  select : List (List ℕ) → BodyDigest
  underlying : TypeDigest → BodyDigest

pub record DefinedTypeDigest : Type 0 where
  pub name : List ℕ
  pub body : BodyDigest

-- entities and types, each in their order
pub record SchemaDigest : Type 0 where
  pub name : List ℕ
  pub entities : List EntityDigest
  pub types : List DefinedTypeDigest
