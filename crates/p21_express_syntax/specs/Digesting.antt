-- The digest of a schema declaration: what is kept of it.
use Rattle.std.specs.Prelude.{ℕ, true, false, List, [], map, Option, Some, None}
use Rattle.p21_spec_basics.specs.Digits.{number}
use Rattle.p21_spec_schema.specs.WrittenType.{Width as WrittenWidth, UpperBound, bounded, unbounded, Bounds, WrittenType, integer_type, real_type, number_type, boolean_type, logical_type, string_type, binary_type, named_type, array_type, list_type, set_type, bag_type}
use Rattle.p21_spec_schema.specs.SupertypeConstraint.{SupertypeExpression, one_of, other_run, SupertypeConstraint, no_constraint, abstract_entity, abstract_supertype, abstract_supertype_of, supertype_of}
use Rattle.p21_spec_schema.specs.EntityDeclaration as written
use Rattle.p21_spec_schema.specs.EntityDeclaration.{own, redeclared, DerivedAttribute, EntityDeclaration}
use Rattle.p21_spec_schema.specs.TypeDeclaration as written_type
use Rattle.p21_spec_schema.specs.TypeDeclaration.{TypeDeclaration}
use Rattle.p21_spec_schema.specs.SchemaDeclaration.{SchemaDeclaration, entities_of, types_of}
use Rattle.p21_express_syntax.specs.Digest.{TypeDigest, AttributesDigest, ConstraintDigest, EntityDigest, BodyDigest, enumeration, select, underlying, DefinedTypeDigest, SchemaDigest}
use Rattle.p21_express_syntax.specs.declared.attributes.AttributeName.{AttributeName}
use Rattle.p21_express_syntax.specs.declared.attributes.AttributeName.TheVariants.{Own, Redeclared}
use Rattle.p21_express_syntax.specs.declared.types.Aggregate.TheVariants as aggregate
use Rattle.p21_express_syntax.specs.declared.types.Range.{Range}
use Rattle.p21_express_syntax.specs.declared.types.SimpleType.{SimpleType}
use Rattle.p21_express_syntax.specs.declared.types.SimpleType.TheVariants as simple
use Rattle.p21_express_syntax.specs.declared.types.Width.{Width}
use Rattle.p21_spec_schema.specs.DeclaredEntity.{names_of}
use Rattle.p21_express_syntax.specs.DataTypes.{around}

abbrev pub width_digest : Option WrittenWidth → Option Width
width_digest None = None
width_digest (Some width) = Some (record { most = number width.most; fixed = width.fixed })

abbrev pub high_digest : UpperBound → Option ℕ
high_digest unbounded = None
high_digest (bounded high) = Some (number high)

-- absent bounds are `[0:?]`
abbrev pub range_digest : Option Bounds → Range
range_digest None = record { low = 0; high = None }
range_digest (Some bounds) = record { low = number bounds.low; high = high_digest bounds.high }

-- an array has an upper bound (there is none otherwise within the limits)
abbrev pub array_high : UpperBound → ℕ
array_high unbounded = 0
array_high (bounded high) = number high

abbrev pub of : SimpleType → TypeDigest
of element = record { aggregates = []; element = element }

abbrev pub type_digest : WrittenType → TypeDigest
type_digest integer_type = of simple.Integer
type_digest (real_type precision) = of simple.Real
type_digest number_type = of simple.Number
type_digest boolean_type = of simple.Boolean
type_digest logical_type = of simple.Logical
type_digest (string_type width) = of (simple.String (width_digest width))
type_digest (binary_type width) = of (simple.Binary (width_digest width))
type_digest (named_type name) = of (simple.Named name)
type_digest (array_type bounds optional unique element) = around (aggregate.Array (number bounds.low) (array_high bounds.high) optional unique) (type_digest element)
type_digest (list_type bounds unique element) = around (aggregate.List (range_digest bounds) unique) (type_digest element)
type_digest (set_type bounds element) = around (aggregate.Set (range_digest bounds)) (type_digest element)
type_digest (bag_type bounds element) = around (aggregate.Bag (range_digest bounds)) (type_digest element)

abbrev pub name_digest : written.AttributeName → AttributeName
name_digest (own name) = Own name
name_digest (redeclared entity name) = Redeclared entity name

abbrev pub attributes_digest : written.ExplicitAttributes → AttributesDigest
attributes_digest x = record { names = map name_digest x.names; optional = x.optional; type = type_digest x.type }

-- a ONEOF list
abbrev pub expression_digest : SupertypeExpression → Option (List (List ℕ))
expression_digest (one_of names) = Some names
expression_digest (other_run run) = None

abbrev pub constraint_digest : SupertypeConstraint → ConstraintDigest
constraint_digest no_constraint = record { is_abstract = false; one_of = None }
constraint_digest abstract_entity = record { is_abstract = true; one_of = None }
constraint_digest abstract_supertype = record { is_abstract = true; one_of = None }
constraint_digest (abstract_supertype_of expression) = record { is_abstract = true; one_of = expression_digest expression }
constraint_digest (supertype_of expression) = record { is_abstract = false; one_of = expression_digest expression }

abbrev pub derived_digest : DerivedAttribute → AttributeName
derived_digest x = name_digest x.name

abbrev pub derived_digests : Option (List DerivedAttribute) → List AttributeName
derived_digests None = []
derived_digests (Some derived) = map derived_digest derived

abbrev pub entity_digest : EntityDeclaration → EntityDigest
entity_digest x = record { name = x.name; constraint = constraint_digest x.constraint; supertypes = names_of x.subtype_of; explicit = map attributes_digest x.explicit; derived = derived_digests x.derive }

abbrev pub body_digest : written_type.Body → BodyDigest
body_digest (written_type.enumeration names) = enumeration names
body_digest (written_type.select names) = select names
body_digest (written_type.underlying type) = underlying (type_digest type)

abbrev pub defined_type_digest : TypeDeclaration → DefinedTypeDigest
defined_type_digest x = record { name = x.name; body = body_digest x.body }

abbrev pub schema_digest : SchemaDeclaration → SchemaDigest
schema_digest x = record { name = x.name; entities = map entity_digest (entities_of x.declarations); types = map defined_type_digest (types_of x.declarations) }
