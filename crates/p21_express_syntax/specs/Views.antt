-- The declarations that the code holds, as pure data: lists where the code has vectors.
use Rattle.std.specs.Prelude.{List, map, Option, Some, None, Vec}
use Rattle.p21_express_syntax.specs.Digest.{TypeDigest, AttributesDigest, ConstraintDigest, EntityDigest, BodyDigest, enumeration, select, underlying, DefinedTypeDigest, SchemaDigest}
use Rattle.p21_express_syntax.specs.declared.attributes.ExplicitAttributes.{ExplicitAttributes}
use Rattle.p21_express_syntax.specs.declared.defined_type.Body.{Body}
use Rattle.p21_express_syntax.specs.declared.defined_type.Body.TheVariants.{Enumeration, Select, Underlying}
use Rattle.p21_express_syntax.specs.declared.defined_type.DefinedType.{DefinedType}
use Rattle.p21_express_syntax.specs.declared.entity.Constraint.{Constraint}
use Rattle.p21_express_syntax.specs.declared.entity.Entity.{Entity}
use Rattle.p21_express_syntax.specs.declared.schema.Declarations.{Declarations}
use Rattle.p21_express_syntax.specs.declared.schema.Declaration.{Declaration}
use Rattle.p21_express_syntax.specs.declared.schema.Declaration.TheVariants as declaration
use Rattle.p21_express_syntax.specs.Declaring as kept
use Rattle.p21_express_syntax.specs.Declaring.{DeclarationDigest}
use Rattle.p21_express_syntax.specs.declared.types.DataType.{DataType}

abbrev pub list_view : {A Z : Type 0} → Vec A Z → List A
list_view items = items.items

abbrev pub type_view : DataType → TypeDigest
type_view type = record { aggregates = type.aggregates.items; element = type.element }

abbrev pub attributes_view : ExplicitAttributes → AttributesDigest
attributes_view attributes = record { names = attributes.names.items; optional = attributes.optional; type = type_view attributes.data_type }

abbrev pub attributes_views : {Z : Type 0} → Vec ExplicitAttributes Z → List AttributesDigest
attributes_views all = map attributes_view all.items

abbrev pub some_list : {A Z : Type 0} → Option (Vec A Z) → Option (List A)
some_list None = None
some_list (Some items) = Some items.items

abbrev pub constraint_view : Constraint → ConstraintDigest
constraint_view constraint = record { is_abstract = constraint.is_abstract; one_of = some_list constraint.one_of }

abbrev pub entity_view : Entity → EntityDigest
entity_view entity = record { name = entity.name; constraint = constraint_view entity.constraint; supertypes = entity.supertypes.items; explicit = map attributes_view entity.explicit.items; derived = entity.derived.items }

abbrev pub body_view : Body → BodyDigest
body_view (Enumeration items) = enumeration items.items
body_view (Select names) = select names.items
body_view (Underlying type) = underlying (type_view type)

abbrev pub defined_view : DefinedType → DefinedTypeDigest
defined_view defined = record { name = defined.name; body = body_view defined.body }

abbrev pub schema_view : Declarations → SchemaDigest
schema_view schema = record { name = schema.name; entities = map entity_view schema.entities.items; types = map defined_view schema.types.items }

abbrev pub declaration_view : Declaration → DeclarationDigest
declaration_view (declaration.Entity x) = kept.entity (entity_view x)
declaration_view (declaration.Type x) = kept.defined (defined_view x)
declaration_view declaration.Passed = kept.passed
