-- What the values of the program stand for in the definitions of schemas.
use Rattle.std.specs.Prelude.{Option, Some, None, map}
use Rattle.p21_spec_schema.specs.Schema as pure
use Rattle.p21_spec_schema.specs.PlaceType as pure_type
use Rattle.p21_express_graph.specs.declared.number.Place.{Place}
use Rattle.p21_express_graph.specs.declared.type_use.Width.{Width}
use Rattle.p21_express_graph.specs.declared.type_use.TypeUse.{TypeUse, Whole, Real, Number, Boolean, Logical, Text, Bits, Entity, Defined, Array', List', Set', Bag'}
use Rattle.p21_express_graph.specs.declared.kind.Member.{Member}
use Rattle.p21_express_graph.specs.declared.kind.Member.TheVariants as of
use Rattle.p21_express_graph.specs.declared.kind.TypeKind.{TypeKind}
use Rattle.p21_express_graph.specs.declared.kind.TypeKind.TheVariants.{Alias, Items, Choice}
use Rattle.p21_express_graph.specs.declared.place_type.PlaceType.{PlaceType}
use Rattle.p21_express_graph.specs.declared.place_type.PlaceType.TheVariants.{Derived, Stored, Two}

-- an explicit attribute
abbrev pub place : Place → pure.Place
place p = record { entity = p.entity.0; index = p.index }

-- the most characters or bits
abbrev pub width : Width → pure.Width
width w = record { most = w.most; fixed = w.fixed }

-- the most characters or bits, where there is such a bound
abbrev pub width_option : Option Width → Option pure.Width
width_option None = None
width_option (Some w) = Some (width w)

-- a type where it is used
abbrev pub type_use : TypeUse → pure.TypeUse
type_use Whole = pure.whole
type_use Real = pure.real
type_use Number = pure.number
type_use Boolean = pure.boolean
type_use Logical = pure.logical
type_use (Text w) = pure.text (width_option w)
type_use (Bits w) = pure.bits (width_option w)
type_use (Entity e) = pure.entity e.0
type_use (Defined t) = pure.defined t.0
type_use (Array' low high optional unique _ element) = pure.array low high optional unique (type_use element)
type_use (List' low high unique _ element) = pure.list low high unique (type_use element)
type_use (Set' low high _ element) = pure.set low high (type_use element)
type_use (Bag' low high _ element) = pure.bag low high (type_use element)

-- a member of a select
abbrev pub member : Member → pure.Member
member (of.Entity e) = pure.entity_member e.0
member (of.Defined t) = pure.type_member t.0

-- what a declared type is
abbrev pub kind : TypeKind → pure.Kind
kind (Alias renamed) = pure.alias (type_use renamed)
kind (Items words) = pure.items words
kind (Choice members) = pure.choice (map member members)

-- what may stand at a place of an instance
abbrev pub place_type : PlaceType → pure_type.PlaceType
place_type Derived = pure_type.derived_place
place_type (Stored optional type) = pure_type.stored_place optional (type_use type.now)
place_type Two = pure_type.two_redeclarations
