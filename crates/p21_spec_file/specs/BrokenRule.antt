-- The rules that a record may break, each by the number with which a record is refused that breaks it (this project's own
-- numbers; the rules are those of ISO 10303-21, Mapping of EXPRESS entity data types, and of ISO 10303-11, Subtypes and
-- supertypes, Attribute redeclaration).
use Rattle.std.specs.Prelude.{◌≡◌, ◌≢◌, ℕ, List, length, slice_get, Some, Contains}
use Rattle.p21_spec_exchange.specs.Parameter.{Param, listed}
use Rattle.p21_spec_exchange.specs.Record.{Part, Record, simple, complex, parts_of}
use Rattle.p21_spec_file.specs.BrokenValue.{BreaksAtPlace}
use Rattle.p21_spec_file.specs.Meaning.{NamesEntity}
use Rattle.p21_spec_file.specs.RecordPlaces.{HasPart, IsInEntitySet, IsEntitySetOf, part_places, HasParamAt}
use Rattle.p21_spec_schema.specs.OneOf.{Clashes}
use Rattle.p21_spec_schema.specs.Order.{own_places}
use Rattle.p21_spec_schema.specs.PlaceType.{PlaceType, two_redeclarations, TypeAt}
use Rattle.p21_spec_schema.specs.Schema.{Schema, Place, IsAbstract}
use Rattle.p21_spec_schema.specs.Supertype.{IsLeaf}

-- a keyword names no entity
abbrev pub HasUnknownEntity : Schema → Record → Type 0
HasUnknownEntity s record_ = (part : Part) × Contains (parts_of record_) part × ((e : ℕ) → ¬ NamesEntity s part.key e)

-- two simple records have one keyword
abbrev pub HasPartTwice : Record → Type 0
HasPartTwice record_ = (i j : ℕ) × (part other : Part) × (i ≢ j) × (slice_get (parts_of record_) i ≡ Some part) × (slice_get (parts_of record_) j ≡ Some other) × (part.key ≡ other.key)

-- in external mapping no simple record has a keyword that names this entity of the set
abbrev pub MissesPart : Schema → Record → Type 0
MissesPart s (simple part) = ⊥
MissesPart s (complex parts) = (f : ℕ) × IsInEntitySet s (complex parts) f × ((part : Part) → ¬ HasPart s (complex parts) part f)

-- a leaf of the set is abstract
abbrev pub HasAbstractLeaf : Schema → Record → Type 0
HasAbstractLeaf s record_ = (entities : List ℕ) × (e : ℕ) × IsEntitySetOf s record_ entities × IsLeaf s entities e × IsAbstract s e

-- the set holds two different entities of one ONEOF list
abbrev pub HasClash : Schema → Record → Type 0
HasClash s record_ = (entities : List ℕ) × IsEntitySetOf s record_ entities × Clashes s entities

-- redeclarations leave a place of the set open
abbrev pub HasTwoRedeclarations : Schema → Record → Type 0
HasTwoRedeclarations s record_ = (entities : List ℕ) × (e : ℕ) × (place : Place) × IsEntitySetOf s record_ entities × Contains entities e × Contains (own_places s e) place × TypeAt s entities place two_redeclarations

-- a simple record has not as many parameters as places
abbrev pub HasWrongCount : Schema → Record → Type 0
HasWrongCount s record_ = (part : Part) × (e : ℕ) × HasPart s record_ part e × (length (listed part.params) ≢ length (part_places s record_ e))

-- the parameter at some place breaks the rule of this number there
abbrev pub HasBrokenPlace : Schema → Record → ℕ → Type 0
HasBrokenPlace s record_ number =
    (entities : List ℕ) × (place : Place) × (at : PlaceType) × (p : Param) × IsEntitySetOf s record_ entities × TypeAt s entities place at × HasParamAt s record_ place p × BreaksAtPlace s at p number

-- The record breaks the rule of this number. A record of external mapping with no simple record breaks none: it is none of
-- a file, and a reader of files makes none
pub data Breaks (s : Schema) (record_ : Record) : ℕ → Type 0 where
  unknown_entity : HasUnknownEntity s record_ → Breaks s record_ 41
  part_twice : HasPartTwice record_ → Breaks s record_ 44
  part_missing : MissesPart s record_ → Breaks s record_ 43
  abstract_leaf : HasAbstractLeaf s record_ → Breaks s record_ 42
  one_of : HasClash s record_ → Breaks s record_ 58
  open_place : HasTwoRedeclarations s record_ → Breaks s record_ 55
  wrong_count : HasWrongCount s record_ → Breaks s record_ 45
  -- 8, 46 to 54
  at_place : (number : ℕ) → HasBrokenPlace s record_ number → Breaks s record_ number
