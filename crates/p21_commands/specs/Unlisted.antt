-- What `p21 diff` writes where an attribute is to be left out that the schema doesn't have.
use Rattle.std.specs.Prelude.{◌⊎◌, ℕ, List, Contains}
use Rattle.std.specs.Io.KnownBytes.{Keeps}
use Rattle.p21_commands.specs.Load.{DeclaresRead}
use Rattle.p21_commands.specs.Same.{Read}
use Rattle.p21_commands.specs.declared.fault.CommandFault.{CommandFault}
use Rattle.p21_commands.specs.declared.fault.CommandFault.TheVariants as fault
use Rattle.p21_spec_differences.specs.LeftOut.{AttributeName, IsKnown, LeftOut, MayBeMeant}
use Rattle.p21_spec_schema.specs.Schema.{Schema}

-- each attribute that is to be left out is one of the schema, or may be one of a header record
abbrev pub MayAllBeMeant : Schema → LeftOut → Type 0
MayAllBeMeant s left = (name : AttributeName) → Contains left.attributes name → MayBeMeant s name

-- an attribute that is to be left out is none of the schema that its reader declares, and no file is read
pub record IsUnknownAttribute (left : LeftOut) (read : Read) (line : List ℕ) : Type 0 where
  pub declared : Schema
  pub declares : DeclaresRead read.schema declared
  pub name : AttributeName
  pub asked : Contains left.attributes name
  pub unknown : ¬ IsKnown declared name
  pub first_unread : Keeps read.first_old read.first_new
  pub second_unread : Keeps read.second_old read.second_new

-- the line refuses as where nothing is left out, or this
abbrev pub IsUnlisted : (List ℕ → Type 0) → LeftOut → Read → List ℕ → Type 0
IsUnlisted IsRefusal left read line = IsRefusal line ⊎ IsUnknownAttribute left read line

-- an attribute is refused, since the schema doesn't have it; want of memory says nothing
abbrev pub RefusesAttribute : Schema → LeftOut → CommandFault → Type 0
RefusesAttribute s left (fault.Refused line) = (name : AttributeName) × Contains left.attributes name × ¬ IsKnown s name
RefusesAttribute s left fault.NoMemory = Unit {0}
RefusesAttribute s left fault.Read = ⊥
RefusesAttribute s left fault.Write = ⊥

-- the fault is a refusal or want of memory
abbrev pub IsRefusalOrMemory : CommandFault → Type 0
IsRefusalOrMemory (fault.Refused line) = Unit {0}
IsRefusalOrMemory fault.NoMemory = Unit {0}
IsRefusalOrMemory fault.Read = ⊥
IsRefusalOrMemory fault.Write = ⊥
