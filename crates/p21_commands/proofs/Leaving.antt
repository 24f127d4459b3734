-- What commands say where an attribute is to be left out that the schema doesn't have.
use Rattle.std.proofs.Common.{◌≡◌, ℕ, List, [], ◌∷◌, Option, Contains, Result, Ok, Err, IfErr, inl, inr, subst, sym, string_bytes}
use Rattle.std.specs.Result.{IsErr, IsErrAnd}
use Rattle.std.proofs.KnownBytes.{Keeps-refl}
use Rattle.p21_commands.proofs.Numbering.{fails-weaker}
use Rattle.p21_commands.proofs.Pairing.{unread_fails}
use Rattle.p21_commands.specs.Command.{FailsBy}
use Rattle.p21_commands.specs.DiffByPairs.{IsUnpaired}
use Rattle.p21_commands.specs.Failures.{Failures, FailedBy, NoneFailed}
use Rattle.p21_commands.specs.Load.{DeclaresRead, RefusesRead}
use Rattle.p21_commands.specs.Same.{IsRefused, read_of}
use Rattle.p21_commands.specs.Unlisted.{IsRefusalOrMemory, IsUnlisted, RefusesAttribute}
use Rattle.p21_commands.specs.declared.fault.CommandFault.{CommandFault}
use Rattle.p21_commands.specs.declared.fault.CommandFault.TheVariants as command
use Rattle.p21_spec_differences.specs.LeftOut.{AttributeName, IsKnown, LeftOut}
use Rattle.p21_spec_schema.specs.Schema.{Schema}

-- what holds of a fault holds of the same fault, handed on
pub handed-on : {T : Type 0} (P : CommandFault → Type 0) (result : Result T CommandFault) (fault : CommandFault) → IsErr result
    → IsErrAnd result (λ found. found ≡ fault) → P fault → IfErr result P
handed-on P (Ok value) fault is_err is holds = tt
handed-on P (Err found) fault is_err is holds = subst P (sym is) holds

-- an attribute of which this is so is refused
pub attribute-refused : (s : Schema) (left : LeftOut) (name : AttributeName) (fault : CommandFault) → Contains left.attributes name
    → ¬ IsKnown s name → IsRefusalOrMemory fault → RefusesAttribute s left fault
attribute-refused s left name (command.Refused line) asked unknown is = (name, asked, unknown)
attribute-refused s left name command.NoMemory asked unknown is = tt
attribute-refused s left name command.Read asked unknown is = absurd is
attribute-refused s left name command.Write asked unknown is = absurd is

-- behind the schema, and before a file is read
pub attribute-fails : (IsAnswer IsRefusal : List ℕ → Type 0) (schema first second output : Option (List ℕ)) (s : Schema) (left : LeftOut)
    (fault : CommandFault) → DeclaresRead schema s → RefusesAttribute s left fault
    → FailsBy IsAnswer (IsUnlisted IsRefusal left (read_of schema first first second second)) output output fault
attribute-fails IsAnswer IsRefusal schema first second output s left (command.Refused line) declares (name, asked, unknown) = (
  inr (record {
    declared = s;
    declares = declares;
    name = name;
    asked = asked;
    unknown = unknown;
    first_unread = Keeps-refl first;
    second_unread = Keeps-refl second;
  }),
  Keeps-refl output,
)
attribute-fails IsAnswer IsRefusal schema first second output s left command.NoMemory declares is = Keeps-refl output
attribute-fails IsAnswer IsRefusal schema first second output s left command.Read declares is = absurd is
attribute-fails IsAnswer IsRefusal schema first second output s left command.Write declares is = absurd is

-- no call failed
pub attribute-failed : (s : Schema) (left : LeftOut) (readers writers : List Failures) (fault : CommandFault)
    → RefusesAttribute s left fault
    → NoneFailed readers → NoneFailed writers → FailedBy readers writers fault
attribute-failed s left readers writers (command.Refused line) is none none_ = (none, none_)
attribute-failed s left readers writers command.NoMemory is none none_ = (none, none_)
attribute-failed s left readers writers command.Read is none none_ = absurd is
attribute-failed s left readers writers command.Write is none none_ = absurd is

-- the schema is refused, and no file is read
pub schema_fails : (IsAnswer : List ℕ → Type 0) (left : LeftOut) (schema first second output : Option (List ℕ)) (fault : CommandFault)
    → RefusesRead schema fault
    → FailsBy IsAnswer (IsUnlisted (IsRefused (read_of schema first first second second)) left (read_of schema first first second second))
    output output fault
schema_fails IsAnswer left schema first second output (command.Refused line) is =
    (inl (inl (is, Keeps-refl first, Keeps-refl second)), Keeps-refl output)
schema_fails IsAnswer left schema first second output command.NoMemory is = Keeps-refl output
schema_fails IsAnswer left schema first second output command.Read is = Keeps-refl output
schema_fails IsAnswer left schema first second output command.Write is = absurd is

-- the same of files that are listed by pairs
pub unpaired_schema_fails : (IsAnswer : List ℕ → Type 0) (left : LeftOut) (schema first second output : Option (List ℕ))
    (fault : CommandFault) → RefusesRead schema fault
    → FailsBy IsAnswer (IsUnlisted (IsUnpaired (read_of schema first first second second)) left (read_of schema first first second second))
    output output fault
unpaired_schema_fails IsAnswer left schema first second output fault is =
    fails-weaker IsAnswer (IsUnpaired (read_of schema first first second second))
    (IsUnlisted (IsUnpaired (read_of schema first first second second)) left (read_of schema first first second second))
    (λ line refused. inl refused) output output fault (unread_fails IsAnswer schema first second output fault is)
