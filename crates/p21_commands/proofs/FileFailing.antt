-- What a command says where its file is refused.
use Rattle.std.proofs.Common.{◌≡◌, ℕ, List, [], Option, inl, inr, subst, string_bytes}
use Rattle.std.proofs.KnownBytes.{Keeps-refl}
use Rattle.p21_commands.proofs.Reporting.{refuses-weaker}
use Rattle.p21_spec_basics.specs.Limits.{Limits, usual}
use Rattle.p21_commands.specs.declared.fault.CommandFault.{CommandFault}
use Rattle.p21_commands.specs.declared.fault.CommandFault.TheVariants.{Refused, NoMemory, Read, Write}
use Rattle.p21_commands.specs.Files.{IsFileRefused, IsRefusedUnder}
use Rattle.p21_commands.specs.Refusals.{IsFaultOf, IsNoDevice, IsOfFile, refusal_line}
use Rattle.p21_commands.specs.Load.{DeclaresRead, IsSchemaRefused, RefusesRead}
use Rattle.p21_commands.specs.Refusing.{RefusesWith}
use Rattle.p21_spec_schema.specs.Schema.{Schema}
use Rattle.p21_stream.specs.ReaderInput.{IsRefused}
use Rattle.p21_stream.specs.ReaderInput as input
use Rattle.p21_stream_statements.specs.declared.fault.Fault.{Fault}
use Rattle.p21_stream_statements.specs.declared.fault.Fault.TheVariants as file
use Rattle.p21_stream_statements.specs.declared.refusal.Refusal.{Refusal}

pub of-no_device : (fault : Fault) → IsOfFile fault → IsNoDevice fault
of-no_device file.NoMemory of = absurd of
of-no_device file.Read of = absurd of
of-no_device file.Write of = absurd of
of-no_device fault of = tt

-- the file is refused, where the fault is of it
pub refused-of : (s : Schema) (old new : Option (List ℕ)) (fault : Fault) → IsOfFile fault → input.RefusesRead s usual old new fault
    → IsRefused s usual old new
refused-of s old new file.NoMemory of refuses = absurd of
refused-of s old new file.Read of refuses = absurd of
refused-of s old new file.Write of refuses = absurd of
refused-of s old new (file.Token fault) of refuses = refuses.1
refused-of s old new (file.Grammar fault) of refuses = refuses
refused-of s old new (file.Check fault) of refuses = refuses
refused-of s old new file.SchemaName of refuses = refuses
refused-of s old new file.SectionTwice of refuses = refuses
refused-of s old new file.DuplicateName of refuses = refuses
refused-of s old new file.CanonicalTooLong of refuses = refuses
refused-of s old new file.Dangling of refuses = refuses
refused-of s old new file.WrongTarget of refuses = refuses

pub file-refused : (word : List ℕ) (schema old new : Option (List ℕ)) (s : Schema) (refusal : Refusal) (line : List ℕ)
    → DeclaresRead schema s → IsOfFile refusal.fault × (line ≡ refusal_line word refusal) → input.RefusesRead s usual old new refusal.fault
    → IsFileRefused word schema old new line
file-refused word schema old new s refusal line declares names refuses = record {
  declared = s;
  declares = declares;
  refusal = refusal;
  of_file = names.0;
  refused = refused-of s old new refusal.fault names.0 refuses;
  refuses = refuses;
  line_is = names.1;
}

-- a writer is no file that is read
pub not-written : (s : Schema) (limits : Limits) (old new : Option (List ℕ)) (fault : Fault) → fault ≡ file.Write
    → input.RefusesRead s limits old new fault → ⊥
not-written s limits old new fault is refuses = subst (input.RefusesRead s limits old new) is refuses

read-fails : (schema old new : Option (List ℕ)) (s : Schema) (refusal : Refusal) (fault : CommandFault) → DeclaresRead schema s
    → IsFaultOf [] refusal fault → input.RefusesRead s usual old new refusal.fault → RefusesWith (IsFileRefused [] schema old new) fault
read-fails schema old new s refusal (Refused line) declares is refuses =
    file-refused [] schema old new s refusal (string_bytes line) declares is refuses
read-fails schema old new s refusal NoMemory declares is refuses = tt
read-fails schema old new s refusal Read declares is refuses = tt
read-fails schema old new s refusal Write declares is refuses = not-written s usual old new refusal.fault is refuses

-- what a command answers to a refusal of its file
pub file-fails : (schema old new : Option (List ℕ)) (s : Schema) (limits : Limits) (refusal : Refusal) (fault : CommandFault)
    → limits ≡ usual → IsFaultOf [] refusal fault → input.RefusesRead s limits old new refusal.fault → DeclaresRead schema s
    → RefusesWith (IsFileRefused [] schema old new) fault
file-fails schema old new s limits refusal fault is_usual is refuses declares =
    read-fails schema old new s refusal fault declares is (subst (λ l. input.RefusesRead s l old new refusal.fault) is_usual refuses)

-- ---- what is refused under a schema that its reader declares, or doesn't

pub schema-refused : (schema file : Option (List ℕ)) (fault : CommandFault) → RefusesRead schema fault
    → RefusesWith (IsRefusedUnder schema file file) fault
schema-refused schema file fault refuses = refuses-weaker (IsSchemaRefused schema) (IsRefusedUnder schema file file)
    (λ line is. inl (is, Keeps-refl file)) fault refuses

pub under-refused : (schema old new : Option (List ℕ)) (fault : CommandFault) → RefusesWith (IsFileRefused [] schema old new) fault
    → RefusesWith (IsRefusedUnder schema old new) fault
under-refused schema old new fault refuses = refuses-weaker (IsFileRefused [] schema old new) (IsRefusedUnder schema old new)
    (λ line is. inr is) fault refuses
