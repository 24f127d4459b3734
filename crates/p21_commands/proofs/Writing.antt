-- What `p21 canon` says where it gives no canonical file.
use Rattle.std.specs.Io.KnownBytes.{Keeps}
use Rattle.std.proofs.Common.{◌≡◌, ℕ, List, [], Option, inr, subst, string_bytes}
use Rattle.p21_spec_basics.specs.Limits.{Limits, usual}
use Rattle.p21_commands.specs.Transfer.{Writes}
use Rattle.p21_commands.specs.declared.fault.CommandFault.{CommandFault}
use Rattle.p21_commands.specs.declared.fault.CommandFault.TheVariants as command
use Rattle.p21_commands.specs.Canon.{IsCanonicalUnder}
use Rattle.p21_commands.specs.Files.{IsRefusedUnder}
use Rattle.p21_commands.specs.Refusals.{IsFaultOf, IsNoDevice}
use Rattle.p21_commands.proofs.FileFailing.{file-refused, of-no_device}
use Rattle.p21_commands.specs.Command.{FailsBy}
use Rattle.p21_commands.specs.Load.{DeclaresRead}
use Rattle.p21_spec_schema.specs.Schema.{Schema}
use Rattle.p21_stream.specs.Answers.{FailsToWrite, IsWritten}
use Rattle.p21_stream.specs.ReaderInput.{RefusesRead}
use Rattle.p21_stream_statements.specs.declared.fault.Fault.{Fault}
use Rattle.p21_stream_statements.specs.declared.fault.Fault.TheVariants as file
use Rattle.p21_stream_statements.specs.declared.refusal.Refusal.{Refusal}

module _ (schema old new output_old output_new : Option (List ℕ)) (s : Schema) (declares : DeclaresRead schema s) where
  before-writing : (fault : Fault) → IsNoDevice fault → FailsToWrite s usual old new output_old output_new fault
      → RefusesRead s usual old new fault × Keeps output_old output_new
  before-writing file.NoMemory of fails = fails
  before-writing file.Read of fails = absurd of
  before-writing file.Write of fails = absurd of
  before-writing (file.Token fault) of fails = fails
  before-writing (file.Grammar fault) of fails = fails
  before-writing (file.Check fault) of fails = fails
  before-writing file.SchemaName of fails = fails
  before-writing file.SectionTwice of fails = fails
  before-writing file.DuplicateName of fails = fails
  before-writing file.CanonicalTooLong of fails = fails
  before-writing file.Dangling of fails = fails
  before-writing file.WrongTarget of fails = fails

  rewrite-fails : (refusal : Refusal) (fault : CommandFault) → IsFaultOf [] refusal fault
      → FailsToWrite s usual old new output_old output_new refusal.fault
      → FailsBy (IsCanonicalUnder schema old new) (IsRefusedUnder schema old new) output_old output_new fault
  rewrite-fails refusal (command.Refused line) is fails =
      let (refuses, keeps) = before-writing refusal.fault (of-no_device refusal.fault is.0) fails in
      (inr (file-refused [] schema old new s refusal (string_bytes line) declares is refuses), keeps)
  rewrite-fails refusal command.NoMemory is fails = let (refuses, keeps) = before-writing refusal.fault is fails in keeps
  rewrite-fails refusal command.Read is fails =
      let read : FailsToWrite s usual old new output_old output_new file.Read =
      subst (FailsToWrite s usual old new output_old output_new) is fails in
      read.1
  rewrite-fails refusal command.Write is fails =
      let w : FailsToWrite s usual old new output_old output_new file.Write =
      subst (FailsToWrite s usual old new output_old output_new) is fails in
      record {
        line = w.text;
        is_line = record { declared = s; declares = declares; canonical = w.canonical };
        part = w.part;
      }

  -- what the writer got where nothing fails
  pub canonical-written : (limits : Limits) (size : ℕ) → limits ≡ usual → IsWritten s limits old new output_old output_new size
      → Writes (IsCanonicalUnder schema old new) output_old output_new
  canonical-written limits size is_usual is =
      let w : IsWritten s usual old new output_old output_new size =
      subst (λ l. IsWritten s l old new output_old output_new size) is_usual is in
      record {
        line = w.text;
        is_line = record { declared = s; declares = declares; canonical = w.canonical };
        appended = w.written;
      }

  pub canonical-fails : (limits : Limits) (refusal : Refusal) (fault : CommandFault) → limits ≡ usual → IsFaultOf [] refusal fault
      → FailsToWrite s limits old new output_old output_new refusal.fault
      → FailsBy (IsCanonicalUnder schema old new) (IsRefusedUnder schema old new) output_old output_new fault
  canonical-fails limits refusal fault is_usual is fails =
      rewrite-fails refusal fault is (subst (λ l. FailsToWrite s l old new output_old output_new refusal.fault) is_usual fails)
