-- What `p21 show` says where there is no statement.
use Rattle.std.proofs.Common.{◌≡◌, ℕ, List, Option, inl, inr, subst}
use Rattle.p21_spec_basics.specs.Limits.{Limits, usual}
use Rattle.p21_commands.specs.declared.fault.CommandFault.{CommandFault}
use Rattle.p21_commands.specs.declared.fault.CommandFault.TheVariants.{Refused, NoMemory, Read, Write}
use Rattle.p21_commands.specs.Files.{IsAcceptedUnder, IsRefusedUnder}
use Rattle.p21_commands.specs.Show.{IsNotShown, IsShown, IsStatementLine, RefusesMissing}
use Rattle.p21_commands.specs.Load.{DeclaresRead}
use Rattle.p21_commands.specs.Refusing.{RefusesWith}
use Rattle.p21_commands.proofs.Reporting.{refuses-weaker}
use Rattle.p21_spec_schema.specs.Schema.{Schema}
use Rattle.p21_stream.specs.ReaderInput.{IsAcceptedInput}
use Rattle.p21_stream_output.specs.Output.{Output}

module _ (schema old new : Option (List ℕ)) (name : ℕ) (s : Schema) (limits : Limits) (is_usual : limits ≡ usual)
    (declares : DeclaresRead schema s) where
  accepted-under : (output : Output) → IsAcceptedInput s limits old new output → IsAcceptedUnder schema old new output
  accepted-under output accepted = record {
    declared = s;
    declares = declares;
    accepted =
        subst (λ (l : Limits). IsAcceptedInput s l old new output) is_usual accepted;
  }

  pub is-shown : (output : Output) (line : List ℕ) → IsAcceptedInput s limits old new output → IsStatementLine output name line
      → IsShown name schema old new line
  is-shown output line accepted is = record { output = output; accepted = accepted-under output accepted; is_line = is }

  pub missing-fails : (output : Output) (fault : CommandFault) → IsAcceptedInput s limits old new output → RefusesMissing output name fault
      → RefusesWith (IsNotShown name schema old new) fault
  missing-fails output (Refused line) accepted none =
      inr (record { output = output; accepted = accepted-under output accepted; none = none.0; line_is = none.1 })
  missing-fails output NoMemory accepted none = tt
  missing-fails output Read accepted none = absurd none
  missing-fails output Write accepted none = absurd none

-- where a file is refused, nothing of it is shown
pub not-shown : (schema old new : Option (List ℕ)) (name : ℕ) (fault : CommandFault) → RefusesWith (IsRefusedUnder schema old new) fault
    → RefusesWith (IsNotShown name schema old new) fault
not-shown schema old new name fault refuses = refuses-weaker (IsRefusedUnder schema old new) (IsNotShown name schema old new)
    (λ line is. inl is) fault refuses
