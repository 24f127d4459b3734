-- The line and the exit status of each fault of a command.
use Rattle.std.specs.Prelude.{◌≡◌, ◌⊎◌, ℕ, List, [], ◌∷◌, codes, string_bytes}
use Rattle.std.specs.Io.KnownBytes.{Appends}
use Rattle.p21_commands.specs.Failures.{NoneFailed, OneFailed}
use Rattle.p21_commands.specs.Streams.{Stream}
use Rattle.p21_stream_io.specs.Transfer.{AppendsPartOf}
use Rattle.p21_commands.specs.Status.{failed, refused}
use Rattle.p21_commands.specs.declared.fault.CommandFault.{CommandFault}
use Rattle.p21_commands.specs.declared.fault.CommandFault.TheVariants.{Refused, NoMemory, Read, Write}

-- what is written to the fault output
abbrev pub fault_line : CommandFault → List ℕ
fault_line (Refused line) = string_bytes line
fault_line NoMemory = codes "out of memory\n"
fault_line Read = codes "read fault\n"
fault_line Write = codes "write fault\n"

-- the exit status
abbrev pub fault_status : CommandFault → ℕ
fault_status (Refused line) = refused
fault_status fault = failed

-- the fault output has the line of the fault, with its status; or it failed and has only a part of the line, with the
-- status of a write fault
abbrev pub Reports : CommandFault → ℕ → Stream → Type 0
Reports fault status faults = ((status ≡ fault_status fault) × Appends faults.before faults.behind (fault_line fault)
    × NoneFailed (faults.failures ∷ []))
    ⊎ ((status ≡ failed) × AppendsPartOf faults.before faults.behind (fault_line fault) × OneFailed (faults.failures ∷ []))
