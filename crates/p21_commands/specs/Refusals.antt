-- The line of a refusal of a file.
use Rattle.std.specs.Prelude.{◌≡◌, ℕ, List, ◌++◌, codes, decimal, string_bytes}
use Rattle.p21_commands.specs.declared.fault.CommandFault.{CommandFault}
use Rattle.p21_commands.specs.declared.fault.CommandFault.TheVariants as command
use Rattle.p21_stream_statements.specs.Fault.{fault_name, fault_number}
use Rattle.p21_stream_statements.specs.declared.fault.Fault.{Fault}
use Rattle.p21_stream_statements.specs.declared.fault.Fault.TheVariants.{NoMemory, Read, Write}
use Rattle.p21_stream_statements.specs.declared.refusal.At.{At}
use Rattle.p21_stream_statements.specs.declared.refusal.At.TheVariants.{Statement, Instance}
use Rattle.p21_stream_statements.specs.declared.refusal.Refusal.{Refusal}

-- the statement by its number, or the instance by its name
abbrev pub location_text : At → List ℕ
location_text (Statement number) = codes " at statement " ++ decimal number
location_text (Instance name) = codes " in #" ++ decimal name

-- a word for the file, `refused NUMBER NAME`, the location, and a line feed
abbrev pub refusal_line : List ℕ → Refusal → List ℕ
refusal_line file refusal = file ++ (codes "refused "
    ++ (decimal (fault_number refusal.fault) ++ (codes " " ++ (fault_name refusal.fault ++ (location_text refusal.at ++ codes "\n")))))

-- the fault is of the file, and of no memory, reader or writer
abbrev pub IsOfFile : Fault → Type 0
IsOfFile NoMemory = ⊥
IsOfFile Read = ⊥
IsOfFile Write = ⊥
IsOfFile fault = Unit {0}

-- the fault is none of a reader or a writer
abbrev pub IsNoDevice : Fault → Type 0
IsNoDevice Read = ⊥
IsNoDevice Write = ⊥
IsNoDevice fault = Unit {0}

-- what a command answers to a refusal: its line, or the fault of memory, reader or writer; memory may run out for the line too
abbrev pub IsFaultOf : List ℕ → Refusal → CommandFault → Type 0
IsFaultOf file refusal (command.Refused line) = IsOfFile refusal.fault × (string_bytes line ≡ refusal_line file refusal)
IsFaultOf file refusal command.NoMemory = IsNoDevice refusal.fault
IsFaultOf file refusal command.Read = refusal.fault ≡ Read
IsFaultOf file refusal command.Write = refusal.fault ≡ Write
