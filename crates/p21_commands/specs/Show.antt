-- What `p21 show` writes.
use Rattle.std.specs.Prelude.{Option, ◌≡◌, ◌⊎◌, ℕ, List, [], ◌∷◌, ◌++◌, codes, decimal, string_bytes, Contains}
use Rattle.p21_commands.specs.declared.fault.CommandFault.{CommandFault}
use Rattle.p21_commands.specs.declared.fault.CommandFault.TheVariants.{Refused, NoMemory, Read, Write}
use Rattle.p21_commands.specs.Files.{IsAcceptedUnder, IsRefusedUnder}
use Rattle.p21_stream_output.specs.Output.{Output}
use Rattle.p21_stream_store.specs.StoredInstance.{StoredInstance, instance_names}

-- the statement of the instance of this name, and a line feed
pub record IsStatementLine (output : Output) (name : ℕ) (line : List ℕ) : Type 0 where
  pub instance_ : StoredInstance
  pub among : Contains output.kept instance_
  pub named : instance_.name ≡ name
  pub line_is : line ≡ instance_.text ++ (10 ∷ [])

-- `no #N` and a line feed
abbrev pub missing_refusal_line : ℕ → List ℕ
missing_refusal_line name = codes "no #" ++ (decimal name ++ codes "\n")

-- no instance has the name, as the line says; or memory runs out
abbrev pub RefusesMissing : Output → ℕ → CommandFault → Type 0
RefusesMissing output name (Refused line) = (¬ Contains (instance_names output.kept) name) × (string_bytes line ≡ missing_refusal_line name)
RefusesMissing output name NoMemory = Unit {0}
RefusesMissing output name Read = ⊥
RefusesMissing output name Write = ⊥

-- the line is the statement of the instance in the file that is accepted
pub record IsShown (name : ℕ) (schema file_old file_new : Option (List ℕ)) (line : List ℕ) : Type 0 where
  pub output : Output
  pub accepted : IsAcceptedUnder schema file_old file_new output
  pub is_line : IsStatementLine output name line

-- the file that is accepted has no instance of the name, as the line says
pub record IsMissing (name : ℕ) (schema file_old file_new : Option (List ℕ)) (line : List ℕ) : Type 0 where
  pub output : Output
  pub accepted : IsAcceptedUnder schema file_old file_new output
  pub none : ¬ Contains (instance_names output.kept) name
  pub line_is : line ≡ missing_refusal_line name

-- the schema or the file is refused, or has no such instance
abbrev pub IsNotShown : ℕ → Option (List ℕ) → Option (List ℕ) → Option (List ℕ) → List ℕ → Type 0
IsNotShown name schema file_old file_new line = IsRefusedUnder schema file_old file_new line ⊎ IsMissing name schema file_old file_new line
