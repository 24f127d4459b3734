-- A text that is refused by a line. What such a line says of the text is given.
use Rattle.std.specs.Prelude.{Option, ℕ, List, string_bytes}
use Rattle.p21_commands.specs.Transfer.{GivesText}
use Rattle.p21_commands.specs.declared.fault.CommandFault.{CommandFault}
use Rattle.p21_commands.specs.declared.fault.CommandFault.TheVariants.{Refused, NoMemory, Read, Write}

-- a text is refused by such a line, or memory runs out
abbrev pub RefusesBy : (List ℕ → List ℕ → Type 0) → List ℕ → CommandFault → Type 0
RefusesBy IsLine text (Refused line) = IsLine text (string_bytes line)
RefusesBy IsLine text NoMemory = Unit {0}
RefusesBy IsLine text Read = ⊥
RefusesBy IsLine text Write = ⊥

-- the line is such a line for the text of the reader
pub record IsRefusedBy (IsLine : List ℕ → List ℕ → Type 0) (reader : Option (List ℕ)) (line : List ℕ) : Type 0 where
  pub text : List ℕ
  pub gives : GivesText reader text
  pub is_line : IsLine text line

-- a command that gives no answer is refused by such a line, or memory ran out, or a reader failed
abbrev pub RefusesWith : (List ℕ → Type 0) → CommandFault → Type 0
RefusesWith IsLine (Refused line) = IsLine (string_bytes line)
RefusesWith IsLine NoMemory = Unit {0}
RefusesWith IsLine Read = Unit {0}
RefusesWith IsLine Write = ⊥
