-- What `p21 param` writes for what it reads.
use Rattle.std.specs.Prelude.{Option, ◌≡◌, ◌≢◌, ℕ, List, ◌++◌, codes, decimal}
use Rattle.p21_tokens.specs.Fault.{fault_number, fault_name}
use Rattle.p21_tokens.specs.Parameter.{IsAnswer, IsRefusal}
use Rattle.p21_tokens.specs.declared.fault.TokenFault.{TokenFault}
use Rattle.p21_tokens.specs.declared.fault.TokenFault.TheVariants as token_fault
use Rattle.p21_commands.specs.Refusing.{IsRefusedBy}
use Rattle.p21_commands.specs.Transfer.{GivesText}

-- `refused NUMBER NAME` and a line feed
abbrev pub refusal_line : TokenFault → List ℕ
refusal_line fault = codes "refused " ++ (decimal (fault_number fault) ++ (codes " " ++ (fault_name fault ++ codes "\n")))

-- the answer to the text, and a line feed
pub record IsAnswerLine (text line : List ℕ) : Type 0 where
  pub spelling : List ℕ
  pub is_answer : IsAnswer text spelling
  pub line_is : line ≡ spelling ++ codes "\n"

-- the line names a fault for which the text is refused, other than want of memory
pub record IsRefusalLine (text line : List ℕ) : Type 0 where
  pub fault : TokenFault
  pub is_refusal : IsRefusal text fault
  pub not_memory : fault ≢ token_fault.NoMemory
  pub line_is : line ≡ refusal_line fault

-- the line answers the text of the reader
pub record IsAnswered (reader : Option (List ℕ)) (line : List ℕ) : Type 0 where
  pub text : List ℕ
  pub gives : GivesText reader text
  pub is_answer : IsAnswerLine text line

-- the line names a fault for which the text of the reader is refused
abbrev pub IsParamRefused : Option (List ℕ) → List ℕ → Type 0
IsParamRefused reader line = IsRefusedBy IsRefusalLine reader line
