-- A schema over a reader.
use Rattle.std.specs.Prelude.{Option, ◌≡◌, ◌≢◌, ℕ, List, ◌++◌, codes, decimal}
use Rattle.p21_commands.specs.Refusing.{IsRefusedBy, RefusesWith}
use Rattle.p21_commands.specs.Transfer.{GivesText}
use Rattle.p21_commands.specs.declared.fault.CommandFault.{CommandFault}
use Rattle.p21_express_outline.specs.Fault.{fault_number, fault_name}
use Rattle.p21_express_outline.specs.declared.fault.SchemaFault.{SchemaFault}
use Rattle.p21_express_outline.specs.declared.fault.SchemaFault.TheVariants as schema_fault
use Rattle.p21_spec_schema.specs.Declared.{Declares}
use Rattle.p21_spec_schema.specs.Schema.{Schema}

-- `schema refused SNUMBER NAME` and a line feed
abbrev pub refusal_line : SchemaFault → List ℕ
refusal_line fault = codes "schema refused S" ++ (decimal (fault_number fault) ++ (codes " " ++ (fault_name fault ++ codes "\n")))

-- the text declares no schema; the line names a fault other than want of memory
pub record IsRefusalLine (text line : List ℕ) : Type 0 where
  pub fault : SchemaFault
  pub declares_none : (s : Schema) → Declares text s → ⊥
  pub not_memory : fault ≢ schema_fault.NoMemory
  pub line_is : line ≡ refusal_line fault

-- the text of the reader declares the schema
pub record DeclaresRead (reader : Option (List ℕ)) (schema : Schema) : Type 0 where
  pub text : List ℕ
  pub gives : GivesText reader text
  pub declares : Declares text schema

-- the text of the reader declares no schema, and the line says so
abbrev pub IsSchemaRefused : Option (List ℕ) → List ℕ → Type 0
IsSchemaRefused reader line = IsRefusedBy IsRefusalLine reader line

-- the text of the reader is refused by its line, or memory runs out, or the reader fails
abbrev pub RefusesRead : Option (List ℕ) → CommandFault → Type 0
RefusesRead reader fault = RefusesWith (IsSchemaRefused reader) fault
