-- What each statement does to what is kept.
use Rattle.std.specs.Prelude.{◌≢◌, ◌≤◌, ◌+◌, ℕ, List, [], ◌∷◌, ◌++◌, Result, Ok, Err}
use Rattle.p21_spec_basics.specs.Limits.{Limits}
use Rattle.p21_spec_laws.specs.Keeping.{Keeps, Kept}
use Rattle.p21_spec_laws.specs.Offending.{Offends}
use Rattle.p21_spec_exchange.specs.Record.{Record}
use Rattle.p21_spec_exchange.specs.Statement.{SectionLine, Statement, instance, section}
use Rattle.p21_spec_file.specs.Reference.{Need}
use Rattle.p21_spec_schema.specs.Schema.{Schema}
use Rattle.p21_stream_statements.specs.Fault.{fault_number}
use Rattle.p21_stream_statements.specs.declared.fault.Fault.{Fault}
use Rattle.p21_stream_statements.specs.declared.fault.Fault.TheVariants.{NoMemory}
use Rattle.p21_stream_kept.specs.Found.{HasFound}

-- a line of this size is within its limit, and with it the file within its own
abbrev pub FitsLimits : Limits → ℕ → ℕ → Type 0
FitsLimits limits so_far size = (size ≤ limits.record_canonical) × (so_far + (size + 1) ≤ limits.file_canonical)

-- what a statement gives, for all statements of which this is kept: the statement is kept too, or it is refused by its number
abbrev pub StepGives : Schema → Limits → Kept → Statement → Result (Unit {0}) Fault → Kept → Type 0
StepGives s limits old statement (Ok done) new = (given : List Statement) → Keeps s limits given old
    → Keeps s limits (given ++ statement ∷ []) new
StepGives s limits old statement (Err fault) new = fault ≢ NoMemory → (given : List Statement) → Keeps s limits given old
    → Offends s limits given (old.bytes + old.framing) statement (fault_number fault)

-- the same of a section line without a name, whatever the schema
abbrev pub TakesLine : Limits → Kept → SectionLine → Result (Unit {0}) Fault → Kept → Type 0
TakesLine limits old line result new = (s : Schema) → StepGives s limits old (section line) result new

-- the same of an instance, by what is found of it
abbrev pub FoundGives : Schema → Limits → Kept → ℕ → List ℕ → List Need → List ℕ → Result (Unit {0}) Fault → Kept → Type 0
FoundGives s limits old n entities needs text result new = (record_ : Record) → HasFound s n record_ entities needs text
    → StepGives s limits old (instance n record_) result new

-- the bytes that are kept stay within the limit of a file
abbrev pub StepKeepsBound : Limits → Kept → Kept → Type 0
StepKeepsBound limits old new = old.bytes ≤ limits.file_canonical → new.bytes ≤ limits.file_canonical
