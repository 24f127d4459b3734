-- What is known of checks of several files, and how one of them ends.
use Rattle.std.specs.Prelude.{◌≡◌, ◌⊎◌, ℕ, [], ◌∷◌, refl}
use Rattle.std.specs.Coded.{Coded, code_by, coded_ℕ, coded×}
use Rattle.p21_commands.specs.Check.{IsChecked}
use Rattle.p21_commands.specs.CheckAll.{EndsListing}
use Rattle.p21_commands.specs.Command.{EndsUnder}
use Rattle.p21_commands.specs.Failures.{FailedBy, NoneFailed}
use Rattle.p21_commands.specs.Fault.{Reports}
use Rattle.p21_commands.specs.Files.{IsRefusedUnder}
use Rattle.p21_commands.specs.Load.{DeclaresRead, RefusesRead}
use Rattle.p21_commands.specs.Numbered.{IsCheckedApart, IsUnnumberedUnder}
use Rattle.p21_commands.specs.Status.{done, refused, failed}
use Rattle.p21_commands.specs.Streams.{Stream, Streams}
use Rattle.p21_commands.specs.declared.fault.CommandFault.{CommandFault}
use Rattle.p21_schema.specs.Coding.{schema_code}
use Rattle.p21_spec_schema.specs.Schema.{Schema}

-- the schema under which files are checked, and the highest status of them
pub record Checked : Type 0 where
  pub declared : Schema
  pub highest : ℕ

-- the two stored as numbers and lists, so that two of these can be told apart. Nothing that is claimed rests on it
abbrev pub checked_code : Coded Checked
checked_code = code_by (Schema × ℕ) (coded× schema_code coded_ℕ) (λ c. (c.declared, c.highest))
    (λ p. record { declared = p.0; highest = p.1 }) (λ _. refl)

abbrev pub IsOfCheck : ℕ → Type 0
IsOfCheck status = (status ≡ done) ⊎ (status ≡ refused) ⊎ (status ≡ failed)

-- there is no schema: the fault output has the line of its refusal, or memory ran out, or a call of its reader failed
pub record EndsWithout (schema faults : Stream) (status : ℕ) : Type 0 where
  pub fault : CommandFault
  pub refuses : RefusesRead schema.before fault
  pub failed_by : FailedBy (schema.failures ∷ []) [] fault
  pub reports : Reports fault status faults

-- a reader of a schema that declares this one, of which no call failed
pub record Declares (declared : Schema) (schema : Stream) : Type 0 where
  pub declares : DeclaresRead schema.before declared
  pub unfailed : NoneFailed (schema.failures ∷ [])

abbrev streams_of : Stream → Stream → Stream → Stream → Streams
streams_of schema file output faults = record { schema = schema; file = file; output = output; faults = faults }

-- of a file the same is said as `check` says of it alone, whichever reader the schema came from
abbrev pub EndsChecking : Schema → Stream → Stream → Stream → ℕ → Type 0
EndsChecking declared file output faults status = (schema : Stream) → Declares declared schema
    → EndsUnder IsChecked IsRefusedUnder (streams_of schema file output faults) status

-- the same as `check --names` says
abbrev pub EndsCheckingApart : Schema → Stream → Stream → Stream → ℕ → Type 0
EndsCheckingApart declared file output faults status = (schema : Stream) → Declares declared schema
    → EndsUnder IsCheckedApart IsUnnumberedUnder (streams_of schema file output faults) status

-- the same as `check --all` says
abbrev pub EndsListingOf : ℕ → Schema → Stream → Stream → Stream → ℕ → Type 0
EndsListingOf most declared file output faults status = (schema : Stream) → Declares declared schema
    → EndsListing most (streams_of schema file output faults) status
