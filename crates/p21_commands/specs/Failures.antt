-- Which calls of readers and writers failed in a command, by the counts that `Watched` keeps.
use Rattle.std.specs.Prelude.{◌≡◌, ◌⊎◌, ℕ, List, [], ◌∷◌}
use Rattle.p21_stream_io.specs.Watch.{Watch, one_call_more}
use Rattle.p21_commands.specs.declared.fault.CommandFault.{CommandFault}
use Rattle.p21_commands.specs.declared.fault.CommandFault.TheVariants.{Refused, NoMemory, Read, Write}

-- how many calls of a reader or a writer had failed before a command, and after it
pub record Failures : Type 0 where
  pub before : ℕ
  pub after : ℕ

abbrev pub failures_of : {T : Type 0} → Watch T → Watch T → Failures
failures_of old new = record { before = old.failures; after = new.failures }

-- no call of these failed
abbrev pub NoneFailed : List Failures → Type 0
NoneFailed [] = Unit {0}
NoneFailed (first ∷ others) = (first.after ≡ first.before) × NoneFailed others

-- a call of one of these failed, and no call of the others
abbrev pub OneFailed : List Failures → Type 0
OneFailed [] = ⊥
OneFailed (first ∷ others) = ((first.after ≡ one_call_more first.before) × NoneFailed others)
    ⊎ ((first.after ≡ first.before) × OneFailed others)

-- a read fault comes where a reader failed, a write fault where a writer did, and any other fault where none did
abbrev pub FailedBy : List Failures → List Failures → CommandFault → Type 0
FailedBy readers writers (Refused line) = NoneFailed readers × NoneFailed writers
FailedBy readers writers NoMemory = NoneFailed readers × NoneFailed writers
FailedBy readers writers Read = OneFailed readers × NoneFailed writers
FailedBy readers writers Write = NoneFailed readers × OneFailed writers
