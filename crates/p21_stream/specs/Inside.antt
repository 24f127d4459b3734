-- What the fields hold.
use Rattle.p21_spec_basics.specs.Limits.{Limits}
use Rattle.p21_spec_file.specs.Held as files
use Rattle.p21_spec_schema.specs.Schema.{Schema}
use Rattle.p21_stream.specs.Held.{SessionHeld}
use Rattle.p21_stream.specs.declared.held.Held.{Held}
use Rattle.p21_stream.specs.declared.progress.Progress.{Progress}

-- how far a file is read, under a schema and limits
abbrev pub held_in : Schema → Limits → Progress → SessionHeld
held_in s limits progress = record {
  schema = s;
  limits = limits;
  statements = progress.walk.statements;
  kept = progress.walk.kept;
  refused = progress.refused;
}

-- the numbers of the definition
abbrev pub held_of : Held → files.Held
held_of held = record { pending = held.pending; depth = held.depth; kept = held.kept; needs = held.needs }
