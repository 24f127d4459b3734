-- What a session holds between two calls.
use Rattle.std.specs.Prelude.{Option, refl}
use Rattle.std.specs.Coded.{Coded, code_by, coded×, coded_option}
use Rattle.p21_spec_basics.specs.Limits.{Limits}
use Rattle.p21_spec_laws.specs.Keeping.{Kept}
use Rattle.p21_schema.specs.Coding.{schema_code}
use Rattle.p21_spec_schema.specs.Schema.{Schema}
use Rattle.p21_stream_statements.specs.contracts.refusal.Refusal as refusal_row
use Rattle.p21_stream_statements.specs.declared.refusal.Refusal.{Refusal}
use Rattle.p21_stream_statements.specs.StatementReader as statements
use Rattle.p21_stream_statements.specs.contracts.statement_reader.StatementReader as statements_row
use Rattle.p21_stream_kept.specs.contracts.kept.Kept as kept_row
use Rattle.p21_values.specs.contracts.limits.Limits as limits_row

-- the schema and the limits, the statement reader, what is kept of these, and the refusal
pub record SessionHeld : Type 0 where
  pub schema : Schema
  pub limits : Limits
  pub statements : statements.Held
  pub kept : Kept
  pub refused : Option Refusal

-- what a caller may know besides the history
abbrev pub schema_of : SessionHeld → Schema
schema_of held = held.schema

abbrev pub limits_of : SessionHeld → Limits
limits_of held = held.limits

abbrev pub refusal_of : SessionHeld → Option Refusal
refusal_of held = held.refused

-- what is held stored as numbers and lists, so that two can be told apart; nothing that is claimed rests on it
abbrev pub held_code : Coded SessionHeld
held_code = code_by (((Schema × Limits) × (statements.Held × Kept)) × Option Refusal)
    (coded× (coded× (coded× schema_code limits_row.the_row.coded) (coded× statements_row.the_row.coded kept_row.the_row.coded))
    (coded_option refusal_row.the_row.coded))
    (λ h. (((h.schema, h.limits), (h.statements, h.kept)), h.refused))
    (λ p. record { schema = p.0.0.0; limits = p.0.0.1; statements = p.0.1.0; kept = p.0.1.1; refused = p.1 }) (λ _. refl)
