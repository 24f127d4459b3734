-- A statement that ends the reading.
use Rattle.std.proofs.Common.{◌≡◌, ◌+◌, ℕ, List, [], ◌∷◌, ◌++◌, refl, subst}
use Rattle.p21_spec_basics.specs.Limits.{Limits}
use Rattle.p21_spec_laws.specs.Taken.{AreStatementsTaken}
use Rattle.p21_spec_laws.proofs.Keeps.{keeps-size}
use Rattle.p21_spec_laws.proofs.Offenders.{offender-dead}
use Rattle.p21_spec_laws.specs.Keeping.{Keeps}
use Rattle.p21_spec_laws.specs.Offending.{Offends}
use Rattle.p21_spec_exchange.specs.Statement.{Statement}
use Rattle.p21_spec_file.specs.Accepted.{IsDead}
use Rattle.p21_spec_schema.specs.Schema.{Schema}
use Rattle.p21_spec_schema.specs.WellFormed.{IsWellFormed}
use Rattle.p21_stream_statements.specs.Fault.{fault_number}
use Rattle.p21_stream_statements.specs.declared.fault.Fault.{Fault}
use Rattle.p21_stream_statements.specs.declared.refusal.Refusal.{Refusal}
use Rattle.p21_stream_sieve.proofs.Sifted.{all-passed, refused-dead, taken-front}
use Rattle.p21_stream_sieve.specs.Sifting.{AreSifted}
use Rattle.p21_stream_sieve.specs.SieveSteps.{Ends}
use Rattle.p21_stream_sieve.specs.declared.sieve.Sieve.{Sieve}

-- nothing that is accepted begins with bytes that end it
pub ends-dead : (s : Schema) → IsWellFormed s → (limits : Limits) (given : List Statement) (sieve : Sieve) (statement : Statement)
    (fault : Fault) → Ends s limits given sieve statement fault → (bytes : List ℕ) → AreStatementsTaken bytes (given ++ statement ∷ [])
    → IsDead s limits bytes
ends-dead s formed limits given sieve statement fault ends bytes taken = by sieve.refusals.items ends.sifted where
  by : (refusals : List Refusal) → AreSifted s given ends.passed refusals → IsDead s limits bytes
  by [] sifted =
      let same : ends.passed ≡ given = all-passed s given ends.passed [] sifted refl in
      let size : ℕ = sieve.kept.bytes + sieve.kept.framing in
      let keeps = subst (λ (sts : List Statement). Keeps s limits sts sieve.kept) same ends.keeps in
      offender-dead s formed limits bytes given size (keeps-size s limits given sieve.kept keeps).0 statement (fault_number fault) taken
      (subst (λ (sts : List Statement). Offends s limits sts size statement (fault_number fault)) same ends.offends)
  by (first ∷ others) sifted = refused-dead s limits bytes given ends.passed (first ∷ others) sifted first others refl
      (taken-front bytes given (statement ∷ []) taken)
