-- The laws of a session while bytes come.
use Rattle.std.proofs.Common.{◌≡◌, ◌≢◌, ◌≤◌, ◌+◌, ℕ, List, [], ◌∷◌, ◌++◌, length, take, Some, None, Err, sym, ap, subst, ◌∙◌}
use Rattle.std.proofs.lemmas.List.{append-nil}
use Rattle.p21_spec_basics.specs.Limits.{Limits}
use Rattle.p21_spec_laws.specs.Stored.{with_lines}
use Rattle.p21_spec_laws.specs.Taken.{AreStatementsTaken}
use Rattle.p21_spec_laws.proofs.Keeps.{keeps-at_start, keeps-held, keeps-size}
use Rattle.p21_spec_laws.proofs.Offenders.{offender-dead}
use Rattle.p21_spec_laws.specs.Keeping.{Keeps, Kept}
use Rattle.p21_spec_exchange.specs.Statement.{Statement}
use Rattle.p21_spec_file.specs.Accepted.{IsDead}
use Rattle.p21_spec_schema.specs.Schema.{Schema}
use Rattle.p21_spec_schema.specs.WellFormed.{IsWellFormed}
use Rattle.p21_stream_statements.specs.Fault.{fault_number}
use Rattle.p21_stream_statements.specs.declared.fault.Fault.{Fault}
use Rattle.p21_stream_statements.specs.declared.fault.Fault.TheVariants.{NoMemory}
use Rattle.p21_stream_statements.proofs.Refusing.{begins-dead}
use Rattle.p21_stream_statements.proofs.Seen.{looked-up_to}
use Rattle.p21_stream_statements.proofs.Stepping.{taken-looked}
use Rattle.p21_stream_statements.specs.StatementReader as statements
use Rattle.p21_stream_statements.specs.StatementReader.{IsSeenAt, StatementHistory, bytes_looked_at, limits_of}
use Rattle.p21_stream_kept.specs.Steps as kept_steps
use Rattle.p21_stream.specs.Laws.{DeadByStatement, DeadByStep, HeldWhileLive, LiveAtStart, LiveByPiece, LiveByStatement, LiveByToken}
use Rattle.p21_stream.specs.Walk.{IsDeadWithin}

pub live-at_start : LiveAtStart
live-at_start s limits held reads are = record { reads = reads; limits_are = are; keeps = keeps-at_start s limits with_lines }

pub live-by_token : LiveByToken
live-by_token s limits held next kept reading tokens piece count live goes same = record {
  reading = goes.reading;
  live = record {
    reads = goes.live;
    limits_are = same ∙ live.limits_are;
    keeps = subst (λ (given : List Statement). Keeps s limits given kept) (sym (goes.given_are ∙ append-nil reading.given)) live.keeps;
  };
  taken_are = goes.taken_are;
  seen_at = goes.seen_at;
  one_more = goes.one_more;
}

pub live-by_piece : LiveByPiece
live-by_piece s limits held next kept reading piece live reads same =
    record { reads = reads; limits_are = same ∙ live.limits_are; keeps = live.keeps }

pub live-by_statement : LiveByStatement
live-by_statement s limits held next kept after reading tokens piece count statement live goes same takes = record {
  reading = goes.reading;
  live = record {
    reads = goes.live;
    limits_are = same ∙ live.limits_are;
    keeps = subst (λ (given : List Statement). Keeps s limits given after) (sym goes.given_are) (takes reading.given live.keeps);
  };
  taken_are = goes.taken_are;
  seen_at = goes.seen_at;
  one_more = goes.one_more;
}

-- a statement that is refused where the reader stands behind it
pub dead-behind : (s : Schema) → IsWellFormed s → (limits : Limits) (next : statements.Held) (kept after : Kept)
    (reading on : StatementHistory) (piece : List ℕ) (count : ℕ) (statement : Statement) (fault : Fault) → Keeps s limits reading.given kept
    → statements.IsLive next on
    → on.taken ≡ reading.taken ++ take count piece → on.given ≡ reading.given ++ statement ∷ [] → IsSeenAt on.seen piece count
    → count ≤ length piece → kept_steps.StepGives s limits kept statement (Err fault) after → fault ≢ NoMemory
    → IsDeadWithin s limits reading piece
dead-behind s formed limits next kept after reading on piece count statement fault keeps live taken_are given_are seen_at within refuses
    other =
    let offends = refuses other reading.given keeps in
    let are : AreStatementsTaken (bytes_looked_at on) (reading.given ++ statement ∷ []) =
    subst (λ (given : List Statement). AreStatementsTaken (bytes_looked_at on) given) given_are (taken-looked next on live) in
    let dead : IsDead s limits (bytes_looked_at on) =
    offender-dead s formed limits (bytes_looked_at on) reading.given (kept.bytes + kept.framing)
    (keeps-size s limits reading.given kept keeps).0 statement (fault_number fault) are offends in
    let up = looked-up_to reading.taken piece count on.seen within seen_at in
    let Bytes : List ℕ → Type 0 = λ taken. IsDead s limits (taken ++ elim on.seen [ None ↦ [] | Some byte ↦ byte ∷ [] ]) in
    record {
      upto = up.upto;
      within = up.within;
      dead =
          subst (λ (l : List ℕ). IsDead s limits l) up.looked_are (subst Bytes taken_are dead);
    }

pub dead-by_statement : DeadByStatement
dead-by_statement s formed limits held next kept after reading tokens piece count statement fault live goes within refuses other =
    dead-behind s formed limits next kept after reading goes.reading piece count statement fault live.keeps goes.live goes.taken_are
    goes.given_are goes.seen_at within refuses other

pub dead-by_step : DeadByStep
dead-by_step s limits held next kept reading piece fault live at refuses other =
    let r = refuses other reading live.reads at in
    record {
      upto = r.count;
      within = r.within;
      dead =
          begins-dead (limits_of held) (reading.taken ++ take r.count piece) limits (sym (ap (λ p. p.0) live.limits_are))
          (sym (ap (λ p. p.1) live.limits_are)) s fault r.begins_none;
    }

pub held-while_live : HeldWhileLive
held-while_live s limits held kept reading live pending depth opens =
    let file = live.reads.of_file in
    keeps-held s limits reading.taken reading.given kept live.keeps pending depth opens.pending_is opens.depth_is opens.ended_are
    file.structure file.text file.is_file file.are_first
