use Rattle.std.proofs.Common.{ℕ, Option, drop}
use Rattle.p21_stream_statements.specs.declared.fault.Fault.{Fault}
use Rattle.p21_stream_kept.specs.Inside.{references_of, stored_in}
use Rattle.p21_stream_kept.specs.Served.{AnswersUnserved}
use Rattle.p21_stream_kept.proofs.served.first_unserved.Given as goal

abbrev pub invariant-loop-reference : goal.invariant-loop-reference
invariant-loop-reference l =
    (result : Option (ℕ × Fault)) → AnswersUnserved l.schema (stored_in l.stored) (references_of (drop l.reference-index l.waiting)) result
    → AnswersUnserved l.schema (stored_in l.stored) (references_of l.waiting) result
