use Rattle.std.proofs.Common.{ℕ, Err, Option, subst, sym}
use Rattle.std.specs.List.{AllByRecursion as Each}
use Rattle.p21_spec_laws.specs.Keeping.{IsServedBy, Kept}
use Rattle.p21_spec_laws.specs.Waiting.{Reference}
use Rattle.p21_stream_statements.specs.Source.{IsOfBytes}
use Rattle.p21_stream_statements.specs.declared.fault.Fault.{Fault}
use Rattle.p21_stream_kept.specs.Served.{AnswersUnserved}
use Rattle.p21_stream.proofs.Ending.{statements-refused, reference-of_bytes, reference-refused}
use Rattle.p21_stream.specs.Ending.{EndGives}
use Rattle.p21_stream.proofs.progress.check_end.Goals as goal

pub returns-in-Err-clause-err : goal.returns-in-Err-clause-err
returns-in-Err-clause-err c = statements-refused c.args.schema.now c.args.statements c.args.kept.now c.in-Err.fault c.refused.result
    c.refused.ensures c.in-Err.ensures.gives

pub returns-in-Err-clause-kind : goal.returns-in-Err-clause-kind
returns-in-Err-clause-kind c = subst IsOfBytes (sym c.refused.ensures) c.in-Err.ensures.kind

pub returns-in-Some-clause-err : goal.returns-in-Some-clause-err
returns-in-Some-clause-err c =
    let kept : Kept = c.prepare_unserved.new.self in
    subst (λ (k : Kept). EndGives c.args.schema.now c.args.statements k (Err c.unserved.result)) c.prepare_unserved.ensures.unchanged
    (reference-refused c.args.schema.now c.well_formed-2.ensures c.args.statements kept c.unserved.result c.in-Ok.ensures.gives
    c.in-Some.found.0 c.in-Some.found.1
    (subst (λ (o : Option (ℕ × Fault)). AnswersUnserved c.args.schema.now kept.stored kept.waiting o) c.in-Some.is
    c.first_unserved.ensures))

pub returns-in-Some-clause-kind : goal.returns-in-Some-clause-kind
returns-in-Some-clause-kind c =
    let kept : Kept = c.prepare_unserved.new.self in
    subst IsOfBytes (sym c.unserved.ensures)
    (reference-of_bytes c.args.schema.now kept.stored kept.waiting c.in-Some.found.0 c.in-Some.found.1
    (subst (λ (o : Option (ℕ × Fault)). AnswersUnserved c.args.schema.now kept.stored kept.waiting o) c.in-Some.is
    c.first_unserved.ensures))

pub returns-clause-ok : goal.returns-clause-ok
returns-clause-ok c = (
  c.in-Ok.ensures.gives,
  subst (λ (k : Kept). Each (λ (r : Reference). IsServedBy c.args.schema.now k.stored r.1) k.waiting) c.prepare_unserved.ensures.unchanged
      (c.in_default-first_unserved.ensures {u = tt}),
)
