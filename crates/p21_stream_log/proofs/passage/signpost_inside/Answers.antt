use Rattle.std.proofs.Common.{inl, ℕ, List, ◌==◌, Option, length, ap, subst, sym, ◌∙◌}
use Rattle.std.proofs.lemmas.Bool.{eqb-true}
use Rattle.std.proofs.lemmas.List.{nil_from_length}
use Rattle.p21_stream_log.proofs.Openings.{not-true}
use Rattle.p21_stream_log.proofs.Passages.{found-in_remark}
use Rattle.p21_stream_resume.specs.Standing.{FindsInString}
use Rattle.p21_stream_resume.specs.declared.signpost.Signpost.{Signpost}
use Rattle.p21_stream_log.proofs.passage.signpost_inside.Goals as goal

pub returns-in-Some : goal.returns-in-Some
returns-in-Some c = λ state lexed. inl (subst (λ (o : Option (ℕ × Signpost)). FindsInString c.args.statement.now o) c.in-Some.is
    (c.signpost_in_string.ensures state lexed))

pub returns-then-is_empty : goal.returns-then-is_empty
returns-then-is_empty c = λ state lexed.
    found-in_remark c.args.statement.now c.args.behind.now c.signpost_in_remark.result
    (subst (λ (o : Option (ℕ × Signpost)). FindsInString c.args.statement.now o) c.in_default.is (c.signpost_in_string.ensures state lexed))
    (nil_from_length c.args.behind.now (eqb-true (length c.args.behind.now) 0 (sym c.is_empty.ensures ∙ c.if-is_empty.true)))
    (c.signpost_in_remark.ensures state lexed)

pub returns-else-is_empty : goal.returns-else-is_empty
returns-else-is_empty c = λ state lexed. (
  subst (λ (o : Option (ℕ × Signpost)). FindsInString c.args.statement.now o) c.in_default.is (c.signpost_in_string.ensures state lexed),
  λ nothing. absurd (not-true (sym c.if-is_empty.false ∙ (c.is_empty.ensures ∙ ap (λ (l : List ℕ). length l == 0) nothing))),
)
