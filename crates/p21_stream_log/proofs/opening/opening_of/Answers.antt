use Rattle.std.proofs.Common.{inl, inr, refl}
use Rattle.p21_stream_log.proofs.Openings.{not-true, opens-statement, opens-untold}
use Rattle.p21_stream_log.proofs.opening.opening_of.Goals as goal

pub returns-then-begins_with-2 : goal.returns-then-begins_with-2
returns-then-begins_with-2 c =
    opens-untold c.args.bytes.now c.behind_separators-rest.result.now c.behind_separators-rest.ensures
    (λ ends. not-true (c.if-begins_with.ensures.1 ends)) (inl (c.if-begins_with-2.ensures.0 refl))

pub returns-then-begins_with-3 : goal.returns-then-begins_with-3
returns-then-begins_with-3 c =
    opens-untold c.args.bytes.now c.behind_separators-rest.result.now c.behind_separators-rest.ensures
    (λ ends. not-true (c.if-begins_with.ensures.1 ends)) (inr (inl (c.if-begins_with-3.ensures.0 refl)))

pub returns-then-begins_with-4 : goal.returns-then-begins_with-4
returns-then-begins_with-4 c =
    opens-untold c.args.bytes.now c.behind_separators-rest.result.now c.behind_separators-rest.ensures
    (λ ends. not-true (c.if-begins_with.ensures.1 ends)) (inr (inr (c.if-begins_with-4.ensures.0 refl)))

pub returns : goal.returns
returns c =
    opens-statement c.args.bytes.now c.behind_separators-rest.result.now c.behind_separators-rest.ensures
    (λ ends. not-true (c.if-begins_with.ensures.1 ends))
    (λ may. elim may [
      | inl short ↦ not-true (c.if-begins_with-2.ensures.1 short)
      | inr (inl short) ↦ not-true (c.if-begins_with-3.ensures.1 short)
      | inr (inr long) ↦ not-true (c.if-begins_with-4.ensures.1 long)
    ])
