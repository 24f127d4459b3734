use Rattle.std.proofs.Common.{◌+◌, sym, ◌∙◌, arith, refl}
use Rattle.std.proofs.lemmas.List.{take_more}
use Rattle.p21_shorter_tokens.proofs.Respelling.{Leads, leads-put, leads-skip, unit-respelled}
use Rattle.p21_shorter_tokens.proofs.respelled_text.append_by_steps.Goals.{in-Skip, in-Put+else-not-append_character}
use Rattle.p21_shorter_tokens.proofs.respelled_text.append_by_steps.Goals as goal

pub returns-then-is_inside-clause-some : goal.returns-then-is_inside-clause-some
returns-then-is_inside-clause-some c =
    let bytes = c.args.rest.now in
    let i = c.loop-index.index in
    let leads : Leads bytes (i + 1) c.match-advance.characters c.match-advance.mode c.args.draft.now c.match-advance.draft = elim c.match-advance.branch [
      | in-Skip w ↦ rw (w.draft-is, w.mode-is, w.characters-is) (leads-skip bytes i _ _ _ _ _ _ (take_more bytes i 0 (omega arith)) c.loop-index.invariant (sym c.advance.ensures ∙ w.in-Skip.is))
      | in-Put+else-not-append_character w ↦
          rw (w.draft-is, w.mode-is, w.characters-is) (leads-put bytes i _ _ _ _ _ _ _ _ (take_more bytes i 0 (omega arith)) c.loop-index.invariant (sym c.advance.ensures ∙ w.in-Put.is) (w.if-not-append_character.ensures {u = tt}))
    ] in
    unit-respelled bytes (i + 1) _ _ _ _ (omega arith) leads (c.if-is_inside.ensures {u = tt} refl)

pub loop-index-preserved : goal.loop-index-preserved
loop-index-preserved c =
    let bytes = c.args.rest.now in
    let i = c.loop-index.index in
    elim c.match-advance.branch [
      | in-Skip w ↦ rw (w.draft-is, w.mode-is, w.characters-is) (leads-skip bytes i _ _ _ _ _ _ (take_more bytes i 0 (omega arith)) c.loop-index.invariant (sym c.advance.ensures ∙ w.in-Skip.is))
      | in-Put+else-not-append_character w ↦
          rw (w.draft-is, w.mode-is, w.characters-is) (leads-put bytes i _ _ _ _ _ _ _ _ (take_more bytes i 0 (omega arith)) c.loop-index.invariant (sym c.advance.ensures ∙ w.in-Put.is) (w.if-not-append_character.ensures {u = tt}))
    ]
