use Rattle.p21_shorter_tokens.proofs.Respelling.{Leads}
use Rattle.p21_shorter_tokens.proofs.respelled_text.append_by_steps.Given as goal

-- the bytes so far lead to the mode
abbrev pub invariant-loop-index : goal.invariant-loop-index
invariant-loop-index l = Leads l.rest l.index l.characters l.mode l.fn.draft l.draft
