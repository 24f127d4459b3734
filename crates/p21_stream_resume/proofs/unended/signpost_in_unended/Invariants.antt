use Rattle.p21_stream_resume.proofs.EndlessRemarks.{IsAlong}
use Rattle.p21_stream_resume.specs.Lexing.{AreLexed}
use Rattle.p21_tokens_automaton.specs.Reading.{State}
use Rattle.p21_stream_resume.proofs.unended.signpost_in_unended.Given as goal

-- of a statement that is lexed
abbrev pub invariant-loop-at : goal.invariant-loop-at
invariant-loop-at l = (behind : State) → AreLexed l.statement behind → IsAlong l.statement l.at l.mode l.last
