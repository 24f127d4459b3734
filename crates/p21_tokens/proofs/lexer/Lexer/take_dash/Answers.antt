use Rattle.std.proofs.Common.{ap, sym, ◌∙◌}
use Rattle.p21_tokens_automaton.specs.Reading.{marker_of}
use Rattle.p21_tokens.specs.Held.{Held}
use Rattle.p21_tokens.proofs.Stepping.{refused-take_dash, took-take_dash, same-counts_itself, same-limits_itself}
use Rattle.p21_tokens.proofs.lexer.Lexer.take_dash.Goals as goal

pub returns-in_default : goal.returns-in_default
returns-in_default c = (
  same-limits_itself c.args.self.now,
  refused-take_dash c.args.self.now c.args.byte c.requires.action (ap (λ (h : Held). marker_of h.pending_bytes) (sym c.self.view_is) ∙ (ap marker_of (sym c.deref.ensures.value) ∙ (sym c.marker_of.ensures ∙ c.in_default.is)))
      (λ _. (c.requires.file, λ _. c.requires.statement)),
  same-counts_itself c.args.self.now,
)

pub returns-in-Ok : goal.returns-in-Ok
returns-in-Ok c =
    took-take_dash c.args.self.now c.args.byte c.in-Some.mode c.keep.new.self c.requires.action
    (ap (λ (h : Held). marker_of h.pending_bytes) (sym c.self.view_is) ∙ (ap marker_of (sym c.deref.ensures.value) ∙ (sym c.marker_of.ensures ∙ c.in-Some.is))) c.in-Ok.ensures.ok
