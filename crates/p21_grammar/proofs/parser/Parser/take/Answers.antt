use Rattle.std.proofs.Common.{◌≤◌, ap, sym, subst, ◌∙◌}
use Rattle.p21_grammar.proofs.Holding.{answers_with, refuses, not_refused, was_refused, reached-on, reaches-within, refusal-known, shaped-event}
use Rattle.p21_grammar.proofs.Expected.{could-answered, could-refused}
use Rattle.p21_grammar.proofs.Refused.{refused-kept, refused-stage}
use Rattle.p21_grammar.proofs.Reopening.{stays-or-ends}
use Rattle.p21_grammar.specs.Held.{Held}
use Rattle.p21_grammar.specs.Machine.{spot_of}
use Rattle.p21_tokens.specs.Token.{meant}
use Rattle.p21_grammar.proofs.parser.Parser.take.Goals as goal

pub returns-in-Some-clause-gives : goal.returns-in-Some-clause-gives
returns-in-Some-clause-gives c = λ history stands open_.
    absurd (was_refused c.self.inside.machine.stage (spot_of c.self.inside.machine) c.self.inside.depth c.self.inside.refused c.args.self.now c.in-Some.fault c.self.view_is c.in-Some.is history stands open_)

pub invariant_of-self : goal.invariant_of-self
invariant_of-self c =
    let reached = reached-on c.self.inside.machine.stage (spot_of c.self.inside.machine) (meant c.args.token) c.step.new.self c.in-Ok.event c.self.invariant.ran c.in-Ok.ensures.ok in
    record { ran = reached; depth_is = λ none. c.depth-self-inside.ensures; within = subst (λ z. z ≤ 64) (sym c.depth-self-inside.ensures) (reaches-within c.step.new.self.stage (spot_of c.step.new.self) reached) }

pub returns-in-Ok-clause-gives : goal.returns-in-Ok-clause-gives
returns-in-Ok-clause-gives c = λ history stands.
    answers_with c.self.inside.machine.stage (spot_of c.self.inside.machine) c.self.inside.depth (meant c.args.token) c.step.new.self c.in-Ok.event c.depth-self-inside.result c.self.inside.refused
    c.self.invariant.ran c.in-Ok.ensures.ok c.depth-self-inside.ensures c.in_default.is history
    (not_refused c.self.inside.machine.stage (spot_of c.self.inside.machine) c.self.inside.depth c.self.inside.refused c.args.self.now c.self.view_is c.in_default.is history stands)

pub returns-in-Ok-clause-shaped : goal.returns-in-Ok-clause-shaped
returns-in-Ok-clause-shaped c = shaped-event c.in-Ok.event c.in-Ok.ensures.shaped

pub returns-in-Ok-clause-within : goal.returns-in-Ok-clause-within
returns-in-Ok-clause-within c =
    subst (λ z. z ≤ 64) (sym c.depth-self-inside.ensures) (reaches-within c.step.new.self.stage (spot_of c.step.new.self)
    (reached-on c.self.inside.machine.stage (spot_of c.self.inside.machine) (meant c.args.token) c.step.new.self c.in-Ok.event c.self.invariant.ran c.in-Ok.ensures.ok))

pub returns-in-Err-clause-gives : goal.returns-in-Err-clause-gives
returns-in-Err-clause-gives c = λ history stands open_.
    refuses c.self.inside.machine.stage (spot_of c.self.inside.machine) c.self.inside.depth (meant c.args.token) c.in-Err.fault c.stand_refused.new.self.stage (spot_of c.stand_refused.new.self)
    c.self.invariant.ran c.in-Err.ensures.err history
    (not_refused c.self.inside.machine.stage (spot_of c.self.inside.machine) c.self.inside.depth c.self.inside.refused c.args.self.now c.self.view_is c.in_default.is history stands) open_

pub returns-in-Some-clause-known : goal.returns-in-Some-clause-known
returns-in-Some-clause-known c = refusal-known c.args.self.now

pub returns-in-Ok-clause-known : goal.returns-in-Ok-clause-known
returns-in-Ok-clause-known c = refusal-known _

pub returns-in-Err-clause-known : goal.returns-in-Err-clause-known
returns-in-Err-clause-known c = refusal-known _

pub returns-in-Ok-clause-stage : goal.returns-in-Ok-clause-stage
returns-in-Ok-clause-stage c =
    stays-or-ends c.self.inside.machine.stage (spot_of c.self.inside.machine) c.self.inside.depth (meant c.args.token) c.step.new.self c.in-Ok.event c.depth-self-inside.result c.self.inside.refused c.self.inside.refused c.args.self.now c.self.view_is
    c.self.invariant.ran c.in-Ok.ensures.ok c.depth-self-inside.ensures c.in_default.is

pub returns-in-Err-clause-stage : goal.returns-in-Err-clause-stage
returns-in-Err-clause-stage c =
    refused-stage c.self.inside.machine.stage c.stage-stage.result (spot_of c.self.inside.machine) c.step.new.self c.stand_refused.new.self c.stage-stage.ensures c.in-Err.fault c.in-Err.ensures.kept c.stand_refused.ensures
    ∙ ap (λ (v : Held). v.stage) c.self.view_is

pub returns-in-Err-clause-kept : goal.returns-in-Err-clause-kept
returns-in-Err-clause-kept c = λ unexpected.
    refused-kept c.self.inside.machine.stage c.stage-stage.result (spot_of c.self.inside.machine) c.step.new.self c.stand_refused.new.self c.stage-stage.ensures c.in-Err.fault c.in-Err.ensures.kept c.stand_refused.ensures unexpected
    ∙ ap (λ (v : Held). v.pending) c.self.view_is

pub returns-in-Ok-clause-could : goal.returns-in-Ok-clause-could
returns-in-Ok-clause-could c = λ none.
    could-answered c.self.inside.machine.stage (spot_of c.self.inside.machine) c.self.inside.depth c.self.inside.refused c.args.self.now (meant c.args.token) c.step.new.self c.in-Ok.event c.self.view_is c.self.invariant.ran c.in-Ok.ensures.ok

pub returns-in-Err-clause-could : goal.returns-in-Err-clause-could
returns-in-Err-clause-could c = λ none.
    could-refused c.self.inside.machine.stage (spot_of c.self.inside.machine) c.self.inside.depth c.self.inside.refused c.args.self.now (meant c.args.token) c.in-Err.fault c.self.view_is c.self.invariant.ran c.in-Err.ensures.err
