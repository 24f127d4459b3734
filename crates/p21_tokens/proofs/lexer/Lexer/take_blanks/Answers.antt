use Rattle.std.proofs.Common.{sym, ap, ◌∙◌, subst}
use Rattle.p21_tokens.specs.Held.{Held}
use Rattle.p21_tokens.proofs.Running.{ran-passed}
use Rattle.p21_tokens_automaton.specs.Run.{EachHasAction}
use Rattle.p21_tokens_automaton.specs.declared.mode.Mode.{Mode}
use Rattle.p21_tokens_automaton.specs.declared.mode.Action.TheVariants.{Pass}
use Rattle.p21_tokens.proofs.lexer.Lexer.take_blanks.Goals as goal

pub returns : goal.returns
returns c =
    ran-passed c.args.self.now c.args.bytes.now c.pass_run.result c.blanks.result c.pass_run.new.self c.pass_run.ensures.within
    (subst (λ (m : Mode). EachHasAction m c.args.bytes.now c.blanks.result (λ b. Pass m)) (sym c.in-Between.is ∙ ap (λ (h : Held). h.mode) c.self.view_is) c.blanks.ensures.are) c.pass_run.ensures.held
