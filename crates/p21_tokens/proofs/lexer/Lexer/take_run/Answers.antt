use Rattle.std.proofs.Common.{ap, subst, arith}
use Rattle.p21_tokens.specs.Held.{Held}
use Rattle.p21_tokens.proofs.Running.{ran-passed, ran-kept_or_failed, ran-put_or_failed, ran-utf8_or_failed, ran-named, ran-none}
use Rattle.p21_tokens_automaton.specs.Run.{EachHasAction, AreCharacterBytes, AreNameDigits}
use Rattle.p21_tokens_automaton.specs.declared.mode.Mode.{Mode}
use Rattle.p21_tokens_automaton.specs.declared.mode.Action.TheVariants.{Pass, Keep, Put}
use Rattle.p21_tokens.proofs.lexer.Lexer.take_run.Goals as goal

pub returns-in-Passed : goal.returns-in-Passed
returns-in-Passed c =
    ran-passed c.args.self.now c.args.piece.now c.pass_run.result c.in-Passed.count c.pass_run.new.self c.pass_run.ensures.within
    (subst (λ (m : Mode). EachHasAction m c.args.piece.now c.in-Passed.count (λ b. Pass m)) (ap (λ (h : Held). h.mode) c.self.view_is) (c.in-Passed.ensures {u = tt})) c.pass_run.ensures.held

pub returns-else-count-eq0 : goal.returns-else-count-eq0
returns-else-count-eq0 c =
    ran-kept_or_failed c.args.self.now c.args.piece.now c.in-PendingBytes.count c.keep_run.new.self c.keep_run.result (omega arith)
    (subst (λ (m : Mode). EachHasAction m c.args.piece.now c.in-PendingBytes.count (λ b. Keep m)) (ap (λ (h : Held). h.mode) c.self.view_is) (c.in-PendingBytes.ensures {u = tt})) c.keep_run.ensures.within c.keep_run.ensures.ok c.keep_run.ensures.err

pub returns-else-count-eq0-2 : goal.returns-else-count-eq0-2
returns-else-count-eq0-2 c =
    ran-put_or_failed c.args.self.now c.args.piece.now c.in-Characters.count c.put_run.new.self c.put_run.result (omega arith)
    (subst (λ (m : Mode). EachHasAction m c.args.piece.now c.in-Characters.count (λ b. Put m b)) (ap (λ (h : Held). h.mode) c.self.view_is) (c.in-Characters.ensures {u = tt})) c.put_run.ensures.within c.put_run.ensures.ok c.put_run.ensures.err

pub returns-else-count-eq0-3 : goal.returns-else-count-eq0-3
returns-else-count-eq0-3 c =
    ran-utf8_or_failed c.args.self.now c.args.piece.now c.in-Utf8.count c.put_utf8_run.new.self c.put_utf8_run.result
    (subst (λ (m : Mode). AreCharacterBytes m c.args.piece.now c.in-Utf8.count) (ap (λ (h : Held). h.mode) c.self.view_is) (c.in-Utf8.ensures {u = tt})) c.put_utf8_run.ensures.within c.put_utf8_run.ensures.utf8 c.put_utf8_run.ensures.ok c.put_utf8_run.ensures.err

pub returns-then-name_run : goal.returns-then-name_run
returns-then-name_run c =
    ran-named c.args.self.now c.args.piece.now c.in-Named.count c.in-Named.value c.name_run.new.self
    (subst (λ (m : Mode). AreNameDigits m c.args.piece.now c.in-Named.count c.in-Named.value) (ap (λ (h : Held). h.mode) c.self.view_is) (c.in-Named.ensures {u = tt})) (c.name_run.ensures.taken c.if-name_run.true)

pub returns-else-name_run : goal.returns-else-name_run
returns-else-name_run c = ran-none c.args.self.now c.args.piece.now c.name_run.new.self (c.name_run.ensures.left c.if-name_run.false)
