use Rattle.std.proofs.Common.{◌≡◌, ℕ, ◌+◌, ◌*◌, subst, sym, ◌∙◌, arith, slice_index, true}
use Rattle.p21_tokens_automaton.specs.Run.{AreNameDigits}
use Rattle.p21_tokens_automaton.specs.declared.mode.Mode.TheVariants.{Name}
use Rattle.p21_tokens_automaton.specs.declared.mode.NameMode.TheVariants.{Digits}
use Rattle.p21_scan.proofs.Classes.{digit-decides}
use Rattle.p21_tokens_automaton.proofs.Runs.{digits-more}
use Rattle.p21_tokens_automaton.proofs.run.name_digits.Goals as goal
use Rattle.p21_spec_basics.specs.Digits.{is_digit}

pub loop-number-preserved : goal.loop-number-preserved
loop-number-preserved c =
    let byte = slice_index c.args.bytes.now c.loop-number.count in
    let digit : is_digit byte ≡ true = sym c.is_digit.ensures ∙ c.if-is_digit.true in
    let range = (digit-decides byte).0 digit in
    subst (λ (x : ℕ). AreNameDigits (Name (Digits c.args.value)) c.args.bytes.now (c.loop-number.count + 1) (c.loop-number.number * 10 + x)) (sym c.from.ensures)
    (digits-more _ c.args.bytes.now c.loop-number.count c.loop-number.number c.loop-number.invariant (omega arith) digit (omega arith))
