use Rattle.std.proofs.Common.{◌-◌, length}
use Rattle.p21_tokens_automaton.specs.Run.{AreNameDigits}
use Rattle.p21_tokens_automaton.specs.declared.mode.Mode.TheVariants.{Name}
use Rattle.p21_tokens_automaton.specs.declared.mode.NameMode.TheVariants.{Digits}
use Rattle.p21_tokens_automaton.proofs.run.name_digits.Given as goal

abbrev pub invariant-loop-number : goal.invariant-loop-number
invariant-loop-number l = AreNameDigits (Name (Digits l.fn.value)) l.bytes l.count l.number

abbrev pub decreases-loop-number : goal.decreases-loop-number
decreases-loop-number l = length l.bytes - l.count
