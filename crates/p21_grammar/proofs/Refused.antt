-- A parser that has refused a token.
use Rattle.std.proofs.Common.{◌≡◌, refl, ap, sym, ◌∙◌, subst}
use Rattle.p21_grammar.proofs.Holding.{Reaches}
use Rattle.p21_grammar.specs.Machine.{Keeps, Spot, StandsRefused, spot_of}
use Rattle.p21_grammar.specs.Runs.{pending}
use Rattle.p21_grammar.specs.declared.fault.GrammarFault.{GrammarFault}
use Rattle.p21_grammar.specs.declared.fault.GrammarFault.TheVariants as fault
use Rattle.p21_grammar.specs.declared.machine.Machine.{Machine}
use Rattle.p21_grammar.specs.declared.stage.Stage.{Stage}

module _ (p at_stage : Stage) (sp : Spot) (m n : Machine) (same : at_stage ≡ p) where
  pub refused-stage : (why : GrammarFault) → Keeps why p sp m → StandsRefused why at_stage m n → n.stage ≡ p
  refused-stage fault.Unexpected keeps stands = stands.0 ∙ (keeps refl).0
  refused-stage other keeps stands = stands.0 ∙ same

  reached-there : n.stage ≡ p → spot_of n ≡ sp → Reaches p sp → Reaches n.stage (spot_of n)
  reached-there e f ran = subst (λ z. Reaches z (spot_of n)) (sym e) (subst (Reaches p) (sym f) ran)

  pub refused-reached : (why : GrammarFault) → Reaches p sp → Keeps why p sp m → StandsRefused why at_stage m n → Reaches n.stage (spot_of n)
  refused-reached fault.Unexpected ran keeps stands = reached-there (stands.0 ∙ (keeps refl).0) (stands.1 ∙ (keeps refl).1) ran
  refused-reached other ran keeps stands = subst (Reaches n.stage) (sym stands.1) refl

  pub refused-kept : (why : GrammarFault) → Keeps why p sp m → StandsRefused why at_stage m n → why ≡ fault.Unexpected → pending (spot_of n) ≡ pending sp
  refused-kept fault.Unexpected keeps stands e = ap pending (stands.1 ∙ (keeps refl).1)
  refused-kept other keeps stands e = absurd cc
