-- An instance that what is known of its entity refuses.
use Rattle.std.proofs.Common.{◌≡◌, ◌≢◌, ℕ, refl, sym, ap, subst, ◌∙◌}
use Rattle.p21_spec_exchange.specs.Record.{Record}
use Rattle.p21_spec_exchange.specs.Statement.{instance}
use Rattle.p21_spec_file.specs.BrokenRule.{Breaks}
use Rattle.p21_mapping.specs.Shape.{Refuses}
use Rattle.p21_grammar_tree.specs.declared.fault.CheckFault.{CheckFault}
use Rattle.p21_grammar_tree.specs.declared.fault.CheckFault.TheVariants as check_fault
use Rattle.p21_spec_schema.specs.Schema.{Schema}
use Rattle.p21_stream_statements.specs.Fault.{fault_number, fault_of_check}
use Rattle.p21_stream_statements.specs.declared.fault.Fault.{Fault}
use Rattle.p21_stream_statements.specs.declared.fault.Fault.TheVariants.{Check}
use Rattle.p21_stream_sieve.specs.SieveSteps.{HasCome, IsRefusedAlone}
use Rattle.p21_stream_sieve.specs.declared.sieve.Sieve.{Sieve}

check-itself : (fault : CheckFault) → fault ≢ check_fault.NoMemory → fault_of_check fault ≡ Check fault
check-itself check_fault.NumberRange other = refl
check-itself check_fault.UnknownEntity other = refl
check-itself check_fault.Abstract other = refl
check-itself check_fault.PartMissing other = refl
check-itself check_fault.PartTwice other = refl
check-itself check_fault.Count other = refl
check-itself check_fault.Missing other = refl
check-itself check_fault.StarNotDerived other = refl
check-itself check_fault.DerivedNotStar other = refl
check-itself check_fault.WrongKind other = refl
check-itself check_fault.Width other = refl
check-itself check_fault.Bounds other = refl
check-itself check_fault.NotDistinct other = refl
check-itself check_fault.UnknownItem other = refl
check-itself check_fault.SelectType other = refl
check-itself check_fault.TwoRedeclarations other = refl
check-itself check_fault.OneOf other = refl
check-itself check_fault.NoMemory other = absurd (other refl)

pub refused-alone : (s : Schema) (sieve : Sieve) (n : ℕ) (record_ : Record) (fault : CheckFault) (found : Fault)
    → found ≡ fault_of_check fault → Refuses s record_ fault → (HasCome sieve n → ⊥) → IsRefusedAlone s sieve (instance n record_) n found
refused-alone s sieve n r fault found is why first_one = record {
  record_ = r;
  statement_is = refl;
  first = first_one;
  breaks = λ other.
      let not_memory : fault ≢ check_fault.NoMemory = λ e. other (is ∙ ap fault_of_check e) in
      subst (λ (f : Fault). Breaks s r (fault_number f)) (sym (is ∙ check-itself fault not_memory)) (why not_memory);
}
