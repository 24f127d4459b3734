use Rattle.std.proofs.Common.{sym, subst}
use Rattle.p21_mapping.proofs.Outcomes.{kind_fault-items, kind_fault-plain, kind_fault-select}
use Rattle.p21_mapping.specs.Outcome.{IsKindFault}
use Rattle.p21_grammar_tree.specs.declared.fault.CheckFault.TheVariants.{SelectType, WrongKind}
use Rattle.p21_mapping.proofs.scalar.other_kind.Goals as goal

pub returns-in-Select : goal.returns-in-Select
returns-in-Select c = subst (λ base. IsKindFault base SelectType) (sym c.in-Select.is) (kind_fault-select _)

pub returns-in-Plain : goal.returns-in-Plain
returns-in-Plain c = subst (λ base. IsKindFault base WrongKind) (sym c.in-Plain.is) (kind_fault-plain c.in-Plain.field-0)

pub returns-in-Items : goal.returns-in-Items
returns-in-Items c = subst (λ base. IsKindFault base WrongKind) (sym c.in-Items.is) (kind_fault-items c.in-Items.field-0)
