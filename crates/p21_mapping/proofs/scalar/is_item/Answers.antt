use Rattle.p21_mapping.proofs.Outcomes.{refuses-plain, refuses-select}
use Rattle.p21_mapping.proofs.Scalars.{decides-boolean, decides-items, decides-logical}
use Rattle.p21_mapping.proofs.BaseKinds.{item-nowhere}
use Rattle.p21_mapping.proofs.scalar.is_item.Goals as goal

pub returns-in-Items-clause-ok : goal.returns-in-Items-clause-ok
returns-in-Items-clause-ok c = decides-items c.args.base _ _ _ c.in-Items.is c.has.ensures

pub returns-in-Select-clause-err : goal.returns-in-Select-clause-err
returns-in-Select-clause-err c = refuses-select c.args.base _ _ c.in-Select.is

pub returns-in-Boolean-clause-ok : goal.returns-in-Boolean-clause-ok
returns-in-Boolean-clause-ok c = decides-boolean c.args.base _ _ _ c.in-Plain.is c.in-Boolean.is c.is_boolean.ensures

pub returns-in-Logical-clause-ok : goal.returns-in-Logical-clause-ok
returns-in-Logical-clause-ok c = decides-logical c.args.base _ _ _ c.in-Plain.is c.in-Logical.is c.is_logical.ensures

pub returns-in_default-clause-err : goal.returns-in_default-clause-err
returns-in_default-clause-err c = refuses-plain c.args.base _ _ c.in-Plain.is
    (item-nowhere _ _ c.in_default.not-Boolean c.in_default.not-Logical)
