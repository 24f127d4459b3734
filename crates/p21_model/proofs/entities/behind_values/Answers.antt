use Rattle.std.proofs.Common.{◌∙◌, sym}
use Rattle.p21_spec_basics.proofs.Members.{tail_is}
use Rattle.p21_model.proofs.EntitySets.{ended, none-more}
use Rattle.p21_model.proofs.Keywords.{none-some}
use Rattle.p21_model.proofs.entities.behind_values.Goals as goal

pub returns-in_default-clause-told : goal.returns-in_default-clause-told
returns-in_default-clause-told c ps after left =
    let (qs, more) = c.loop-left.invariant.0 ps after left in none-more qs after c.loop-left.left.rest.now _ more
    (sym c.is_empty.ensures ∙ c.loop-left-test.true) (c.in_default.ensures.handed qs after more)

pub returns-in_default-split_first-clause-told : goal.returns-in_default-split_first-clause-told
returns-in_default-split_first-clause-told c ps after left =
    let (qs, more) = c.loop-left.invariant.0 ps after left in
    none-some c.loop-left.left.rest.now 41 after c.in_default-split_first.ensures.cases
    (ended qs after c.loop-left.left.rest.now more (sym c.is_empty.ensures ∙ c.loop-left-test.false))

pub returns-clause-told : goal.returns-clause-told
returns-clause-told c ps after left =
    let (qs, more) = c.loop-left.invariant.0 ps after left in
    tail_is _ _ _ _ (sym c.in-Some-split_first.ensures.cases.0
    ∙ ended qs after c.loop-left.left.rest.now more (sym c.is_empty.ensures ∙ c.loop-left-test.false))
