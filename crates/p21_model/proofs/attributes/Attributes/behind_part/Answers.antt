use Rattle.std.proofs.Common.{sym, subst, ◌∙◌}
use Rattle.p21_spec_basics.proofs.Members.{tail_is}
use Rattle.p21_model.proofs.Handing.{behind-told}
use Rattle.p21_model.proofs.RowsLeft.{at-end}
use Rattle.p21_model.specs.Left.{AreLeftParts}
use Rattle.p21_model.proofs.attributes.Attributes.behind_part.Goals as goal

pub returns-clause-told : goal.returns-clause-told
returns-clause-told c rows tells ends =
    let at = at-end c.args.self.now.places.schema.now _ c.args.self.now.values.rest.now rows tells ends in
    let same = tail_is _ _ _ _ (sym c.in-Some.ensures.cases.0 ∙ at.bytes_are) in
    behind-told c.args.self.now.places.schema.now c.in-Some.behind.now rows c.of_part.result at.parts at.end
    (subst (AreLeftParts at.parts at.end) (sym same) at.behind) at.rows_are c.of_part.ensures.none c.of_part.ensures.some
