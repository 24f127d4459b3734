use Rattle.std.proofs.Common.{◌∙◌, sym, subst}
use Rattle.p21_model.proofs.EntitySets.{has-set}
use Rattle.p21_model.proofs.Lines.{line-cut, name-behind}
use Rattle.p21_model.specs.Left.{IsRecordText}
use Rattle.p21_model.proofs.instance.Instance.entities.Goals as goal

pub returns-clause-told : goal.returns-clause-told
returns-clause-told c record_ stated =
    let s = c.args.self.now.schema.now in
    let found = has-set s c.holds_together.ensures stated.kinds stated.canonical stated.canonical_meaning stated.canonical_means.means in
    let cut = line-cut s c.args.self.now.name record_ c.args.self.now.line.now stated in
    let text = subst (IsRecordText stated.canonical) (sym
    (c.record_of.ensures ∙ name-behind c.args.self.now.name c.args.self.now.line.now cut.rest cut.line_is)) cut.is_text in
    record { set = found.set; same = found.same; tells = c.of_record.ensures.told stated.canonical found.set text found.are }

pub returns-clause-any : goal.returns-clause-any
returns-clause-any c record_ stated entities are =
    let s = c.args.self.now.schema.now in
    let cut = line-cut s c.args.self.now.name record_ c.args.self.now.line.now stated in
    let text = subst (IsRecordText stated.canonical) (sym
    (c.record_of.ensures ∙ name-behind c.args.self.now.name c.args.self.now.line.now cut.rest cut.line_is)) cut.is_text in
    c.of_record.ensures.told stated.canonical entities text are
