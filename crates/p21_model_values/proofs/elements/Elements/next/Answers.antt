use Rattle.std.proofs.Common.{◌∙◌, ap, sym, refl}
use Rattle.p21_spec_basics.proofs.Members.{rest_is}
use Rattle.p21_model_values.proofs.Handing.{none-left, some-left}
use Rattle.p21_model_values.proofs.Shortening.{shortened}
use Rattle.p21_model_values.specs.Ends.{behind_comma}
use Rattle.p21_model_values.proofs.elements.Elements.next.Goals as goal

pub returns-then-is_empty-clause-handed : goal.returns-then-is_empty-clause-handed
returns-then-is_empty-clause-handed c ps after left =
    none-left ps after c.args.self.now.rest.now left (sym c.is_empty.ensures ∙ c.if-is_empty.true)

pub returns-clause-handed : goal.returns-clause-handed
returns-clause-handed c ps after left = some-left ps after c.args.self.now.rest.now _ c.behind_comma-self.result.now
    c.value_size-size.result left (sym c.is_empty.ensures ∙ c.if-is_empty.false) c.value_size-size.ensures.size refl
    (c.behind_comma-self.ensures ∙ ap behind_comma (rest_is c.args.self.now.rest.now c.value_size-size.result))

pub returns-clause-shorter : goal.returns-clause-shorter
returns-clause-shorter c =
    let rest = c.behind_comma-self.ensures ∙ ap behind_comma (rest_is c.args.self.now.rest.now c.value_size-size.result) in
    shortened c.args.self.now.rest.now c.behind_comma-self.result.now c.value_size-size.result
    (sym c.is_empty.ensures ∙ c.if-is_empty.false) c.value_size-size.ensures.counted rest
