use Rattle.std.proofs.Common.{◌∙◌, refl, subst, sym}
use Rattle.p21_spec_exchange.specs.Keyword.{IsKeyword}
use Rattle.p21_spec_schema.specs.Schema.{EntityNamed}
use Rattle.p21_shorter_instances.proofs.KeywordRows.{front-some}
use Rattle.p21_shorter_instances.proofs.entity.entity_of.Goals as goal

pub returns : goal.returns
returns c = λ s are.
    let e = c.in_ok-guess.guess.0 in
    let same = c.if-not-is_front.ensures refl in
    let (named, keyword) = (c.in_ok-row.ensures s are).keyword
    (λ none. front-some c.args.bytes.now c.args.count c.requires.some c.requires.within (same ∙ none)) in
    (subst (EntityNamed s e) (sym same) named, subst IsKeyword (sym same) keyword)
