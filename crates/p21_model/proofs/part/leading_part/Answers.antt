use Rattle.std.proofs.Common.{◌≡◌, ◌∷◌, ◌∙◌, sym, subst}
use Rattle.p21_spec_basics.proofs.Members.{tail_is}
use Rattle.p21_spec_schema.specs.Schema.{EntityNamed}
use Rattle.p21_model.proofs.Keywords.{keyword-found, named-within, none-some}
use Rattle.p21_model.proofs.part.leading_part.Goals as goal

pub returns-in_default-entity-clause-some : goal.returns-in_default-entity-clause-some
returns-in_default-entity-clause-some c word rest e keyword named is =
    let found = keyword-found c.args.bytes.now word rest c.in-Some.word.now c.in-Some.behind.now keyword is c.in-Some.ensures.some in
    c.in_default-entity.ensures e (subst (EntityNamed c.args.schema.now e) (sym found.0) named)

pub returns-in_default-split_first-clause-some : goal.returns-in_default-split_first-clause-some
returns-in_default-split_first-clause-some c word rest e keyword named is =
    let found = keyword-found c.args.bytes.now word rest c.in-Some.word.now c.in-Some.behind.now keyword is c.in-Some.ensures.some in
    let some : c.in-Some.behind.now ≡ 40 ∷ rest = found.1 in
    absurd (none-some c.in-Some.behind.now 40 rest c.in_default-split_first.ensures.cases some)

pub returns-clause-entity : goal.returns-clause-entity
returns-clause-entity c = named-within c.args.schema.now c.in-Some-entity.entity.0 c.in-Some.word.now c.in-Some-entity.ensures

pub returns-clause-some : goal.returns-clause-some
returns-clause-some c word rest e keyword named is =
    let found = keyword-found c.args.bytes.now word rest c.in-Some.word.now c.in-Some.behind.now keyword is c.in-Some.ensures.some in
    let some : c.in-Some.behind.now ≡ 40 ∷ rest = found.1 in
    let split = c.in-Some-split_first.ensures.cases.0 in (
      c.holds_together.ensures.entities_distinct c.in-Some-entity.entity.0 e word
          (subst (EntityNamed c.args.schema.now c.in-Some-entity.entity.0) found.0 c.in-Some-entity.ensures) named,
      tail_is _ _ _ _ (sym split ∙ some),
    )
