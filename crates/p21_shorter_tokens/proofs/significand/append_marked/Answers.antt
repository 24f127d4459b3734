use Rattle.std.proofs.Common.{◌≡◌, List, ℕ, true, pos, take, ap, ◌∙◌, subst}
use Rattle.std.proofs.lemmas.List.{with_items_is}
use Rattle.p21_shorter_tokens.specs.Numbers.{AppendsNumber}
use Rattle.p21_shorter_tokens.specs.Significands.{placed_ratio}
use Rattle.p21_shorter_tokens.proofs.significand.append_marked.Goals as goal

pub returns-clause-whole : goal.returns-clause-whole
returns-clause-whole c = λ _.
    let p = c.args.places.now in
    let out = c.write_marked-draft-inside in
    let text = out.ensures.text in
    let old : take c.draft.inside.used c.deref_mut.result.now ≡ c.args.draft.now =
    ap (λ (l : List ℕ). take c.draft.inside.used l) c.deref_mut.ensures.value ∙ c.draft.view_is in (
      text.0,
      subst (λ (l : List ℕ). AppendsNumber true (placed_ratio c.args.negative c.args.bytes.now 0 p.point p.end (pos 0)) l text.0) old
          text.1,
      ap (λ (l : List ℕ). take out.result l) (with_items_is c.draft.inside.room out.new.room (out.ensures.len
          ∙ c.deref_mut.ensures.len)) ∙ text.2,
    )
