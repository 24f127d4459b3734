use Rattle.std.proofs.Common.{◌≡◌, ◌∙◌, List, ℕ, ap, subst, sym}
use Rattle.std.specs.List.{Contains}
use Rattle.p21_express_graph.specs.TextSet.{has_text}
use Rattle.p21_express_graph.proofs.kind.Words.has.Goals as goal

pub returns : goal.returns
returns c =
    let same : c.contains.result ≡ has_text c.self.inside.texts c.args.word.now = c.contains.ensures ∙ ap (has_text c.self.inside.texts) c.bytes.ensures in
    let P : List (List ℕ) → Type 0 = λ texts. Contains texts c.args.word.now in
    let has = c.self.invariant c.args.word.now in (λ e. subst P c.self.view_is (has.0 (sym same ∙ e)), λ among. same ∙ has.1 (subst P (sym c.self.view_is) among))
