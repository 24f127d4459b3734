use Rattle.std.specs.Prelude.{◌≡◌, ◌++◌, ◌∷◌, [], ℕ, List}
use Rattle.std.proofs.Common.{sym, subst, ap, ◌∙◌, take, get_or}
use Rattle.std.proofs.lemmas.List.{take_all, take_more}
use Rattle.p21_express_graph.specs.TextSet.{HasTexts}
use Rattle.p21_express_graph.proofs.TextSets.{has_added, has_none}
use Rattle.p21_express_graph.proofs.kind.texts_of.Goals as goal

pub loop-word-init : goal.loop-word-init
loop-word-init c = has_none _ c.new-texts.ensures.empty

pub loop-word-preserved : goal.loop-word-preserved
loop-word-preserved c =
    let words : List (List ℕ) = c.args.words.now in
    let k : ℕ = c.loop-word.word-index in
    let text : c.in_ok-text.text.items ≡ get_or words k c.word-item.result = c.in_ok-text.ensures.items ∙ c.bytes.ensures ∙ c.word-item.is in
    let P : List (List ℕ) → Type 0 = λ texts. HasTexts c.insert.new.self texts in
    subst P (ap (λ t. take k words ++ t ∷ []) text ∙ sym (take_more words k c.word-item.result c.loop-word-test.true)) (has_added _ _ _ _ c.in-Ok.ensures.keys c.loop-word.invariant)

pub returns : goal.returns
returns c =
    let P : List (List ℕ) → Type 0 = λ texts. HasTexts c.loop-word.texts texts in
    subst P (take_all c.loop-word.word-index c.args.words.now c.loop-word-test.false) c.loop-word.invariant
