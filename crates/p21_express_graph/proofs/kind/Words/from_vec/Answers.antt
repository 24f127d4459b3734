use Rattle.std.proofs.Common.{List, ℕ, subst}
use Rattle.p21_express_graph.specs.TextSet.{HasTexts}
use Rattle.p21_express_graph.proofs.kind.Words.from_vec.Goals as goal

pub invariant_of-result : goal.invariant_of-result
invariant_of-result c = let P : List (List ℕ) → Type 0 = λ texts. HasTexts c.in_ok-texts.texts texts in subst P c.deref.ensures.value c.in_ok-texts.ensures
