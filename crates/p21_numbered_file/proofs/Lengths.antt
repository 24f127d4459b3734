-- Parameters of another number than the shapes have.
use Rattle.std.proofs.Common.{◌≡◌, ◌≤◌, ◌<◌, List, [], ◌∷◌, length, None, refl, arith}
use Rattle.p21_grammar_tree.specs.View.{views}
use Rattle.p21_grammar_tree.specs.declared.param.Param.{Param}
use Rattle.p21_numbered_file.specs.Shape.{only_listed_text, only_text}

pub text-short : (ps : List Param) → length ps < 1 → None ≡ only_text (views ps)
text-short [] below = refl
text-short (p ∷ ps) below = absurd (omega (arith, below))

pub text-long : (ps : List Param) → 2 ≤ length ps → None ≡ only_text (views ps)
text-long [] above = absurd (omega (arith, above))
text-long (p ∷ []) above = absurd (omega (arith, above))
text-long (p ∷ q ∷ ps) above = refl

pub listed-short : (ps : List Param) → length ps < 1 → None ≡ only_listed_text (views ps)
listed-short [] below = refl
listed-short (p ∷ ps) below = absurd (omega (arith, below))

pub listed-long : (ps : List Param) → 2 ≤ length ps → None ≡ only_listed_text (views ps)
listed-long [] above = absurd (omega (arith, above))
listed-long (p ∷ []) above = absurd (omega (arith, above))
listed-long (p ∷ q ∷ ps) above = refl

pub ruleset lengths = (text-short, text-long, listed-short, listed-long)
