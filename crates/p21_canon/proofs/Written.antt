-- Parameters in a row whose tokens have spellings.
use Rattle.std.proofs.Common.{◌≡◌, ℕ, ◌+◌, ◌<◌, ◌≤◌, List, [], ◌∷◌, ◌++◌, length, take, get_or, ap, sym, ◌∙◌, subst}
use Rattle.std.proofs.lemmas.List.{take_all, take_more}
use Rattle.p21_spec_laws.proofs.OfType.{AreWritten}
use Rattle.p21_spec_laws.specs.Written.{IsWritten}
use Rattle.p21_grammar_tree.specs.declared.param.Param.{Param}
use Rattle.p21_grammar_tree.specs.View.{view, views}

written-push : (ps : List Param) (p : Param) → AreWritten (views ps) → IsWritten (view p) → AreWritten (views (ps ++ p ∷ []))
written-push [] p written is = (is, tt)
written-push (q ∷ ps) p written is = (written.0, written-push ps p written.1 is)

-- a parameter more
pub written-more : (ps : List Param) (i : ℕ) (p : Param) → p ≡ get_or ps i p → i < length ps → AreWritten (views (take i ps))
    → IsWritten (view p) → AreWritten (views (take (i + 1) ps))
written-more ps i p is low written last =
    let more : take (i + 1) ps ≡ take i ps ++ p ∷ [] = take_more ps i p low ∙ ap (λ (x : Param). take i ps ++ x ∷ []) (sym is) in
    subst (λ (qs : List Param). AreWritten (views qs)) (sym more) (written-push (take i ps) p written last)

pub written-all : (ps : List Param) (i : ℕ) → length ps ≤ i → AreWritten (views (take i ps)) → AreWritten (views ps)
written-all ps i all written = subst (λ (qs : List Param). AreWritten (views qs)) (take_all i ps all) written
