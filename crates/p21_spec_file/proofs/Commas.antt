-- Texts with a comma before each.
use Rattle.std.specs.Prelude.{◌≡◌, ℕ, List, [], ◌∷◌, ◌++◌, codes, refl}
use Rattle.std.proofs.Common.{append_assoc}
use Rattle.std.proofs.lemmas.List.{append-nil}
use Rattle.p21_spec_file.specs.ValueText.{with_commas}

-- one text more
pub with_commas-push : (texts : List (List ℕ)) (text : List ℕ) → with_commas (texts ++ text ∷ []) ≡ with_commas texts ++ (codes "," ++ text)
with_commas-push [] text = simp append-nil refl
with_commas-push (first ∷ rest) text = rw (with_commas-push rest text) (simp append_assoc refl)
