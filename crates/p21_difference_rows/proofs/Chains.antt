-- Texts put one behind the other.
use Rattle.std.specs.Prelude.{◌≡◌, ℕ, List, ◌++◌}
use Rattle.std.proofs.Common.{ap, ◌∙◌}
use Rattle.std.proofs.lemmas.List.{append_assoc}

pub two : (old a first b new : List ℕ) → first ≡ old ++ a → new ≡ first ++ b → new ≡ old ++ (a ++ b)
two old a first b new is more = more ∙ ap (λ (t : List ℕ). t ++ b) is ∙ append_assoc old a b

pub three : (old a first b second c new : List ℕ) → first ≡ old ++ a → second ≡ first ++ b → new ≡ second ++ c
    → new ≡ old ++ (a ++ (b ++ c))
three old a first b second c new is more last = two old a first (b ++ c) new is (two first b second c new more last)

pub four : (old a first b second c third d new : List ℕ) → first ≡ old ++ a → second ≡ first ++ b → third ≡ second ++ c → new ≡ third ++ d
    → new ≡ old ++ (a ++ (b ++ (c ++ d)))
four old a first b second c third d new is more last end =
    two old a first (b ++ (c ++ d)) new is (three first b second c third d new more last end)
