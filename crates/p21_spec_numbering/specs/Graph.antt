-- Graphs whose nodes have labels, and ranks of their nodes by keys.
use Rattle.std.specs.Prelude.{ℕ, ◌+◌, Bool, cond, List, [], ◌∷◌}
use Rattle.std.specs.Cmp.Lexicographic.{slice_cmp}
use Rattle.std.specs.Ordering.{nat_cmp, is_lt}

-- nodes, the label of each, and the places in the first at which the second is used
pub record Graph : Type 0 where
  pub nodes : List ℕ
  pub label : ℕ → List (List ℕ)
  pub places : ℕ → ℕ → List (List ℕ)

-- how many members pass the test
abbrev pub how_many : {X : Type 0} → (X → Bool) → List X → ℕ
how_many test [] = 0
how_many test (x ∷ xs) = cond (test x) 1 0 + how_many test xs

-- how many nodes have a key below that of this one; keys are compared text by text, and texts number by number
abbrev pub rank_by : (ℕ → List (List ℕ)) → List ℕ → ℕ → ℕ
rank_by key nodes n = how_many (λ m. is_lt (slice_cmp (slice_cmp nat_cmp) (key m) (key n))) nodes
