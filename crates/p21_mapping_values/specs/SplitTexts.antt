-- Texts that stand one behind the other.
use Rattle.std.specs.Prelude.{ℕ, Bool, true, false, List, [], ◌∷◌, ◌++◌, take, drop, map, length, Contains}

-- the texts of these lengths, as far as the bytes go
abbrev pub split_texts : List ℕ → List ℕ → List (List ℕ)
split_texts bytes [] = []
split_texts bytes (n ∷ ns) = take n bytes ∷ split_texts (drop n bytes) ns

-- texts one behind the other
abbrev pub joined : List (List ℕ) → List ℕ
joined [] = []
joined (text ∷ texts) = text ++ joined texts

-- how long each is
abbrev pub lengths_of : List (List ℕ) → List ℕ
lengths_of texts = map (λ (text : List ℕ). length text) texts

-- no text is there twice
abbrev pub NoneTwice : List (List ℕ) → Type 0
NoneTwice [] = Unit {0}
NoneTwice (x ∷ xs) = ¬ Contains xs x × NoneTwice xs

-- the text of an element, behind a comma where it is not the first
abbrev pub element_text : Bool → List ℕ → List ℕ
element_text true text = text
element_text false text = 44 ∷ text
