-- Tests of words: plain functions between the code and the definitions, which nobody has to believe.
use Rattle.std.specs.Prelude.{ℕ, Bool, false, ◌||◌, List, [], ◌∷◌}
use Rattle.std.specs.Borrow.{Bor}
use Rattle.std.specs.Str.{bytes_eq}
use Rattle.p21_spec_schema.specs.ReservedWord.{reserved_words}

-- the name is one of the words
abbrev pub is_among : List (List ℕ) → List ℕ → Bool
is_among [] name = false
is_among (w ∷ words) name = bytes_eq name w || is_among words name

unfoldable pub is_reserved : List ℕ → Bool
is_reserved name = is_among reserved_words name

-- the bytes that a list of slices refers to
abbrev pub all_bytes_seen : List (Bor (List ℕ)) → List (List ℕ)
all_bytes_seen [] = []
all_bytes_seen (bytes ∷ more) = bytes.now ∷ all_bytes_seen more
