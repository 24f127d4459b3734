-- Which signpost the reading goes by behind a statement that is refused (this project's own, on the tokens of ISO 10303-21).
--
-- A string that nothing ends runs on to the next apostrophe, over whole statements, and a remark that nothing ends over all that is
-- left. So the first signpost in a string of the statement counts, or in a remark that is open where the file ends: what seems
-- text there is mostly none. Without one it is the first signpost at the refused byte or behind it. Where a string of a refused statement
-- holds the bytes of a landmark by itself, behind a line end, a `;` or a `)`, the rest of it is read as statements.
use Rattle.std.specs.Prelude.{◌≡◌, ◌⊎◌, ◌≤◌, ℕ, List, [], ◌∷◌, ◌++◌, length}
use Rattle.p21_spec_exchange.specs.Laying.{Lexeme}
use Rattle.p21_spec_exchange.specs.Pending.{LaidUpTo, open_comment, unfinished}
use Rattle.p21_spec_exchange.specs.Text.{SpellsText}
use Rattle.p21_spec_survey.specs.Landmark.{IsFirstSignpost, Signpost, StandsAt, signpost_bytes}

-- the bytes end inside a string, and not behind the apostrophe that ends it
abbrev pub EndsInString : List ℕ → Type 0
EndsInString bytes = (lexemes : List Lexeme) × (inside : List ℕ) × LaidUpTo bytes lexemes (unfinished (39 ∷ inside))
    × ((chars : List ℕ) → ¬ SpellsText (39 ∷ inside) chars)

-- they end inside a remark, behind these bytes of it
abbrev pub EndsInRemark : List ℕ → List ℕ → Type 0
EndsInRemark bytes inside = (lexemes : List Lexeme) × LaidUpTo bytes lexemes (open_comment inside)

-- the statement ends in the remark in which these bytes at its front end
abbrev pub IsInOpenRemark : List ℕ → List ℕ → Type 0
IsInOpenRemark front statement =
    (inside more : List ℕ) × (statement ≡ front ++ more) × EndsInRemark front inside × EndsInRemark statement (inside ++ more)

-- Behind these bytes at its front a signpost stands in a string of the statement, or in the remark that is open where the file ends, and
-- the rest of the statement behind it. `behind` stand from the refused byte on
pub record IsInside (statement behind front : List ℕ) (signpost : Signpost) (rest : List ℕ) : Type 0 where
  pub bytes_are : statement ≡ front ++ (signpost_bytes signpost ++ rest)
  pub stands : StandsAt front (signpost_bytes signpost ++ rest) signpost
  pub in_text : EndsInString front ⊎ ((behind ≡ []) × IsInOpenRemark front statement)

-- no signpost stands so
abbrev pub HasNoneInside : List ℕ → List ℕ → Type 0
HasNoneInside statement behind = (front : List ℕ) (signpost : Signpost) (rest : List ℕ) → IsInside statement behind front signpost rest → ⊥

-- The signpost by which the reading goes: these bytes stand in front of the statement, its own up to the refused one, and from there on;
-- so many are passed in front of the signpost, and the rest stands behind it
pub data GoesBy (before statement behind : List ℕ) : List ℕ → Signpost → List ℕ → Type 0 where
  within_text : (front : List ℕ) (signpost : Signpost) (rest : List ℕ) → IsInside statement behind front signpost rest
      → ((other_front : List ℕ) (other : Signpost) (other_rest : List ℕ) → IsInside statement behind other_front other other_rest
      → length front ≤ length other_front)
      → GoesBy before statement behind front signpost (rest ++ behind)
  further_on : (passed : List ℕ) (signpost : Signpost) (rest : List ℕ) → HasNoneInside statement behind
      → IsFirstSignpost (before ++ statement) behind passed signpost rest
      → GoesBy before statement behind (statement ++ passed) signpost rest
