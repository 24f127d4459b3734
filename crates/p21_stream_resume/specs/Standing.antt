-- Signposts that stand at the front of bytes, in a string of a statement, and in the remark in which it ends (this project's own, on the tokens of ISO 10303-21).
use Rattle.std.specs.Prelude.{◌≡◌, ◌≤◌, ◌⊎◌, ℕ, List, ◌∷◌, ◌++◌, length, take, drop, Option, Some, None}
use Rattle.p21_spec_survey.specs.Landmark.{IsSignpost, Signpost, StandsAt, signpost_bytes}
use Rattle.p21_spec_survey.specs.Resuming.{EndsInString, IsInOpenRemark}
use Rattle.p21_stream_resume.specs.Lexing.{IsInRemark}
use Rattle.p21_stream_resume.specs.Shape.{Describes}
use Rattle.p21_stream_resume.specs.declared.signpost.Signpost as code
use Rattle.p21_tokens_automaton.specs.declared.mode.Mode.{Mode}
use Rattle.p21_tokens_automaton.specs.declared.mode.Mode.TheVariants.{Comment, Star}

-- the bytes begin with those of this signpost
pub record BeginsWithSignpost (bytes : List ℕ) (signpost : Signpost) : Type 0 where
  pub is_signpost : IsSignpost signpost
  pub rest : List ℕ
  pub bytes_are : bytes ≡ signpost_bytes signpost ++ rest

-- this one is found at the front, or none is there
abbrev pub FindsAtFront : List ℕ → Option code.Signpost → Type 0
FindsAtFront bytes None = (signpost : Signpost) → BeginsWithSignpost bytes signpost → ⊥
FindsAtFront bytes (Some own) = (signpost : Signpost) × BeginsWithSignpost bytes signpost × Describes own signpost

-- the same where others stand in front of the bytes
abbrev pub FindsThere : List ℕ → List ℕ → Option code.Signpost → Type 0
FindsThere before bytes None = (signpost : Signpost) → StandsAt before bytes signpost → ⊥
FindsThere before bytes (Some own) = (signpost : Signpost) × StandsAt before bytes signpost × Describes own signpost

-- behind so many bytes of a statement, in a string of it, a signpost stands
pub record StandsInString (statement : List ℕ) (place : ℕ) (signpost : Signpost) : Type 0 where
  pub within : place ≤ length statement
  pub in_string : EndsInString (take place statement)
  pub stands : StandsAt (take place statement) (drop place statement) signpost

-- the first one that stands so is found, with how many bytes stand in front of it; or none stands so
abbrev pub FindsInString : List ℕ → Option (ℕ × code.Signpost) → Type 0
FindsInString statement None = (place : ℕ) (signpost : Signpost) → StandsInString statement place signpost → ⊥
FindsInString statement (Some (place, own)) = ((signpost : Signpost) × StandsInString statement place signpost × Describes own signpost)
    × ((earlier : ℕ) (signpost : Signpost) → StandsInString statement earlier signpost → place ≤ earlier)

-- behind so many bytes of a statement, in the remark in which it ends, a signpost stands
pub record StandsInRemark (statement : List ℕ) (place : ℕ) (signpost : Signpost) : Type 0 where
  pub within : place ≤ length statement
  pub in_remark : IsInOpenRemark (take place statement) statement
  pub stands : StandsAt (take place statement) (drop place statement) signpost

-- the first one that stands so is found, with how many bytes stand in front of it; or none stands so
abbrev pub FindsInRemark : List ℕ → Option (ℕ × code.Signpost) → Type 0
FindsInRemark statement None = (place : ℕ) (signpost : Signpost) → StandsInRemark statement place signpost → ⊥
FindsInRemark statement (Some (place, own)) = ((signpost : Signpost) × StandsInRemark statement place signpost × Describes own signpost)
    × ((earlier : ℕ) (signpost : Signpost) → StandsInRemark statement earlier signpost → place ≤ earlier)

-- no `*/` stands in the bytes
abbrev pub EndsNoRemark : List ℕ → Type 0
EndsNoRemark bytes = (before after : List ℕ) → bytes ≡ before ++ (42 ∷ 47 ∷ after) → ⊥

-- the first signpost in a string of a statement is found; or else the first one in the remark in which it ends; or none stands so
abbrev pub FindsInText : List ℕ → Option (ℕ × code.Signpost) → Type 0
FindsInText statement (Some found) =
    FindsInString statement (Some found) ⊎ (FindsInString statement None × FindsInRemark statement (Some found))
FindsInText statement None = FindsInString statement None × FindsInRemark statement None

-- what is found in front of a byte of a statement stays; else, where the mode is one of a remark, what stands there is found
abbrev pub FindsNext : List ℕ → ℕ → Mode → Option (ℕ × code.Signpost) → Option (ℕ × code.Signpost) → Type 0
FindsNext statement place mode (Some first) next = next ≡ Some first
FindsNext statement place mode None None = IsInRemark mode → FindsThere (take place statement) (drop place statement) None
FindsNext statement place mode None (Some (there, own)) =
    IsInRemark mode × (there ≡ place) × FindsThere (take place statement) (drop place statement) (Some own)

-- what is found in a remark, as long as this is open
abbrev pub kept_in : Mode → Option (ℕ × code.Signpost) → Option (ℕ × code.Signpost)
kept_in Comment found = found
kept_in Star found = found
kept_in other found = None
