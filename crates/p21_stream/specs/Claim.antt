-- What is claimed of whole files, as the calls answer them: `canonical` and `rewrite` answer and write the text of
-- `IsOnlyCanonicalFile`, `same_meaning` compares two such texts, and what a session answers at the end of the pieces that it
-- was fed is the text of an `Output`.
use Rattle.std.specs.Prelude.{◌≡◌, ◌↔◌, ◌⊎◌, ◌++◌, ℕ, Bool, IsTrue, List, Option, Some, None, Err}
use Rattle.std.specs.List.{AllByRecursion as Each}
use Rattle.p21_spec_basics.specs.Digits.{IsByte}
use Rattle.p21_spec_basics.specs.Limits.{Limits}
use Rattle.p21_spec_laws.specs.CanonicalLaws.{MeanTheSame}
use Rattle.p21_spec_file.specs.Accepted.{IsAccepted}
use Rattle.p21_spec_schema.specs.Schema.{Schema}
use Rattle.p21_stream.specs.Answers.{AreReadInOneWay, Compares, IsOnlyCanonicalFile}
use Rattle.p21_stream.specs.ReaderInput.{RefusesRead}
use Rattle.p21_stream_output.specs.Output.{Output, output_text}
use Rattle.p21_stream_statements.specs.declared.fault.Fault.{Fault}
use Rattle.p21_stream_statements.specs.declared.fault.Fault.TheVariants.{NoMemory, Read, Write}
use Rattle.p21_stream_statements.specs.declared.refusal.Refusal.{Refusal}
use Rattle.p21_stream.specs.Canonical.{IsCanonicalOutput}
use Rattle.p21_stream.specs.Held.{SessionHeld, limits_of, schema_of}
use Rattle.p21_stream.specs.Histories.{FeedGives, FinishGives, SessionHistory, Stands}

-- memory, the reader or the writer failed
abbrev pub IsFailure : Fault → Type 0
IsFailure fault = (fault ≡ NoMemory) ⊎ (fault ≡ Read) ⊎ (fault ≡ Write)

-- a session that reads under this schema and within these limits, and stands for a history that was not refused
pub record IsOpen (s : Schema) (limits : Limits) (held : SessionHeld) (history : SessionHistory) : Type 0 where
  pub schema_is : schema_of held ≡ s
  pub limits_are : limits_of held ≡ limits
  pub stands : Stands held history
  pub goes_on : history.refusal ≡ None

pub record Claim (s : Schema) (limits : Limits) : Type 0 where
  -- two files mean the same exactly if their canonical files are equal byte for byte
  pub same_exactly_if_equal : (bytes others a b : List ℕ) → IsOnlyCanonicalFile s limits bytes a → IsOnlyCanonicalFile s limits others b
      → MeanTheSame s limits bytes others ↔ (a ≡ b)
  -- and that is what a comparison answers
  pub compared : (first_old first_new second_old second_new : Option (List ℕ)) (same : Bool)
      (c : Compares s limits first_old first_new second_old second_new same)
      → IsTrue same ↔ MeanTheSame s limits c.first.bytes c.second.bytes
  -- however it was cut, a file has one canonical file, and is read in one way
  pub one_answer : (bytes a b : List ℕ) → IsOnlyCanonicalFile s limits bytes a → IsOnlyCanonicalFile s limits bytes b → a ≡ b
  pub in_one_way : (bytes : List ℕ) → AreReadInOneWay s bytes
  -- each canonical file is itself accepted, means what its source meant
  pub is_accepted : (bytes a : List ℕ) → IsOnlyCanonicalFile s limits bytes a → IsAccepted s limits a
  pub means_the_same : (bytes a : List ℕ) → IsOnlyCanonicalFile s limits bytes a → MeanTheSame s limits a bytes
  -- and is its own: read again, it gives itself
  pub is_its_own : (bytes a b : List ℕ) → IsOnlyCanonicalFile s limits bytes a → IsOnlyCanonicalFile s limits a b → b ≡ a
  -- what a session answers at the end is the canonical file of the bytes that it was fed
  pub of_session : (bytes : List ℕ) (output : Output) → IsCanonicalOutput s limits bytes output
      → IsOnlyCanonicalFile s limits bytes (output_text output)
  -- a file is refused only where it means nothing, or memory, reader or writer failed: by a call that reads it
  pub refused_read : (bytes : List ℕ) (rest : Option (List ℕ)) (fault : Fault) → Each IsByte bytes
      → RefusesRead s limits (Some bytes) rest fault → IsFailure fault ⊎ ¬ IsAccepted s limits bytes
  -- by a session at a piece, whatever bytes would have come behind it
  pub refused_piece : (held new : SessionHeld) (history : SessionHistory) (piece more : List ℕ) (refusal : Refusal)
      → IsOpen s limits held history → FeedGives held piece (Err refusal) new → Each IsByte piece → Each IsByte more
      → IsFailure refusal.fault ⊎ ¬ IsAccepted s limits (history.taken ++ (piece ++ more))
  -- and by a session at the end
  pub refused_end : (held : SessionHeld) (history : SessionHistory) (refusal : Refusal) → IsOpen s limits held history
      → FinishGives held (Err refusal) → IsFailure refusal.fault ⊎ ¬ IsAccepted s limits history.taken
