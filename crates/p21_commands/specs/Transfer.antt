-- What reading and writing whole texts does to the bytes that a reader has left and a writer holds, where they are known.
use Rattle.std.specs.Prelude.{Option, ◌≡◌, ◌≤◌, ℕ, List, length, take, IfSome}
use Rattle.std.specs.Io.KnownBytes.{Appends, Consumes}
use Rattle.p21_stream_io.specs.Transfer.{AppendsPartOf}

-- so many bytes of a text are read at most: one more than a text may have
abbrev pub most_read : ℕ
most_read = 16777217

-- the text is what the reader has left, or the first `most_read` bytes of it
abbrev pub GivesText : Option (List ℕ) → List ℕ → Type 0
GivesText reader text = IfSome reader (λ bytes. text ≡ take most_read bytes)

-- no more than `most_read` bytes were taken from the reader
abbrev pub ConsumesAtMost : Option (List ℕ) → Option (List ℕ) → Type 0
ConsumesAtMost old new = (taken : List ℕ) × Consumes old new taken × (length taken ≤ most_read)

-- the writer gets such a line
pub record Writes (IsLine : List ℕ → Type 0) (old new : Option (List ℕ)) : Type 0 where
  pub line : List ℕ
  pub is_line : IsLine line
  pub appended : Appends old new line

-- the writer gets only a part of such a line
pub record WritesPart (IsLine : List ℕ → Type 0) (old new : Option (List ℕ)) : Type 0 where
  pub line : List ℕ
  pub is_line : IsLine line
  pub part : AppendsPartOf old new line
