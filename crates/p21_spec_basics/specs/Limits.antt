-- Limits on the bytes of records and files (this project's own).
use Rattle.std.specs.Prelude.{ℕ, ◌^◌, ◌≤◌}

-- bytes of a statement's tokens in the source; of a canonical line with no LF; of the source; of the canonical file
pub record Limits : Type 0 where
  pub record_source : ℕ
  pub record_canonical : ℕ
  pub file_source : ℕ
  pub file_canonical : ℕ

-- a canonical file is within the limits on a source
abbrev pub AreLimits : Limits → Type 0
AreLimits limits = (limits.record_canonical ≤ limits.record_source) × (limits.file_canonical ≤ limits.file_source)

-- the limits of the program
abbrev pub usual : Limits
usual = record { record_source = 2 ^ 29; record_canonical = 2 ^ 28; file_source = 2 ^ 36; file_canonical = 2 ^ 32 }

-- the most bytes of a schema's text, and of the text of one parameter
abbrev pub text_limit : ℕ
text_limit = 2 ^ 24
