-- The bytes of a file by its parts.
use Rattle.std.specs.Prelude.{◌+◌, ℕ, List, length, sum_by}
use Rattle.p21_spec_laws.specs.CompleteFile.{Line}
use Rattle.p21_stream_output.specs.declared.named_sections.NamedSection.{NamedSection}

-- lines, each with its line feed
abbrev pub lines_size : List Line → ℕ
lines_size lines = sum_by (λ (l : Line). length l.1 + 1) lines

-- the beginning and the end of each data section
abbrev pub sections_size : List NamedSection → ℕ
sections_size parts = sum_by (λ (part : NamedSection). 9 + length part.line.items) parts

-- header lines, sections and lines of instances, with what stands around them
abbrev pub file_size : List ℕ → List NamedSection → List Line → ℕ
file_size header parts lines = (48 + length header) + (sections_size parts + lines_size lines)
