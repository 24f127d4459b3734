-- The canonical file line by line, as it is read piece by piece.
use Rattle.std.specs.Prelude.{◌≡◌, ◌<◌, ◌+◌, ℕ, List, [], ◌∷◌, ◌++◌, codes, length, map, take, drop, get_or}
use Rattle.std.specs.List.{flat_map}
use Rattle.p21_stream_output.specs.Output.{Output, WrittenSection, line_of}
use Rattle.p21_stream_output.specs.declared.cursor.Cursor.{Cursor}

-- ---- the parts of a file, each with its lines

-- a line and those behind it; the end of the section stands behind the last one, and counts to it
abbrev pub closed_lines : List ℕ → List (List ℕ) → List (List ℕ)
closed_lines first [] = (line_of first ++ line_of (codes "ENDSEC;")) ∷ []
closed_lines first (text ∷ texts) = line_of first ∷ closed_lines text texts

abbrev pub section_lines : WrittenSection → List (List ℕ)
section_lines written = closed_lines written.line written.texts

-- what stands in front of the header records, and these with the end of their section
abbrev pub header_lines : List ℕ → List (List ℕ)
header_lines header = (line_of (codes "ISO-10303-21;") ++ line_of (codes "HEADER;")) ∷ (header ++ line_of (codes "ENDSEC;")) ∷ []

abbrev pub end_lines : List (List ℕ)
end_lines = line_of (codes "END-ISO-10303-21;") ∷ []

-- the header, the data sections, and the end
abbrev pub written_parts : List ℕ → List WrittenSection → List (List (List ℕ))
written_parts header sections = header_lines header ∷ (map section_lines sections ++ end_lines ∷ [])

-- ---- what stands behind a cursor

abbrev pub joined : List (List ℕ) → List ℕ
joined lines = flat_map (λ line. line) lines

-- the lines of a part, none where there is no such part
abbrev pub lines_at : List (List (List ℕ)) → ℕ → List (List ℕ)
lines_at parts part = get_or parts part []

-- a line, empty where there is no such line
abbrev pub line_at : List (List (List ℕ)) → ℕ → ℕ → List ℕ
line_at parts part line = get_or (lines_at parts part) line []

-- the lines behind a line, and the parts behind its part
abbrev pub behind_line : List (List (List ℕ)) → ℕ → ℕ → List ℕ
behind_line parts part line = joined (drop (line + 1) (lines_at parts part)) ++ flat_map joined (drop (part + 1) parts)

abbrev pub rest_of : List (List (List ℕ)) → Cursor → List ℕ
rest_of parts cursor = drop cursor.byte (line_at parts cursor.part cursor.line) ++ behind_line parts cursor.part cursor.line

-- what stands behind a cursor in a canonical file
abbrev pub rest_at : Output → Cursor → List ℕ
rest_at o cursor = rest_of (written_parts o.header o.sections) cursor

-- a cursor at the beginning
abbrev pub start : Cursor
start = record { part = 0; line = 0; byte = 0 }

-- a place behind a line: the beginning of the next one, in this part or in the next
pub record IsNext (parts : List (List (List ℕ))) (part line : ℕ) (next : Cursor) : Type 0 where
  pub part_is : next.part < length parts
  pub line_is : next.line < length (lines_at parts next.part)
  pub first : next.byte ≡ 0
  pub rest : rest_of parts next ≡ behind_line parts part line

-- ---- reading

-- a text begins with a front, which is empty only where the text is
pub record IsFrontOf (front text : List ℕ) : Type 0 where
  pub more : List ℕ
  pub whole : text ≡ front ++ more
  pub some : front ≡ [] → text ≡ []

-- a buffer takes as many bytes of a text as it has room for; these are so many, and this is left of the text
pub record Takes (text left old new : List ℕ) (count : ℕ) : Type 0 where
  pub counted : count ≡ length (take (length old) text)
  pub filled : new ≡ take (length old) text ++ drop count old
  pub left_is : left ≡ drop (length old) text
